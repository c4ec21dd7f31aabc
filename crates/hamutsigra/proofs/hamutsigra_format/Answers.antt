use Rattle.hamutsigra.proofs.Counts.{format_reply_fits}
use Rattle.hamutsigra.proofs.hamutsigra_format.Goals as goal

pub pack-requires : goal.pack-requires
pack-requires c = rw c.format.ensures.answer (format_reply_fits _ _ _)
