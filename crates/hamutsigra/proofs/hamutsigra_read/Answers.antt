use Rattle.hamutsigra.proofs.Counts.{read_reply_fits}
use Rattle.hamutsigra.proofs.hamutsigra_read.Goals as goal

pub pack-requires : goal.pack-requires
pack-requires c = rw c.read.ensures.answer (read_reply_fits _ _ _ _)
