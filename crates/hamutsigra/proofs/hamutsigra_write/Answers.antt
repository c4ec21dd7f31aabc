use Rattle.hamutsigra.proofs.Counts.{write_reply_fits}
use Rattle.hamutsigra.proofs.hamutsigra_write.Goals as goal

pub pack-requires : goal.pack-requires
pack-requires c = rw c.write.ensures.answer (write_reply_fits _ _ _ _ _)
