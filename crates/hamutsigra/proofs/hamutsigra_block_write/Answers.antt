use Rattle.hamutsigra.proofs.Counts.{block_write_reply_fits}
use Rattle.hamutsigra.proofs.hamutsigra_block_write.Goals as goal

pub pack-requires : goal.pack-requires
pack-requires c = rw c.block_write.ensures.answer (block_write_reply_fits _ _ _ _ _)
