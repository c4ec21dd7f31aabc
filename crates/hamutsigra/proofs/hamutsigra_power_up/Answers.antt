use Rattle.hamutsigra.proofs.Counts.{power_up_reply_fits}
use Rattle.hamutsigra.proofs.hamutsigra_power_up.Goals as goal

pub pack-requires : goal.pack-requires
pack-requires c = rw c.power_up.ensures.replied.answer (power_up_reply_fits _ _ _ _)
