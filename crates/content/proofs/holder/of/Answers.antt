use Rattle.roles.specs.Kept.{recorded_by}
use Rattle.content.proofs.Places.{holder_log, holder_data}
use Rattle.content.proofs.holder.of.Goals as goal

pub returns-in-Some : goal.returns-in-Some
returns-in-Some c =
    let a = c.args in
    holder_log a.records.now.shape a.spare.now (recorded_by a.records.now) a.a c.in_log.ensures.0 c.in-Some.is c.in_log.ensures.1

pub returns-in-None : goal.returns-in-None
returns-in-None c =
    let a = c.args in
    holder_data a.records.now.shape a.spare.now (recorded_by a.records.now) a.a c.in_log.ensures.0 c.in-None.is c.in_data.ensures
