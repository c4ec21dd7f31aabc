use Rattle.roles.specs.Kept.{recorded_by}
use Rattle.carry.proofs.Copying.{first_none, first_merge}
use Rattle.carry.proofs.first_steps.Goals as goal

pub returns-in-Some : goal.returns-in-Some
returns-in-Some c =
    let r = c.args.records.now in
    first_merge r.shape (recorded_by r) c.args.plan.now c.in-Some.is c.renew.ensures

pub returns-in_default : goal.returns-in_default
returns-in_default c =
    let r = c.args.records.now in
    first_none r.shape (recorded_by r) c.args.plan.now c.in_default.is
