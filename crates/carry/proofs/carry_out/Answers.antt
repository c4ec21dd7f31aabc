use Rattle.std.proofs.Common.{◌∙◌}
use Rattle.roles.specs.Kept.{recorded_by}
use Rattle.carry.proofs.Copying.{own_does, planned_does}
use Rattle.carry.proofs.carry_out.Goals as goal

pub returns : goal.returns
returns c =
    let r = c.args.records.now in
    let p = c.args.plan.now in
    let own = own_does r.shape (recorded_by r) p c.args.a c.args.page.now (c.first_steps.ensures.same.shape_same ∙ c.requires.0)
    c.unwrap.ensures c.page_no-at.ensures.0 c.program_entry.ensures in
    planned_does r.shape (recorded_by r) p c.args.a c.args.page.now c.first_steps.ensures own c.erase_any.ensures
