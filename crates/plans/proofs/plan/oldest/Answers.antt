use Rattle.std.proofs.Common.{arith, ap, ◌∙◌}
use Rattle.rules.specs.declared.block.Block.{Block}
use Rattle.roles.specs.Kept.{recorded_by}
use Rattle.plans.proofs.Choosing.{victim_some, victim_none}
use Rattle.plans.proofs.plan.oldest.Goals as goal

pub returns-in-Some : goal.returns-in-Some
returns-in-Some c =
    let records = c.args.counted.now.records in
    victim_some records.shape (recorded_by records) c.args.counted.now.counted c.in-Some.is (c.from.ensures ∙ ap (λ (x : Block). x.logical) c.block.ensures)

pub returns-in-None : goal.returns-in-None
returns-in-None c =
    let records = c.args.counted.now.records in
    let few = records.numbers_are.recorded.few in
    victim_none records.shape (recorded_by records) c.args.counted.now.counted (records.numbers_are.recorded.outside _ (omega arith)) c.in-None.is
