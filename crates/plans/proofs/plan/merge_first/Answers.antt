use Rattle.std.proofs.Common.{◌≡◌, arith, rules, tests, true, false}
use Rattle.std.proofs.lemmas.Iterator.{first_from_Range}
use Rattle.roles.specs.Kept.{recorded_by}
use Rattle.roles.proofs.Found.{found_first}
use Rattle.plans.specs.Plans.{free_after_renewal}
use Rattle.plans.proofs.Choosing.{merge_plan_lem}
use Rattle.plans.proofs.plan.merge_first.Goals as goal

pub returns : goal.returns
returns c =
    let records = c.args.counted.now.records in
    let few = records.numbers_are.recorded.few in
    let free = free_after_renewal (recorded_by records) c.by-merge.result in
    merge_plan_lem records.shape (recorded_by records) c.args.counted.now.counted c.args.l few c.seats.ensures c.by-merge.ensures
    (found_first records.shape.blocks free (omega arith)
    (first_from_Range _ _ _ _ (λ j. free j ≡ true) (λ j. free j ≡ false) c.find.ensures.ran (λ x q k. search (rules, tests)) (λ x q k. search (rules, tests))))
