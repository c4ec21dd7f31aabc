use Rattle.std.proofs.Common.{◌≡◌, ℕ, Bool, ◌&&◌, true, false, arith, rules, tests}
use lib.Dec.{eqb}
use Rattle.std.proofs.lemmas.Iterator.{first_from_Range}
use Rattle.rules.specs.WellFormed.{is_data, is_live}
use Rattle.roles.specs.Kept.{recorded_by}
use Rattle.roles.proofs.Found.{found_first}
use Rattle.roles.proofs.Passes.{seats_are}
use Rattle.roles.proofs.records.Records.seats.Goals as goal

pub returns : goal.returns
returns c =
    let records = c.args.self.now in
    let b = recorded_by records in
    let few = records.numbers_are.recorded.few in
    let l = c.args.l in
    let holds : ℕ → Bool = λ j. is_data records.shape b j && eqb (b j).logical l in
    let logs : ℕ → Bool = λ j. is_live records.shape b j && eqb (b j).logical l in
    seats_are records.shape b l
    (found_first records.shape.blocks holds (omega arith)
    (first_from_Range _ _ _ _ (λ j. holds j ≡ true) (λ j. holds j ≡ false) c.find.ensures.ran (λ x q k. search (rules, tests)) (λ x q k. search (rules, tests))))
    (found_first records.shape.blocks logs (omega arith)
    (first_from_Range _ _ _ _ (λ j. logs j ≡ true) (λ j. logs j ≡ false) c.find-2.ensures.ran (λ x q k. search (rules, tests)) (λ x q k. search (rules, tests))))
