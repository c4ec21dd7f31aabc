use Rattle.std.proofs.Common.{◌≡◌, ℕ, refl, ap, ◌∙◌}
use native.Mathlib.Omega.{arith}
use Rattle.rules.specs.Below.{all_below}
use Rattle.rules.specs.WellFormed.{W5}
use Rattle.roles.specs.Kept.{recorded_by}
use Rattle.laws.proofs.Below.{all_turn, all_below-zero}
use Rattle.refusals.proofs.Clashing.{apart, apart_told}
use Rattle.refusals.proofs.clash.numbers_apart.Goals as goal

pub loop-i-init : goal.loop-i-init
loop-i-init c = all_below-zero _

pub loop-i-preserved : goal.loop-i-preserved
loop-i-preserved c =
    let records = c.args.records.now in
    let blocks = recorded_by records in
    let few = records.numbers_are.recorded.few in
    let i = c.loop-i.i in
    all_turn (apart blocks) i c.loop-i.invariant
    (c.apart_below-all.ensures ∙ apart_told blocks records.numbers_are.recorded.numbered i c.numbers_in-own.ensures (omega arith)) refl

pub returns : goal.returns
unfolding W5
returns c =
    let records = c.args.records.now in
    let end : c.loop-i.i ≡ records.shape.blocks = omega arith in
    c.loop-i.invariant ∙ ap (λ (m : ℕ). all_below m (apart (recorded_by records))) end
