use native.Mathlib.Omega.{arith}
use mathlib.Core.Bool.{not, ◌||◌}
use lib.Dec.{eqb}
use lib.ListN.{length-take}
use Rattle.std.proofs.Common.{◌≡◌, ℕ, get_or, get_or-take, ap, refl, ◌∙◌}
use Rattle.rules.specs.Below.{all_below}
use Rattle.laws.proofs.Below.{all_turn, all_below-zero}
use Rattle.refusals.proofs.clash.apart_below.Goals as goal

pub loop-other-init : goal.loop-other-init
loop-other-init c = all_below-zero _

pub loop-other-preserved : goal.loop-other-preserved
loop-other-preserved c =
    let own = c.args.own.now in
    let n : ℕ = get_or own c.args.i 0 in
    let j = c.loop-other.other-index in
    all_turn (λ k. not (eqb (get_or own k 0) n)) j c.loop-other.invariant
    (ap (λ (m : ℕ). not (eqb m n)) (get_or-take {A = ℕ} c.args.i own j 0 (omega (arith, length-take c.args.i own)))) refl

pub returns : goal.returns
returns c =
    let own = c.args.own.now in
    let n : ℕ = get_or own c.args.i 0 in
    let end : c.loop-other.other-index ≡ c.args.i = omega (arith, length-take c.args.i own) in
    ap (λ b. eqb n 0 || b) (c.loop-other.invariant ∙ ap (λ (m : ℕ). all_below m (λ k. not (eqb (get_or own k 0) n))) end)
