-- A block as the code has it, None where it is none.
use mathlib.Core.Path.{◌≡◌, refl, sym, ap, ◌∙◌}
use mathlib.Core.Logic.{inl, inr, ◌≢◌}
use mathlib.Core.Bool.{Bool, true, false, cond}
use Prim.Native.Nat.{ℕ, ◌<◌, ◌≤◌}
use native.Mathlib.Omega.{arith}
use borrow.Author.Tests.{eq-eqb, ne_eqb}
use Rattle.std.specs.Prelude.{Option, None, Some, MatchOption}
use Rattle.std.specs.Option.{option_or}
use Rattle.std.specs.Bool.{then_some}
use Rattle.rules.specs.Below.{found, none, or_none, first_below}
use Rattle.laws.proofs.Tests.{dec_eq, true_is, false_is}
use Rattle.laws.proofs.Below.{First, first_below_is, first_below-none}

pub found_none : {b : ℕ} → b ≡ none → found b ≡ None
found_none {b} e = rw (eq-eqb b none e) refl

pub found_some : {b : ℕ} → b ≢ none → found b ≡ Some b
found_some {b} n = rw (ne_eqb b none n) refl

-- what is found is no number but its own
pub found_is : {b a : ℕ} → found b ≡ Some a → (b ≡ a) × (b ≢ none)
found_is {b} {a} e =
    elim (dec_eq b none) [
      | inl q ↦ let h = found_none q in cc
      | inr n ↦ let h = found_some n in (cc, n)
    ]

pub found_not : {b : ℕ} → found b ≡ None → b ≡ none
found_not {b} e = elim (dec_eq b none) [ inl q ↦ q | inr n ↦ let h = found_some n in cc ]

-- the first found, or else j if it passes
pub found_or : (a j : ℕ) (b : Bool) → j < none → option_or (found a) (then_some b j) ≡ found (or_none a (cond b j none))
found_or a j b h = elim (dec_eq a none) [ inl e ↦ rw (eq-eqb a none e) (go b) | inr n ↦ rw (ne_eqb a none n, ne_eqb a none n) refl ]
  where
    go : (b : Bool) → then_some b j ≡ found (cond b j none)
    go true = rw (ne_eqb j none (λ e. omega arith)) refl
    go false = refl

-- what find answers of the numbers below n
pub found_first : (n : ℕ) (p : ℕ → Bool) {r : Option ℕ} → n ≤ none
    → MatchOption r ((k : ℕ) → 0 ≤ k → k < n → p k ≡ false) (λ i. (0 ≤ i) × (i < n) × (p i ≡ true) × ((k : ℕ) → 0 ≤ k → k < i → p k ≡ false))
    → r ≡ found (first_below n p)
found_first n p {r = None} h f = sym (found_none (first_below-none n p h (λ j k. false_is (p j) (f j (omega arith) k))))
found_first n p {r = Some i} h f =
    let first : First n p i = record {
      below = f.1;
      passes = true_is (p i) f.2;
      first = λ j k. false_is (p j) (f.3 j (omega arith) k);
    } in
    let e = first_below_is n p i h first in
    sym (found_some (λ q. omega (arith, f.1))) ∙ ap found (sym e)
