-- An array that a closure made, place by place.
use mathlib.Core.Path.{◌≡◌, refl, subst, ◌∙◌}
use mathlib.Core.Logic.{inl, inr}
use mathlib.Core.List.{List}
use Prim.Native.Nat.{ℕ, zero, suc, ◌+◌, ◌≤◌, ◌<◌}
use native.Mathlib.Omega.{arith}
use lib.ListN.{get_or}
use denote.Param.Members.{Mut}
use Rattle.std.specs.Fn.{Called}
use Rattle.std.specs.Array.{IsFromFnResultFrom, IsFromFnResult}
use Rattle.laws.proofs.Tests.{dec_eq}

-- the closure stays as it is
module _ {F B : Type 0} (g : Mut F (ℕ × Unit {0}) B) (f : F) (h : ℕ → B) (gives : (i : ℕ) (y : B) (f' : F) → Called g f (i, tt) y f' → (y ≡ h i) × (f' ≡ f))
  where
    made_from : (ys : List B) (i n : ℕ) (q : F) → q ≡ f → IsFromFnResultFrom g q ys i n → (j : ℕ) (d : B) → i ≤ j → j < i + n → get_or ys j d ≡ h j
    made_from ys i zero q e m j d low high = absurd (omega arith)
    made_from ys i (suc n) q e (q', y, at, call, rest) j d low high =
        let (is, stays) = gives i y q' (subst (λ (p : F). Called g p (i, tt) y q') e call) in
        elim (dec_eq j i) [
          | inl z ↦ rw z (at.1 d ∙ is)
          | inr z ↦ made_from ys (i + 1) n q' stays rest j d (omega arith) (omega arith)
        ]

    pub made : (ys : List B) (n j : ℕ) (d : B) → IsFromFnResult g f ys n → j < n → get_or ys j d ≡ h j
    made ys n j d m k = made_from ys 0 n f refl m.each j d (omega arith) (omega arith)
