-- The first refusal that applies.
use mathlib.Core.Path.{◌≡◌, refl, sym, ap, subst}
use mathlib.Core.Logic.{◌⊎◌, inl, inr}
use mathlib.Core.Bool.{Bool, true, false, cond}
use mathlib.Core.List.{List, [], ◌∷◌, ◌++◌}
use lib.Dec.{T}
use Rattle.std.specs.Prelude.{Option, Some, None, is_none}
use Rattle.rules.specs.declared.refusal.Refusal.{Refusal}
use Rattle.rules.specs.Replies.{Test, first_refusal, unless}

-- P of each test
abbrev pub Each : (Test → Type 0) → List Test → Type 0
Each P [] = Unit {0}
Each P (t ∷ ts) = P t × Each P ts

abbrev pub Fails : Test → Type 0
Fails t = T t.applies → ⊥

-- What the answer being r says: the test that gives it applies and none before it; or it is none, and none applies.
abbrev pub Found : Option Refusal → List Test → Type 0
Found r [] = r ≡ None
Found r (t ∷ ts) = (T t.applies × (r ≡ Some t.gives)) ⊎ (Fails t × Found r ts)

pub first_found : (ts : List Test) → Found (first_refusal ts) ts
unfolding first_refusal
first_found [] = refl
first_found (t ∷ ts) = go t.applies (first_found ts)
  where
    go : (b : Bool) → Found (first_refusal ts) ts
        → (T b × (cond b (Some t.gives) (first_refusal ts) ≡ Some t.gives)) ⊎ ((T b → ⊥) × Found (cond b (Some t.gives) (first_refusal ts)) ts)
    go true f = inl (tt, refl)
    go false f = inr ((λ x. x), f)

-- no refusal: none of them applies
pub first_none : (ts : List Test) → first_refusal ts ≡ None → Each Fails ts
first_none ts e = go ts (subst (λ (r : Option Refusal). Found r ts) e (first_found ts))
  where
    go : (us : List Test) → Found None us → Each Fails us
    go [] f = tt
    go (t ∷ us) (inl q) = absurd (subst (λ (r : Option Refusal). T (is_none r)) q.1 tt)
    go (t ∷ us) (inr q) = (q.0, go us q.1)

-- what holds of each refusal, if its test applies, and of none holds of the first
pub first_by : (Q : Option Refusal → Type 0) (ts : List Test) → Each (λ t. T t.applies → Q (Some t.gives)) ts → Q None → Q (first_refusal ts)
unfolding first_refusal
first_by Q [] e z = z
first_by Q (t ∷ ts) e z = go t.applies e.0 (first_by Q ts e.1 z)
  where
    go : (b : Bool) → (T b → Q (Some t.gives)) → Q (first_refusal ts) → Q (cond b (Some t.gives) (first_refusal ts))
    go true f q = f tt
    go false f q = q

pub first_end : first_refusal [] ≡ None
unfolding first_refusal
first_end = refl

module _ (t : Test) (ts : List Test) where
  pub first_here : t.applies ≡ true → first_refusal (t ∷ ts) ≡ Some t.gives
  unfolding first_refusal
  first_here e = ap (λ (b : Bool). cond b (Some t.gives) (first_refusal ts)) e

  pub first_later : t.applies ≡ false → first_refusal (t ∷ ts) ≡ first_refusal ts
  unfolding first_refusal
  first_later e = ap (λ (b : Bool). cond b (Some t.gives) (first_refusal ts)) e

-- ---- one list after the other

pub first_append : (ts us : List Test) → first_refusal (ts ++ us) ≡ unless (first_refusal ts) Some (first_refusal us)
unfolding first_refusal
first_append [] us = refl
first_append (t ∷ ts) us = go t.applies (first_append ts us)
  where
    go : (b : Bool) → first_refusal (ts ++ us) ≡ unless (first_refusal ts) Some (first_refusal us)
        → cond b (Some t.gives) (first_refusal (ts ++ us)) ≡ unless (cond b (Some t.gives) (first_refusal ts)) Some (first_refusal us)
    go true e = refl
    go false e = e

pub unless_some : {A : Type 0} {r : Option Refusal} {x : Refusal} (f : Refusal → A) (y : A) → r ≡ Some x → unless r f y ≡ f x
unless_some f y e = ap (λ (q : Option Refusal). unless q f y) e

pub unless_none : {A : Type 0} {r : Option Refusal} (f : Refusal → A) (y : A) → r ≡ None → unless r f y ≡ y
unless_none f y e = ap (λ (q : Option Refusal). unless q f y) e

-- refused by neither of two
pub neither_refuses : (r q : Option Refusal) → unless r Some q ≡ None → (r ≡ None) × (q ≡ None)
neither_refuses None q e = (refl, e)
neither_refuses (Some x) q e = absurd (subst (λ (r : Option Refusal). T (is_none r)) (sym e) tt)
