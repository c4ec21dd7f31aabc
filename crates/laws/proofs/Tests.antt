-- Tests as facts: T b says that the test b passes.
use mathlib.Core.Path.{◌≡◌, refl, sym, ap, subst}
use mathlib.Core.Logic.{◌≢◌, ◌⊎◌, inl, inr}
use mathlib.Core.Bool.{Bool, true, false, not, ◌&&◌, ◌||◌, cond}
use mathlib.Core.List.{List, [], ◌∷◌}
use Prim.Native.Nat.{ℕ, ◌≤◌, ◌<◌}
use native.Mathlib.Omega.{arith}
use native.Mathlib.Decide.{ℕ_discrete, dec_lt}
use lib.Dec.{T, ltb, eqb, ltb→lt, eqb_refl, eqb→eq}

-- ---- a test passes or fails

pub tcase : (b : Bool) → T b ⊎ T (not b)
tcase true = inl tt
tcase false = inr tt

pub is_true : (b : Bool) → T b → b ≡ true
is_true true t = refl
is_true false t = absurd t

pub is_false : (b : Bool) → (T b → ⊥) → b ≡ false
is_false true f = absurd (f tt)
is_false false f = refl

pub true_is : (b : Bool) → b ≡ true → T b
true_is b e = subst T (sym e) tt

pub false_is : (b : Bool) → b ≡ false → T b → ⊥
false_is b e = subst T e

-- tests that pass together are equal
pub bool_ext : (a b : Bool) → (T a → T b) → (T b → T a) → a ≡ b
bool_ext true true f g = refl
bool_ext true false f g = absurd (f tt)
bool_ext false true f g = absurd (g tt)
bool_ext false false f g = refl

-- ---- and, or

pub and_l : (a b : Bool) → T (a && b) → T a
and_l true b t = tt
and_l false b t = absurd t

pub and_r : (a b : Bool) → T (a && b) → T b
and_r true b t = t
and_r false b t = absurd t

pub and_i : (a b : Bool) → T a → T b → T (a && b)
and_i true b s t = t
and_i false b s t = absurd s

pub or_l : (a b : Bool) → T a → T (a || b)
or_l true b t = tt
or_l false b t = absurd t

pub or_r : (a b : Bool) → T b → T (a || b)
or_r true b t = tt
or_r false b t = t

pub or_e : (a b : Bool) → T (a || b) → T a ⊎ T b
or_e true b t = inl tt
or_e false b t = inr t

-- ---- a choice

module _ {A : Type 0} where
  pub cond_yes : (b : Bool) (x y : A) → T b → cond b x y ≡ x
  cond_yes b x y t = ap (λ (c : Bool). cond c x y) (is_true b t)

  pub cond_no : (b : Bool) (x y : A) → (T b → ⊥) → cond b x y ≡ y
  cond_no b x y f = ap (λ (c : Bool). cond c x y) (is_false b f)

  -- what holds of both holds of the choice
  pub cond_both : (Q : A → Type 0) (b : Bool) (x y : A) → (T b → Q x) → (T (not b) → Q y) → Q (cond b x y)
  cond_both Q true x y f g = f tt
  cond_both Q false x y f g = g tt

-- ---- numbers

pub dec_eq : (m n : ℕ) → (m ≡ n) ⊎ (m ≢ n)
dec_eq m n = go (ℕ_discrete m n)
  where
    go : Dec (m ≡ n) → (m ≡ n) ⊎ (m ≢ n)
    go (yes p) = inl p
    go (no q) = inr q

pub lt_or_le : (m n : ℕ) → (m < n) ⊎ (n ≤ m)
lt_or_le m n = go (dec_lt m n)
  where
    go : Dec (m < n) → (m < n) ⊎ (n ≤ m)
    go (yes p) = inl p
    go (no q) = inr (omega arith)

pub eq→eqb : (m n : ℕ) → m ≡ n → T (eqb m n)
eq→eqb m n e = subst (λ (k : ℕ). T (eqb m k)) e (eqb_refl m)

pub nlt→ltb : (m n : ℕ) → n ≤ m → T (ltb m n) → ⊥
nlt→ltb m n h t = let k : m < n = ltb→lt m n t in omega arith

pub ne→eqb : (m n : ℕ) → m ≢ n → T (eqb m n) → ⊥
ne→eqb m n h t = h (eqb→eq m n t)

-- ---- a chain of tests, b && x && y && ..

abbrev pub chain : Bool → List Bool → Bool
chain b [] = b
chain b (x ∷ xs) = chain (b && x) xs

abbrev pub Each : List Bool → Type 0
Each [] = Unit {0}
Each (x ∷ xs) = T x × Each xs

pub chain_each : (b : Bool) (xs : List Bool) → T (chain b xs) → T b × Each xs
chain_each b [] t = (t, tt)
chain_each b (x ∷ xs) t = let r = chain_each (b && x) xs t in (and_l b x r.0, (and_r b x r.0, r.1))

pub each_chain : (b : Bool) (xs : List Bool) → T b → Each xs → T (chain b xs)
each_chain b [] t r = t
each_chain b (x ∷ xs) t r = each_chain (b && x) xs (and_i b x t r.0) r.1
