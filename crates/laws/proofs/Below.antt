-- Laws of the tests, counts, searches and lists over the numbers below n.
use mathlib.Core.Path.{◌≡◌, refl, sym, ap, ◌∙◌, subst}
use mathlib.Core.Logic.{◌≢◌, ◌⊎◌, inl, inr}
use mathlib.Core.Bool.{Bool, true, false, cond, ◌&&◌}
use mathlib.Core.List.{List, [], ◌∷◌, ◌++◌}
use Prim.Native.Nat.{ℕ, zero, suc, ◌+◌, ◌-◌, ◌≤◌, ◌<◌, max}
use native.Mathlib.Omega.{arith}
use lib.ListN.{length, get_or, take, length-append, get_or-append}
use lib.Seq.{ext_get_or, get_or-append_seam, take_all, take-append-le}
use lib.Dec.{T, ltb, eqb, ltb→lt, nltb→le, eqb→eq, eqb_refl, T_not}
use native.Mathlib.Numerals.{add-one}
use Rattle.rules.specs.Below.{none, is_none, if_any, or_none, lower_of, all_below, count_below, highest_below, first_below, lowest_below, pick_below, list_below}
use Rattle.laws.proofs.Tests.{tcase, is_true, is_false, and_l, and_r, and_i, cond_yes, cond_no, cond_both, dec_eq, lt_or_le, eq→eqb, ne→eqb}

-- what is made of f 0, .., f (n - 1), one after the other, is the same for two that agree there
below_same : {A B : Type 0} (F : ℕ → (ℕ → A) → B) (G : ℕ → B → A → B) → ((f g : ℕ → A) → F 0 f ≡ F 0 g) → ((n : ℕ) (f : ℕ → A) → F (suc n) f ≡ G n (F n f) (f n))
    → (n : ℕ) (f g : ℕ → A) → ((j : ℕ) → j < n → f j ≡ g j) → F n f ≡ F n g
below_same F G none more zero f g h = none f g
below_same F G none more (suc n) f g h =
    let a = below_same F G none more n f g (λ j k. h j (omega arith)) in
    more n f ∙ rw (a, h n (omega arith)) (sym (more n g))

-- what holds of each below n, and of n, holds of each below n + 1
pub below_suc : {n : ℕ} (Q : ℕ → Type 0) → ((j : ℕ) → j < n → Q j) → Q n → (j : ℕ) → j < suc n → Q j
below_suc {n} Q f q j h = elim (dec_eq j n) [ inl e ↦ subst Q (sym e) q | inr ne ↦ f j (omega arith) ]

-- ---- all_below

pub all_below_at : (n : ℕ) (p : ℕ → Bool) → T (all_below n p) → (j : ℕ) → j < n → T (p j)
unfolding all_below
all_below_at zero p t j h = absurd (omega arith)
all_below_at (suc n) p t j h = below_suc (λ i. T (p i)) (all_below_at n p (and_l (all_below n p) (p n) t)) (and_r (all_below n p) (p n) t) j h

pub all_below_all : (n : ℕ) (p : ℕ → Bool) → ((j : ℕ) → j < n → T (p j)) → T (all_below n p)
unfolding all_below
all_below_all zero p f = tt
all_below_all (suc n) p f = and_i (all_below n p) (p n) (all_below_all n p (λ j h. f j (omega arith))) (f n (omega arith))

pub all_below-same : (n : ℕ) (p q : ℕ → Bool) → ((j : ℕ) → j < n → p j ≡ q j) → all_below n p ≡ all_below n q
unfolding all_below
all_below-same = below_same all_below (λ n r x. r && x) (λ f g. refl) (λ n f. refl)

-- ---- sums, of which count_below is one

unfoldable pub sum_below : ℕ → (ℕ → ℕ) → ℕ
sum_below zero f = 0
sum_below (suc n) f = sum_below n f + f n

-- 1 where the test passes
abbrev pub bit : Bool → ℕ
bit b = cond b 1 0

pub bit_le : (b : Bool) → bit b ≤ 1
bit_le true = omega arith
bit_le false = omega arith

pub bit_one : (b : Bool) → T b → bit b ≡ 1
bit_one b t = cond_yes b 1 0 t

pub bit_zero : (b : Bool) → (T b → ⊥) → bit b ≡ 0
bit_zero b f = cond_no b 1 0 f

pub bit_mono : (a b : Bool) → (T a → T b) → bit a ≤ bit b
bit_mono true true f = omega arith
bit_mono true false f = absurd (f tt)
bit_mono false true f = omega arith
bit_mono false false f = omega arith

pub sum_below-le : (n : ℕ) (f g : ℕ → ℕ) → ((j : ℕ) → j < n → f j ≤ g j) → sum_below n f ≤ sum_below n g
unfolding sum_below
sum_below-le zero f g h = omega arith
sum_below-le (suc n) f g h =
    let a = sum_below-le n f g (λ j k. h j (omega arith)) in
    let b = h n (omega arith) in
    omega arith

-- a sum that is no larger but at b, where it may lose a and gain k
pub sum_below_move : (n : ℕ) (f g : ℕ → ℕ) (b a k : ℕ) → b < n → ((j : ℕ) → j < n → j ≢ b → g j ≤ f j) → g b + a ≤ f b + k
    → sum_below n g + a ≤ sum_below n f + k
unfolding sum_below
sum_below_move zero f g b a k l h e = absurd (omega arith)
sum_below_move (suc n) f g b a k l h e =
    elim (dec_eq n b) [
      | inl q ↦
          let r = sum_below-le n g f (λ j s. h j (omega arith) (omega arith)) in
          let e' : g n + a ≤ f n + k = subst (λ (i : ℕ). g i + a ≤ f i + k) (sym q) e in
          omega arith
      | inr q ↦
          let r = sum_below_move n f g b a k (omega arith) (λ j s t. h j (omega arith) t) e in
          let s = h n (omega arith) q in
          omega arith
    ]

pub sum_below-zero : (n : ℕ) (f : ℕ → ℕ) → ((j : ℕ) → j < n → f j ≡ 0) → sum_below n f ≡ 0
unfolding sum_below
sum_below-zero zero f h = refl
sum_below-zero (suc n) f h =
    let a = sum_below-zero n f (λ j k. h j (omega arith)) in
    let b = h n (omega arith) in
    omega arith

pub sum_below_add : (n : ℕ) (f g : ℕ → ℕ) → sum_below n (λ j. f j + g j) ≡ sum_below n f + sum_below n g
unfolding sum_below
sum_below_add zero f g = refl
sum_below_add (suc n) f g = let a = sum_below_add n f g in omega arith

pub sum_below_ones : (n : ℕ) → sum_below n (λ j. 1) ≡ n
unfolding sum_below
sum_below_ones zero = refl
sum_below_ones (suc n) = omega (arith, sum_below_ones n)

-- ---- count_below

pub count_below_sum : (n : ℕ) (p : ℕ → Bool) → count_below n p ≡ sum_below n (λ j. bit (p j))
unfolding count_below sum_below
count_below_sum zero p = refl
count_below_sum (suc n) p = ap (λ (k : ℕ). k + bit (p n)) (count_below_sum n p)

pub count_below-le : (n : ℕ) (p q : ℕ → Bool) → ((j : ℕ) → j < n → T (p j) → T (q j)) → count_below n p ≤ count_below n q
count_below-le n p q h =
    omega (arith, count_below_sum n p, count_below_sum n q, sum_below-le n (λ j. bit (p j)) (λ j. bit (q j)) (λ j k. bit_mono (p j) (q j) (h j k)))

-- the tests agree but at b, where the count may lose a and gain k
pub count_below_move : (n : ℕ) (p q : ℕ → Bool) (b a k : ℕ) → b < n → ((j : ℕ) → j < n → j ≢ b → T (q j) → T (p j)) → bit (q b) + a ≤ bit (p b) + k
    → count_below n q + a ≤ count_below n p + k
count_below_move n p q b a k h f e =
    omega (
      arith,
      count_below_sum n p,
      count_below_sum n q,
      sum_below_move n (λ j. bit (p j)) (λ j. bit (q j)) b a k h (λ j l ne. bit_mono (q j) (p j) (f j l ne)) e,
    )

pub count_below_some : (n : ℕ) (p : ℕ → Bool) → 0 < count_below n p → (j : ℕ) × (j < n) × T (p j)
unfolding count_below
count_below_some zero p h = absurd (omega arith)
count_below_some (suc n) p h =
    elim (tcase (p n)) [
      | inl t ↦ (n, omega arith, t)
      | inr t ↦
          let r = count_below_some n p (omega (arith, bit_zero (p n) (T_not (p n) t))) in
          (r.0, omega (arith, r.1), r.2)
    ]

pub count_below-none : (n : ℕ) (p : ℕ → Bool) → ((j : ℕ) → j < n → T (p j) → ⊥) → count_below n p ≡ 0
count_below-none n p f = count_below_sum n p ∙ sum_below-zero n (λ j. bit (p j)) (λ j k. bit_zero (p j) (f j k))

pub count_below-most : (n : ℕ) (p : ℕ → Bool) → count_below n p ≤ n
unfolding count_below
count_below-most zero p = omega arith
count_below-most (suc n) p = omega (arith, count_below-most n p, bit_le (p n))

pub count_below_all : (n : ℕ) (p : ℕ → Bool) → ((j : ℕ) → j < n → T (p j)) → count_below n p ≡ n
unfolding count_below
count_below_all zero p f = refl
count_below_all (suc n) p f = omega (arith, count_below_all n p (λ j h. f j (omega arith)), bit_one (p n) (f n (omega arith)))

pub count_below_full : (n : ℕ) (p : ℕ → Bool) → count_below n p ≡ n → (j : ℕ) → j < n → T (p j)
unfolding count_below
count_below_full zero p e j h = absurd (omega arith)
count_below_full (suc n) p e j h =
    elim (tcase (p n)) [
      | inl t ↦ below_suc (λ k. T (p k)) (count_below_full n p (omega (arith, bit_one (p n) t))) t j h
      | inr t ↦ absurd (omega (arith, bit_zero (p n) (T_not (p n) t), count_below-most n p))
    ]

-- those that pass go by f, no two to one place, to places below m of weight 1 or more
pub count_below_places : (n m : ℕ) (p : ℕ → Bool) (f w : ℕ → ℕ) → ((j : ℕ) → j < n → T (p j) → f j < m) → ((j : ℕ) → j < n → T (p j) → 0 < w (f j))
    → ((i j : ℕ) → i < n → j < n → T (p i) → T (p j) → f i ≡ f j → i ≡ j) → count_below n p ≤ sum_below m w
unfolding count_below
count_below_places zero m p f w r v u = omega arith
count_below_places (suc n) m p f w r v u =
    elim (tcase (p n)) [
      | inl t ↦
          let w' : ℕ → ℕ = λ l. w l - bit (eqb l (f n)) in
          let e : bit (eqb (f n) (f n)) ≡ 1 = bit_one (eqb (f n) (f n)) (eqb_refl (f n)) in
          let ih : count_below n p ≤ sum_below m w' =
          count_below_places n m p f w' (λ j k q. r j (omega arith) q)
          (λ j k q. let z : bit (eqb (f j) (f n)) ≡ 0 =
          bit_zero (eqb (f j) (f n)) (λ y. let a : j ≡ n = u j n (omega arith) (omega arith) q t (eqb→eq (f j) (f n) y) in omega arith) in
          omega (arith, v j (omega arith) q))
          (λ i j k l. u i j (omega arith) (omega arith)) in
          let mv : sum_below m w' + 1 ≤ sum_below m w + 0 =
          sum_below_move m w w' (f n) 1 0 (r n (omega arith) t) (λ j k ne. omega arith) (omega (arith, v n (omega arith) t)) in
          omega (arith, bit_le (p n))
      | inr t ↦
          let ih : count_below n p ≤ sum_below m w =
          count_below_places n m p f w (λ j k q. r j (omega arith) q) (λ j k q. v j (omega arith) q) (λ i j k l. u i j (omega arith) (omega arith)) in
          omega (arith, bit_zero (p n) (T_not (p n) t))
    ]

-- at most one passes
pub count_below_one : (n a : ℕ) (p : ℕ → Bool) → ((j : ℕ) → j < n → T (p j) → j ≡ a) → count_below n p ≤ 1
count_below_one n a p f =
    omega (
      arith,
      sum_below_ones 1,
      count_below_places n 1 p (λ j. 0) (λ j. 1) (λ j k t. omega arith) (λ j k t. omega arith) (λ i j k l t u e. f i k t ∙ sym (f j l u)),
    )

-- at most two pass
pub count_below_two : (n a b : ℕ) (p : ℕ → Bool) → ((j : ℕ) → j < n → T (p j) → (j ≡ a) ⊎ (j ≡ b)) → count_below n p ≤ 2
count_below_two n a b p f =
    omega (
      arith,
      sum_below_ones 2,
      count_below_places n 2 p (λ j. bit (eqb j a)) (λ j. 1) (λ j k t. omega (arith, bit_le (eqb j a))) (λ j k t. omega arith) apart,
    )
  where
    apart : (i j : ℕ) → i < n → j < n → T (p i) → T (p j) → bit (eqb i a) ≡ bit (eqb j a) → i ≡ j
    apart i j k l t u e =
        elim (tcase (eqb i a)) [
          | inl x ↦ elim (tcase (eqb j a)) [
            | inl y ↦ eqb→eq i a x ∙ sym (eqb→eq j a y)
            | inr y ↦ absurd (omega (arith, bit_one (eqb i a) x, bit_zero (eqb j a) (T_not (eqb j a) y)))
          ]
          | inr x ↦ elim (f i k t) [
            | inl q ↦ absurd (T_not (eqb i a) x (eq→eqb i a q))
            | inr q ↦ elim (f j l u) [
              | inl z ↦ absurd (omega (arith, bit_zero (eqb i a) (T_not (eqb i a) x), bit_one (eqb j a) (eq→eqb j a z)))
              | inr z ↦ q ∙ sym z
            ]
          ]
        ]

-- where what passes comes first
module _ (p : ℕ → Bool) where
  -- before one that passes all pass
  abbrev pub Before : ℕ → Type 0
  Before n = (i j : ℕ) → i < n → j < i → T (p i) → T (p j)

  -- then exactly the numbers below the count pass
  pub count_below_first : (n : ℕ) → Before n → (i : ℕ) → i < n → (i < count_below n p → T (p i)) × (T (p i) → i < count_below n p)
  unfolding count_below
  count_below_first zero f i h = absurd (omega arith)
  count_below_first (suc n) f i h =
      elim (tcase (p n)) [
        | inl t ↦
            let whole : count_below n p ≡ n = count_below_all n p (λ j k. f n j (omega arith) k t) in
            let one : bit (p n) ≡ 1 = bit_one (p n) t in
            let here : T (p i) = elim (dec_eq i n) [ inl e ↦ subst (λ (j : ℕ). T (p j)) (sym e) t | inr q ↦ f n i (omega arith) (omega arith) t ] in
            ((λ k. here), (λ u. omega arith))
        | inr t ↦
            let none : bit (p n) ≡ 0 = bit_zero (p n) (T_not (p n) t) in
            elim (dec_eq i n) [
              | inl e ↦ ((λ k. absurd (omega (arith, count_below-most n p))), (λ u. absurd (T_not (p n) t (subst (λ (j : ℕ). T (p j)) e u))))
              | inr q ↦
                  let r = count_below_first n (λ a b k l. f a b (omega arith) l) i (omega arith) in
                  ((λ k. r.0 (omega arith)), (λ u. let k = r.1 u in omega arith))
            ]
      ]

  pub count_below_prefix : (n m : ℕ) → m ≤ n → ((i : ℕ) → i < m → T (p i)) → ((i : ℕ) → m ≤ i → i < n → T (p i) → ⊥) → count_below n p ≡ m
  count_below_prefix n m h pass fail =
      let first : Before n = λ i j k l t. elim (lt_or_le i m) [ inl a ↦ pass j (omega arith) | inr a ↦ absurd (fail i a k t) ] in
      let c : ℕ = count_below n p in
      let most : c ≤ n = count_below-most n p in
      elim (lt_or_le c m) [
        | inl k ↦ let l : c < c = (count_below_first n first c (omega arith)).1 (pass c k) in absurd (omega arith)
        | inr k ↦ elim (lt_or_le m c) [
          | inl l ↦ absurd (fail m (omega arith) (omega arith) ((count_below_first n first m (omega arith)).0 l))
          | inr l ↦ omega arith
        ]
      ]

-- ---- highest_below

pub highest_below-ge : (n : ℕ) (f : ℕ → ℕ) (j : ℕ) → j < n → f j ≤ highest_below n f
unfolding highest_below
highest_below-ge zero f j h = absurd (omega arith)
highest_below-ge (suc n) f j h = below_suc (λ k. f k ≤ max (highest_below n f) (f n)) (λ k l. omega (arith, highest_below-ge n f k l)) (omega arith) j h

pub highest_below-le : (n : ℕ) (f : ℕ → ℕ) (t : ℕ) → ((j : ℕ) → j < n → f j ≤ t) → highest_below n f ≤ t
unfolding highest_below
highest_below-le zero f t h = omega arith
highest_below-le (suc n) f t h =
    let a = highest_below-le n f t (λ j k. h j (omega arith)) in
    let b = h n (omega arith) in
    omega arith

-- where it is not 0, one of them has it
pub highest_below_at : (n : ℕ) (f : ℕ → ℕ) → 0 < highest_below n f → (i : ℕ) × (i < n) × (f i ≡ highest_below n f)
unfolding highest_below
highest_below_at zero f h = absurd (omega arith)
highest_below_at (suc n) f h =
    elim (lt_or_le (highest_below n f) (f n)) [
      | inl l ↦ (n, omega arith, omega arith)
      | inr l ↦ let r = highest_below_at n f (omega arith) in (r.0, omega (arith, r.1), omega (arith, r.2))
    ]

-- ---- first_below

-- i is the first below n that passes
pub record First (n : ℕ) (p : ℕ → Bool) (i : ℕ) : Type 0 where
  pub below : i < n
  pub passes : T (p i)
  pub first : (j : ℕ) → j < i → T (p j) → ⊥

-- none below n passes, and i is none
pub record NoneBelow (n : ℕ) (p : ℕ → Bool) (i : ℕ) : Type 0 where
  pub is : i ≡ none
  pub fails : (j : ℕ) → j < n → T (p j) → ⊥

or_none_some : (a b : ℕ) → a ≢ none → or_none a b ≡ a
or_none_some a b h = cond_no (is_none a) b a (λ t. h (eqb→eq a none t))

or_none-none : (a b : ℕ) → a ≡ none → or_none a b ≡ b
or_none-none a b e = cond_yes (is_none a) b a (eq→eqb a none e)

pub first_below_found : (n : ℕ) (p : ℕ → Bool) → n ≤ none → First n p (first_below n p) ⊎ NoneBelow n p (first_below n p)
unfolding first_below
first_below_found zero p h = inr (record { is = refl; fails = λ j k t. omega arith })
first_below_found (suc n) p h =
    elim (first_below_found n p (omega arith)) [
      | inl r ↦
          inl (rw (or_none_some (first_below n p) (cond (p n) n none) (λ e. omega (arith, r.below)))
          (record { below = omega (arith, r.below); passes = r.passes; first = r.first }))
      | inr r ↦
          rw (or_none-none (first_below n p) (cond (p n) n none) r.is)
          (elim (tcase (p n)) [
            | inl t ↦ inl (rw (cond_yes (p n) n none t) (record { below = omega arith; passes = t; first = r.fails }))
            | inr t ↦ inr (rw (cond_no (p n) n none (T_not (p n) t)) (record { is = refl; fails = below_suc (λ j. T (p j) → ⊥) r.fails (T_not (p n) t) }))
          ])
    ]

pub first_below_is : (n : ℕ) (p : ℕ → Bool) (i : ℕ) → n ≤ none → First n p i → first_below n p ≡ i
first_below_is n p i h r =
    elim (first_below_found n p h) [
      | inl q ↦
          elim (lt_or_le (first_below n p) i) [
            | inl k ↦ absurd (r.first (first_below n p) k q.passes)
            | inr k ↦ elim (lt_or_le i (first_below n p)) [ inl l ↦ absurd (q.first i l r.passes) | inr l ↦ omega arith ]
          ]
      | inr q ↦ absurd (q.fails i r.below r.passes)
    ]

pub first_below-none : (n : ℕ) (p : ℕ → Bool) → n ≤ none → ((j : ℕ) → j < n → T (p j) → ⊥) → first_below n p ≡ none
first_below-none n p h f = elim (first_below_found n p h) [ inl r ↦ absurd (f (first_below n p) r.below r.passes) | inr r ↦ r.is ]

pub first_below-same : (n : ℕ) (p q : ℕ → Bool) → ((j : ℕ) → j < n → p j ≡ q j) → first_below n p ≡ first_below n q
unfolding first_below
first_below-same = below_same first_below (λ n r x. or_none r (cond x n none)) (λ f g. refl) (λ n f. refl)

-- ---- lowest_below

-- i is one below n that passes, with the lowest f
pub record Lowest (n : ℕ) (p : ℕ → Bool) (f : ℕ → ℕ) (i : ℕ) : Type 0 where
  pub below : i < n
  pub passes : T (p i)
  pub lowest : (j : ℕ) → j < n → T (p j) → f i ≤ f j

pub lowest_below_found : (n : ℕ) (p : ℕ → Bool) (f : ℕ → ℕ) → n ≤ none → Lowest n p f (lowest_below n p f) ⊎ NoneBelow n p (lowest_below n p f)
unfolding lowest_below
lowest_below_found zero p f h = inr (record { is = refl; fails = λ j k t. omega arith })
lowest_below_found (suc n) p f h =
    elim (tcase (p n)) [
      | inl t ↦ inl (rw (is_true (p n) t) (elim (lowest_below_found n p f (omega arith)) [ inl r ↦ lower t r | inr r ↦ alone t r ]))
      | inr t ↦
          rw (is_false (p n) (T_not (p n) t))
          (elim (lowest_below_found n p f (omega arith)) [
            | inl r ↦ inl (lowest_of (lowest_below n p f) (omega (arith, r.below)) r.passes r.lowest (λ u. absurd (T_not (p n) t u)))
            | inr r ↦ inr (record { is = r.is; fails = below_suc (λ j. T (p j) → ⊥) r.fails (T_not (p n) t) })
          ])
    ]
  where
    lowest_of : (i : ℕ) → i < suc n → T (p i) → ((j : ℕ) → j < n → T (p j) → f i ≤ f j) → (T (p n) → f i ≤ f n) → Lowest (suc n) p f i
    lowest_of i h t g l = record { below = h; passes = t; lowest = below_suc (λ j. T (p j) → f i ≤ f j) g l }

    alone : T (p n) → NoneBelow n p (lowest_below n p f) → Lowest (suc n) p f (lower_of f (lowest_below n p f) n)
    alone t r =
        rw (is_true (is_none (lowest_below n p f)) (eq→eqb (lowest_below n p f) none r.is))
        (lowest_of n (omega arith) t (λ j k u. absurd (r.fails j k u)) (λ u. omega arith))

    lower : T (p n) → Lowest n p f (lowest_below n p f) → Lowest (suc n) p f (lower_of f (lowest_below n p f) n)
    lower t r =
        rw (is_false (is_none (lowest_below n p f))
        (λ u. let e : lowest_below n p f ≡ none = eqb→eq (lowest_below n p f) none u in omega (arith, r.below)))
        (elim (tcase (ltb (f n) (f (lowest_below n p f)))) [
          | inl u ↦
              rw (is_true (ltb (f n) (f (lowest_below n p f))) u)
              (lowest_of n (omega arith) t (λ j k v. omega (arith, ltb→lt (f n) (f (lowest_below n p f)) u, r.lowest j k v)) (λ v. omega arith))
          | inr u ↦
              rw (is_false (ltb (f n) (f (lowest_below n p f))) (T_not (ltb (f n) (f (lowest_below n p f))) u))
              (lowest_of (lowest_below n p f) (omega (arith, r.below)) r.passes r.lowest (λ v. nltb→le (f n) (f (lowest_below n p f)) u))
        ])

-- ---- lists of numbers

-- Q holds of each
abbrev pub All : (ℕ → Type 0) → List ℕ → Type 0
All Q [] = Unit {0}
All Q (x ∷ xs) = Q x × All Q xs

abbrev pub Distinct : List ℕ → Type 0
Distinct [] = Unit {0}
Distinct (x ∷ xs) = All (λ y. y ≢ x) xs × Distinct xs

pub all_map : (Q R : ℕ → Type 0) (xs : List ℕ) → ((x : ℕ) → Q x → R x) → All Q xs → All R xs
all_map Q R [] f a = tt
all_map Q R (x ∷ xs) f a = (f x a.0, all_map Q R xs f a.1)

pub all_two : (Q R S : ℕ → Type 0) (xs : List ℕ) → ((x : ℕ) → Q x → R x → S x) → All Q xs → All R xs → All S xs
all_two Q R S [] f a b = tt
all_two Q R S (x ∷ xs) f a b = (f x a.0 b.0, all_two Q R S xs f a.1 b.1)

pub all_append : (Q : ℕ → Type 0) (xs ys : List ℕ) → All Q xs → All Q ys → All Q (xs ++ ys)
all_append Q [] ys a b = b
all_append Q (x ∷ xs) ys a b = (a.0, all_append Q xs ys a.1 b)

pub all_left : (Q : ℕ → Type 0) (xs ys : List ℕ) → All Q (xs ++ ys) → All Q xs
all_left Q [] ys a = tt
all_left Q (x ∷ xs) ys a = (a.0, all_left Q xs ys a.1)

pub all_right : (Q : ℕ → Type 0) (xs ys : List ℕ) → All Q (xs ++ ys) → All Q ys
all_right Q [] ys a = a
all_right Q (x ∷ xs) ys a = all_right Q xs ys a.1

pub distinct_append : (xs ys : List ℕ) → Distinct xs → Distinct ys → All (λ y. All (λ x. y ≢ x) xs) ys → Distinct (xs ++ ys)
distinct_append [] ys d e a = e
distinct_append (x ∷ xs) ys d e a = (
  all_append (λ y. y ≢ x) xs ys d.0 (all_map (λ y. (y ≢ x) × All (λ z. y ≢ z) xs) (λ y. y ≢ x) ys (λ y q. q.0) a),
  distinct_append xs ys d.1 e (all_map (λ y. (y ≢ x) × All (λ z. y ≢ z) xs) (λ y. All (λ z. y ≢ z) xs) ys (λ y q. q.1) a),
)

-- ---- a block, if there is one

pub found_all : (Q : ℕ → Type 0) (b : ℕ) → (b ≢ none → Q b) → All Q (if_any b)
found_all Q b f =
    elim (dec_eq b none) [
      | inl e ↦ rw (is_true (is_none b) (eq→eqb b none e)) tt
      | inr n ↦ rw (is_false (is_none b) (ne→eqb b none n)) (f n, tt)
    ]

pub found_distinct : (b : ℕ) → Distinct (if_any b)
found_distinct b =
    elim (dec_eq b none) [
      | inl e ↦ rw (is_true (is_none b) (eq→eqb b none e)) tt
      | inr n ↦ rw (is_false (is_none b) (ne→eqb b none n)) (tt, tt)
    ]

pub found_few : (b : ℕ) → length (if_any b) ≤ 1
found_few b = cond_both (λ xs. length xs ≤ 1) (is_none b) [] (b ∷ []) (λ t. omega arith) (λ t. omega arith)

-- what differs from all of found b, and is a block, differs from b
pub found_out : (b j : ℕ) → j ≢ none → All (λ x. j ≢ x) (if_any b) → j ≢ b
found_out b j h a e =
    let n : b ≢ none = λ q. h (e ∙ q) in
    let a' : All (λ x. j ≢ x) (b ∷ []) = rw (is_false (is_none b) (ne→eqb b none n)) at a in
    a'.0 e

-- ---- pick_below

pub pick_below_all : (n : ℕ) (p : ℕ → Bool) → All (λ x. (x < n) × T (p x)) (pick_below n p)
unfolding pick_below
pick_below_all zero p = tt
pick_below_all (suc n) p =
    all_append (λ x. (x < suc n) × T (p x)) (pick_below n p) (cond (p n) (n ∷ []) [])
    (all_map (λ x. (x < n) × T (p x)) (λ x. (x < suc n) × T (p x)) (pick_below n p) (λ x a. (omega (arith, a.0), a.1)) (pick_below_all n p))
    (cond_both (All (λ x. (x < suc n) × T (p x))) (p n) (n ∷ []) [] (λ t. ((omega arith, t), tt)) (λ t. tt))

pub pick_below_distinct : (n : ℕ) (p : ℕ → Bool) → Distinct (pick_below n p)
unfolding pick_below
pick_below_distinct zero p = tt
pick_below_distinct (suc n) p =
    distinct_append (pick_below n p) (cond (p n) (n ∷ []) []) (pick_below_distinct n p)
    (cond_both Distinct (p n) (n ∷ []) [] (λ t. (tt, tt)) (λ t. tt))
    (cond_both (All (λ y. All (λ x. y ≢ x) (pick_below n p))) (p n) (n ∷ []) [] (λ t. (apart, tt)) (λ t. tt))
  where
    apart : All (λ x. n ≢ x) (pick_below n p)
    apart = all_map (λ x. (x < n) × T (p x)) (λ x. n ≢ x) (pick_below n p) (λ x a e. omega (arith, a.0)) (pick_below_all n p)

-- each that passes is picked
pub pick_below_out : (n : ℕ) (p : ℕ → Bool) (j : ℕ) → j < n → T (p j) → All (λ x. j ≢ x) (pick_below n p) → ⊥
unfolding pick_below
pick_below_out zero p j h t a = omega arith
pick_below_out (suc n) p j h t a =
    elim (dec_eq j n) [
      | inl q ↦
          let u : T (p n) = subst (λ (i : ℕ). T (p i)) q t in
          let z : All (λ x. j ≢ x) (n ∷ []) =
          subst (λ (xs : List ℕ). All (λ x. j ≢ x) xs) (cond_yes (p n) (n ∷ []) [] u)
          (all_right (λ x. j ≢ x) (pick_below n p) (cond (p n) (n ∷ []) []) a) in
          z.0 q
      | inr q ↦ pick_below_out n p j (omega arith) t (all_left (λ x. j ≢ x) (pick_below n p) (cond (p n) (n ∷ []) []) a)
    ]

-- ---- list_below

module _ {A : Type 0} where
  pub list_below-zero : (f : ℕ → A) → list_below 0 f ≡ []
  unfolding list_below
  list_below-zero f = refl

  pub list_below-suc : (n : ℕ) (f : ℕ → A) → list_below (suc n) f ≡ list_below n f ++ (f n ∷ [])
  unfolding list_below
  list_below-suc n f = refl

  pub list_below-length : (n : ℕ) (f : ℕ → A) → length (list_below n f) ≡ n
  unfolding list_below
  list_below-length zero f = refl
  list_below-length (suc n) f = omega (arith, length-append (list_below n f) (f n ∷ []), list_below-length n f)

  pub list_below_at : (n : ℕ) (f : ℕ → A) (i : ℕ) (d : A) → i < n → get_or (list_below n f) i d ≡ f i
  unfolding list_below
  list_below_at zero f i d h = absurd (omega arith)
  list_below_at (suc n) f i d h =
      elim (dec_eq i n) [
        | inl e ↦
            ap (λ (j : ℕ). get_or (list_below n f ++ (f n ∷ [])) j d) (e ∙ sym (list_below-length n f)) ∙ get_or-append_seam (list_below n f) (f n) [] d
            ∙ ap f (sym e)
        | inr e ↦ get_or-append (list_below n f) (f n ∷ []) d i (omega (arith, list_below-length n f)) ∙ list_below_at n f i d (omega arith)
      ]

  pub list_below_same : (n : ℕ) (f g : ℕ → A) → ((i : ℕ) → i < n → f i ≡ g i) → list_below n f ≡ list_below n g
  unfolding list_below
  list_below_same = below_same list_below (λ n r x. r ++ (x ∷ [])) (λ f g. refl) (λ n f. refl)

  -- a list of n that has f 0, .., f (n - 1) is this one
  pub list_below_ext : (n : ℕ) (f : ℕ → A) (d : A) {xs : List A} → length xs ≡ n → ((i : ℕ) → i < n → get_or xs i d ≡ f i) → xs ≡ list_below n f
  list_below_ext n f d {xs} long at =
      ext_get_or d xs (list_below n f) (long ∙ sym (list_below-length n f)) (λ i h. let k : i < n = omega arith in at i k ∙ sym (list_below_at n f i d k))

  -- the first k of them
  pub list_below-take : (n k : ℕ) (f : ℕ → A) → k ≤ n → take k (list_below n f) ≡ list_below k f
  unfolding list_below
  list_below-take zero k f h = let e : k ≡ 0 = omega arith in rw e
  list_below-take (suc n) k f h =
      elim (dec_eq k (suc n)) [
        | inl e ↦ rw e (take_all (suc n) (list_below n f ++ (f n ∷ []))
            (omega (arith, length-append (list_below n f) (f n ∷ []), list_below-length n f)))
        | inr e ↦ take-append-le k (list_below n f) (f n ∷ []) (omega (arith, list_below-length n f)) ∙ list_below-take n k f (omega arith)
      ]

  -- what is taken of them is all below a number
  pub list_below_some : (n k : ℕ) (f : ℕ → A) → (m : ℕ) × (m ≤ n) × (take k (list_below n f) ≡ list_below m f)
  list_below_some n k f =
      elim (lt_or_le k n) [
        | inl h ↦ (k, omega arith, list_below-take n k f (omega arith))
        | inr h ↦ (n, omega arith, take_all k (list_below n f) (omega (arith, list_below-length n f)))
      ]

-- ---- one more, as a loop counts

pub all_below_more : (n : ℕ) (p : ℕ → Bool) → all_below (n + 1) p ≡ (all_below n p && p n)
unfolding all_below
all_below_more n p = ap (λ (m : ℕ). all_below m p) (add-one n)

pub count_below_more : (n : ℕ) (p : ℕ → Bool) → count_below (n + 1) p ≡ count_below n p + cond (p n) 1 0
unfolding count_below
count_below_more n p = ap (λ (m : ℕ). count_below m p) (add-one n)

pub highest_below_more : (n : ℕ) (f : ℕ → ℕ) → highest_below (n + 1) f ≡ max (highest_below n f) (f n)
unfolding highest_below
highest_below_more n f = ap (λ (m : ℕ). highest_below m f) (add-one n)

pub first_below_more : (n : ℕ) (p : ℕ → Bool) → first_below (n + 1) p ≡ or_none (first_below n p) (cond (p n) n none)
unfolding first_below
first_below_more n p = ap (λ (m : ℕ). first_below m p) (add-one n)

pub lowest_below_more : (n : ℕ) (p : ℕ → Bool) (f : ℕ → ℕ) → lowest_below (n + 1) p f ≡ cond (p n) (lower_of f (lowest_below n p f) n) (lowest_below n p f)
unfolding lowest_below
lowest_below_more n p f = ap (λ (m : ℕ). lowest_below m p f) (add-one n)

pub list_below_more : {A : Type 0} (n : ℕ) (g : ℕ → A) → list_below n g ++ (g n ∷ []) ≡ list_below (n + 1) g
list_below_more n g = sym (ap (λ (m : ℕ). list_below m g) (add-one n) ∙ list_below-suc n g)

-- ---- one turn of a loop

pub first_below-zero : (p : ℕ → Bool) → none ≡ first_below 0 p
unfolding first_below
first_below-zero p = refl

pub all_below-zero : (p : ℕ → Bool) → true ≡ all_below 0 p
unfolding all_below
all_below-zero p = refl

-- one turn of a test of all
pub all_turn : (p : ℕ → Bool) (j : ℕ) {t r b : Bool} → t ≡ all_below j p → b ≡ p j → r ≡ (t && b) → r ≡ all_below (j + 1) p
all_turn p j e f g = g ∙ rw (f, e) (sym (all_below_more j p))
