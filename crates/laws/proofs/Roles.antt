-- Laws of the records of a card: the roles of used blocks, W5 to W7 as facts, and the free block.
use mathlib.Core.Path.{◌≡◌, refl, sym, ap, ◌∙◌, subst}
use mathlib.Core.Logic.{◌≢◌, ◌⊎◌, inl, inr}
use mathlib.Core.Bool.{Bool, true, false, not, ◌&&◌, cond}
use mathlib.Core.List.{List, [], ◌∷◌}
use Prim.Native.Nat.{ℕ, ◌+◌, ◌≤◌, ◌<◌}
use native.Mathlib.Omega.{arith}
use lib.Dec.{T, ltb, eqb, leb→le, le→leb, ltb→lt, lt→ltb, eqb→eq, eqb_refl, T_not, not_T}
use Rattle.rules.specs.declared.shape.Shape.{Shape}
use Rattle.rules.specs.declared.block.State.{State}
use Rattle.rules.specs.declared.block.State.TheVariants.{Bad, Free, Ill, Used}
use Rattle.rules.specs.declared.block.Block.{Block}
use Rattle.rules.specs.Below.{none, all_below, count_below, first_below}
use Rattle.rules.specs.Page.{is_log}
use Rattle.rules.specs.Shape.{most, good_needed}
use Rattle.rules.specs.WellFormed.{Blocks, not_used, is_good, is_free, is_ill, is_used, no_two, W5, is_complete, data_number, is_data, is_live, W6, is_obsolete, data_block, live_log, live_logs, W7, well_formed}
use Rattle.rules.specs.Steps.{taken, highest}
use Rattle.rules.specs.Replies.{good_blocks, unrecovered}
use Rattle.laws.proofs.Tests.{tcase, bool_ext, and_l, and_r, and_i, cond_yes, lt_or_le, eq→eqb, chain_each, each_chain}
use Rattle.laws.proofs.Below.{all_below_at, all_below_all, bit, bit_le, bit_one, bit_zero, sum_below-le, sum_below_add, sum_below_ones, count_below_sum, count_below_places, highest_below-ge, highest_below-le, highest_below_at, first_below_found, first_below-same}

-- ---- states

pub used_good : (st : State) → T (is_used st) → T (is_good st)
used_good Bad t = t
used_good Free t = tt
used_good Ill t = tt
used_good Used t = tt

pub free_good : (st : State) → T (is_free st) → T (is_good st)
free_good Bad t = t
free_good Free t = tt
free_good Ill t = tt
free_good Used t = tt

pub free_not_used : (st : State) → T (is_free st) → T (is_used st) → ⊥
free_not_used Bad t u = t
free_not_used Free t u = u
free_not_used Ill t u = t
free_not_used Used t u = t

-- what is free, if it is good, is neither used nor ill
pub free_if_good : (st : State) → (T (is_good st) → T (is_free st)) → (T (is_used st) → ⊥) × (T (is_ill st) → ⊥)
free_if_good Bad f = ((λ u. u), (λ u. u))
free_if_good Free f = ((λ u. u), (λ u. u))
free_if_good Ill f = ((λ u. u), (λ u. f tt))
free_if_good Used f = ((λ u. f tt), (λ u. u))

-- a good block is free, ill or used
pub good_used : (st : State) → T (is_good st) → (T (is_free st) → ⊥) → (T (is_ill st) → ⊥) → T (is_used st)
good_used Bad t f g = t
good_used Free t f g = absurd (f tt)
good_used Ill t f g = absurd (g tt)
good_used Used t f g = tt

-- ---- the records of a card

-- what the records of an image have, whatever its bytes
pub record Records (s : Shape) (c : Blocks) : Type 0 where
  pub few : s.blocks ≤ most
  pub outside : (j : ℕ) → s.blocks ≤ j → c j ≡ not_used Bad
  pub free : (j : ℕ) → T (is_free (c j).state) → c j ≡ not_used Free
  pub in_range : (j : ℕ) → T (is_used (c j).state) → (c j).logical < s.logical
  pub fits : (j : ℕ) → (c j).filled ≤ s.pages

module _ (s : Shape) (c : Blocks) (r : Records s c) where
  -- a good block is a block of the card
  pub good_below : (j : ℕ) → T (is_good (c j).state) → j < s.blocks
  good_below j t =
      elim (lt_or_le j s.blocks) [
        | inl h ↦ h
        | inr h ↦ absurd (subst (λ (x : Block). T (is_good x.state)) (r.outside j h) t)
      ]

  pub used_below : (j : ℕ) → T (is_used (c j).state) → j < s.blocks
  used_below j t = good_below j (used_good (c j).state t)

  pub below_none : {j : ℕ} → j < s.blocks → j ≢ none
  below_none h e = omega (arith, r.few)

  -- where there is no block, no page is programmed
  pub none_filled : (c none).filled ≡ 0
  none_filled = ap (λ (x : Block). x.filled) (r.outside none (omega (arith, r.few)))

-- ---- complete blocks

pub record Complete (s : Shape) (x : Block) : Type 0 where
  pub used : T (is_used x.state)
  pub full : x.filled ≡ s.pages
  pub order : T x.ordered

pub complete_e : (s : Shape) (x : Block) → T (is_complete s x) → Complete s x
unfolding is_complete
complete_e s x t =
    let (u, (f, (o, _))) = chain_each (is_used x.state) (eqb x.filled s.pages ∷ x.ordered ∷ []) t in
    record { used = u; full = eqb→eq x.filled s.pages f; order = o }

pub complete_i : (s : Shape) (x : Block) → Complete s x → T (is_complete s x)
unfolding is_complete
complete_i s x p =
    each_chain (is_used x.state) (eqb x.filled s.pages ∷ x.ordered ∷ []) p.used (eq→eqb x.filled s.pages p.full, (p.order, tt))

-- ---- the roles as facts, by the number d of the data block

-- d is the number of x, which is complete
pub record IsData (s : Shape) (d : ℕ) (x : Block) : Type 0 where
  pub complete : T (is_complete s x)
  pub number : x.number ≡ d

pub record IsLive (s : Shape) (d : ℕ) (x : Block) : Type 0 where
  pub used : T (is_used x.state)
  pub log : T (is_log x.kind)
  pub incomplete : T (is_complete s x) → ⊥
  pub above : d < x.number

module _ (s : Shape) (c : Blocks) (j : ℕ) where
  abbrev pub data_of : ℕ
  data_of = data_number s c (c j).logical

  pub data_e : T (is_data s c j) → IsData s (data_number s c (c j).logical) (c j)
  unfolding is_data
  data_e t =
      record {
        complete = and_l (is_complete s (c j)) (eqb (c j).number data_of) t;
        number = eqb→eq (c j).number data_of (and_r (is_complete s (c j)) (eqb (c j).number data_of) t);
      }

  pub data_i : IsData s (data_number s c (c j).logical) (c j) → T (is_data s c j)
  unfolding is_data
  data_i p = and_i (is_complete s (c j)) (eqb (c j).number data_of) p.complete (eq→eqb (c j).number data_of p.number)

  abbrev live_tests : List Bool
  live_tests = is_log (c j).kind ∷ not (is_complete s (c j)) ∷ ltb data_of (c j).number ∷ []

  pub live_e : T (is_live s c j) → IsLive s (data_number s c (c j).logical) (c j)
  unfolding is_live
  live_e t =
      let (u, (k, (n, (a, _)))) = chain_each (is_used (c j).state) live_tests t in
      record { used = u; log = k; incomplete = T_not (is_complete s (c j)) n; above = ltb→lt data_of (c j).number a }

  pub live_i : IsLive s (data_number s c (c j).logical) (c j) → T (is_live s c j)
  unfolding is_live
  live_i p =
      each_chain (is_used (c j).state) live_tests p.used
      (p.log, (not_T (is_complete s (c j)) p.incomplete, (lt→ltb data_of (c j).number p.above, tt)))

  pub data_used : T (is_data s c j) → T (is_used (c j).state)
  data_used t = (complete_e s (c j) (data_e t).complete).used

  pub live_used : T (is_live s c j) → T (is_used (c j).state)
  live_used t = (live_e t).used

  pub data_not_live : T (is_data s c j) → T (is_live s c j) → ⊥
  data_not_live t u = (live_e u).incomplete (data_e t).complete

  pub obsolete_e : T (is_obsolete s c j) → T (is_used (c j).state) × (T (is_data s c j) → ⊥) × (T (is_live s c j) → ⊥)
  unfolding is_obsolete is_data is_live
  obsolete_e t =
      let (u, (d, (v, _))) = chain_each (is_used (c j).state) (not (is_data s c j) ∷ not (is_live s c j) ∷ []) t in
      (u, T_not (is_data s c j) d, T_not (is_live s c j) v)

  pub obsolete_i : T (is_used (c j).state) → (T (is_data s c j) → ⊥) → (T (is_live s c j) → ⊥) → T (is_obsolete s c j)
  unfolding is_obsolete is_data is_live
  obsolete_i t f g =
      each_chain (is_used (c j).state) (not (is_data s c j) ∷ not (is_live s c j) ∷ []) t (not_T (is_data s c j) f, (not_T (is_live s c j) g, tt))

  -- a used block is data block, live or obsolete
  pub used_roles : T (is_used (c j).state) → T (is_data s c j) ⊎ (T (is_live s c j) ⊎ T (is_obsolete s c j))
  used_roles t =
      elim (tcase (is_data s c j)) [
        | inl d ↦ inl d
        | inr nd ↦ elim (tcase (is_live s c j)) [
          | inl v ↦ inr (inl v)
          | inr nv ↦ inr (inr (obsolete_i t (T_not (is_data s c j) nd) (T_not (is_live s c j) nv)))
        ]
      ]

-- ---- data_number: the highest number of the complete blocks of l

-- what block x adds to it
abbrev key : Shape → ℕ → Block → ℕ
key s l x = cond (is_complete s x && eqb x.logical l) x.number 0

key_cases : (s : Shape) (l : ℕ) (x : Block) → (T (is_complete s x) × (x.logical ≡ l) × (key s l x ≡ x.number)) ⊎ (key s l x ≡ 0)
key_cases s l x = go (is_complete s x) (eqb x.logical l) (λ t. t) (eqb→eq x.logical l)
  where
    go : (a b : Bool) → (T a → T a) → (T b → x.logical ≡ l)
        → (T a × (x.logical ≡ l) × (cond (a && b) x.number 0 ≡ x.number)) ⊎ (cond (a && b) x.number 0 ≡ 0)
    go true true f g = inl (tt, g tt, refl)
    go true false f g = inr refl
    go false b f g = inr refl

key_is : (s : Shape) (x : Block) → T (is_complete s x) → key s x.logical x ≡ x.number
key_is s x t =
    cond_yes (is_complete s x && eqb x.logical x.logical) x.number 0
    (and_i (is_complete s x) (eqb x.logical x.logical) t (eqb_refl x.logical))

module _ (s : Shape) (c : Blocks) where
  pub data_number-le : (l t : ℕ) → ((j : ℕ) → j < s.blocks → T (is_complete s (c j)) → (c j).logical ≡ l → (c j).number ≤ t) → data_number s c l ≤ t
  unfolding data_number
  data_number-le l t f =
      highest_below-le s.blocks (λ j. key s l (c j)) t
      (λ j h. elim (key_cases s l (c j)) [ inl k ↦ omega (arith, f j h k.0 k.1, k.2) | inr k ↦ omega arith ])

  -- where it is not 0, a complete block of l has it
  pub data_number_at : (l : ℕ) → 0 < data_number s c l
      → (i : ℕ) × (i < s.blocks) × T (is_complete s (c i)) × ((c i).logical ≡ l) × ((c i).number ≡ data_number s c l)
  unfolding data_number
  data_number_at l h =
      let q = highest_below_at s.blocks (λ j. key s l (c j)) h in
      elim (key_cases s l (c q.0)) [
        | inl k ↦ (q.0, q.1, k.0, k.1, omega (arith, q.2, k.2))
        | inr k ↦ absurd (omega (arith, q.2))
      ]

  pub data_number-ge : (j : ℕ) → j < s.blocks → T (is_complete s (c j)) → (c j).number ≤ data_number s c (c j).logical
  unfolding data_number
  data_number-ge j h t = omega (arith, highest_below-ge s.blocks (λ i. key s (c j).logical (c i)) j h, key_is s (c j) t)

  pub data_number_below : (l n : ℕ) → 0 < n → ((j : ℕ) → j < s.blocks → (c j).number < n) → data_number s c l < n
  data_number_below l n p f =
      elim (lt_or_le 0 (data_number s c l)) [
        | inl h ↦ let q = data_number_at l h in omega (arith, f q.0 q.1, q.4)
        | inr h ↦ omega arith
      ]

-- ---- W5 to W7 as facts

-- blocks of a role, by a number of theirs
module _ (s : Shape) (role : ℕ → Bool) (number : ℕ → ℕ) where
  -- no two of them have the same
  abbrev One : Type 0
  One = (i j : ℕ) → T (role i) → T (role j) → number i ≡ number j → i ≡ j

  abbrev clash : ℕ → ℕ → Bool
  clash i j = role i && role j && eqb (number i) (number j)

  one_e : ((j : ℕ) → T (role j) → j < s.blocks) → T (no_two s clash) → One
  one_e below t i j u v e =
      elim (lt_or_le i j) [
        | inl h ↦ absurd (no j i v u (sym e) h)
        | inr h ↦ elim (lt_or_le j i) [ inl k ↦ absurd (no i j u v e k) | inr k ↦ omega arith ]
      ]
    where
      no : (i j : ℕ) → T (role i) → T (role j) → number i ≡ number j → j < i → ⊥
      no i j u v e h =
          T_not (clash i j)
          (all_below_at i (λ j. not (clash i j)) (all_below_at s.blocks (λ i. all_below i (λ j. not (clash i j))) t i (below i u)) j h)
          (each_chain (role i) (role j ∷ eqb (number i) (number j) ∷ []) u (v, (eq→eqb (number i) (number j) e, tt)))

  one_i : One → T (no_two s clash)
  one_i one =
      all_below_all s.blocks (λ i. all_below i (λ j. not (clash i j)))
      (λ i h. all_below_all i (λ j. not (clash i j)) (λ j k. not_T (clash i j) (λ t.
      let (u, (v, (e, _))) = chain_each (role i) (role j ∷ eqb (number i) (number j) ∷ []) t in
      let same : i ≡ j = one i j u v (eqb→eq (number i) (number j) e) in omega arith)))

pub record WellFormed (s : Shape) (c : Blocks) : Type 0 where
  pub records : Records s c
  pub no_ill : (j : ℕ) → T (is_ill (c j).state) → ⊥
  pub numbers : (i j : ℕ) → T (is_used (c i).state) → T (is_used (c j).state) → (c i).number ≡ (c j).number → i ≡ j
  pub one_live : (i j : ℕ) → T (is_live s c i) → T (is_live s c j) → (c i).logical ≡ (c j).logical → i ≡ j
  pub few_live : live_logs s c ≤ s.logs

module _ (s : Shape) (c : Blocks) (r : Records s c) where
  abbrev none_ill : Bool
  none_ill = all_below s.blocks (λ j. not (is_ill (c j).state))

  pub well_formed_e : T (well_formed s c) → WellFormed s c
  unfolding well_formed W5 W6 W7
  well_formed_e t =
      let (t₄, (t₅, (t₆, (t₇, _)))) = chain_each none_ill (W5 s c ∷ W6 s c ∷ W7 s c ∷ []) t in
      record {
        records = r;
        no_ill = λ j u. elim (lt_or_le j s.blocks) [
          | inl h ↦ T_not (is_ill (c j).state) (all_below_at s.blocks (λ j. not (is_ill (c j).state)) t₄ j h) u
          | inr h ↦ subst (λ (x : Block). T (is_ill x.state)) (r.outside j h) u
        ];
        numbers = one_e s (λ j. is_used (c j).state) (λ j. (c j).number) (used_below s c r) t₅;
        one_live = one_e s (is_live s c) (λ j. (c j).logical) (λ j u. used_below s c r j (live_used s c j u)) t₆;
        few_live = leb→le (live_logs s c) s.logs t₇;
      }

  pub well_formed_i : WellFormed s c → T (well_formed s c)
  unfolding well_formed W5 W6 W7
  well_formed_i w =
      each_chain none_ill (W5 s c ∷ W6 s c ∷ W7 s c ∷ [])
      (all_below_all s.blocks (λ j. not (is_ill (c j).state)) (λ j h. not_T (is_ill (c j).state) (w.no_ill j))) (
        one_i s (λ j. is_used (c j).state) (λ j. (c j).number) w.numbers,
        (one_i s (is_live s c) (λ j. (c j).logical) w.one_live, (le→leb (live_logs s c) s.logs w.few_live, tt)),
      )

-- ---- the data block and the live log block of l

-- block b of l has the role
pub record Has (role : ℕ → Bool) (c : Blocks) (l b : ℕ) : Type 0 where
  pub passes : T (role b)
  pub logical : (c b).logical ≡ l

-- no block of l has it, and b is none
pub record HasNone (role : ℕ → Bool) (c : Blocks) (l b : ℕ) : Type 0 where
  pub is : b ≡ none
  pub fails : (j : ℕ) → T (role j) → (c j).logical ≡ l → ⊥

-- there is one, if b is a block
pub has_some : {role : ℕ → Bool} {c : Blocks} {l b : ℕ} → Has role c l b ⊎ HasNone role c l b → b ≢ none → Has role c l b
has_some (inl y) ne = y
has_some (inr y) ne = absurd (ne y.is)

module _ (role : ℕ → Bool) (c : Blocks) (l j : ℕ) where
  has_e : T (role j && eqb (c j).logical l) → Has role c l j
  has_e t = let q = chain_each (role j) (eqb (c j).logical l ∷ []) t in record { passes = q.0; logical = eqb→eq (c j).logical l q.1.0 }

  has_i : Has role c l j → T (role j && eqb (c j).logical l)
  has_i q = and_i (role j) (eqb (c j).logical l) q.passes (eq→eqb (c j).logical l q.logical)

module _ (s : Shape) (c : Blocks) (r : Records s c) (role : ℕ → Bool) (in_use : (j : ℕ) → T (role j) → T (is_used (c j).state)) (l : ℕ) where
  abbrev hit : ℕ → Bool
  hit j = role j && eqb (c j).logical l

  abbrev the : ℕ
  the = first_below s.blocks hit

  the_found : Has role c l the ⊎ HasNone role c l the
  the_found =
      elim (first_below_found s.blocks hit (omega (arith, r.few))) [
        | inl q ↦ inl (has_e role c l the q.passes)
        | inr q ↦
            inr (record {
              is = q.is;
              fails = λ j t e. q.fails j (used_below s c r j (in_use j t)) (has_i role c l j (record { passes = t; logical = e }));
            })
      ]

  the_only : (i : ℕ) → T (role i) → (c i).logical ≡ l → ((j : ℕ) → T (role j) → (c j).logical ≡ l → j ≡ i) → the ≡ i
  the_only i t e f = elim the_found [ inl q ↦ f the q.passes q.logical | inr q ↦ absurd (q.fails i t e) ]

  the_none : ((j : ℕ) → T (role j) → (c j).logical ≡ l → ⊥) → the ≡ none
  the_none f = elim the_found [ inl q ↦ absurd (f the q.passes q.logical) | inr q ↦ q.is ]

-- where the same blocks of l have a role, the first is the same
the_same : (s : Shape) (c c' : Blocks) (role role' : ℕ → Bool) (l : ℕ) → ((j : ℕ) → Has role c l j → Has role' c' l j)
    → ((j : ℕ) → Has role' c' l j → Has role c l j)
    → first_below s.blocks (λ j. role' j && eqb (c' j).logical l) ≡ first_below s.blocks (λ j. role j && eqb (c j).logical l)
the_same s c c' role role' l f g =
    first_below-same s.blocks (λ j. role' j && eqb (c' j).logical l) (λ j. role j && eqb (c j).logical l)
    (λ j h. bool_ext (role' j && eqb (c' j).logical l) (role j && eqb (c j).logical l)
    (λ t. has_i role c l j (g j (has_e role' c' l j t))) (λ t. has_i role' c' l j (f j (has_e role c l j t))))

module _ (s : Shape) (c c' : Blocks) (l : ℕ) where
  pub data_block_same : ((j : ℕ) → Has (is_data s c) c l j → Has (is_data s c') c' l j) → ((j : ℕ) → Has (is_data s c') c' l j → Has (is_data s c) c l j)
      → data_block s c' l ≡ data_block s c l
  unfolding data_block
  data_block_same = the_same s c c' (is_data s c) (is_data s c') l

  pub live_log_same : ((j : ℕ) → Has (is_live s c) c l j → Has (is_live s c') c' l j) → ((j : ℕ) → Has (is_live s c') c' l j → Has (is_live s c) c l j)
      → live_log s c' l ≡ live_log s c l
  unfolding live_log
  live_log_same = the_same s c c' (is_live s c) (is_live s c') l

module _ (s : Shape) (c : Blocks) (r : Records s c) (l : ℕ) where
  pub data_block_found : Has (is_data s c) c l (data_block s c l) ⊎ HasNone (is_data s c) c l (data_block s c l)
  unfolding data_block
  data_block_found = the_found s c r (is_data s c) (data_used s c) l

  pub data_block_none : ((j : ℕ) → T (is_data s c j) → (c j).logical ≡ l → ⊥) → data_block s c l ≡ none
  unfolding data_block
  data_block_none = the_none s c r (is_data s c) (data_used s c) l

  pub live_log_found : Has (is_live s c) c l (live_log s c l) ⊎ HasNone (is_live s c) c l (live_log s c l)
  unfolding live_log
  live_log_found = the_found s c r (is_live s c) (live_used s c) l

  pub live_log_none : ((j : ℕ) → T (is_live s c j) → (c j).logical ≡ l → ⊥) → live_log s c l ≡ none
  unfolding live_log
  live_log_none = the_none s c r (is_live s c) (live_used s c) l

module _ (s : Shape) (c : Blocks) (w : WellFormed s c) where
  -- a logical block has at most one data block
  pub data_one : (i j : ℕ) → T (is_data s c i) → T (is_data s c j) → (c i).logical ≡ (c j).logical → i ≡ j
  data_one i j t u e =
      w.numbers i j (data_used s c i t) (data_used s c j u) ((data_e s c i t).number ∙ ap (data_number s c) e ∙ sym (data_e s c j u).number)

  pub data_block_is : (i l : ℕ) → T (is_data s c i) → (c i).logical ≡ l → data_block s c l ≡ i
  unfolding data_block
  data_block_is i l t e = the_only s c w.records (is_data s c) (data_used s c) l i t e (λ j u q. data_one j i u t (q ∙ sym e))

  pub live_log_is : (i l : ℕ) → T (is_live s c i) → (c i).logical ≡ l → live_log s c l ≡ i
  unfolding live_log
  live_log_is i l t e = the_only s c w.records (is_live s c) (live_used s c) l i t e (λ j u q. w.one_live j i u t (q ∙ sym e))

-- ---- the highest number, and the block that is taken

-- no block is obsolete
abbrev pub Recovered : Shape → Blocks → Type 0
Recovered s c = (j : ℕ) → T (is_obsolete s c j) → ⊥

module _ (s : Shape) (c : Blocks) where
  pub highest_ge : (j : ℕ) → j < s.blocks → (c j).number ≤ highest s c
  unfolding highest
  highest_ge j h = highest_below-ge s.blocks (λ i. (c i).number) j h

  pub highest_le : (t : ℕ) → ((j : ℕ) → j < s.blocks → (c j).number ≤ t) → highest s c ≤ t
  unfolding highest
  highest_le t f = highest_below-le s.blocks (λ i. (c i).number) t f

  pub recovered_e : Records s c → (T (unrecovered s c) → ⊥) → Recovered s c
  recovered_e r f j t =
      f (not_T (all_below s.blocks (λ j. not (is_obsolete s c j)))
      (λ u. T_not (is_obsolete s c j) (all_below_at s.blocks (λ j. not (is_obsolete s c j)) u j (used_below s c r j (obsolete_e s c j t).0)) t))

  pub recovered_i : Recovered s c → T (unrecovered s c) → ⊥
  recovered_i f t =
      T_not (all_below s.blocks (λ j. not (is_obsolete s c j))) t
      (all_below_all s.blocks (λ j. not (is_obsolete s c j)) (λ j h. not_T (is_obsolete s c j) (f j)))

-- "No answer stands for 'no free block': the rules always leave one."
module _ (s : Shape) (c : Blocks) (w : WellFormed s c) (rec : Recovered s c) (enough : good_needed s ≤ good_blocks s c) where
  data_blocks_few : count_below s.blocks (is_data s c) ≤ s.logical
  data_blocks_few =
      omega (
        arith,
        sum_below_ones s.logical,
        count_below_places s.blocks s.logical (is_data s c) (λ j. (c j).logical) (λ l. 1)
            (λ j h t. w.records.in_range j (data_used s c j t)) (λ j h t. omega arith) (λ i j h k. data_one s c w i j),
      )

  -- a good block that is not free is a data block or a live log block
  good_roles : ((j : ℕ) → j < s.blocks → T (is_free (c j).state) → ⊥) → (j : ℕ) → j < s.blocks
      → bit (is_good (c j).state) ≤ bit (is_data s c j) + bit (is_live s c j)
  good_roles f j h =
      elim (tcase (is_good (c j).state)) [
        | inl g ↦ elim (used_roles s c j (good_used (c j).state g (f j h) (w.no_ill j))) [
          | inl d ↦ omega (arith, bit_le (is_good (c j).state), bit_one (is_data s c j) d)
          | inr q ↦ elim q [ inl v ↦ omega (arith, bit_le (is_good (c j).state), bit_one (is_live s c j) v) | inr o ↦ absurd (rec j o) ]
        ]
        | inr g ↦ omega (arith, bit_zero (is_good (c j).state) (T_not (is_good (c j).state) g))
      ]

  no_room : ((j : ℕ) → j < s.blocks → T (is_free (c j).state) → ⊥) → ⊥
  unfolding good_blocks live_logs
  no_room f =
      omega (
        arith,
        count_below_sum s.blocks (λ j. is_good (c j).state),
        count_below_sum s.blocks (is_data s c),
        count_below_sum s.blocks (is_live s c),
        sum_below-le s.blocks (λ j. bit (is_good (c j).state)) (λ j. bit (is_data s c j) + bit (is_live s c j)) (good_roles f),
        sum_below_add s.blocks (λ j. bit (is_data s c j)) (λ j. bit (is_live s c j)),
        data_blocks_few,
        w.few_live,
      )

  pub taken_free : T (is_free (c (taken s c)).state) × (taken s c < s.blocks)
  unfolding taken
  taken_free =
      elim (first_below_found s.blocks (λ j. is_free (c j).state) (omega (arith, w.records.few))) [
        | inl q ↦ (q.passes, q.below)
        | inr q ↦ absurd (no_room q.fails)
      ]
