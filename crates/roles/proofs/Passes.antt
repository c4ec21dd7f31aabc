-- Laws of the passes over the records.
use mathlib.Core.Path.{◌≡◌, refl, sym, ap, ◌∙◌}
use mathlib.Core.Logic.{inl, inr}
use mathlib.Core.Bool.{Bool, true, false, not, ◌&&◌, ◌||◌, cond, and-false}
use mathlib.Core.List.{List}
use mir.Val.{bool_byte}
use Prim.Native.Nat.{ℕ, ◌+◌, ◌≤◌, ◌<◌, max}
use native.Mathlib.Nat.{max-zero}
use native.Mathlib.Omega.{arith}
use lib.Dec.{ltb, eqb}
use lib.ListN.{length, get_or, set, replicate, length-set, length-replicate, get_or-replicate}
use lib.Seq.{get_or-set_same, get_or-set_other}
use borrow.Author.Tests.{eq-eqb, ne_eqb}
use Rattle.rules.specs.declared.shape.Shape.{Shape}
use Rattle.rules.specs.declared.block.Block.{Block}
use Rattle.rules.specs.Shape.{most}
use Rattle.rules.specs.Below.{found, none, is_none, all_below, count_below, highest_below, first_below, lowest_below}
use Rattle.rules.specs.WellFormed.{Blocks, is_good, is_free, is_ill, is_complete, complete_number, data_number, is_data, is_live, is_obsolete}
use Rattle.laws.proofs.Tests.{dec_eq}
use Rattle.laws.proofs.Below.{list_below_at, list_below_ext, count_below-most, all_below_more, count_below_more, highest_below_more, first_below_more, lowest_below_more}
use Rattle.roles.specs.declared.seats.Seats.{Seats}
use Rattle.roles.specs.declared.census.Census.{Census}
use Rattle.roles.specs.Passes.{Recorded, Numbers, good_to, eldest_to, census_to, seats_to, seats}
use Rattle.roles.proofs.Found.{found_or, found_not, found_is, found_some}
use Rattle.std.specs.Prelude.{Option, None, Some, MatchOption, IsTrue}
use Rattle.std.specs.Option.{option_or}
use Rattle.std.specs.Bool.{then_some}

-- ---- good blocks

pub good_none : (c : Blocks) → 0 ≡ good_to c 0
unfolding count_below
good_none c = refl

-- 1 where the test passes
pub byte_is : (b : Bool) → bool_byte b ≡ cond b 1 0
byte_is true = refl
byte_is false = refl

pub good_more : (c : Blocks) (j : ℕ) → good_to c j + cond (is_good (c j).state) 1 0 ≡ good_to c (j + 1)
good_more c j = sym (count_below_more j (λ i. is_good (c i).state))

-- ---- data numbers

-- of each logical block, of the first j records
pub record NumbersTo (s : Shape) (c : Blocks) (numbers : List ℕ) (j : ℕ) : Type 0 where
  pub long : length numbers ≡ most
  pub at : (l : ℕ) → l < most → get_or numbers l 0 ≡ highest_below j (λ i. complete_number s (c i) l)

pub numbers_none : (s : Shape) (c : Blocks) → NumbersTo s c (replicate most 0) 0
unfolding highest_below
numbers_none s c = record { long = length-replicate {A = ℕ} most 0; at = λ l h. get_or-replicate {A = ℕ} most l 0 0 h }

module _ (s : Shape) (c : Blocks) {numbers : List ℕ} (j : ℕ) (t : NumbersTo s c numbers j) where
  abbrev numbers_at : ℕ → ℕ → ℕ
  numbers_at l i = complete_number s (c i) l

  -- record j, if it is complete, counts for its own logical block ..
  pub numbers_more : {x : Block} → x ≡ c j → x.logical < most → is_complete s x ≡ true
      → NumbersTo s c (set numbers x.logical (max (get_or numbers x.logical 0) x.number)) (j + 1)
  numbers_more {x} same h e =
      record {
        long = length-set numbers x.logical _ ∙ t.long;
        at = λ l k. elim (dec_eq l x.logical) [
          | inl q ↦
              rw q (get_or-set_same numbers x.logical _ 0 (omega (arith, t.long))
              ∙ rw (t.at x.logical h, highest_below_more j (numbers_at x.logical), ← same, e, eq-eqb x.logical x.logical refl) refl)
          | inr q ↦
              get_or-set_other numbers x.logical l _ 0 q ∙ t.at l k
              ∙ rw (highest_below_more j (numbers_at l), ← same, ne_eqb x.logical l (λ e. q (sym e)), and-false, max-zero) refl
        ];
      }

  -- .. and, if it is not, for none
  pub numbers_same : is_complete s (c j) ≡ false → NumbersTo s c numbers (j + 1)
  numbers_same e = record { long = t.long; at = λ l k. t.at l k ∙ rw (highest_below_more j (numbers_at l), e, max-zero) refl }

pub numbers_all : {s : Shape} {c : Blocks} {numbers : List ℕ} {j : ℕ} → Recorded s c → j ≡ s.blocks → NumbersTo s c numbers j → Numbers s c numbers
unfolding data_number
numbers_all {s} {c} r e t =
    record {
      recorded = r;
      numbers_are = list_below_ext most (data_number s c) 0 t.long
          (λ l h. t.at l h ∙ ap (λ (i : ℕ). highest_below i (λ k. complete_number s (c k) l)) e);
    }

-- the number of a logical block's data block
pub number_at : {s : Shape} {c : Blocks} {numbers : List ℕ} → Numbers s c numbers → (l : ℕ) → l < most → get_or numbers l 0 ≡ data_number s c l
number_at {s} {c} t l h = ap (λ (k : List ℕ). get_or k l 0) t.numbers_are ∙ list_below_at most (data_number s c) l 0 h

-- ---- the census

cond_add : (n : ℕ) (b : Bool) → cond b (n + 1) n ≡ n + cond b 1 0
cond_add n true = refl
cond_add n false = omega arith

eldest_choice : {A : Type 0} (p e l : Bool) (j b : A) → cond p (cond e j (cond l j b)) b ≡ cond (p && (e || l)) j b
eldest_choice true true l j b = refl
eldest_choice true false l j b = refl
eldest_choice false e l j b = refl

-- what is_none_or answers of it
pub none_or_lower : (c : Blocks) (n b : ℕ) {o : Option ℕ} {r : Bool} {P : ℕ → Type 0} → o ≡ found b → MatchOption o (IsTrue r) P
    → ((i : ℕ) → P i → r ≡ ltb n (c i).number) → r ≡ (is_none b || ltb n (c b).number)
none_or_lower c n b {o = None} e h f = rw (eq-eqb b none (found_not (sym e))) h
none_or_lower c n b {o = Some i} e h f =
    let is = found_is (sym e) in
    rw (ne_eqb b none is.1, is.0) (f i h)

module _ (s : Shape) (c : Blocks) where
  pub census_none : ◌≡◌ {A = Census} (record { sound = true; live = 0; recovered = true; highest = 0; free = None; eldest = None }) (census_to s c 0)
  unfolding census_to eldest_to count_below all_below highest_below first_below lowest_below
  census_none = refl

  pub census_few : {t : Census} (j : ℕ) → t ≡ census_to s c j → t.live ≤ j
  unfolding census_to
  census_few j e = omega (arith, ap (λ (u : Census). u.live) e, count_below-most j (is_live s c))

  pub census_eldest : {t : Census} (j : ℕ) → t ≡ census_to s c j → t.eldest ≡ found (eldest_to s c j)
  unfolding census_to
  census_eldest j e = ap (λ (u : Census). u.eldest) e

  -- with record j
  module _ (j : ℕ) {t : Census} (h : j < none) (e : t ≡ census_to s c j) where
    eldest_more : (live lower : Bool) → live ≡ is_live s c j → lower ≡ (is_none (eldest_to s c j) || ltb (c j).number (c (eldest_to s c j)).number)
        → cond (live && lower) (Some j) t.eldest ≡ found (eldest_to s c (j + 1))
    unfolding eldest_to
    eldest_more live lower f g =
        rw (lowest_below_more j (is_live s c) (λ i. (c i).number), census_eldest j e, ← f, eldest_choice live _ _ j (eldest_to s c j), ← g) (go (live && lower))
      where
        go : (b : Bool) → cond b (Some j) (found (eldest_to s c j)) ≡ found (cond b j (eldest_to s c j))
        go true = sym (found_some (λ n. omega arith))
        go false = refl

    pub census_more : (live lower : Bool) {x : Block} {ill obsolete free : Bool} {highest : ℕ} {taken : Option ℕ} → x ≡ c j → ill ≡ is_ill x.state
        → live ≡ is_live s c j → obsolete ≡ is_obsolete s c j → highest ≡ max t.highest x.number → free ≡ is_free x.state
        → taken ≡ option_or t.free (then_some free j) → lower ≡ (is_none (eldest_to s c j) || ltb x.number (c (eldest_to s c j)).number)
        → ◌≡◌ {A = Census} (record {
          sound = t.sound && not ill;
          live = cond live (t.live + 1) t.live;
          recovered = t.recovered && not obsolete;
          highest = highest;
          free = taken;
          eldest = cond (live && lower) (Some j) t.eldest;
        }) (census_to s c (j + 1))
    unfolding census_to
    census_more live lower same a1 a2 a3 a4 a5 a6 a7 =
        let b1 = all_below_more j (λ i. not (is_ill (c i).state)) in
        let b2 = count_below_more j (is_live s c) in
        let b3 = all_below_more j (λ i. not (is_obsolete s c i)) in
        let b4 = highest_below_more j (λ i. (c i).number) in
        let b5 = found_or (first_below j (λ i. is_free (c i).state)) j (is_free (c j).state) h in
        let b6 = ap found (first_below_more j (λ i. is_free (c i).state)) in
        let b7 = eldest_more live lower a2 (a7 ∙ ap (λ (y : Block). is_none (eldest_to s c j) || ltb y.number (c (eldest_to s c j)).number) same) in
        let b8 = cond_add t.live live in
        cc

-- ---- the blocks of a logical block

pub seats_are : (s : Shape) (c : Blocks) (l : ℕ) {b g : Option ℕ} → b ≡ found (first_below s.blocks (λ j. is_data s c j && eqb (c j).logical l))
    → g ≡ found (first_below s.blocks (λ j. is_live s c j && eqb (c j).logical l)) → ◌≡◌ {A = Seats} (record { «data» = b; log = g }) (seats s c l)
unfolding seats_to
seats_are s c l e f = cc
