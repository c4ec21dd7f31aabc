-- Laws of W5 by the numbers alone, and of W6 in one pass: of each logical block, whether one of the first i records is a live log block of it.
use mathlib.Core.Path.{◌≡◌, refl, sym, ap, ◌∙◌}
use mathlib.Core.Logic.{inl, inr}
use mathlib.Core.Bool.{Bool, true, false, not, ◌&&◌, ◌||◌, and-true, and-false, or-false, not-not}
use mathlib.Core.List.{List}
use Prim.Native.Nat.{ℕ, ◌+◌, ◌<◌}
use native.Mathlib.Omega.{arith}
use lib.Dec.{ltb, eqb}
use lib.ListN.{length, get_or, set, replicate, length-set, length-replicate, get_or-replicate}
use lib.Seq.{get_or-set_same, get_or-set_other}
use borrow.Author.Tests.{eq-eqb, ne_eqb, lt-ltb}
use Rattle.rules.specs.declared.shape.Shape.{Shape}
use Rattle.rules.specs.declared.block.Block.{Block}
use Rattle.rules.specs.Below.{all_below}
use Rattle.rules.specs.Shape.{most}
use Rattle.rules.specs.WellFormed.{Blocks, is_used, is_live}
use Rattle.laws.proofs.Tests.{dec_eq, is_true}
use Rattle.laws.proofs.Below.{all_below_all, all_below-same, all_below_more, list_below_at}
use Rattle.roles.specs.Passes.{Numbered}
use Rattle.refusals.specs.Clashes.{numbers_in, apart_below}

-- ---- W5

-- two used blocks with one number
abbrev one_number : Blocks → ℕ → ℕ → Bool
one_number c i j = is_used (c i).state && is_used (c j).state && eqb (c i).number (c j).number

-- no block below i has the number of block i
abbrev pub apart : Blocks → ℕ → Bool
apart c i = all_below i (λ j. not (one_number c i j))

module _ (c : Blocks) (r : Numbered c) (i : ℕ) where
  -- where block i has no number
  apart_none : (c i).number ≡ 0 → apart c i ≡ true
  apart_none e =
      let unused : is_used (c i).state ≡ false = r i ∙ ap (ltb 0) e in
      is_true (apart c i) (all_below_all i (λ j. not (one_number c i j)) (λ j h. rw unused tt))

  -- where it has one
  apart_by : ((c i).number ≡ 0 → ⊥) → (j : ℕ) → not (eqb (c j).number (c i).number) ≡ not (one_number c i j)
  apart_by f j =
      let used : is_used (c i).state ≡ true = r i ∙ lt-ltb 0 (c i).number (omega arith) in
      let same : eqb (c j).number (c i).number ≡ one_number c i j = elim (dec_eq (c j).number (c i).number) [
        | inl z ↦
            let other : is_used (c j).state ≡ true = r j ∙ lt-ltb 0 (c j).number (omega arith) in
            eq-eqb (c j).number (c i).number z ∙ sym (rw (used, other) (eq-eqb (c i).number (c j).number (sym z)))
        | inr z ↦
            ne_eqb (c j).number (c i).number z
            ∙ sym (rw (ne_eqb (c i).number (c j).number (λ q. z (sym q))) (and-false (is_used (c i).state && is_used (c j).state)))
      ] in
      ap not same

  -- so the numbers tell it
  pub apart_told : {own : List ℕ} → own ≡ numbers_in c → i < most → apart_below own i ≡ apart c i
  apart_told {own} e h =
      let at : (j : ℕ) → j < most → get_or own j 0 ≡ (c j).number =
      λ j k. ap (λ (l : List ℕ). get_or l j 0) e ∙ list_below_at most (λ j. (c j).number) j 0 k in
      elim (dec_eq (c i).number 0) [
        | inl z ↦ rw (at i h, eq-eqb (c i).number 0 z) (sym (apart_none z))
        | inr z ↦
            rw (at i h, ne_eqb (c i).number 0 z)
            (all_below-same i (λ j. not (eqb (get_or own j 0) (c i).number)) (λ j. not (one_number c i j))
            (λ j k. ap (λ (n : ℕ). not (eqb n (c i).number)) (at j (omega arith)) ∙ apart_by z j))
      ]

-- ---- W6

-- block j is a live log block of logical block l
abbrev log_of : Shape → Blocks → ℕ → ℕ → Bool
log_of s c l j = is_live s c j && eqb l (c j).logical

abbrev no_log : Shape → Blocks → ℕ → ℕ → Bool
no_log s c l i = all_below i (λ j. not (log_of s c l j))

-- block i is no second live log block of its logical block
abbrev pub log_apart : Shape → Blocks → ℕ → Bool
log_apart s c i = all_below i (λ j. not (is_live s c i && is_live s c j && eqb (c i).logical (c j).logical))

pub record LogsTo (s : Shape) (c : Blocks) (taken : List Bool) (i : ℕ) : Type 0 where
  pub long : length taken ≡ most
  pub at : (l : ℕ) → l < most → get_or taken l false ≡ not (no_log s c l i)

pub logs_none : (s : Shape) (c : Blocks) {taken : List Bool} → taken ≡ replicate most false → LogsTo s c taken 0
unfolding all_below
logs_none s c e =
    record {
      long = ap length e ∙ length-replicate {A = Bool} most false;
      at = λ l h. ap (λ (k : List Bool). get_or k l false) e ∙ get_or-replicate {A = Bool} most l false false h;
    }

or_not : (u v : Bool) → (not u || v) ≡ not (u && not v)
or_not true v = sym (not-not v)
or_not false v = refl

module _ (s : Shape) (c : Blocks) (i : ℕ) {x : Block} (same : x ≡ c i) {live : Bool} (live-is : live ≡ is_live s c i)
    (small : x.logical < most) {taken : List Bool} (t : LogsTo s c taken i) where
  at_i : x.logical ≡ (c i).logical
  at_i = ap (λ (y : Block). y.logical) same

  -- record i counts for its own logical block alone
  own : (l : ℕ) → l ≡ x.logical → live ≡ log_of s c l i
  own l q = live-is ∙ sym (and-true (is_live s c i)) ∙ ap (λ (b : Bool). is_live s c i && b) (sym (eq-eqb l (c i).logical (q ∙ at_i)))

  other : (l : ℕ) → (l ≡ x.logical → ⊥) → log_of s c l i ≡ false
  other l q = ap (λ (b : Bool). is_live s c i && b) (ne_eqb l (c i).logical (λ e. q (e ∙ sym at_i))) ∙ and-false (is_live s c i)

  pub logs_turn : {now : Bool} → now ≡ (get_or taken x.logical false || live) → LogsTo s c (set taken x.logical now) (i + 1)
  logs_turn {now} g =
      record {
        long = length-set taken x.logical now ∙ t.long;
        at = λ l k. met l ∙ ap (λ (b : Bool). b || log_of s c l i) (t.at l k) ∙ or_not (no_log s c l i) (log_of s c l i)
            ∙ ap not (sym (all_below_more i (λ j. not (log_of s c l j))));
      }
    where
      met : (l : ℕ) → get_or (set taken x.logical now) l false ≡ (get_or taken l false || log_of s c l i)
      met l =
          elim (dec_eq l x.logical) [
            | inl q ↦ rw q (get_or-set_same taken x.logical now false (omega (arith, t.long)) ∙ g ∙ rw (own x.logical refl) refl)
            | inr q ↦ get_or-set_other taken x.logical l now false q ∙ rw (other l q, or-false) refl
          ]

  pub lone_log : {two : Bool} → two ≡ (live && get_or taken x.logical false) → not two ≡ log_apart s c i
  lone_log e = rw (e, t.at x.logical small, at_i, live-is) (lone (is_live s c i))
    where
      lone : (v : Bool) → not (v && not (no_log s c (c i).logical i)) ≡ all_below i (λ j. not (v && is_live s c j && eqb (c i).logical (c j).logical))
      lone true = not-not (no_log s c (c i).logical i)
      lone false = sym (is_true (all_below i (λ j. true)) (all_below_all i (λ j. true) (λ j h. tt)))
