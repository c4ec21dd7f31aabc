-- The record of a block after a step, and the pages that a record stands for.
use mathlib.Core.Path.{◌≡◌, refl, sym, ap, ◌∙◌, subst}
use mathlib.Core.Logic.{◌≢◌, ◌⊎◌, inl, inr, ⊎_elim}
use mathlib.Core.Bool.{Bool, true, ◌&&◌, ◌||◌}
use mathlib.Core.List.{List, [], ◌∷◌, map}
use Prim.Native.Nat.{ℕ, zero, suc, ◌+◌, ◌≤◌, ◌<◌}
use native.Mathlib.Numerals.{add-one}
use native.Mathlib.Omega.{arith}
use borrow.Author.Tests.{ne_eqb}
use lib.Dec.{T, eqb, T_not, eqb→eq}
use lib.ListN.{length, get_or}
use Rattle.std.specs.Prelude.{Option, Some, None}
use Rattle.rules.specs.declared.shape.Shape.{Shape}
use Rattle.rules.specs.declared.kind.Kind.{Kind}
use Rattle.rules.specs.declared.kind.Kind.TheVariants.{Copy}
use Rattle.rules.specs.declared.page.Page.{Page}
use Rattle.rules.specs.declared.page.Page.TheVariants.{Erased, Entry}
use Rattle.rules.specs.declared.block.State.TheVariants.{Free, Used}
use Rattle.rules.specs.declared.block.Block.{Block}
use Rattle.rules.specs.Below.{all_below, list_below}
use Rattle.rules.specs.Spare.{number_limit, kind_byte, kind_for, number_in, kind_in, status_in, address_in, spare_bytes}
use Rattle.rules.specs.Shape.{page_no, block_of, offset_of, logical_page, in_range}
use Rattle.rules.specs.Page.{Image, page_bytes, page_spare, page_at, is_entry, number_of, kind_of, address_of, is_copy}
use Rattle.rules.specs.WellFormed.{not_used, in_order, good_block, bad_mark, is_marked, is_bad, pages_of, block_at, blocks_of, is_good, is_used, is_free}
use Rattle.rules.specs.Steps.{Step, program, erase, step_done, steps_done, entry_step, copy_step}
use Rattle.rules.specs.Facts.{Fits}
use Rattle.laws.proofs.Tests.{is_true, bool_ext, and_i, or_l, or_r, or_e, dec_eq, lt_or_le, eq→eqb}
use Rattle.laws.proofs.Below.{All, all_below_at, list_below_same}
use Rattle.laws.proofs.Filled.{Filled, used_with, free_good_block, filled_good_block, UsedPages, good_block_free, good_block_used, NextPage, PageAdded, filled_more, in_order_more}
use Rattle.laws.proofs.Records.{blocks_of_at, blocks_of_outside, pages_of_at, block_at_bad, block_at_good}
use Rattle.laws.proofs.Shape.{page_no_below, page_no_same_block, page_no_same_place, logical_page_block, logical_page_offset, block_in_range, in_range_small}
use Rattle.laws.proofs.Spare.{InTable, spare_bytes-length, spare_bytes_status}
use Rattle.laws.proofs.Roles.{used_good, free_good}
use Rattle.laws.proofs.Pages.{SamePage, same_page_then, page_at_is, page_at-same, page_of-spare_bytes, page_of-is_entry, Programs, program_fits, program_page, program_other, erase_fits, erase_page, erase-page_at, StepIn, step_block, step_other, StepsIn, Apart, steps_other, steps_done-append}

-- ---- the mark of a bad block

status_unmarked : (t : List ℕ) → status_in t ≡ 255 → T (bad_mark t) → ⊥
status_unmarked t e u = T_not (eqb (status_in t) 255) u (eq→eqb _ _ e)

-- Every page that may carry it is one of the block's, since a block has at least two.
module _ (s : Shape) (b : ℕ) (two : 2 ≤ s.pages) where
  unmarked_good : (im : Image) → ((i : ℕ) → i < s.pages → T (is_marked s im b i) → ⊥) → T (is_bad s im b) → ⊥
  unfolding is_bad
  unmarked_good im h t =
      elim (or_e (is_marked s im b 0) (is_marked s im b 1) t) [ inl u ↦ h 0 (omega (arith, two)) u | inr u ↦ h 1 (omega (arith, two)) u ]

  -- what is bad stays so where its marks stay
  marks_kept : (im im' : Image) → ((i : ℕ) → i < s.pages → T (is_marked s im b i) → T (is_marked s im' b i)) → T (is_bad s im b) → T (is_bad s im' b)
  unfolding is_bad
  marks_kept im im' h t =
      elim (or_e (is_marked s im b 0) (is_marked s im b 1) t) [
        | inl u ↦ or_l (is_marked s im' b 0) (is_marked s im' b 1) (h 0 (omega (arith, two)) u)
        | inr u ↦ or_r (is_marked s im' b 0) (is_marked s im' b 1) (h 1 (omega (arith, two)) u)
      ]

  pub is_bad_same : (im im' : Image) → ((i : ℕ) → i < s.pages → SamePage im im' (page_no s b i)) → is_bad s im b ≡ is_bad s im' b
  is_bad_same im im' h =
      bool_ext (is_bad s im b) (is_bad s im' b) (marks_kept im im' (λ i k. subst (λ (t : List ℕ). T (bad_mark t)) (h i k).spare_are))
      (marks_kept im' im (λ i k. subst (λ (t : List ℕ). T (bad_mark t)) (sym (h i k).spare_are)))

-- ---- a block of an image

-- it is good, and its pages are so filled
pub record BlockFilled (s : Shape) (im : Image) (b n : ℕ) (k : Option Kind) (l m : ℕ) : Type 0 where
  pub good : T (is_bad s im b) → ⊥
  pub pages : Filled s (pages_of s im b) n k l m

module _ (s : Shape) (im : Image) (b : ℕ) where
  pub filled_block_at : {n : ℕ} {k : Option Kind} {l m : ℕ} → BlockFilled s im b n k l m → 0 < m → block_at s im b ≡ used_with n k l m (in_order s (pages_of s im b) m)
  filled_block_at f h = block_at_good s im b f.good ∙ filled_good_block s (pages_of s im b) f.pages h

  pub blank_block_at : {n : ℕ} {k : Option Kind} {l : ℕ} → BlockFilled s im b n k l 0 → block_at s im b ≡ not_used Free
  blank_block_at f = block_at_good s im b f.good ∙ free_good_block s (pages_of s im b) (λ i h. f.pages.blank i (omega arith) h)

  -- bad blocks are neither free nor used
  pub is_good_good : T (is_good (block_at s im b).state) → T (is_bad s im b) → ⊥
  is_good_good t bad = subst (λ (x : Block). T (is_good x.state)) (block_at_bad s im b bad) t

  pub free_block_filled : T (is_free (block_at s im b).state) → (n : ℕ) (k : Option Kind) (l : ℕ) → BlockFilled s im b n k l 0
  free_block_filled t n k l = record { good = good; pages = pages }
    where
      good : T (is_bad s im b) → ⊥
      good = is_good_good (free_good (block_at s im b).state t)

      pages : Filled s (pages_of s im b) n k l 0
      pages =
          record {
            most = omega arith;
            entry = λ i h. absurd (omega arith);
            number = λ i h. absurd (omega arith);
            kind = λ i h. absurd (omega arith);
            in_range = λ i h. absurd (omega arith);
            block = λ i h. absurd (omega arith);
            offset = λ c i h. absurd (omega arith);
            blank = λ i h k. good_block_free s (pages_of s im b) (subst (λ (x : Block). T (is_free x.state)) (block_at_good s im b good) t) i k;
          }

  pub used_used_pages : 0 < s.pages → T (is_used (block_at s im b).state) → UsedPages s (pages_of s im b) (block_at s im b)
  used_used_pages p t =
      let e : block_at s im b ≡ good_block s (pages_of s im b) = block_at_good s im b (is_good_good (used_good (block_at s im b).state t)) in
      subst (UsedPages s (pages_of s im b)) (sym e) (good_block_used s (pages_of s im b) p (subst (λ (x : Block). T (is_used x.state)) e t))

  pub used_block_filled : 0 < s.pages → T (is_used (block_at s im b).state)
      → BlockFilled s im b (block_at s im b).number (block_at s im b).kind (block_at s im b).logical (block_at s im b).filled
  used_block_filled p t = record { good = is_good_good (used_good (block_at s im b).state t); pages = (used_used_pages p t).filled }

-- ---- blocks that a step leaves alone

module _ (s : Shape) (im im' : Image) where
  pub pages_of_same : (b : ℕ) → ((i : ℕ) → i < s.pages → page_at im (page_no s b i) ≡ page_at im' (page_no s b i)) → pages_of s im b ≡ pages_of s im' b
  unfolding pages_of
  pages_of_same b h =
      ap (λ (read : List Page). λ (i : ℕ). get_or read i Erased)
      (list_below_same s.pages (λ i. page_at im (page_no s b i)) (λ i. page_at im' (page_no s b i)) h)

  pub block_at_same : 2 ≤ s.pages → (b : ℕ) → ((i : ℕ) → i < s.pages → SamePage im im' (page_no s b i)) → block_at s im b ≡ block_at s im' b
  unfolding block_at
  block_at_same p b h =
      let status : is_bad s im b ≡ is_bad s im' b = is_bad_same s b p im im' h in
      let pages : pages_of s im b ≡ pages_of s im' b = pages_of_same b (λ i k. page_at-same im im' (page_no s b i) (h i k)) in
      cc

  pub blocks_of_same : (j : ℕ) → block_at s im j ≡ block_at s im' j → blocks_of s im j ≡ blocks_of s im' j
  blocks_of_same j e =
      elim (lt_or_le j s.blocks) [
        | inl h ↦ blocks_of_at s im j h ∙ e ∙ sym (blocks_of_at s im' j h)
        | inr h ↦ blocks_of_outside s im j h ∙ sym (blocks_of_outside s im' j h)
      ]

module _ (s : Shape) (im : Image) (w : Fits s im) where
  two_pages : 2 ≤ s.pages
  two_pages = w.limits.pages_low

  pub step_block_at : (x : Step) → StepIn s x → (j : ℕ) → j ≢ step_block s x → block_at s (step_done s x im) j ≡ block_at s im j
  step_block_at x g j ne = block_at_same s (step_done s x im) im two_pages j (λ i h. step_other s im w x g j i ne h)

  pub steps_block_at : (xs : List Step) → StepsIn s xs → (j : ℕ) → Apart s j xs → block_at s (steps_done s xs im) j ≡ block_at s im j
  steps_block_at xs g j apart = block_at_same s (steps_done s xs im) im two_pages j (λ i h. steps_other s im w xs g j i apart h)

  -- an erase leaves no mark, and a program without one leaves good blocks good
  pub erase_good : (b : ℕ) → b < s.blocks → T (is_bad s (step_done s (erase b) im) b) → ⊥
  erase_good b hb =
      let im' : Image = step_done s (erase b) im in
      unmarked_good s b two_pages im' (λ i h. status_unmarked (page_spare im' (page_no s b i)) (ap status_in (erase_page s im w b hb i h).spare_are))

  pub program_good : {p : ℕ} {d t : List ℕ} → Programs s p d t → status_in t ≡ 255 → (b : ℕ) → (T (is_bad s im b) → ⊥)
      → T (is_bad s (step_done s (program p d t) im) b) → ⊥
  program_good {p} {d} {t} q e b f u =
      let im' : Image = step_done s (program p d t) im in
      let here : status_in (page_spare im' p) ≡ 255 = ap status_in (program_page s im w q).spare_are ∙ e in
      f (marks_kept s b two_pages im' im (λ i h v.
      elim (dec_eq (page_no s b i) p) [
        | inl z ↦ absurd (status_unmarked (page_spare im' (page_no s b i)) (ap (λ (j : ℕ). status_in (page_spare im' j)) z ∙ here) v)
        | inr ne ↦ subst (λ (x : List ℕ). T (bad_mark x)) (program_other s im w q (page_no s b i) ne).spare_are v
      ]) u)

-- ---- blocks that are erased

module _ (s : Shape) (im : Image) (w : Fits s im) (b : ℕ) (hb : b < s.blocks) where
  pub erase-block_at : block_at s (step_done s (erase b) im) b ≡ not_used Free
  erase-block_at =
      let im' : Image = step_done s (erase b) im in
      block_at_good s im' b (erase_good s im w b hb)
      ∙ free_good_block s (pages_of s im' b) (λ i h. pages_of_at s im' b i h ∙ erase-page_at s im w b hb i h)

  -- a free block stays free
  erase_free : (j : ℕ) → block_at s im j ≡ not_used Free → block_at s (step_done s (erase b) im) j ≡ not_used Free
  erase_free j e =
      elim (dec_eq j b) [
        | inl z ↦ subst (λ (i : ℕ). block_at s (step_done s (erase b) im) i ≡ not_used Free) (sym z) erase-block_at
        | inr ne ↦ step_block_at s im w (erase b) hb j ne ∙ e
      ]

-- the blocks of a list, one after the other
module _ (s : Shape) where
  pub erases_in_lem : (bs : List ℕ) → All (λ b. b < s.blocks) bs → StepsIn s (map erase bs)
  erases_in_lem [] h = tt
  erases_in_lem (b ∷ bs) h = (h.0, erases_in_lem bs h.1)

  module _ (j : ℕ) where
    pub erases_apart : (bs : List ℕ) → All (λ b. j ≢ b) bs → Apart s j (map erase bs)
    erases_apart [] ne = tt
    erases_apart (b ∷ bs) ne = (ne.0, erases_apart bs ne.1)

    erases_free : (bs : List ℕ) (im : Image) → Fits s im → All (λ b. b < s.blocks) bs → block_at s im j ≡ not_used Free
        → block_at s (steps_done s (map erase bs) im) j ≡ not_used Free
    unfolding steps_done
    erases_free [] im w h e = e
    erases_free (b ∷ bs) im w h e = erases_free bs (step_done s (erase b) im) (erase_fits s im w b h.0) h.1 (erase_free s im w b h.0 j e)

    pub erases-block_at : (bs : List ℕ) (im : Image) → Fits s im → All (λ b. b < s.blocks) bs → (All (λ b. j ≢ b) bs → ⊥)
        → block_at s (steps_done s (map erase bs) im) j ≡ not_used Free
    unfolding steps_done
    erases-block_at [] im w h among = absurd (among tt)
    erases-block_at (b ∷ bs) im w h among =
        let im' : Image = step_done s (erase b) im in
        let w' : Fits s im' = erase_fits s im w b h.0 in
        elim (dec_eq j b) [
          | inl z ↦ erases_free bs im' w' h.1 (subst (λ (i : ℕ). block_at s im' i ≡ not_used Free) (sym z) (erase-block_at s im w b h.0))
          | inr ne ↦ erases-block_at bs im' w' h.1 (λ a. among (ne, a))
        ]

-- ---- the next page of a block is programmed

-- what the spare table can hold
pub record Writable (n a : ℕ) : Type 0 where
  pub number_low : 1 ≤ n
  pub number_high : n ≤ number_limit
  pub address : a < 65536

module _ (s : Shape) (im : Image) (w : Fits s im) (b : ℕ) (hb : b < s.blocks) {n : ℕ} {k : Kind} {l m a : ℕ} (f : BlockFilled s im b n (Some k) l m)
    (x : NextPage s k l m a) (e : Writable n a) (d : List ℕ) (hd : length d ≡ 512) where
  after : Image
  after = step_done s (entry_step (page_no s b m) n (kind_byte k) a d) im

  programs : Programs s (page_no s b m) d (spare_bytes n (kind_byte k) a)
  programs = record { page_in = page_no_below s b m hb x.room; bytes_long = hd; spare_long = spare_bytes-length n (kind_byte k) a }

  other : (i : ℕ) → i < s.pages → i ≢ m → SamePage after im (page_no s b i)
  unfolding after
  other i h ne = program_other s im w programs (page_no s b i) (λ same. ne (page_no_same_place s b b i m h x.room same))

  added : PageAdded s (pages_of s im b) (pages_of s after b) m (Entry n k a)
  unfolding after
  added =
      record {
        here = pages_of_at s after b m x.room ∙ page_at_is (program_page s im w programs)
            ∙ page_of-spare_bytes d n k a e.number_low e.number_high e.address;
        others = λ i h ne. pages_of_at s after b i h ∙ page_at-same after im (page_no s b i) (other i h ne) ∙ sym (pages_of_at s im b i h);
      }

  pub program_block_filled : BlockFilled s (step_done s (entry_step (page_no s b m) n (kind_byte k) a d) im) b n (Some k) l (m + 1)
  unfolding after
  program_block_filled =
      record {
        good = program_good s im w programs (spare_bytes_status n (kind_byte k) a) b f.good;
        pages = filled_more s (pages_of s im b) (pages_of s after b) f.pages x added;
      }

  pub program-in_order : in_order s (pages_of s (step_done s (entry_step (page_no s b m) n (kind_byte k) a d) im) b) (m + 1)
      ≡ (in_order s (pages_of s im b) m && eqb (offset_of s a) m)
  unfolding after
  program-in_order = in_order_more s (pages_of s im b) (pages_of s after b) f.pages x added

-- The record of a block whose next page gets number n, kind k and logical page a.
abbrev pub one_more : Shape → Block → ℕ → Kind → ℕ → Block
one_more s x n k a =
    record {
      state = Used;
      kind = Some k;
      number = n;
      logical = block_of s a;
      filled = x.filled + 1;
      ordered = (eqb x.filled 0 || x.ordered) && eqb (offset_of s a) x.filled;
    }

-- number n, kind k and logical page a may be those of the next page of a block with record x: it is free, or they are its own
pub record Joins (s : Shape) (x : Block) (n : ℕ) (k : Kind) (a : ℕ) : Type 0 where
  pub own : T (is_free x.state) ⊎ (T (is_used x.state) × (x.number ≡ n) × (x.kind ≡ Some k) × (x.logical ≡ block_of s a))
  pub room : x.filled < s.pages
  pub in_range : T (in_range s a)
  pub offset : T (is_copy (Some k)) → offset_of s a ≡ x.filled

-- the pages of block b, with record x, are ready for one more
record Ready (s : Shape) (im : Image) (b n : ℕ) (k : Kind) (a : ℕ) (x : Block) : Type 0 where
  filled : BlockFilled s im b n (Some k) (block_of s a) x.filled
  so_far : in_order s (pages_of s im b) x.filled ≡ (eqb x.filled 0 || x.ordered)

module _ (s : Shape) (im : Image) (w : Fits s im) (b : ℕ) (hb : b < s.blocks) {n : ℕ} {k : Kind} {a : ℕ} (e : Writable n a) (d : List ℕ) (hd : length d ≡ 512) where
  ready_free : (x : Block) → block_at s im b ≡ x → T (is_free x.state) → Ready s im b n k a x
  unfolding all_below
  ready_free x is t =
      let t' : T (is_free (block_at s im b).state) = subst (λ (y : Block). T (is_free y.state)) (sym is) t in
      let f : BlockFilled s im b n (Some k) (block_of s a) 0 = free_block_filled s im b t' n (Some k) (block_of s a) in
      let zero : 0 ≡ x.filled = ap (λ (y : Block). y.filled) (sym (blank_block_at s im b f) ∙ is) in
      record {
        filled = subst (BlockFilled s im b n (Some k) (block_of s a)) zero f;
        so_far = subst (λ (m : ℕ). in_order s (pages_of s im b) m ≡ (eqb m 0 || x.ordered)) zero refl;
      }

  ready_used : (x : Block) → block_at s im b ≡ x → T (is_used x.state) → x.number ≡ n → x.kind ≡ Some k → x.logical ≡ block_of s a → Ready s im b n k a x
  ready_used x is t number kind logical =
      let p : 0 < s.pages = omega (arith, two_pages s im w) in
      let t' : T (is_used (block_at s im b).state) = subst (λ (y : Block). T (is_used y.state)) (sym is) t in
      let u : UsedPages s (pages_of s im b) x = subst (UsedPages s (pages_of s im b)) is (used_used_pages s im b p t') in
      let f : BlockFilled s im b x.number x.kind x.logical x.filled =
      record { good = (used_block_filled s im b p t').good; pages = u.filled } in
      record {
        filled =
            subst (λ (l : ℕ). BlockFilled s im b n (Some k) l x.filled) logical
            (subst (λ (j : Option Kind). BlockFilled s im b n j x.logical x.filled) kind
            (subst (λ (j : ℕ). BlockFilled s im b j x.kind x.logical x.filled) number f));
        so_far = sym u.ordered ∙ ap (λ (z : Bool). z || x.ordered) (sym (ne_eqb x.filled 0 (λ z. omega (arith, u.some))));
      }

  pub program-block_at : (x : Block) → block_at s im b ≡ x → Joins s x n k a
      → block_at s (step_done s (entry_step (page_no s b x.filled) n (kind_byte k) a d) im) b ≡ one_more s x n k a
  program-block_at x is j =
      let o : Ready s im b n k a x = ⊎_elim (ready_free x is) (λ own. ready_used x is own.0 own.1 own.2 own.3) j.own in
      let next : NextPage s k (block_of s a) x.filled a = record { room = j.room; in_range = j.in_range; block = refl; offset = j.offset } in
      let after : Image = step_done s (entry_step (page_no s b x.filled) n (kind_byte k) a d) im in
      filled_block_at s after b (program_block_filled s im w b hb o.filled next e d hd) (omega arith)
      ∙ ap (used_with n (Some k) (block_of s a) (x.filled + 1))
      (program-in_order s im w b hb o.filled next e d hd ∙ ap (λ (z : Bool). z && eqb (offset_of s a) x.filled) o.so_far)

-- ---- a block taken, and its pages programmed in order as a copy of logical block l, with the bytes d

-- im' is what the first i of these steps leave of im
pub record Copied (s : Shape) (im : Image) (b n l : ℕ) (d : ℕ → List ℕ) (i : ℕ) (im' : Image) : Type 0 where
  pub fits : Fits s im'
  pub filled : BlockFilled s im' b n (Some Copy) l i
  pub in_order : T (in_order s (pages_of s im' b) i)
  pub bytes : (o : ℕ) → o < i → page_bytes im' (page_no s b o) ≡ d o
  pub others : (j o : ℕ) → j ≢ b → o < s.pages → SamePage im' im (page_no s j o)

module _ (s : Shape) (im : Image) (w : Fits s im) (b : ℕ) (hb : b < s.blocks) (free : T (is_free (block_at s im b).state))
    {n : ℕ} (low : 1 ≤ n) (high : n ≤ number_limit) {l : ℕ} (hl : l < s.logical) (few : s.logical ≤ s.blocks)
    (d : ℕ → List ℕ) (long : (o : ℕ) → o < s.pages → length (d o) ≡ 512) where
  one_copied : (i : ℕ) → i < s.pages → (im' : Image) → Copied s im b n l d i im' → Copied s im b n l d (i + 1) (step_done s (copy_step s b n l d i) im')
  one_copied i h im' c =
      let a : ℕ = logical_page s l i in
      let in_block_lem : block_of s a ≡ l = logical_page_block s l i h in
      let in_place : offset_of s a ≡ i = logical_page_offset s l i h in
      let range : T (in_range s a) = block_in_range s w.limits a (subst (λ (k : ℕ). k < s.logical) (sym in_block_lem) hl) in
      let small : a < 65536 = in_range_small s w.limits few a range in
      let e : Writable n a = record { number_low = low; number_high = high; address = small } in
      let x : NextPage s Copy l i a = record { room = h; in_range = range; block = in_block_lem; offset = λ k. in_place } in
      let g : Programs s (page_no s b i) (d i) (spare_bytes n (kind_byte Copy) a) =
      record { page_in = page_no_below s b i hb h; bytes_long = long i h; spare_long = spare_bytes-length n (kind_byte Copy) a } in
      let after : Image = step_done s (copy_step s b n l d i) im' in
      let other : (j o : ℕ) → page_no s j o ≢ page_no s b i → SamePage after im' (page_no s j o) = λ j o. program_other s im' c.fits g (page_no s j o) in
      let order = program-in_order s im' c.fits b hb c.filled x e (d i) (long i h) in
      record {
        fits = program_fits s im' c.fits g;
        filled = program_block_filled s im' c.fits b hb c.filled x e (d i) (long i h);
        in_order = subst T (sym order) (and_i (in_order s (pages_of s im' b) i) (eqb (offset_of s a) i) c.in_order (eq→eqb _ _ in_place));
        bytes = λ o k. elim (dec_eq o i) [
          | inl z ↦ subst (λ (j : ℕ). page_bytes after (page_no s b j) ≡ d j) (sym z) (program_page s im' c.fits g).bytes_are
          | inr z ↦ (other b o (λ same. z (page_no_same_place s b b o i (omega arith) h same))).bytes_are ∙ c.bytes o (omega arith)
        ];
        others = λ j o ne k. same_page_then (other j o (λ same. ne (page_no_same_block s j b o i k h same))) (c.others j o ne k);
      }

  pub copies_copied : (i : ℕ) → i ≤ s.pages → Copied s im b n l d i (steps_done s (list_below i (copy_step s b n l d)) im)
  unfolding steps_done list_below all_below
  copies_copied zero h =
      record {
        fits = w;
        filled = free_block_filled s im b free n (Some Copy) l;
        in_order = tt;
        bytes = λ o k. absurd (omega arith);
        others = λ j o ne k. record { bytes_are = refl; spare_are = refl };
      }
  copies_copied (suc i) h =
      let steps : List Step = list_below i (copy_step s b n l d) in
      let last : Step = copy_step s b n l d i in
      let before : Image = steps_done s steps im in
      subst (Copied s im b n l d (suc i)) (sym (steps_done-append s steps (last ∷ []) im))
      (subst (λ (m : ℕ). Copied s im b n l d m (step_done s last before)) (add-one i) (one_copied i h before (copies_copied i (omega arith))))

  -- the record of the block after the first i pages, 1 to P
  pub copies-block_at : (i : ℕ) → 0 < i → i ≤ s.pages
      → block_at s (steps_done s (list_below i (copy_step s b n l d)) im) b ≡ used_with n (Some Copy) l i true
  copies-block_at i some h =
      let im' : Image = steps_done s (list_below i (copy_step s b n l d)) im in
      let c : Copied s im b n l d i im' = copies_copied i h in
      filled_block_at s im' b c.filled some ∙ ap (used_with n (Some Copy) l i) (is_true (in_order s (pages_of s im' b) i) c.in_order)

-- ---- the pages of an image, by the record of their block

-- page p, the page i of a used block with record x: the spare table's bytes, and W2 to W4
pub record EntryAt (s : Shape) (im : Image) (x : Block) (p i : ℕ) : Type 0 where
  pub table : InTable (page_spare im p)
  pub entry : page_at im p ≡ Entry x.number (kind_for (kind_in (page_spare im p))) (address_in (page_spare im p))
  pub number : number_in (page_spare im p) ≡ x.number
  pub kind : x.kind ≡ Some (kind_for (kind_in (page_spare im p)))
  pub in_range : T (in_range s (address_in (page_spare im p)))
  pub block : block_of s (address_in (page_spare im p)) ≡ x.logical
  pub offset : T (is_copy x.kind) → offset_of s (address_in (page_spare im p)) ≡ i

module _ (s : Shape) (im : Image) (b i : ℕ) (h : i < s.pages) where
  pub free_page : T (is_free (block_at s im b).state) → page_at im (page_no s b i) ≡ Erased
  free_page t = sym (pages_of_at s im b i h) ∙ (free_block_filled s im b t 0 None 0).pages.blank i (omega arith) h

  module _ (t : T (is_used (block_at s im b).state)) where
    used : UsedPages s (pages_of s im b) (block_at s im b)
    used = used_used_pages s im b (omega arith) t

    pub used_blank : (block_at s im b).filled ≤ i → page_at im (page_no s b i) ≡ Erased
    used_blank k = sym (pages_of_at s im b i h) ∙ used.filled.blank i k h

    module _ (k : i < (block_at s im b).filled) where
      spare : List ℕ
      spare = page_spare im (page_no s b i)

      here : pages_of s im b i ≡ page_at im (page_no s b i)
      here = pages_of_at s im b i h

      by_spare : InTable spare × (page_at im (page_no s b i) ≡ Entry (number_in spare) (kind_for (kind_in spare)) (address_in spare))
      unfolding spare page_at
      by_spare = page_of-is_entry (page_bytes im (page_no s b i)) spare (subst (λ (q : Page). T (is_entry q)) here (used.filled.entry i k))

      -- page i of the record is what the spare bytes say
      same : pages_of s im b i ≡ Entry (number_in spare) (kind_for (kind_in spare)) (address_in spare)
      same = here ∙ by_spare.1

      same_number : number_in spare ≡ (block_at s im b).number
      same_number = sym (ap number_of same) ∙ used.filled.number i k

      same_address : address_of (pages_of s im b i) ≡ address_in spare
      same_address = ap address_of same

      pub used_entry : EntryAt s im (block_at s im b) (page_no s b i) i
      unfolding spare
      used_entry =
          record {
            table = by_spare.0;
            entry = by_spare.1 ∙ ap (λ (n : ℕ). Entry n (kind_for (kind_in spare)) (address_in spare)) same_number;
            number = same_number;
            kind = sym (used.filled.kind i k) ∙ ap kind_of same;
            in_range = subst (λ (a : ℕ). T (in_range s a)) same_address (used.filled.in_range i k);
            block = subst (λ (a : ℕ). block_of s a ≡ (block_at s im b).logical) same_address (used.filled.block i k);
            offset = λ c. subst (λ (a : ℕ). offset_of s a ≡ i) same_address (used.filled.offset c i k);
          }

      -- page i of an ordered block has offset i, if it is programmed
      pub ordered_offset : T (block_at s im b).ordered → offset_of s (address_in (page_spare im (page_no s b i))) ≡ i
      unfolding spare
      ordered_offset o =
          let all : T (in_order s (pages_of s im b) (block_at s im b).filled) = subst T used.ordered o in
          let here = all_below_at (block_at s im b).filled (λ j. eqb (offset_of s (address_of (pages_of s im b j))) j) all i k in
          subst (λ (a : ℕ). offset_of s a ≡ i) same_address (eqb→eq _ i here)

module _ (s : Shape) (im : Image) (p : 0 < s.pages) (b : ℕ) (t : T (is_used (block_at s im b).state)) where
  first_entry : EntryAt s im (block_at s im b) (page_no s b 0) 0
  first_entry = used_entry s im b 0 p t (used_used_pages s im b p t).some

  pub used_number : (1 ≤ (block_at s im b).number) × ((block_at s im b).number ≤ number_limit)
  used_number = let e = first_entry in (omega (arith, e.number, e.table.number_low), omega (arith, e.number, e.table.number_high))
