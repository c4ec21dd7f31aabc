-- The content of a logical page, where pages stay, where a log block gets one more, and where it is all in the data block.
use mathlib.Core.Path.{◌≡◌, refl, sym, ap, ◌∙◌}
use mathlib.Core.Logic.{◌≢◌, ◌⊎◌, inl, inr}
use mathlib.Core.Bool.{cond}
use mathlib.Core.List.{List}
use Prim.Native.Nat.{ℕ, zero, suc, ◌<◌}
use native.Mathlib.Omega.{arith}
use lib.ListN.{length, replicate, length-replicate}
use lib.Dec.{T_not, eqb}
use borrow.Author.Tests.{eq-eqb, ne_eqb}
use Rattle.std.specs.Prelude.{Option, Some, None}
use Rattle.rules.specs.declared.shape.Shape.{Shape}
use Rattle.rules.specs.Below.{none, is_none}
use Rattle.rules.specs.Spare.{address_in}
use Rattle.rules.specs.Shape.{page_no, block_of, offset_of}
use Rattle.rules.specs.Page.{Image, page_bytes, page_spare}
use Rattle.rules.specs.WellFormed.{Blocks, data_block, live_log}
use Rattle.rules.specs.Content.{newest, in_log, in_data, or_else, holder, bytes_at, content}
use Rattle.laws.proofs.Tests.{tcase, is_true, is_false, cond_yes, cond_no, dec_eq, eq→eqb, ne→eqb}

-- the first n pages of block b are the same in both images
abbrev pub SamePages : Shape → Image → Image → ℕ → ℕ → Type 0
SamePages s im im' b n =
    (i : ℕ) → i < n → (page_bytes im' (page_no s b i) ≡ page_bytes im (page_no s b i)) × (page_spare im' (page_no s b i) ≡ page_spare im (page_no s b i))

-- the offset that page i of block b says
abbrev pub offset_at : Shape → Image → ℕ → ℕ → ℕ
offset_at s im b i = offset_of s (address_in (page_spare im (page_no s b i)))

-- ---- the newest copy among the first n pages of a block

-- what it can be
data Among (s : Shape) (b n : ℕ) : Option ℕ → Type 0 where
  among_at : (i : ℕ) → i < n → Among s b n (Some (page_no s b i))
  among_none : Among s b n None

among_more : (s : Shape) (b n : ℕ) (p : Option ℕ) → Among s b n p → Among s b (suc n) p
among_more s b n (Some p) (among_at i h) = among_at i (omega arith)
among_more s b n None among_none = among_none

newest_among : (s : Shape) (im : Image) (b o n : ℕ) → Among s b n (newest s im b o n)
unfolding newest
newest_among s im b o zero = among_none
newest_among s im b o (suc n) =
    elim (tcase (eqb (offset_at s im b n) o)) [
      | inl t ↦ rw (is_true (eqb (offset_at s im b n) o) t) (among_at n (omega arith))
      | inr t ↦ rw (is_false (eqb (offset_at s im b n) o) (T_not (eqb (offset_at s im b n) o) t))
          (among_more s b n (newest s im b o n) (newest_among s im b o n))
    ]

newest-zero : (s : Shape) (im : Image) (b o : ℕ) → newest s im b o 0 ≡ None
unfolding newest
newest-zero s im b o = refl

newest-same : (s : Shape) (im im' : Image) (b o n : ℕ) → SamePages s im im' b n → newest s im' b o n ≡ newest s im b o n
unfolding newest
newest-same s im im' b o zero h = refl
newest-same s im im' b o (suc n) h =
    rw ((h n (omega arith)).1, newest-same s im im' b o n (λ i k. h i (omega arith))) refl

newest_next : (s : Shape) (im : Image) (b o n : ℕ)
    → newest s im b o (suc n) ≡ cond (eqb (offset_at s im b n) o) (Some (page_no s b n)) (newest s im b o n)
unfolding newest
newest_next s im b o n = refl

-- where page i has offset i, it is page o
newest_ordered : (s : Shape) (im : Image) (b o n : ℕ) → ((i : ℕ) → i < n → offset_at s im b i ≡ i) → o < n → newest s im b o n ≡ Some (page_no s b o)
unfolding newest
newest_ordered s im b o zero f h = absurd (omega arith)
newest_ordered s im b o (suc n) f h =
    elim (dec_eq n o) [
      | inl e ↦ rw (eq-eqb (offset_at s im b n) o (f n (omega arith) ∙ e), e) refl
      | inr e ↦
          rw (ne_eqb (offset_at s im b n) o (λ q. e (sym (f n (omega arith)) ∙ q)))
          (newest_ordered s im b o n (λ i k. f i (omega arith)) (omega arith))
    ]

-- ---- the data block's page

module _ (s : Shape) (c : Blocks) (a : ℕ) where
  abbrev own : ℕ
  own = data_block s c (block_of s a)

  in_data_none : own ≡ none → in_data s c a ≡ None
  unfolding in_data
  in_data_none e = cond_yes (is_none own) None (Some (page_no s own (offset_of s a))) (eq→eqb own none e)

  in_data_some : own ≢ none → in_data s c a ≡ Some (page_no s own (offset_of s a))
  unfolding in_data
  in_data_some n = cond_no (is_none own) None (Some (page_no s own (offset_of s a))) (ne→eqb own none n)

-- ---- the content

module _ (s : Shape) (a : ℕ) (low : offset_of s a < s.pages) where
  abbrev l : ℕ
  l = block_of s a

  abbrev o : ℕ
  o = offset_of s a

  -- the bytes of the newest copy in the first n pages of b, else of the data block's page
  abbrev from : Image → Blocks → ℕ → ℕ → List ℕ
  from im c b n = bytes_at im (or_else (newest s im b o n) (in_data s c a))

  content_from : (im : Image) (c : Blocks) → content s im c a ≡ from im c (live_log s c l) (c (live_log s c l)).filled
  unfolding content holder in_log
  content_from im c = refl

  data_bytes : (im im' : Image) (c c' : Blocks) → data_block s c' l ≡ data_block s c l
      → (data_block s c l ≢ none → SamePages s im im' (data_block s c l) s.pages)
      → bytes_at im' (in_data s c' a) ≡ bytes_at im (in_data s c a)
  unfolding in_data
  data_bytes im im' c c' e same =
      ap (λ (d : ℕ). bytes_at im' (cond (is_none d) None (Some (page_no s d o)))) e
      ∙ elim (dec_eq (data_block s c l) none) [
        | inl q ↦ rw (is_true (is_none (data_block s c l)) (eq→eqb (data_block s c l) none q)) refl
        | inr q ↦ rw (is_false (is_none (data_block s c l)) (ne→eqb (data_block s c l) none q)) (same q o low).0
      ]

  from_same : (im im' : Image) (c c' : Blocks) (b n : ℕ) → SamePages s im im' b n → data_block s c' l ≡ data_block s c l
      → (data_block s c l ≢ none → SamePages s im im' (data_block s c l) s.pages) → from im' c' b n ≡ from im c b n
  from_same im im' c c' b n same e d =
      ap (λ (p : Option ℕ). bytes_at im' (or_else p (in_data s c' a))) (newest-same s im im' b o n same)
      ∙ go (newest s im b o n) (newest_among s im b o n)
    where
      go : (p : Option ℕ) → Among s b n p → bytes_at im' (or_else p (in_data s c' a)) ≡ bytes_at im (or_else p (in_data s c a))
      go (Some p) (among_at i h) = (same i h).0
      go None among_none = data_bytes im im' c c' e d

  -- the blocks of l and their pages stay
  pub content_same : (im im' : Image) (c c' : Blocks) (b n : ℕ) → live_log s c l ≡ b → live_log s c' l ≡ b → (c b).filled ≡ n → (c' b).filled ≡ n
      → SamePages s im im' b n
      → data_block s c' l ≡ data_block s c l → (data_block s c l ≢ none → SamePages s im im' (data_block s c l) s.pages)
      → content s im' c' a ≡ content s im c a
  content_same im im' c c' b n e e' f f' same d same_d =
      content_from im' c' ∙ rw (e', f') (from_same im im' c c' b n same d same_d ∙ sym (content_from im c ∙ rw (e, f) refl))

  -- with no live log block: the data block's page
  pub content_data : (im : Image) (c : Blocks) → (c (live_log s c l)).filled ≡ 0 → data_block s c l ≢ none
      → content s im c a ≡ page_bytes im (page_no s (data_block s c l) (offset_of s a))
  content_data im c z n = content_from im c ∙ rw (z, newest-zero s im (live_log s c l) o, in_data_some s c a n) refl

  -- with neither: 512 of 255
  pub content_blank : (im : Image) (c : Blocks) → (c (live_log s c l)).filled ≡ 0 → data_block s c l ≡ none → content s im c a ≡ replicate 512 255
  content_blank im c z n = content_from im c ∙ rw (z, newest-zero s im (live_log s c l) o, in_data_none s c a n) refl

  -- ---- a page more in the log block

  module _ (im im' : Image) (c c' : Blocks) (b n : ℕ)
      (before : ((c (live_log s c l)).filled ≡ n) × ((live_log s c l ≡ b) ⊎ (n ≡ 0))) (same : SamePages s im im' b n) where
    -- the content before, with b for the log block
    content-old : content s im c a ≡ from im c b n
    content-old =
        content_from im c ∙ rw before.0 (elim before.1 [
          | inl e ↦ rw e refl
          | inr z ↦ rw (z, newest-zero s im (live_log s c l) o, newest-zero s im b o) refl
        ])

    -- it stays the live log block
    pub content-append : live_log s c' l ≡ b → (c' b).filled ≡ suc n → data_block s c' l ≡ data_block s c l
        → (data_block s c l ≢ none → SamePages s im im' (data_block s c l) s.pages)
        → content s im' c' a ≡ cond (eqb (offset_at s im' b n) (offset_of s a)) (page_bytes im' (page_no s b n)) (content s im c a)
    content-append e f d same_d =
        content_from im' c' ∙ rw (e, f, newest_next s im' b o n) (elim (tcase (eqb (offset_at s im' b n) o)) [
          | inl t ↦ rw (is_true (eqb (offset_at s im' b n) o) t) refl
          | inr t ↦ rw (is_false (eqb (offset_at s im' b n) o) (T_not (eqb (offset_at s im' b n) o) t))
              (from_same im im' c c' b n same d same_d ∙ sym content-old)
        ])

    -- it is complete, and the data block from now on
    pub content_fill : (c' (live_log s c' l)).filled ≡ 0 → data_block s c' l ≡ b → b ≢ none → suc n ≡ s.pages
        → ((i : ℕ) → i < s.pages → offset_at s im' b i ≡ i)
        → content s im' c' a ≡ cond (eqb (offset_at s im' b n) (offset_of s a)) (page_bytes im' (page_no s b n)) (content s im c a)
    content_fill z e nn full order =
        content_data im' c' z (λ q. nn (sym e ∙ q)) ∙ ap (λ (d : ℕ). page_bytes im' (page_no s d o)) e
        ∙ elim (dec_eq n o) [
          | inl q ↦ rw (eq-eqb (offset_at s im' b n) o (order n (omega arith) ∙ q)) (ap (λ (i : ℕ). page_bytes im' (page_no s b i)) (sym q))
          | inr q ↦
              rw (ne_eqb (offset_at s im' b n) o (λ y. q (sym (order n (omega arith)) ∙ y)))
              ((same o (omega arith)).0 ∙ sym (content-old
              ∙ ap (λ (p : Option ℕ). bytes_at im (or_else p (in_data s c a))) (newest_ordered s im b o n old (omega arith))))
        ]
      where
        old : (i : ℕ) → i < n → offset_at s im b i ≡ i
        old i h = ap (λ (t : List ℕ). offset_of s (address_in t)) (sym (same i h).1) ∙ order i (omega arith)

  -- ---- its length

  -- a content has 512 bytes, where the pages of the blocks of l have
  pub content-length : (im : Image) (c : Blocks)
      → ((i : ℕ) → i < (c (live_log s c l)).filled → length (page_bytes im (page_no s (live_log s c l) i)) ≡ 512)
      → (data_block s c l ≢ none → length (page_bytes im (page_no s (data_block s c l) (offset_of s a))) ≡ 512) → length (content s im c a) ≡ 512
  content-length im c f g =
      ap length (content_from im c) ∙ go (newest s im (live_log s c l) o (c (live_log s c l)).filled)
      (newest_among s im (live_log s c l) o (c (live_log s c l)).filled)
    where
      go : (p : Option ℕ) → Among s (live_log s c l) (c (live_log s c l)).filled p → length (bytes_at im (or_else p (in_data s c a))) ≡ 512
      go (Some p) (among_at i h) = f i h
      go None among_none =
          elim (dec_eq (data_block s c l) none) [
            | inl q ↦ rw (in_data_none s c a q) (length-replicate {A = ℕ} 512 255)
            | inr q ↦ rw (in_data_some s c a q) (g q)
          ]
