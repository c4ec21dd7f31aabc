-- The records of an image: what each has, whatever the bytes.
use mathlib.Core.Path.{◌≡◌, refl, sym, subst, ◌∙◌}
use mathlib.Core.Logic.{◌⊎◌, inl, inr}
use mathlib.Core.List.{List, [], ◌∷◌}
use mathlib.Core.Bool.{Bool, not, ◌&&◌}
use Prim.Native.Nat.{ℕ, ◌*◌, ◌≤◌, ◌<◌}
use native.Mathlib.Omega.{arith}
use native.Mathlib.Nat.{div-lt_iff_lt-mul}
use lib.ListN.{get_or-eq_default}
use lib.Dec.{T, ltb, eqb, ltb→lt, T_not}
use borrow.Author.Tests.{lt-ltb}
use Rattle.rules.specs.declared.shape.Shape.{Shape}
use Rattle.rules.specs.declared.page.Page.{Page}
use Rattle.rules.specs.declared.page.Page.TheVariants.{Erased}
use Rattle.rules.specs.declared.block.State.TheVariants.{Bad, Free, Ill}
use Rattle.rules.specs.declared.block.Block.{Block}
use Rattle.rules.specs.Below.{all_below, list_below}
use Rattle.rules.specs.Shape.{most, block_of, in_range, page_no}
use Rattle.rules.specs.Page.{Image, page_bytes, page_spare, page_of, page_at, is_erased, is_entry, number_of, kind_of, address_of, same_kind}
use Rattle.rules.specs.WellFormed.{naming, Pages, W1, W2, W3, W4, W1to4, not_used, all_erased, used_block, good_block, is_bad, pages_of, block_at, blocks_of, is_used, is_free}
use Rattle.laws.proofs.Tests.{tcase, is_true, is_false, and_l, or_e, lt_or_le, chain_each}
use Rattle.laws.proofs.Below.{all_below_at, all_below_all, count_below-most, list_below-length, list_below_at}
use Rattle.laws.proofs.Roles.{Records}
use Rattle.laws.proofs.Pages.{page_of-is_entry}

-- ---- the records and the pages of an image, by number

module _ (s : Shape) (im : Image) where
  pub blocks_of_at : (j : ℕ) → j < s.blocks → blocks_of s im j ≡ block_at s im j
  unfolding blocks_of
  blocks_of_at j h = list_below_at s.blocks (block_at s im) j (not_used Bad) h

  pub blocks_of_outside : (j : ℕ) → s.blocks ≤ j → blocks_of s im j ≡ not_used Bad
  unfolding blocks_of
  blocks_of_outside j h =
      get_or-eq_default (list_below s.blocks (block_at s im)) (not_used Bad) (omega (arith, list_below-length s.blocks (block_at s im)))

  pub pages_of_at : (b i : ℕ) → i < s.pages → pages_of s im b i ≡ page_at im (page_no s b i)
  unfolding pages_of
  pages_of_at b i h = list_below_at s.pages (λ k. page_at im (page_no s b k)) i Erased h

-- ---- a used block

module _ (s : Shape) (g : Pages) where
  -- what holds of the record of pages g, if it is free, ill or used
  pub good_block_cases : (Q : Block → Type 0) → (T (all_erased s g) → Q (not_used Free)) → Q (not_used Ill)
      → ((T (all_erased s g) → ⊥) → T (W1to4 s g) → Q (used_block s g)) → Q (good_block s g)
  unfolding good_block
  good_block_cases Q free ill used =
      elim (tcase (all_erased s g)) [
        | inl t ↦ rw (is_true (all_erased s g) t) (free t)
        | inr t ↦ rw (is_false (all_erased s g) (T_not (all_erased s g) t)) (elim (tcase (W1to4 s g)) [
          | inl u ↦ rw (is_true (W1to4 s g) u) (used (T_not (all_erased s g) t) u)
          | inr u ↦ rw (is_false (W1to4 s g) (T_not (W1to4 s g) u)) ill
        ])
      ]

  abbrev all : (Shape → Pages → ℕ → Bool) → Bool
  all rule = all_below s.pages (rule s g)

  -- W1 to W4, rule by rule
  pub rules_e : T (W1to4 s g) → T (all_below s.pages (W1 s g)) × T (all_below s.pages (W2 s g)) × T (all_below s.pages (W3 s g))
      × T (all_below s.pages (W4 s g))
  unfolding W1to4
  rules_e t = let (t₁, (t₂, (t₃, (t₄, _)))) = chain_each (all W1) (all W2 ∷ all W3 ∷ all W4 ∷ []) t in (t₁, t₂, t₃, t₄)

  -- W1: before a page that is programmed there is no erased one
  pub W1_before : T (W1to4 s g) → (i j : ℕ) → i < s.pages → j < i → (T (is_erased (g i)) → ⊥) → T (is_erased (g j)) → ⊥
  unfolding W1
  W1_before t i j h k f u =
      elim (or_e (is_erased (g i)) (all_below i (λ j. not (is_erased (g j)))) (all_below_at s.pages (W1 s g) (rules_e t).0 i h)) [
        | inl e ↦ f e
        | inr a ↦ T_not (is_erased (g j)) (all_below_at i (λ j. not (is_erased (g j))) a j k) u
      ]

  -- its first page is programmed
  pub first_programmed : (T (all_erased s g) → ⊥) → T (W1to4 s g) → T (is_erased (naming g)) → ⊥
  first_programmed f t e = f (all_below_all s.pages (λ i. is_erased (g i)) erased_at)
    where
      erased_at : (i : ℕ) → i < s.pages → T (is_erased (g i))
      erased_at i h =
          elim (tcase (is_erased (g i))) [
            | inl u ↦ u
            | inr u ↦ elim (lt_or_le 0 i) [
              | inl k ↦ absurd (W1_before t i 0 h k (T_not (is_erased (g i)) u) e)
              | inr k ↦ let z : i ≡ 0 = omega arith in subst (λ (j : ℕ). T (is_erased (g j))) (sym z) e
            ]
          ]

  -- W2: a programmed page has bytes of the table
  pub W2_entry : (i : ℕ) → (T (is_erased (g i)) → ⊥) → T (W2 s g i) → T (is_entry (g i))
  unfolding W2
  W2_entry i f t =
      let same : Bool = is_entry (g i) && same_kind (kind_of (g i)) (kind_of (naming g)) in
      let number : Bool = eqb (number_of (g i)) (number_of (naming g)) in
      elim (or_e (is_erased (g i)) (same && number) t) [
        | inl e ↦ absurd (f e)
        | inr e ↦ and_l (is_entry (g i)) (same_kind (kind_of (g i)) (kind_of (naming g))) (and_l same number e)
      ]

  first_entry : 0 < s.pages → (T (all_erased s g) → ⊥) → T (W1to4 s g) → T (is_entry (naming g))
  first_entry p f t = W2_entry 0 (first_programmed f t) (all_below_at s.pages (W2 s g) (rules_e t).1 0 p)

  pub logical_in_range : 0 < s.pages → (T (all_erased s g) → ⊥) → T (W1to4 s g) → block_of s (address_of (naming g)) < s.logical
  unfolding W3
  logical_in_range p f t =
      elim (or_e (is_erased (naming g)) (in_range s (address_of (naming g)) && eqb (block_of s (address_of (naming g))) (block_of s (address_of (naming g))))
      (all_below_at s.pages (W3 s g) (rules_e t).2 0 p)) [
        | inl e ↦ absurd (first_programmed f t e)
        | inr a ↦
            (div-lt_iff_lt-mul p).1
            (ltb→lt (address_of (naming g)) (s.logical * s.pages)
            (and_l (in_range s (address_of (naming g))) (eqb (block_of s (address_of (naming g))) (block_of s (address_of (naming g)))) a))
      ]

-- ---- the records of an image

module _ (s : Shape) (im : Image) where
  pub block_at_bad : (b : ℕ) → T (is_bad s im b) → block_at s im b ≡ not_used Bad
  unfolding block_at
  block_at_bad b t = rw (is_true (is_bad s im b) t)

  pub block_at_good : (b : ℕ) → (T (is_bad s im b) → ⊥) → block_at s im b ≡ good_block s (pages_of s im b)
  unfolding block_at
  block_at_good b f = rw (is_false (is_bad s im b) f)

  -- what holds of a bad block and of a good one
  block_at_cases : (Q : Block → Type 0) (b : ℕ) → Q (not_used Bad) → Q (good_block s (pages_of s im b)) → Q (block_at s im b)
  block_at_cases Q b p q =
      elim (tcase (is_bad s im b)) [
        | inl t ↦ rw (block_at_bad b t) p
        | inr t ↦ rw (block_at_good b (T_not (is_bad s im b) t)) q
      ]

  -- a used block has a number above 0, any other has 0
  pub block_at_number : 0 < s.pages → (b : ℕ) → is_used (block_at s im b).state ≡ ltb 0 (block_at s im b).number
  unfolding page_at
  block_at_number p b =
      block_at_cases (λ x. is_used x.state ≡ ltb 0 x.number) b refl
      (good_block_cases s g (λ x. is_used x.state ≡ ltb 0 x.number) (λ t. refl) refl (λ f t. sym (lt-ltb 0 (number_of (naming g)) (above f t))))
    where
      g : Pages
      g = pages_of s im b

      above : (T (all_erased s g) → ⊥) → T (W1to4 s g) → 0 < number_of (naming g)
      above f t =
          let d : List ℕ = page_bytes im (page_no s b 0) in
          let m : List ℕ = page_spare im (page_no s b 0) in
          let here : naming g ≡ page_of d m = pages_of_at s im b 0 p in
          let (table, e) = page_of-is_entry d m (subst (λ (q : Page). T (is_entry q)) here (first_entry s g p f t)) in
          subst (λ (q : Page). 0 < number_of q) (sym (here ∙ e)) table.number_low

  -- the logical block of any of them is 0 or below L
  pub block_at_logical : 0 < s.pages → (b : ℕ) → ((block_at s im b).logical ≡ 0) ⊎ ((block_at s im b).logical < s.logical)
  block_at_logical p b =
      block_at_cases (λ x. (x.logical ≡ 0) ⊎ (x.logical < s.logical)) b (inl refl)
      (good_block_cases s (pages_of s im b) (λ x. (x.logical ≡ 0) ⊎ (x.logical < s.logical)) (λ t. inl refl) (inl refl)
      (λ f t. inr (logical_in_range s (pages_of s im b) p f t)))

  pub blocks_of_records : 0 < s.pages → s.blocks ≤ most → Records s (blocks_of s im)
  blocks_of_records p few =
      record { few = few; outside = blocks_of_outside s im; free = λ j. (cases j).2; in_range = λ j. (cases j).0; fits = λ j. (cases j).1 }
    where
      Q : Block → Type 0
      Q x = (T (is_used x.state) → x.logical < s.logical) × (x.filled ≤ s.pages) × (T (is_free x.state) → x ≡ not_used Free)

      good : (b : ℕ) → Q (good_block s (pages_of s im b))
      good b =
          let g : Pages = pages_of s im b in
          good_block_cases s g Q (λ t. ((λ u. absurd u), omega arith, (λ u. refl))) ((λ u. absurd u), omega arith, (λ u. absurd u))
          (λ f t. ((λ u. logical_in_range s g p f t), count_below-most s.pages (λ i. not (is_erased (g i))), (λ u. absurd u)))

      bad : Q (not_used Bad)
      bad = ((λ u. absurd u), omega arith, (λ u. absurd u))

      cases : (j : ℕ) → Q (blocks_of s im j)
      cases j =
          elim (lt_or_le j s.blocks) [
            | inl h ↦ rw (blocks_of_at s im j h) (block_at_cases Q j bad (good j))
            | inr h ↦ rw (blocks_of_outside s im j h) bad
          ]
