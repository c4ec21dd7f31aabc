-- Laws of the shape of a card: its limits, the numbers of its pages, and logical pages.
use mathlib.Core.Path.{◌≡◌, sym, ap, ◌∙◌}
use mathlib.Core.Bool.{Bool}
use mathlib.Core.Logic.{◌≢◌, ◌⊎◌, inl, inr, ⊎_elim}
use mathlib.Core.List.{List, [], ◌∷◌}
use Prim.Native.Nat.{ℕ, ◌+◌, ◌*◌, ◌/◌, ◌%◌, ◌≤◌, ◌<◌}
use native.Mathlib.Nat.{div-eq_of_lt, mod-eq_of_lt, mul-add-div_right, mul-add-mod_self_right, div-add-mod', div-lt_iff_lt-mul, mod-lt, mul-le-mul_right, add-zero}
use native.Mathlib.Omega.{arith}
use lib.Dec.{T, leb, eqb, leb→le, le→leb, ltb→lt, lt→ltb, eqb→eq}
use Rattle.rules.specs.declared.shape.Shape.{Shape}
use Rattle.rules.specs.Shape.{most, within_limits, page_no, block_of, offset_of, logical_page, in_range}
use Rattle.rules.specs.Facts.{Limits, Within}
use Rattle.rules.proofs.Sizes.{pages_most, block_within, page_within}
use Rattle.laws.proofs.Tests.{chain_each, each_chain, lt_or_le, eq→eqb}

-- ---- within_limits

-- its tests but the first
tests : Shape → ℕ → ℕ → List Bool
tests s bytes spares =
    leb s.pages 32 ∷ leb 3 s.blocks ∷ leb s.blocks most ∷ leb 1 s.logical ∷ leb 1 s.logs
    ∷ eqb bytes (s.blocks * s.pages * 512)
    ∷ eqb spares (s.blocks * s.pages * 16)
    ∷ []

module _ (s : Shape) (bytes spares : ℕ) where
  pub within_within_limits : Within s bytes spares → T (within_limits s bytes spares)
  unfolding within_limits tests
  within_within_limits w =
      let l = w.limits in
      each_chain (leb 2 s.pages) (tests s bytes spares)
      (le→leb _ _ l.pages_low) (
        le→leb _ _ l.pages_high,
        (
          le→leb _ _ l.blocks_low,
          (
            le→leb _ _ l.blocks_high,
            (
              le→leb _ _ l.logical_low,
              (
                le→leb _ _ l.logs_low,
                (eq→eqb _ _ w.bytes_long, (eq→eqb _ _ w.spares_long, tt)),
              ),
            ),
          ),
        ),
      )

  pub within_limits_within : T (within_limits s bytes spares) → Within s bytes spares
  unfolding within_limits tests
  within_limits_within t =
      let e = chain_each (leb 2 s.pages) (tests s bytes spares) t in
      let f = e.1.1.1 in
      let g = f.1.1 in
      record {
        limits = record {
          pages_low = leb→le _ _ e.0;
          pages_high = leb→le _ _ e.1.0;
          blocks_low = leb→le _ _ e.1.1.0;
          blocks_high = leb→le _ _ f.0;
          logical_low = leb→le _ _ f.1.0;
          logs_low = leb→le _ _ g.0;
        };
        bytes_long = eqb→eq _ _ g.1.0;
        spares_long = eqb→eq _ _ g.1.1.0;
      }

-- ---- page numbers

positive : {s : Shape} → Limits s → 0 < s.pages
positive l = omega arith

module _ (s : Shape) where
  pub page_no_below : (b i : ℕ) → b < s.blocks → i < s.pages → page_no s b i < s.blocks * s.pages
  page_no_below b i hb hi = page_within hb hi

  pub page_no_block : (b i : ℕ) → i < s.pages → page_no s b i / s.pages ≡ b
  page_no_block b i h = mul-add-div_right (omega arith) b i ∙ ap (λ (k : ℕ). b + k) (div-eq_of_lt h) ∙ add-zero b

  pub page_no_place : (b i : ℕ) → i < s.pages → page_no s b i % s.pages ≡ i
  page_no_place b i h = mul-add-mod_self_right b s.pages i ∙ mod-eq_of_lt h

  -- each page number is that of one block and one place
  pub page_no_of : (p : ℕ) → page_no s (p / s.pages) (p % s.pages) ≡ p
  page_no_of p = div-add-mod' p s.pages

  pub page_no_same_block : (b c i j : ℕ) → i < s.pages → j < s.pages → page_no s b i ≡ page_no s c j → b ≡ c
  page_no_same_block b c i j hi hj e = sym (page_no_block b i hi) ∙ ap (λ (p : ℕ). p / s.pages) e ∙ page_no_block c j hj

  pub page_no_same_place : (b c i j : ℕ) → i < s.pages → j < s.pages → page_no s b i ≡ page_no s c j → i ≡ j
  page_no_same_place b c i j hi hj e = sym (page_no_place b i hi) ∙ ap (λ (p : ℕ). p % s.pages) e ∙ page_no_place c j hj

  -- the pages of another block
  pub page_no_away : (b c i : ℕ) → c ≢ b → i < s.pages → (page_no s c i < b * s.pages) ⊎ (b * s.pages + s.pages ≤ page_no s c i)
  page_no_away b c i ne h =
      ⊎_elim (λ (k : c < b). inl (page_within k h))
      (λ (k : b ≤ c). let l : b < c = omega arith in inr (omega (arith, block_within s.pages l)))
      (lt_or_le c b)

  module _ (l : Limits s) where
    pub page_place_below : (p : ℕ) → p % s.pages < s.pages
    page_place_below p = mod-lt p (positive l)

-- ---- logical pages: the same, of logical blocks

module _ (s : Shape) where
  pub logical_page_block : (l o : ℕ) → o < s.pages → block_of s (logical_page s l o) ≡ l
  logical_page_block = page_no_block s

  pub logical_page_offset : (l o : ℕ) → o < s.pages → offset_of s (logical_page s l o) ≡ o
  logical_page_offset = page_no_place s

  pub logical_page_of : (a : ℕ) → logical_page s (block_of s a) (offset_of s a) ≡ a
  logical_page_of = page_no_of s

  pub offset_of_below : Limits s → (a : ℕ) → offset_of s a < s.pages
  offset_of_below = page_place_below s

  pub in_range_block : Limits s → (a : ℕ) → T (in_range s a) → block_of s a < s.logical
  in_range_block l a t = (div-lt_iff_lt-mul (positive l)).1 (ltb→lt a (s.logical * s.pages) t)

  pub block_in_range : Limits s → (a : ℕ) → block_of s a < s.logical → T (in_range s a)
  block_in_range l a h = lt→ltb a (s.logical * s.pages) ((div-lt_iff_lt-mul (positive l)).0 h)

  -- the address of a logical page fits its two bytes
  pub in_range_small : Limits s → s.logical ≤ s.blocks → (a : ℕ) → T (in_range s a) → a < 65536
  in_range_small l few a t =
      omega (arith, ltb→lt a (s.logical * s.pages) t, mul-le-mul_right s.pages few, pages_most l.blocks_high l.pages_high)
