-- The records of an image, as the code reads them.
use mathlib.Core.Path.{◌≡◌, refl, sym, ap, subst, ◌∙◌, fun_ext}
use mathlib.Core.Logic.{inl, inr}
use mathlib.Core.Bool.{Bool, true, false, ◌||◌, cond}
use mathlib.Core.List.{List}
use Prim.Native.Nat.{ℕ, ◌+◌, ◌*◌, ◌≤◌, ◌<◌}
use native.Mathlib.Omega.{arith}
use lib.Dec.{T, ltb}
use lib.ListN.{length, get_or, set, length-set}
use lib.Seq.{get_or-set_same, get_or-set_other}
use borrow.Author.Tests.{lt-ltb, le-ltb}
use Rattle.rules.specs.declared.shape.Shape.{Shape}
use Rattle.rules.specs.declared.page.Page.{Page}
use Rattle.rules.specs.declared.block.State.{State}
use Rattle.rules.specs.declared.block.State.TheVariants.{Bad, Free, Ill, Used}
use Rattle.rules.specs.declared.block.Block.{Block}
use Rattle.std.specs.Prelude.{Option, Some}
use Rattle.blocks.specs.declared.record.First.{First}
use Rattle.rules.specs.Below.{list_below}
use Rattle.rules.specs.Shape.{most, page_no}
use Rattle.rules.specs.Page.{Image, page_bytes, page_spare, page_of, page_at, is_erased}
use Rattle.rules.specs.Facts.{Fits}
use Rattle.rules.specs.WellFormed.{Blocks, Pages, not_used, all_erased, W1to4, used_block, good_block, is_bad, pages_of, block_at, blocks_of, blocks_in}
use Rattle.laws.proofs.Tests.{dec_eq, lt_or_le, false_is, true_is, is_true, is_false}
use Rattle.laws.proofs.Bytes.{part_length}
use Rattle.laws.proofs.Shape.{page_no_below}
use Rattle.laws.proofs.Below.{all_below-same, list_below_ext}
use Rattle.laws.proofs.Records.{blocks_of_at, blocks_of_outside, pages_of_at, block_at_bad, block_at_good}
use Rattle.blocks.specs.Leading.{blank_from, start_of, Begins, InOrder, Leads}
use Rattle.blocks.specs.Scanned.{of_card, use_at, uses_of}
use Rattle.blocks.proofs.Leading.{blank_past, past_blank, leading_alone, leading_ill, start_begins, Begun, begun_first, begun_order}

-- ---- a block

module _ (s : Shape) (im : Image) (b : ℕ) where
  pub block_bad : is_bad s im b ≡ true → not_used Bad ≡ block_at s im b
  block_bad e = sym (block_at_bad s im b (true_is (is_bad s im b) e))

  -- its leading pages x; r says whether no page comes after them
  module _ {x : Block} (d : Leads s (pages_of s im b) x) {r : Bool} (told : r ≡ blank_from s (pages_of s im b) x.filled)
      (good : is_bad s im b ≡ false) where
    as_good : good_block s (pages_of s im b) ≡ block_at s im b
    as_good = sym (block_at_good s im b (false_is (is_bad s im b) good))

    pub block_leading : r ≡ true → x ≡ block_at s im b
    block_leading e = leading_alone s (pages_of s im b) d (true_is _ (sym told ∙ e)) ∙ as_good

    pub block_ill : r ≡ false → not_used Ill ≡ block_at s im b
    block_ill e = leading_ill s (pages_of s im b) d (false_is _ (sym told ∙ e)) ∙ as_good

-- what the first page of a block gives
pub first_page : (s : Shape) (im : Image) (b : ℕ) {p : ℕ} {q : Page} {o : Option First} → 0 < s.pages → p ≡ page_no s b 0 → q ≡ page_at im p
    → o ≡ start_of s q → Begins s (pages_of s im b) o
unfolding page_at
first_page s im b h e f g =
    let here = pages_of_at s im b 0 h in
    start_begins s (pages_of s im b) _ _ here (g ∙ ap (start_of s) (f ∙ ap (page_at im) e ∙ sym here))

-- page i of a block, whose number is p
pub page_read : (s : Shape) (im : Image) (b i : ℕ) {p : ℕ} → i < s.pages → p ≡ page_no s b i → pages_of s im b i ≡ page_of (page_bytes im p) (page_spare im p)
unfolding page_at
page_read s im b i h e = pages_of_at s im b i h ∙ ap (page_at im) (sym e)

-- the pages of a block that come first in order
pub order_begun : (s : Shape) (im : Image) (b : ℕ) {x : First} {n : ℕ} → Fits s im → b < s.blocks → Begins s (pages_of s im b) (Some x)
    → InOrder s im b x n → Begun s (pages_of s im b) x n x.ordered
order_begun s im b w h u =
    begun_order s w.limits (pages_of s im b) im b (λ i. page_bytes im (page_no s b i))
    (λ i k. let below = page_no_below s b i h k in part_length im.spare (page_no s b i * 16) 16 (omega (arith, w.spares_long)))
    (λ i k. page_read s im b i k refl) (begun_first s (pages_of s im b) u)

-- ---- whether it is erased, from page n on

abbrev pub ErasedTo : Pages → ℕ → ℕ → Type 0
ErasedTo g n i = (j : ℕ) → n ≤ j → j < i → T (is_erased (g j))

module _ (s : Shape) (im : Image) (b n i : ℕ) (h : i < s.pages) {p : ℕ} {e : Bool} (at : p ≡ page_no s b i) (told : e ≡ is_erased (page_at im p)) where
  page_told : e ≡ is_erased (pages_of s im b i)
  page_told = told ∙ ap is_erased (ap (page_at im) at ∙ sym (pages_of_at s im b i h))

  pub blank_turn : ErasedTo (pages_of s im b) n i → e ≡ true → ErasedTo (pages_of s im b) n (i + 1)
  blank_turn f g j low below =
      elim (dec_eq j i) [
        | inl z ↦ subst (λ (k : ℕ). T (is_erased (pages_of s im b k))) (sym z) (true_is _ (sym page_told ∙ g))
        | inr z ↦ f j low (omega arith)
      ]

  pub blank_not : n ≤ i → e ≡ false → false ≡ blank_from s (pages_of s im b) n
  blank_not low g = sym (is_false _ (λ t. false_is (is_erased (pages_of s im b i)) (sym page_told ∙ g) (blank_past s (pages_of s im b) n t i low h)))

pub blank_all : (s : Shape) (g : Pages) (n : ℕ) → ErasedTo g n s.pages → true ≡ blank_from s g n
blank_all s g n f = sym (is_true _ (past_blank s g n f))

pub blank_whole : (s : Shape) (g : Pages) → blank_from s g 0 ≡ all_erased s g
unfolding blank_from
blank_whole s g =
    all_below-same s.pages (λ j. ltb j 0 || is_erased (g j)) (λ j. is_erased (g j)) (λ j h. ap (λ (t : Bool). t || is_erased (g j)) (le-ltb j 0 (omega arith)))

-- Whether a block is good or free is as the records have it: f tells no two blocks in use apart.
pub use_told : (s : Shape) (im : Image) (f : State → Bool) → f Ill ≡ f Used → (j : ℕ) → f (uses_of s im j).state ≡ f (blocks_of s im j).state
unfolding block_at good_block
use_told s im f e j =
    elim (lt_or_le j s.blocks) [
      | inl h ↦ rw (lt-ltb j s.blocks h, blocks_of_at s im j h) (go (is_bad s im j) (all_erased s (pages_of s im j)) (W1to4 s (pages_of s im j)))
      | inr h ↦ rw (le-ltb j s.blocks h, blocks_of_outside s im j h) refl
    ]
  where
    go : (u v w : Bool) → f (cond u Bad (cond v Free Ill))
        ≡ f (cond u (not_used Bad) (cond v (not_used Free) (cond w (used_block s (pages_of s im j)) (not_used Ill)))).state
    go true v w = refl
    go false true w = refl
    go false false true = e
    go false false false = refl

-- ---- all blocks

-- the first n of them read into a list, and no block after them
pub record ReadTo (c : Blocks) (list : List Block) (n : ℕ) : Type 0 where
  pub long : length list ≡ most
  pub at : (j : ℕ) → j < n → get_or list j (not_used Bad) ≡ c j
  pub after : (j : ℕ) → n ≤ j → get_or list j (not_used Bad) ≡ not_used Bad

pub read_more : (c : Blocks) (list : List Block) (n : ℕ) {x : Block} → n < most → x ≡ c n → ReadTo c list n → ReadTo c (set list n x) (n + 1)
read_more c list n {x} h e t =
    record {
      long = length-set list n x ∙ t.long;
      at = λ j k. elim (dec_eq j n) [
        | inl q ↦ rw q (get_or-set_same list n x _ (omega (arith, t.long)) ∙ e)
        | inr q ↦ get_or-set_other list n j x _ q ∙ t.at j (omega arith)
      ];
      after = λ j k. get_or-set_other list n j x _ (λ q. absurd (omega arith)) ∙ t.after j (omega arith);
    }

pub read_all : (c : Blocks) (list : List Block) {n m : ℕ} → n ≡ m → ReadTo c list n → blocks_in list ≡ of_card m c
read_all c list {n} {m} e t =
    fun_ext (λ j. elim (lt_or_le j m) [
      | inl h ↦ t.at j (omega arith) ∙ rw (lt-ltb j m h) refl
      | inr h ↦ t.after j (omega arith) ∙ rw (le-ltb j m h) refl
    ])

-- The array that holds records holds that of each block in its place,
pub read_is : (c : Blocks) {list : List Block} → length list ≡ most → blocks_in list ≡ c → list ≡ list_below most c
read_is c long e = list_below_ext most c (not_used Bad) long (λ j h. ap (λ (r : Blocks). r j) e)

-- so that one array is possible.
pub read_one : (c : Blocks) {list list' : List Block} → length list ≡ most → length list' ≡ most → blocks_in list ≡ c → blocks_in list' ≡ c → list ≡ list'
read_one c long long' e f = read_is c long e ∙ sym (read_is c long' f)

-- the records of a card
pub records_read : (s : Shape) (im : Image) → of_card s.blocks (block_at s im) ≡ blocks_of s im
records_read s im =
    fun_ext (λ j. elim (lt_or_le j s.blocks) [
      | inl h ↦ rw (lt-ltb j s.blocks h) (sym (blocks_of_at s im j h))
      | inr h ↦ rw (le-ltb j s.blocks h) (sym (blocks_of_outside s im j h))
    ])

-- what format asks of each
pub uses_read : (s : Shape) (im : Image) → of_card s.blocks (λ b. not_used (use_at s im b)) ≡ uses_of s im
uses_read s im =
    fun_ext (λ j. elim (lt_or_le j s.blocks) [
      | inl h ↦ rw (lt-ltb j s.blocks h) refl
      | inr h ↦ rw (le-ltb j s.blocks h) refl
    ])
