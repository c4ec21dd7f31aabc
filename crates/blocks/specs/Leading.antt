-- The record of a block by its leading pages: those that come first and go on from each other.
use Rattle.std.specs.Prelude.{◌≡◌, ⊤, Option, Some, None, MatchOption, Bool, true, false, ◌&&◌, ◌||◌, not, cond, List, ℕ, ◌+◌, ◌*◌, ◌≤◌, ◌<◌, T, leb, ltb, eqb}
use Rattle.rules.specs.declared.shape.Shape.{Shape}
use Rattle.rules.specs.declared.kind.Kind.{Kind}
use Rattle.rules.specs.declared.page.Page.{Page}
use Rattle.rules.specs.declared.page.Page.TheVariants.{Erased, Entry, Junk}
use Rattle.rules.specs.declared.block.State.TheVariants.{Free, Used}
use Rattle.rules.specs.declared.block.Block.{Block}
use Rattle.blocks.specs.declared.record.First.{First}
use Rattle.rules.specs.Below.{all_below}
use Rattle.rules.specs.Spare.{kind_byte, kind_for, number_in, kind_in, address_in, in_table}
use Rattle.rules.specs.Shape.{page_no, block_of, offset_of, logical_page, in_range}
use Rattle.rules.specs.Page.{Image, page_spare, is_erased, number_of, kind_of, address_of, is_copy, same_kind}
use Rattle.rules.specs.WellFormed.{naming, Pages, W2, W3, W4, not_used, in_order}
use Rattle.nand.specs.Entries.{OfTable, is_entry_of}

-- ---- of the pages g of a block

-- Page i is programmed, and passes W2 to W4.
unfoldable pub fits : Shape → Pages → ℕ → Bool
fits s g i = not (is_erased (g i)) && W2 s g i && W3 s g i && W4 s g i

-- No page from n on is programmed.
unfoldable pub blank_from : Shape → Pages → ℕ → Bool
blank_from s g n = all_below s.pages (λ i. ltb i n || is_erased (g i))

-- a used block with n programmed pages
abbrev pub used_to : Shape → Pages → ℕ → Block
used_to s g n =
    record {
      state = Used;
      kind = kind_of (naming g);
      number = number_of (naming g);
      logical = block_of s (address_of (naming g));
      filled = n;
      ordered = in_order s g n;
    }

-- the record of a block whose first page gives x, with n pages
abbrev pub with_pages : First → ℕ → Bool → Block
with_pages x n o = record { state = Used; kind = Some x.kind; number = x.number; logical = x.logical; filled = n; ordered = o }

-- ---- the first page

-- as the first page of its block, one of kind k with logical page a passes W2 to W4
abbrev pub may_start : Shape → Kind → ℕ → Bool
may_start s k a = in_range s a && (not (is_copy (Some k)) || eqb (offset_of s a) 0)

abbrev pub started : Shape → ℕ → Kind → ℕ → First
started s n k a = record { number = n; kind = k; logical = block_of s a; ordered = eqb (offset_of s a) 0 }

-- what it gives its block, if it may be the first
unfoldable pub start_of : Shape → Page → Option First
start_of s Erased = None
start_of s (Entry n k a) = cond (may_start s k a) (Some (started s n k a)) None
start_of s Junk = None

-- ---- a later page, at place i, with spare bytes t

-- a is a logical page of logical block l
abbrev pub in_block : Shape → ℕ → ℕ → Bool
in_block s l a = leb (l * s.pages) a && ltb a (l * s.pages + s.pages)

unfoldable pub goes_on : Shape → First → ℕ → List ℕ → Bool
goes_on s x i t =
    in_table t && (same_kind (Some (kind_for (kind_in t))) (Some x.kind) && eqb (number_in t) x.number)
    && in_block s x.logical (address_in t)
    && (not (is_copy (Some x.kind)) || eqb (address_in t) (logical_page s x.logical i))

-- ---- pages in order

-- o is what the first page gives, its number one of the table
pub record Begins (s : Shape) (g : Pages) (o : Option First) : Type 0 where
  pub is : o ≡ start_of s (naming g)
  pub of_table : MatchOption o ⊤ (λ x. OfTable x.number)

-- page i of block b has the spare bytes of the one at offset i in the block whose first page gives x
abbrev pub is_next : Shape → Image → ℕ → First → ℕ → Bool
is_next s im b x i = is_entry_of (page_spare im (page_no s b i)) x.number (kind_byte x.kind) (logical_page s x.logical i)

-- n pages come first in order, if page 0 does; else n is 1
pub record InOrder (s : Shape) (im : Image) (b : ℕ) (x : First) (n : ℕ) : Type 0 where
  pub some : 1 ≤ n
  pub few : n ≤ s.pages
  pub alone : x.ordered ≡ false → n ≡ 1
  pub next : (i : ℕ) → 1 ≤ i → i < n → T (is_next s im b x i)
  pub last : x.ordered ≡ true → n < s.pages → T (is_next s im b x n) → ⊥

-- ---- the leading pages

-- x is the record of the pages that come first and fit, as many as there are; free if there is none.
pub record Leads (s : Shape) (g : Pages) (x : Block) : Type 0 where
  pub few : x.filled ≤ s.pages
  pub fit : (i : ℕ) → i < x.filled → T (fits s g i)
  pub last : x.filled < s.pages → T (fits s g x.filled) → ⊥
  pub is : x ≡ cond (eqb x.filled 0) (not_used Free) (used_to s g x.filled)
