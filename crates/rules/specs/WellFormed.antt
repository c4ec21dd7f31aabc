-- A well-formed image: W1 to W7, the record of a block, and the roles of used blocks.
use Rattle.std.specs.Prelude.{Bool, true, false, ◌&&◌, ◌||◌, not, cond, None, List, ℕ, leb, ltb, eqb, get_or}
use Rattle.rules.specs.declared.shape.Shape.{Shape}
use Rattle.rules.specs.declared.page.Page.{Page}
use Rattle.rules.specs.declared.page.Page.TheVariants.{Erased}
use Rattle.rules.specs.declared.block.State.{State}
use Rattle.rules.specs.declared.block.State.TheVariants.{Bad, Free, Ill, Used}
use Rattle.rules.specs.declared.block.Block.{Block}
use Rattle.rules.specs.Below.{all_below, count_below, highest_below, first_below, list_below}
use Rattle.rules.specs.Spare.{status_in}
use Rattle.rules.specs.Shape.{page_no, block_of, offset_of, in_range}
use Rattle.rules.specs.Page.{Image, page_spare, page_at, is_erased, is_entry, number_of, kind_of, address_of, is_log, is_copy, same_kind}

-- ---- W1 to W4, at page i of a used block whose pages are g
--
-- An erased page passes each.

abbrev pub Pages : Type 0
Pages = ℕ → Page

-- the page that gives a block its kind, its number and its logical block: the first
abbrev pub naming : Pages → Page
naming g = g 0

abbrev pub Rule : Type 0
Rule = Shape → Pages → ℕ → Bool

-- The pages not erased come first, from page 0, with no gap.
unfoldable pub W1 : Rule
W1 s g i = is_erased (g i) || all_below i (λ j. not (is_erased (g j)))

-- They have the bytes of the spare table, one kind and one sequence number.
unfoldable pub W2 : Rule
W2 s g i = is_erased (g i) || (is_entry (g i) && same_kind (kind_of (g i)) (kind_of (naming g)) && eqb (number_of (g i)) (number_of (naming g)))

-- Their addresses are in range and in one logical block.
unfoldable pub W3 : Rule
W3 s g i = is_erased (g i) || (in_range s (address_of (g i)) && eqb (block_of s (address_of (g i))) (block_of s (address_of (naming g))))

-- In a copy block, page i has offset i.
unfoldable pub W4 : Rule
W4 s g i = is_erased (g i) || not (is_copy (kind_of (naming g))) || eqb (offset_of s (address_of (g i))) i

-- of every page of the block
unfoldable pub W1to4 : Shape → Pages → Bool
W1to4 s g =
    all_below s.pages (W1 s g)
    && all_below s.pages (W2 s g)
    && all_below s.pages (W3 s g)
    && all_below s.pages (W4 s g)

-- ---- the state of a block

abbrev pub is_good : State → Bool
is_good Bad = false
is_good Free = true
is_good Ill = true
is_good Used = true

abbrev pub is_free : State → Bool
is_free Bad = false
is_free Free = true
is_free Ill = false
is_free Used = false

abbrev pub is_ill : State → Bool
is_ill Bad = false
is_ill Free = false
is_ill Ill = true
is_ill Used = false

abbrev pub is_used : State → Bool
is_used Bad = false
is_used Free = false
is_used Ill = false
is_used Used = true

-- ---- the record of a block

abbrev pub not_used : State → Block
not_used st = record { state = st; kind = None; number = 0; logical = 0; filled = 0; ordered = false }

abbrev pub all_erased : Shape → Pages → Bool
all_erased s g = all_below s.pages (λ i. is_erased (g i))

-- how many pages are not erased
abbrev pub filled_in : Shape → Pages → ℕ
filled_in s g = count_below s.pages (λ i. not (is_erased (g i)))

-- page i has offset i, of the first n
abbrev pub in_order : Shape → Pages → ℕ → Bool
in_order s g n = all_below n (λ i. eqb (offset_of s (address_of (g i))) i)

abbrev pub used_block : Shape → Pages → Block
used_block s g =
    record {
      state = Used;
      kind = kind_of (naming g);
      number = number_of (naming g);
      logical = block_of s (address_of (naming g));
      filled = filled_in s g;
      ordered = in_order s g (filled_in s g);
    }

-- A good block is free when all its pages are erased, else used; ill where W1 to W4 are not all true.
unfoldable pub good_block : Shape → Pages → Block
good_block s g = cond (all_erased s g) (not_used Free) (cond (W1to4 s g) (used_block s g) (not_used Ill))

-- a page with these spare bytes carries the mark of a bad block
abbrev pub bad_mark : List ℕ → Bool
bad_mark t = not (eqb (status_in t) 255)

-- page i of block b does
abbrev pub is_marked : Shape → Image → ℕ → ℕ → Bool
is_marked s im b i = bad_mark (page_spare im (page_no s b i))

-- A block is bad when byte 5 of page 0 or of page 1 is not 255.
unfoldable pub is_bad : Shape → Image → ℕ → Bool
is_bad s im b = is_marked s im b 0 || is_marked s im b 1

-- the pages of block b, each read once
unfoldable pub pages_of : Shape → Image → ℕ → Pages
pages_of s im b =
    let read : List Page = list_below s.pages (λ i. page_at im (page_no s b i)) in
    λ i. get_or read i Erased

unfoldable pub block_at : Shape → Image → ℕ → Block
block_at s im b = cond (is_bad s im b) (not_used Bad) (good_block s (pages_of s im b))

-- The records of a card, by block number. What is no block of the card counts as bad.
abbrev pub Blocks : Type 0
Blocks = ℕ → Block

abbrev pub blocks_in : List Block → Blocks
blocks_in list j = get_or list j (not_used Bad)

-- the records of an image, each read once
unfoldable pub blocks_of : Shape → Image → Blocks
blocks_of s im =
    let read : List Block = list_below s.blocks (block_at s im) in
    blocks_in read

-- ---- W5

-- clash is true of no two blocks of the card
abbrev pub no_two : Shape → (ℕ → ℕ → Bool) → Bool
no_two s clash = all_below s.blocks (λ i. all_below i (λ j. not (clash i j)))

-- No two used blocks have the same sequence number.
unfoldable pub W5 : Shape → Blocks → Bool
W5 s c = no_two s (λ i j. is_used (c i).state && is_used (c j).state && eqb (c i).number (c j).number)

-- ---- W6: the roles of used blocks

-- A block is complete when all P pages are programmed and page i has offset i, whatever its kind.
unfoldable pub is_complete : Shape → Block → Bool
is_complete s x = is_used x.state && eqb x.filled s.pages && x.ordered

-- its number, if it is a complete block of logical block l, else 0
abbrev pub complete_number : Shape → Block → ℕ → ℕ
complete_number s x l = cond (is_complete s x && eqb x.logical l) x.number 0

-- the highest number of the complete blocks of logical block l, 0 if it has none
unfoldable pub data_number : Shape → Blocks → ℕ → ℕ
data_number s c l = highest_below s.blocks (λ j. complete_number s (c j) l)

-- The role of a block, by its record x and the number d of the data block of its logical block, 0 for none.

-- The complete block with the highest number is its logical block's data block.
abbrev pub is_data_by : Shape → Block → ℕ → Bool
is_data_by s x d = is_complete s x && eqb x.number d

-- A log block that is not complete and has a higher number than the data block (or any number, if there is none) is live.
abbrev pub is_live_by : Shape → Block → ℕ → Bool
is_live_by s x d = is_used x.state && is_log x.kind && not (is_complete s x) && ltb d x.number

-- Used blocks that are neither data block nor live are obsolete.
abbrev pub is_obsolete_by : Shape → Block → ℕ → Bool
is_obsolete_by s x d = is_used x.state && not (is_data_by s x d) && not (is_live_by s x d)

unfoldable pub is_data : Shape → Blocks → ℕ → Bool
is_data s c j = is_data_by s (c j) (data_number s c (c j).logical)

unfoldable pub is_live : Shape → Blocks → ℕ → Bool
is_live s c j = is_live_by s (c j) (data_number s c (c j).logical)

unfoldable pub is_obsolete : Shape → Blocks → ℕ → Bool
is_obsolete s c j = is_obsolete_by s (c j) (data_number s c (c j).logical)

-- A logical block has at most one live log block.
unfoldable pub W6 : Shape → Blocks → Bool
W6 s c = no_two s (λ i j. is_live s c i && is_live s c j && eqb (c i).logical (c j).logical)

-- the data block of logical block l, or none
unfoldable pub data_block : Shape → Blocks → ℕ → ℕ
data_block s c l = first_below s.blocks (λ j. is_data s c j && eqb (c j).logical l)

-- the live log block of logical block l, or none
unfoldable pub live_log : Shape → Blocks → ℕ → ℕ
live_log s c l = first_below s.blocks (λ j. is_live s c j && eqb (c j).logical l)

-- ---- W7

unfoldable pub live_logs : Shape → Blocks → ℕ
live_logs s c = count_below s.blocks (is_live s c)

-- At most K live log blocks in all.
unfoldable pub W7 : Shape → Blocks → Bool
W7 s c = leb (live_logs s c) s.logs

-- ---- all of them: W1 to W4 of each good block that is not free, W5, W6 and W7

unfoldable pub well_formed : Shape → Blocks → Bool
well_formed s c = all_below s.blocks (λ j. not (is_ill (c j).state)) && W5 s c && W6 s c && W7 s c
