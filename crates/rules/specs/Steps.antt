-- Commands as lists of steps. The list is fixed by the image and the call.
--
-- im is the image, and c its records.
use Rattle.std.specs.Prelude.{◌&&◌, not, cond, List, [], ◌∷◌, ◌++◌, map, ℕ, suc, ◌+◌, ◌*◌, ltb, replicate}
use Rattle.rules.specs.declared.shape.Shape.{Shape}
use Rattle.rules.specs.Below.{is_none, if_any, highest_below, first_below, lowest_below, pick_below, list_below}
use Rattle.rules.specs.Bytes.{part, replaced}
use Rattle.rules.specs.Spare.{log_kind, copy_kind, spare_bytes}
use Rattle.rules.specs.Shape.{page_no, block_of, logical_page}
use Rattle.rules.specs.Page.{Image}
use Rattle.rules.specs.WellFormed.{Blocks, blocks_of, block_at, is_good, is_free, is_complete, is_live, is_obsolete, data_block, live_log, live_logs}
use Rattle.rules.specs.Content.{content}

-- ---- steps

-- A step programs one page or erases one block, whole.
pub data Step : Type 0 where
  -- page p gets 512 data bytes and 16 spare bytes
  program : ℕ → List ℕ → List ℕ → Step
  -- all bytes of block b become 255
  erase : ℕ → Step

unfoldable pub step_done : Shape → Step → Image → Image
step_done s (program p d t) im =
    record { bytes = replaced im.bytes (p * 512) 512 d; spare = replaced im.spare (p * 16) 16 t }
step_done s (erase b) im =
    record {
      bytes = replaced im.bytes (b * s.pages * 512) (s.pages * 512) (replicate (s.pages * 512) 255);
      spare = replaced im.spare (b * s.pages * 16) (s.pages * 16) (replicate (s.pages * 16) 255);
    }

unfoldable pub steps_done : Shape → List Step → Image → Image
steps_done s [] im = im
steps_done s (t ∷ ts) im = steps_done s ts (step_done s t im)

abbrev pub programs : List Step → ℕ
programs [] = 0
programs (program p d t ∷ ts) = suc (programs ts)
programs (erase b ∷ ts) = programs ts

abbrev pub erases : List Step → ℕ
erases [] = 0
erases (program p d t ∷ ts) = erases ts
erases (erase b ∷ ts) = suc (erases ts)

-- the program that makes page p an entry: number n, kind k, logical page a, and the bytes d
abbrev pub entry_step : ℕ → ℕ → ℕ → ℕ → List ℕ → Step
entry_step p n k a d = program p d (spare_bytes n k a)

-- ---- the block that is taken

-- "Take a block" means the lowest-numbered free block at that moment, ..
unfoldable pub taken : Shape → Blocks → ℕ
taken s c = first_below s.blocks (λ j. is_free (c j).state)

-- the highest number in the image, 0 if none
unfoldable pub highest : Shape → Blocks → ℕ
highest s c = highest_below s.blocks (λ j. (c j).number)

-- .. with a sequence number one above the highest in the image (1 if none).
abbrev pub new_number : Shape → Blocks → ℕ
new_number s c = highest s c + 1

-- page o of a copy of logical block l in block f, with number n and the bytes page o
abbrev pub copy_step : Shape → ℕ → ℕ → ℕ → (ℕ → List ℕ) → ℕ → Step
copy_step s f n l page o = entry_step (page_no s f o) n copy_kind (logical_page s l o) (page o)

-- A logical block made anew: take a block, program its P pages in order with the bytes page 0, page 1, .., kind copy; ..
unfoldable pub copies : Shape → Blocks → ℕ → (ℕ → List ℕ) → List Step
copies s c l page = list_below s.pages (copy_step s (taken s c) (new_number s c) l page)

-- .. erase the log block, if any; erase the data block, if any.
unfoldable pub renewal : Shape → Blocks → ℕ → (ℕ → List ℕ) → List Step
renewal s c l page = copies s c l page ++ map erase (if_any (live_log s c l) ++ if_any (data_block s c l))

-- ---- format, power-up and merge

-- Format: erase each good block that is not free, in ascending order.
unfoldable pub format_list : Shape → Blocks → List Step
format_list s c = map erase (pick_below s.blocks (λ j. is_good (c j).state && not (is_free (c j).state)))

-- Power-up: erase each obsolete block, ascending.
unfoldable pub power_up_list : Shape → Blocks → List Step
power_up_list s c = map erase (pick_below s.blocks (is_obsolete s c))

-- the present content of logical block l, by offset
abbrev pub contents : Shape → Image → Blocks → ℕ → ℕ → List ℕ
contents s im c l o = content s im c (logical_page s l o)

-- Merge of logical block l: it is made anew with the present content.
unfoldable pub merge_list : Shape → Image → Blocks → ℕ → List Step
merge_list s im c l = renewal s c l (contents s im c l)

-- the logical block of the live log block with the lowest sequence number
unfoldable pub victim : Shape → Blocks → ℕ
victim s c = (c (lowest_below s.blocks (is_live s c) (λ j. (c j).number))).logical

-- ---- write

-- What a write in logical block l needs.
pub data Case : Type 0 where
  -- l has a live log block with room
  room : Case
  -- l has none, and fewer than K log blocks are live
  fresh : Case
  -- merge this logical block first: l itself, whose live log block is full; or, where l has none and K are live, that of the oldest
  merging : ℕ → Case

unfoldable pub write_case : Shape → Blocks → ℕ → Case
write_case s c l =
    cond (is_none (live_log s c l))
    (cond (ltb (live_logs s c) s.logs) fresh (merging (victim s c)))
    (cond (ltb (c (live_log s c l)).filled s.pages) room (merging l))

-- new numbers needed: 0, 1 or 2
abbrev pub numbers_needed : Case → ℕ
numbers_needed room = 0
numbers_needed fresh = 1
numbers_needed (merging l) = 2

-- the steps before its own program
abbrev pub merge_first : Shape → Image → Blocks → Case → List Step
merge_first s im c room = []
merge_first s im c fresh = []
merge_first s im c (merging l) = merge_list s im c l

-- From here on im and c are the image and the records after that merge, if there was one.
--
-- the block that gets the page: the live log block of l if it has room, else the block taken as log
abbrev pub log_block : Shape → Blocks → Case → ℕ → ℕ
log_block s c room l = live_log s c l
log_block s c fresh l = taken s c
log_block s c (merging m) l = taken s c

abbrev pub log_number : Shape → Blocks → Case → ℕ → ℕ
log_number s c room l = (c (live_log s c l)).number
log_number s c fresh l = new_number s c
log_number s c (merging m) l = new_number s c

-- Program its next page, which is page 0 of a block just taken.
unfoldable pub own_step : Shape → Blocks → Case → ℕ → List ℕ → Step
own_step s c k a d =
    let b : ℕ = log_block s c k (block_of s a) in
    entry_step (page_no s b (c b).filled) (log_number s c k (block_of s a)) log_kind a d

-- If the program makes the log block complete, then erase l's former data block, if any.
unfoldable pub erase_after : Shape → Image → Blocks → Case → ℕ → List ℕ → List ℕ
erase_after s im c k a d =
    cond (is_complete s (block_at s (step_done s (own_step s c k a d) im) (log_block s c k (block_of s a))))
    (if_any (data_block s c (block_of s a)))
    []

unfoldable pub own_list : Shape → Image → Blocks → Case → ℕ → List ℕ → List Step
own_list s im c k a d = own_step s c k a d ∷ map erase (erase_after s im c k a d)

-- Write of page a with the bytes d.
unfoldable pub write_list : Shape → Image → Blocks → ℕ → List ℕ → List Step
write_list s im c a d =
    let k : Case = write_case s c (block_of s a) in
    let first : List Step = merge_first s im c k in
    let im' : Image = steps_done s first im in
    first ++ own_list s im' (blocks_of s im') k a d

-- ---- block write

-- the o-th 512 bytes of a block buffer
abbrev pub part_of : List ℕ → ℕ → List ℕ
part_of d o = part d (o * 512) 512

-- Block write of logical block l: take a block, program its P pages in order with the P parts of the buffer d, kind copy; then erase l's live log block
-- and then its data block, where they exist. So l is made anew with these bytes.
unfoldable pub block_write_list : Shape → Blocks → ℕ → List ℕ → List Step
block_write_list s c l d = renewal s c l (part_of d)
