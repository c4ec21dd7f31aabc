-- Demands 2 and 3 of every history, as statements; docs/PROMISES.md has them in words, and proofs/Demands.antt the proofs.
use Rattle.std.specs.Prelude.{◌≡◌, ◌≢◌, ◌⊎◌, Bool, Some, None, List, ℕ, ◌+◌, ◌*◌, ◌/◌, ◌≤◌, T, ltb, length, take}
use Rattle.rules.specs.declared.shape.Shape.{Shape}
use Rattle.rules.specs.Below.{count_below}
use Rattle.rules.specs.Shape.{block_of, in_range}
use Rattle.rules.specs.Page.{Image}
use Rattle.rules.specs.WellFormed.{Blocks, is_free, is_bad, blocks_of, well_formed}
use Rattle.rules.specs.Steps.{programs, erases, steps_done, taken, write_case, merge_first, write_list, block_write_list}
use Rattle.rules.specs.Replies.{number, outside_limits, too_few_good, unrecovered, format_reply, read_reply, power_up_reply, write_reply, block_write_reply, write_refusal, image_left, table_of, table_left, page_left, lent_page, lent_bytes}
use Rattle.history.specs.History.{Command, read, reply_to, History, end, shape, reply_then, answer_then, left_then, events, page_after, last_write, Tells, writes_in, cuts_in, erases_in, FallIn, all_steps, never_twice, FindErased, left_alone}

-- ---- demand 2

-- After every history, a read of a page in range with a buffer of 512 bytes is answered 0, and gives the bytes of the last write of that page that
-- happened, a block write taken as a write of each of its P pages, or 512 bytes of 255.
abbrev pub ReadsTheLastWrite : Type 0
ReadsTheLastWrite =
    (h : History) (a : ℕ) (buffer : List ℕ) → T (in_range (shape h) a) → length buffer ≡ 512
    → (answer_then h (read a buffer) ≡ 0) × (page_left (shape h) (end h) buffer a ≡ last_write (shape h) (events h) a)

-- One command more, cut anywhere: every page reads as before, but the written one, or all P that a block write wrote, as written if it has happened.
abbrev pub OneMoreCommand : Type 0
OneMoreCommand =
    (h : History) (x : Command) (a : ℕ) (buffer : List ℕ) → T (in_range (shape h) a) → length buffer ≡ 512
    → page_left (shape h) (left_then h x) buffer a ≡ page_after (shape h) x (reply_then h x) a (page_left (shape h) (end h) buffer a)

-- The same on any image that the read accepts, reachable or not: W1 to W7 alone carry it.
abbrev pub OnAnyImage : Type 0
OnAnyImage =
    (s : Shape) (im : Image) (x : Command) (a : ℕ) (buffer : List ℕ) → number (read_reply s im (length buffer) a).answer ≡ 0
    → let im' : Image = image_left s im (reply_to s im x) in
    (number (read_reply s im' (length buffer) a).answer ≡ 0)
    × (page_left s im' buffer a ≡ page_after s x (reply_to s im x) a (page_left s im buffer a))

-- Where a page is lent, a read of it gives the bytes lent.
abbrev pub LendsWhatIsRead : Type 0
LendsWhatIsRead =
    (s : Shape) (im : Image) (a p : ℕ) (buffer : List ℕ) → length buffer ≡ 512 → lent_page s im a ≡ Some p
    → page_left s im buffer a ≡ lent_bytes im (lent_page s im a)

-- Of the whole list of steps done in a history: no page is programmed twice between erases, and each program finds its 528 bytes all 255.
abbrev pub NeverProgrammedTwice : Type 0
NeverProgrammedTwice = (h : History) → T (never_twice (shape h) (all_steps h)) × FindErased (shape h) (all_steps h) h.given

-- Bad blocks are never programmed or erased, by the format or by any command after it.
abbrev pub BadBlocksStay : Type 0
BadBlocksStay = (h : History) (b : ℕ) → T (is_bad (shape h) h.given b) → T (left_alone (shape h) b (all_steps h))

-- No program or erase makes a good block bad or a bad one good: after the first k steps of a history those blocks are bad that were so when it began.
abbrev pub SameBadBlocks : Type 0
SameBadBlocks =
    (h : History) (b k : ℕ) → is_bad (shape h) (steps_done (shape h) (take k (all_steps h)) h.given) b ≡ is_bad (shape h) h.given b

-- After every history the image is well-formed, and no command is answered 1, 4 or 5.
abbrev pub StaysWellFormed : Type 0
StaysWellFormed =
    (h : History) → T (well_formed (shape h) (blocks_of (shape h) (end h)))
    × ((x : Command) → (answer_then h x ≢ 1) × (answer_then h x ≢ 4) × (answer_then h x ≢ 5))

-- ---- demand 3

-- Every answer's counts, of programs and of erases, are those of the steps done.
abbrev pub CountsAreOfTheSteps : Type 0
CountsAreOfTheSteps =
    (s : Shape) (im : Image) → ((cut : ℕ) → Tells (format_reply s im cut)) × ((x : Command) → Tells (reply_to s im x))

-- n writes answered 0 or 8, a block write taken as P: at most 2n erases.
abbrev pub AtMostTwiceTheWrites : Type 0
AtMostTwiceTheWrites = (h : History) → erases_in (events h) ≤ 2 * writes_in h.pages (events h)

-- If those writes, all n, fall in at most K logical blocks, which S marks, and c of them are answered 8, a block write taken as one cut: at most
-- 2 x floor(n / P) + c erases.
abbrev pub FewLogicalBlocks : Type 0
FewLogicalBlocks =
    (h : History) (S : ℕ → Bool) → count_below h.logical S ≤ h.logs → FallIn (shape h) S (events h)
    → erases_in (events h) ≤ 2 * (writes_in h.pages (events h) / h.pages) + cuts_in (events h)

-- none of 1 to 7 refuses the write of page a with the bytes d
abbrev pub NotRefused : Shape → Image → ℕ → List ℕ → Type 0
NotRefused s im a d = write_refusal s im (blocks_of s im) (length d) a ≡ None

-- On any image: no write that is not refused has more than P + 1 programs and 2 erases in its list.
abbrev pub ShortLists : Type 0
ShortLists =
    (s : Shape) (im : Image) (a : ℕ) (d : List ℕ) → NotRefused s im a d
    → (programs (write_list s im (blocks_of s im) a d) ≤ s.pages + 1) × (erases (write_list s im (blocks_of s im) a d) ≤ 2)

-- For any records: a block write has P programs and at most 2 erases in its list. (The limits of one write do not speak of it.)
abbrev pub BlockWriteLists : Type 0
BlockWriteLists =
    (s : Shape) (c : Blocks) (l : ℕ) (d : List ℕ) → (programs (block_write_list s c l d) ≡ s.pages) × (erases (block_write_list s c l d) ≤ 2)

-- ---- the card never gets stuck, on any image

-- recovered: none of 1, 4, 5 and 6 applies
pub record RecoveredCard (s : Shape) (im : Image) : Type 0 where
  pub not1 : T (outside_limits s im) → ⊥
  pub not4 : T (too_few_good s (blocks_of s im)) → ⊥
  pub not5 : T (well_formed s (blocks_of s im))
  pub not6 : T (unrecovered s (blocks_of s im)) → ⊥

-- A write in range with 512 bytes on a recovered card is answered 0, 7 or 8.
abbrev pub WriteIsTaken : Type 0
WriteIsTaken =
    (s : Shape) (im : Image) → RecoveredCard s im → (a : ℕ) (d : List ℕ) (cut : ℕ) → T (in_range s a) → length d ≡ 512
    → let n : ℕ = number (write_reply s im a d cut).answer in (n ≡ 0) ⊎ ((n ≡ 7) ⊎ (n ≡ 8))

-- So is a block write of a logical block below L with P x 512 bytes.
abbrev pub BlockWriteIsTaken : Type 0
BlockWriteIsTaken =
    (s : Shape) (im : Image) → RecoveredCard s im → (l : ℕ) (d : List ℕ) (cut : ℕ) → T (ltb l s.logical) → length d ≡ s.pages * 512
    → let n : ℕ = number (block_write_reply s im l d cut).answer in (n ≡ 0) ⊎ ((n ≡ 7) ⊎ (n ≡ 8))

-- A power-up that is answered 0 leaves a recovered card.
abbrev pub PowerUpRecovers : Type 0
PowerUpRecovers =
    (s : Shape) (im : Image) (size cut : ℕ) → number (power_up_reply s im size cut).answer ≡ 0
    → RecoveredCard s (image_left s im (power_up_reply s im size cut))

-- The table that power-up fills is that of the image that it leaves.
abbrev pub TableOfTheImageLeft : Type 0
TableOfTheImageLeft =
    (s : Shape) (im : Image) (old : List ℕ) (cut : ℕ) → number (power_up_reply s im (length old) cut).answer ≡ 0
    → let im' : Image = image_left s im (power_up_reply s im (length old) cut) in
    table_left s im old cut ≡ table_of s (blocks_of s im') s.logical

-- A write that is answered 0 leaves one too.
abbrev pub WriteLeavesRecovered : Type 0
WriteLeavesRecovered =
    (s : Shape) (im : Image) (a : ℕ) (d : List ℕ) (cut : ℕ) → number (write_reply s im a d cut).answer ≡ 0
    → RecoveredCard s (image_left s im (write_reply s im a d cut))

-- And so does a block write.
abbrev pub BlockWriteLeavesRecovered : Type 0
BlockWriteLeavesRecovered =
    (s : Shape) (im : Image) (l : ℕ) (d : List ℕ) (cut : ℕ) → number (block_write_reply s im l d cut).answer ≡ 0
    → RecoveredCard s (image_left s im (block_write_reply s im l d cut))

-- the block that would be taken is free
abbrev pub FreeToTake : Shape → Image → Type 0
FreeToTake s im = T (is_free (blocks_of s im (taken s (blocks_of s im))).state)

-- Every recovered card has a free block to take.
abbrev pub ThereIsAFreeBlock : Type 0
ThereIsAFreeBlock = (s : Shape) (im : Image) → RecoveredCard s im → FreeToTake s im

-- So has one after the merge of a write that is not refused.
abbrev pub AFreeBlockAfterTheMerge : Type 0
AFreeBlockAfterTheMerge =
    (s : Shape) (im : Image) (a : ℕ) (d : List ℕ) → NotRefused s im a d
    → FreeToTake s (steps_done s (merge_first s im (blocks_of s im) (write_case s (blocks_of s im) (block_of s a))) im)
