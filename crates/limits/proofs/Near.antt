-- Histories that come near the limits of demand 3, computed; and "those writes" of the second limit are all n.
--
-- A card just formatted has no log block and no data block: its first write merges nothing, and its first merges erase one block and not two. So
-- `turns` stays 4 below the first limit, and `merges` 1 below the second.
use mathlib.Core.Path.{◌≡◌, refl}
use mathlib.Core.Bool.{Bool, false, cond}
use mathlib.Core.List.{List, [], ◌∷◌, map}
use Prim.Native.Nat.{ℕ, ◌*◌}
use lib.ListN.{replicate}
use Rattle.rules.specs.declared.shape.Shape.{Shape}
use Rattle.rules.specs.Page.{Image}
use Rattle.rules.specs.Computing.{computing}
use Rattle.rules.specs.Replies.{Reply, number, programs_of, erases_of, shape_for, format_reply}
use Rattle.history.specs.History.{Command, read, write, block_write, power_up, Event, History, shape, events, writes_in, cuts_in, erases_in, happened, own_done, block_happened}

-- ---- histories on an erased card of B blocks

abbrev blank : ℕ → Image
blank pages = record { bytes = replicate (pages * 512) 255; spare = replicate (pages * 16) 255 }

-- its format is answered 0
abbrev Formats : (P L K B : ℕ) → Type 0
Formats P L K B = number (format_reply (shape_for P L K (blank (B * P))) (blank (B * P)) 0).answer ≡ 0

abbrev card : (P L K B : ℕ) → Formats P L K B → List Command → History
card P L K B e xs = record { pages = P; logical = L; logs = K; given = blank (B * P); cut = 0; formatted = e; commands = xs }

-- page a written, with the cut number k; and not cut
abbrev put : ℕ → ℕ → Command
put a k = write a (replicate 512 7) k

abbrev whole : ℕ → Command
whole a = put a 100

-- logical block l written, with 4 pages, and not cut
abbrev whole_block : ℕ → Command
whole_block l = block_write l (replicate 2048 7) 100

-- a write or block write that has happened
abbrev wrote : Shape → Command → Reply → Bool
wrote s (read a buffer) r = false
wrote s (write a d cut) r = happened a r
wrote s (block_write l d cut) r = block_happened s r
wrote s (power_up table cut) r = false

-- programs and erases of a command, and 1 if it is such a one
abbrev row : Shape → Event → List ℕ
row s e = programs_of e.reply.answer ∷ erases_of e.reply.answer ∷ cond (wrote s e.command e.reply) 1 0 ∷ []

-- erases, n and c; then a row for each command
abbrev table : Shape → List Event → List (List ℕ)
table s es = (erases_in es ∷ writes_in s.pages es ∷ cuts_in es ∷ []) ∷ map (row s) es

-- with all that it computes by
computed : History → List (List ℕ)
unfolding computing happened own_done block_happened
computed h = table (shape h) (events h)

-- ---- 2n, and the limits of one write

formats_turns : Formats 2 2 1 4
unfolding computed
formats_turns = refl

-- Two logical blocks by turns, with one log block: 8 erases in 6 writes. Each of the last three has P + 1 programs and 2 erases, so the
-- limits of one write are reached.
turns : computed (card 2 2 1 4 formats_turns (whole 0 ∷ whole 2 ∷ whole 0 ∷ whole 2 ∷ whole 0 ∷ whole 2 ∷ []))
    ≡ (8 ∷ 6 ∷ 0 ∷ [])
    ∷ (1 ∷ 0 ∷ 1 ∷ []) ∷ (3 ∷ 1 ∷ 1 ∷ []) ∷ (3 ∷ 1 ∷ 1 ∷ []) ∷ (3 ∷ 2 ∷ 1 ∷ []) ∷ (3 ∷ 2 ∷ 1 ∷ []) ∷ (3 ∷ 2 ∷ 1 ∷ []) ∷ []
unfolding computed
turns = refl

-- ---- 2 x floor(n / P) + c

formats_merges : Formats 4 1 1 3
unfolding computed
formats_merges = refl

-- One logical block: its log block is full, two writes are cut within the merge, and one is not. There are 3 erases, n is 7 and c is 2: the limit is
-- 2 x floor(7 / 4) + 2, that is 4, and would not do without c.
merges : computed (card 4 1 1 3 formats_merges
    (whole 0 ∷ whole 0 ∷ whole 0 ∷ whole 0 ∷ put 0 1 ∷ power_up (0 ∷ 0 ∷ []) 9 ∷ put 0 1 ∷ power_up (0 ∷ 0 ∷ []) 9 ∷ whole 0 ∷ []))
    ≡ (3 ∷ 7 ∷ 2 ∷ [])
    ∷ (1 ∷ 0 ∷ 1 ∷ []) ∷ (1 ∷ 0 ∷ 1 ∷ []) ∷ (1 ∷ 0 ∷ 1 ∷ []) ∷ (1 ∷ 0 ∷ 1 ∷ [])
    ∷ (1 ∷ 0 ∷ 0 ∷ []) ∷ (0 ∷ 1 ∷ 0 ∷ []) ∷ (1 ∷ 0 ∷ 0 ∷ []) ∷ (0 ∷ 1 ∷ 0 ∷ [])
    ∷ (5 ∷ 1 ∷ 1 ∷ []) ∷ []
unfolding computed
merges = refl

-- ---- "those writes, all n"

formats_unhappened : Formats 5 2 1 4
unfolding computed
formats_unhappened = refl

-- Two writes of page 0, and two of page 5 that are cut just before their own program. There are 3 erases, n is 4 and c is 2. The writes that happened
-- fall in one logical block, and K is 1: if the second limit asked that of them alone, it would be 2 x floor(4 / 5) + 2, that is 2, and false.
unhappened : computed (card 5 2 1 4 formats_unhappened (whole 0 ∷ put 5 6 ∷ whole 0 ∷ put 5 7 ∷ []))
    ≡ (3 ∷ 4 ∷ 2 ∷ []) ∷ (1 ∷ 0 ∷ 1 ∷ []) ∷ (5 ∷ 1 ∷ 0 ∷ []) ∷ (1 ∷ 0 ∷ 1 ∷ []) ∷ (5 ∷ 2 ∷ 0 ∷ []) ∷ []
unfolding computed
unhappened = refl

-- ---- a block write is taken as P writes

-- One logical block: a block write, a write, and a block write, which has P programs and 2 erases. n is 9 and c is 0: the limit is 2 x floor(9 / 4), that
-- is 4. If a block write were taken as one write, n would be 3 and the limit 0, and false.
loads : computed (card 4 1 1 3 formats_merges (whole_block 0 ∷ whole 0 ∷ whole_block 0 ∷ []))
    ≡ (2 ∷ 9 ∷ 0 ∷ []) ∷ (4 ∷ 0 ∷ 1 ∷ []) ∷ (1 ∷ 0 ∷ 1 ∷ []) ∷ (4 ∷ 2 ∷ 1 ∷ []) ∷ []
unfolding computed
loads = refl
