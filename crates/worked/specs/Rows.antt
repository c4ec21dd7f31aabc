-- A row of worked cases: what a command is given, what it answers and does, and what is looked at afterwards.
use Rattle.std.specs.Prelude.{Bool, true, false, ◌&&◌, Option, Some, None, List, [], ◌∷◌, ◌++◌, ℕ, zero, suc, ◌+◌, ◌*◌, eqb, get_or, replicate, take}
use Rattle.rules.specs.declared.shape.Shape.{Shape}
use Rattle.rules.specs.Bytes.{replaced}
use Rattle.rules.specs.Spare.{spare_bytes}
use Rattle.rules.specs.Page.{Image, page_bytes, page_spare}
use Rattle.rules.specs.Steps.{Step, program, erase, step_done}
use Rattle.rules.specs.Replies.{number, programs_of, erases_of, shape_for, Reply, image_left, format_reply, power_up_reply, write_reply, block_write_reply, read_reply, table_left, page_left, lent_page, lent_bytes}

-- P, L and K
pub record Given : Type 0 where
  pub P : ℕ
  pub L : ℕ
  pub K : ℕ

-- what stands on a page before the row: its page number, then number, kind and logical page; or one of its spare bytes, or of its data bytes
pub data Mark : Type 0 where
  entry : ℕ → ℕ → ℕ → ℕ → Mark
  spare_is : ℕ → ℕ → ℕ → Mark
  data_is : ℕ → ℕ → ℕ → Mark

-- one page of a log block, of a copy
abbrev pub log : ℕ → ℕ → ℕ → Mark
log i n a = entry i n 240 a

abbrev pub copy : ℕ → ℕ → ℕ → Mark
copy i n a = entry i n 15 a

pub data Start : Type 0 where
  -- the image that was left 0, 1, .. rows ago
  left : ℕ → Start
  -- B erased blocks of P pages with some marks on them
  chip : ℕ → ℕ → List Mark → Start
  -- a data image of so many pages and a spare image of so many, each byte of them v, which comes first
  plain : ℕ → ℕ → ℕ → Start

-- a command, its cut number last; a write is of page a with n bytes v, a read of page a with a buffer of n bytes; a block write is of logical block l
-- with n bytes: 512 of v, 512 of v + 1, ..
pub data Call : Type 0 where
  format : ℕ → Call
  power_up : ℕ → ℕ → Call
  read : ℕ → ℕ → Call
  write : ℕ → ℕ → ℕ → ℕ → Call
  block_write : ℕ → ℕ → ℕ → ℕ → Call

-- a step done: page p programmed, block b erased
pub data Did : Type 0 where
  p : ℕ → Did
  e : ℕ → Did

-- what is looked at afterwards
pub data Look : Type 0 where
  -- a read of page a answers 0 and gives 512 bytes v
  reads : ℕ → ℕ → Look
  -- flash page p has 512 bytes v
  bytes : ℕ → ℕ → Look
  -- flash page p has these spare bytes, then 255
  spare : ℕ → List ℕ → Look
  -- the table that a power-up fills
  table : List ℕ → Look
  -- logical page a is lent from flash page p; from no page; the bytes lent are these
  lent : ℕ → ℕ → Look
  unlent : ℕ → Look
  lends : ℕ → List ℕ → Look
  -- this read left its whole buffer at v; this power-up left this table. Both were lent full of 7
  got : ℕ → Look
  filled : List ℕ → Look
  -- no byte of the image changed
  unchanged : Look

pub record Row : Type 0 where
  pub given : Given
  pub start : Start
  pub call : Call
  pub answer : ℕ
  pub programs : ℕ
  pub erases : ℕ
  pub did : List Did
  pub looks : List Look

abbrev pub same : List ℕ → List ℕ → Bool
same [] [] = true
same [] (y ∷ ys) = false
same (x ∷ xs) [] = false
same (x ∷ xs) (y ∷ ys) = eqb x y && same xs ys

abbrev pub shape_in : Given → Image → Shape
shape_in g im = shape_for g.P g.L g.K im

abbrev pub marked : Shape → List Mark → Image → Image
marked s [] im = im
marked s (entry i n k a ∷ ms) im = marked s ms (step_done s (program i (replicate 512 (100 + i)) (spare_bytes n k a)) im)
marked s (spare_is i at v ∷ ms) im = marked s ms (record { bytes = im.bytes; spare = replaced im.spare (i * 16 + at) 1 (v ∷ []) })
marked s (data_is i at v ∷ ms) im = marked s ms (record { bytes = replaced im.bytes (i * 512 + at) 1 (v ∷ []); spare = im.spare })

abbrev pub pages_of : ℕ → ℕ → ℕ → Image
pages_of v n m = record { bytes = replicate (n * 512) v; spare = replicate (m * 16) v }

abbrev pub blank : ℕ → ℕ → Image
blank P B = pages_of 255 (B * P) (B * P)

-- old: the images left by the rows before, the last one first
abbrev pub image_at : Given → List Image → Start → Image
image_at g old (left k) = get_or old k (blank 0 0)
image_at g old (chip P B ms) = marked (shape_in g (blank P B)) ms (blank P B)
image_at g old (plain v n m) = pages_of v n m

-- so many pages: of bytes v, of bytes v + 1, ..
abbrev pub pages_from : ℕ → ℕ → List ℕ
pages_from zero v = []
pages_from (suc n) v = replicate 512 v ++ pages_from n (suc v)

abbrev pub reply_to : Shape → Image → Call → Reply
reply_to s im (format cut) = format_reply s im cut
reply_to s im (power_up size cut) = power_up_reply s im size cut
reply_to s im (read a n) = read_reply s im n a
reply_to s im (write a n v cut) = write_reply s im a (replicate n v) cut
reply_to s im (block_write l n v cut) = block_write_reply s im l (take n (pages_from 4 v)) cut

abbrev pub did_steps : List Step → List Did → Bool
did_steps [] [] = true
did_steps [] (y ∷ ys) = false
did_steps (x ∷ xs) [] = false
did_steps (program i d t ∷ xs) (p j ∷ ys) = eqb i j && did_steps xs ys
did_steps (program i d t ∷ xs) (e b ∷ ys) = false
did_steps (erase b ∷ xs) (p j ∷ ys) = false
did_steps (erase b ∷ xs) (e j ∷ ys) = eqb b j && did_steps xs ys

abbrev pub is_at : Option ℕ → ℕ → Bool
is_at (Some i) j = eqb i j
is_at None j = false

abbrev pub is_nowhere : Option ℕ → Bool
is_nowhere (Some i) = false
is_nowhere None = true

abbrev pub got_by : Shape → Image → Call → ℕ → Bool
got_by s im (format cut) v = false
got_by s im (power_up size cut) v = false
got_by s im (read a n) v = same (page_left s im (replicate n 7) a) (replicate n v)
got_by s im (write a n w cut) v = false
got_by s im (block_write l n w cut) v = false

abbrev pub filled_by : Shape → Image → Call → List ℕ → Bool
filled_by s im (format cut) t = false
filled_by s im (power_up size cut) t = same (table_left s im (replicate size 7) cut) t
filled_by s im (read a n) t = false
filled_by s im (write a n v cut) t = false
filled_by s im (block_write l n v cut) t = false

-- after the call the image old is im
abbrev pub seen : Shape → Image → Call → Image → Look → Bool
seen s old call im (reads a v) = eqb (number (read_reply s im 512 a).answer) 0 && same (page_left s im (replicate 512 7) a) (replicate 512 v)
seen s old call im (bytes i v) = same (page_bytes im i) (replicate 512 v)
seen s old call im (spare i t) = same (page_spare im i) (t ++ replicate 8 255)
seen s old call im (table t) = same (table_left s im (replicate (2 * s.logical) 7) 99) t
seen s old call im (lent a i) = is_at (lent_page s im a) i
seen s old call im (unlent a) = is_nowhere (lent_page s im a)
seen s old call im (lends a d) = same (lent_bytes im (lent_page s im a)) d
seen s old call im (got v) = got_by s old call v
seen s old call im (filled t) = filled_by s old call t
seen s old call im unchanged = same im.bytes old.bytes && same im.spare old.spare

abbrev pub all_seen : Shape → Image → Call → Image → List Look → Bool
all_seen s old call im [] = true
all_seen s old call im (x ∷ xs) = seen s old call im x && all_seen s old call im xs

abbrev pub holds : Shape → Image → Row → Reply → Image → Bool
holds s old r y im =
    eqb (number y.answer) r.answer
    && eqb (programs_of y.answer) r.programs
    && eqb (erases_of y.answer) r.erases
    && did_steps y.steps r.did
    && all_seen s old r.call im r.looks

-- Every row holds.
abbrev pub all_hold : List Row → List Image → Bool
all_hold [] old = true
all_hold (r ∷ rs) old =
    let im : Image = image_at r.given old r.start in
    let s : Shape = shape_in r.given im in
    let y : Reply = reply_to s im r.call in
    let im' : Image = image_left s im y in
    holds s im r y im' && all_hold rs (im' ∷ old)
