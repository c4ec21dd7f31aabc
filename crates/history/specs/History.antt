-- Histories: a format that is answered 0, and then any reads, writes, block writes and power-ups, refused ones too.
--
-- A later format begins a history of its own, since the image given is any image, and one that is cut promises only its steps. Page lending
-- changes nothing.
use Rattle.std.specs.Prelude.{◌≡◌, Bool, true, false, ◌&&◌, ◌||◌, not, cond, List, [], ◌∷◌, ◌++◌, ℕ, ◌+◌, ◌/◌, T, eqb, length, replicate}
use Rattle.rules.specs.declared.shape.Shape.{Shape}
use Rattle.rules.specs.Spare.{log_kind, kind_in, address_in}
use Rattle.rules.specs.Shape.{block_of, offset_of}
use Rattle.rules.specs.Page.{Image, page_bytes, page_spare, erased}
use Rattle.rules.specs.Steps.{Step, program, erase, step_done, programs, erases, part_of}
use Rattle.rules.specs.Replies.{Reply, number, programs_of, erases_of, shape_for, image_left, format_reply, power_up_reply, read_reply, write_reply, block_write_reply}

-- ---- commands, with any page or block number, any buffer and table, any bytes and any cut

pub data Command : Type 0 where
  -- a page, and the page buffer lent
  read : ℕ → List ℕ → Command
  -- a page, its bytes, and the cut number
  write : ℕ → List ℕ → ℕ → Command
  -- a logical block, its P x 512 bytes, and the cut number
  block_write : ℕ → List ℕ → ℕ → Command
  -- the table lent, and the cut number
  power_up : List ℕ → ℕ → Command

-- what the contracts of the commands promise
abbrev pub reply_to : Shape → Image → Command → Reply
reply_to s im (read a buffer) = read_reply s im (length buffer) a
reply_to s im (write a d cut) = write_reply s im a d cut
reply_to s im (block_write l d cut) = block_write_reply s im l d cut
reply_to s im (power_up table cut) = power_up_reply s im (length table) cut

pub record Event : Type 0 where
  pub command : Command
  pub reply : Reply

-- ---- what commands leave, each given P, L and K

module _ (P L K : ℕ) where
  abbrev pub event_of : Image → Command → Event
  event_of im x = record { command = x; reply = reply_to (shape_for P L K im) im x }

  abbrev pub left_by : Image → Command → Image
  left_by im x = image_left (shape_for P L K im) im (reply_to (shape_for P L K im) im x)

  abbrev pub image_after : Image → List Command → Image
  image_after im [] = im
  image_after im (x ∷ xs) = image_after (left_by im x) xs

  abbrev pub events_from : Image → List Command → List Event
  events_from im [] = []
  events_from im (x ∷ xs) = event_of im x ∷ events_from (left_by im x) xs

-- ---- a history

pub record History : Type 0 where
  -- P, L and K
  pub pages : ℕ
  pub logical : ℕ
  pub logs : ℕ
  -- any image, and the cut number of its format, which is answered 0
  pub given : Image
  pub cut : ℕ
  pub formatted : number (format_reply (shape_for pages logical logs given) given cut).answer ≡ 0
  pub commands : List Command

module _ (h : History) where
  abbrev shape_then : Image → Shape
  shape_then im = shape_for h.pages h.logical h.logs im

  abbrev pub format : Reply
  format = format_reply (shape_then h.given) h.given h.cut

  -- the image that the format leaves
  abbrev pub formatted_image : Image
  formatted_image = image_left (shape_then h.given) h.given format

  abbrev pub events : List Event
  events = events_from h.pages h.logical h.logs formatted_image h.commands

  -- the image that the history leaves
  abbrev pub end : Image
  end = image_after h.pages h.logical h.logs formatted_image h.commands

  -- ---- one command more: its shape, its reply with the number of its answer, and the image that it leaves

  abbrev pub shape : Shape
  shape = shape_then end

  abbrev pub reply_then : Command → Reply
  reply_then x = reply_to shape end x

  abbrev pub answer_then : Command → ℕ
  answer_then x = number (reply_then x).answer

  abbrev pub left_then : Command → Image
  left_then x = image_left shape end (reply_then x)

-- ---- the last write of a page, from commands and replies alone

abbrev pub answered : ℕ → Reply → Bool
answered n r = eqb (number r.answer) n

-- the program of the write's own page: its spare bytes say log and page a. (The copies of a merge say copy.)
abbrev pub is_own : ℕ → Step → Bool
is_own a (program p d t) = eqb (kind_in t) log_kind && eqb (address_in t) a
is_own a (erase b) = false

unfoldable pub own_done : ℕ → List Step → Bool
own_done a [] = false
own_done a (t ∷ ts) = is_own a t || own_done a ts

-- A write has happened exactly if it was answered 0, or 8 with the program of its own page among the steps done.
unfoldable pub happened : ℕ → Reply → Bool
happened a r = answered 0 r || (answered 8 r && own_done a r.steps)

-- A block write has happened exactly if it was answered 0, or 8 with the last of its P programs among the steps done, that is all P.
unfoldable pub block_happened : Shape → Reply → Bool
block_happened s r = answered 0 r || (answered 8 r && eqb (programs r.steps) s.pages)

-- what page a reads as after a command, if it read as `before` till then
abbrev pub page_after : Shape → Command → Reply → ℕ → List ℕ → List ℕ
page_after s (read b buffer) r a before = before
page_after s (write b d cut) r a before = cond (eqb a b && happened b r) d before
page_after s (block_write l d cut) r a before = cond (eqb (block_of s a) l && block_happened s r) (part_of d (offset_of s a)) before
page_after s (power_up table cut) r a before = before

abbrev pub last_from : Shape → List Event → ℕ → List ℕ → List ℕ
last_from s [] a before = before
last_from s (e ∷ es) a before = last_from s es a (page_after s e.command e.reply a before)

-- the bytes of the last write of page a that happened, a block write taken as a write of each of its P pages, or 512 bytes of 255
abbrev pub last_write : Shape → List Event → ℕ → List ℕ
last_write s es a = last_from s es a (replicate 512 255)

-- ---- the counts of demand 3

-- the counts of an answer are those of its steps
abbrev pub Tells : Reply → Type 0
Tells r = (programs_of r.answer ≡ programs r.steps) × (erases_of r.answer ≡ erases r.steps)

-- a write or block write
abbrev pub is_write : Command → Bool
is_write (read a buffer) = false
is_write (write a d cut) = true
is_write (block_write l d cut) = true
is_write (power_up table cut) = false

-- a write or block write answered 0 or 8
abbrev pub done_or_cut : Event → Bool
done_or_cut e = is_write e.command && (answered 0 e.reply || answered 8 e.reply)

-- a write or block write answered 8
abbrev pub was_cut : Event → Bool
was_cut e = is_write e.command && answered 8 e.reply

-- how many writes a command is taken as: a block write as P
abbrev pub worth : ℕ → Command → ℕ
worth P (read a buffer) = 0
worth P (write a d cut) = 1
worth P (block_write l d cut) = P
worth P (power_up table cut) = 0

-- those of an event: of a write or block write answered 0 or 8
abbrev pub writes_of : ℕ → Event → ℕ
writes_of P e = cond (done_or_cut e) (worth P e.command) 0

-- n: those of all events
abbrev pub writes_in : ℕ → List Event → ℕ
writes_in P [] = 0
writes_in P (e ∷ es) = writes_of P e + writes_in P es

-- c: those answered 8, a block write as one cut
abbrev pub cuts_in : List Event → ℕ
cuts_in [] = 0
cuts_in (e ∷ es) = cond (was_cut e) 1 0 + cuts_in es

-- the erases among the steps done by writes, block writes and power-ups. (A read has none.)
abbrev pub erases_in : List Event → ℕ
erases_in [] = 0
erases_in (e ∷ es) = erases e.reply.steps + erases_in es

-- the logical block of a write or block write; of other commands it is never asked
abbrev pub block_written : Shape → Command → ℕ
block_written s (read a buffer) = 0
block_written s (write a d cut) = block_of s a
block_written s (block_write l d cut) = l
block_written s (power_up table cut) = 0

-- those writes, all n, fall in logical blocks that S marks
abbrev pub FallIn : Shape → (ℕ → Bool) → List Event → Type 0
FallIn s S [] = Unit {0}
FallIn s S (e ∷ es) = (T (done_or_cut e) → T (S (block_written s e.command))) × FallIn s S es

-- ---- all steps done, the format's first

abbrev pub steps_in : List Event → List Step
steps_in [] = []
steps_in (e ∷ es) = e.reply.steps ++ steps_in es

abbrev pub all_steps : History → List Step
all_steps h = (format h).steps ++ steps_in (events h)

-- page p is programmed again before its block is erased
abbrev pub again : Shape → ℕ → List Step → Bool
again s p [] = false
again s p (program q d t ∷ ts) = eqb q p || again s p ts
again s p (erase b ∷ ts) = not (eqb b (p / s.pages)) && again s p ts

-- no page is programmed twice between erases
abbrev pub never_twice : Shape → List Step → Bool
never_twice s [] = true
never_twice s (program p d t ∷ ts) = not (again s p ts) && never_twice s ts
never_twice s (erase b ∷ ts) = never_twice s ts

-- done from im on, each program finds its 528 bytes all 255
abbrev pub FindErased : Shape → List Step → Image → Type 0
FindErased s [] im = Unit {0}
FindErased s (program p d t ∷ ts) im = T (erased (page_bytes im p) (page_spare im p)) × FindErased s ts (step_done s (program p d t) im)
FindErased s (erase b ∷ ts) im = FindErased s ts (step_done s (erase b) im)

-- no step is of block b
abbrev pub left_alone : Shape → ℕ → List Step → Bool
left_alone s b [] = true
left_alone s b (program p d t ∷ ts) = not (eqb (p / s.pages) b) && left_alone s b ts
left_alone s b (erase j ∷ ts) = not (eqb j b) && left_alone s b ts
