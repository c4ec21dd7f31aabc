-- What the commands promise: the answer, and each buffer at exit, are the definitions' values of what came in.
use Rattle.std.specs.Prelude.{◌≡◌, Option, Some, None, List, ℕ, ◌*◌, ◌<◌, length}
use Rattle.rules.specs.declared.shape.Shape.{Shape}
use Rattle.rules.specs.declared.answer.Answer.{Answer}
use Rattle.rules.specs.Page.{Image}
use Rattle.rules.specs.Facts.{Fits}
use Rattle.rules.specs.Replies.{Reply, shape_for, image_left, format_reply, power_up_reply, write_reply, block_write_reply, read_reply, table_left, page_left, lent_page, lent_bytes}

-- Every command is given P, L and K: what is promised of the card's shape s and its image im.
abbrev pub Given : ℕ → ℕ → ℕ → Image → (Shape → Image → Type 0) → Type 0
Given P L K im promise = promise (shape_for P L K im) im

-- The answer r is that of the reply, from which Replies.antt reads number, programs and erases; the data image and the spare image are as its
-- steps leave them, and so unchanged where it is a refusal.
pub record Replied (s : Shape) (im : Image) (reply : Reply) (r : Answer) (bytes spare : List ℕ) : Type 0 where
  pub answer : r ≡ reply.answer
  pub bytes_left : bytes ≡ (image_left s im reply).bytes
  pub spare_left : spare ≡ (image_left s im reply).spare

abbrev pub FormatDone : Shape → Image → ℕ → Answer → List ℕ → List ℕ → Type 0
FormatDone s im cut r bytes spare = Replied s im (format_reply s im cut) r bytes spare

abbrev pub WriteDone : Shape → Image → ℕ → List ℕ → ℕ → Answer → List ℕ → List ℕ → Type 0
WriteDone s im a page cut r bytes spare = Replied s im (write_reply s im a page cut) r bytes spare

abbrev pub BlockWriteDone : Shape → Image → ℕ → List ℕ → ℕ → Answer → List ℕ → List ℕ → Type 0
BlockWriteDone s im l block cut r bytes spare = Replied s im (block_write_reply s im l block cut) r bytes spare

pub record PowerUpDone (s : Shape) (im : Image) (old : List ℕ) (cut : ℕ) (r : Answer) (bytes spare table : List ℕ) : Type 0 where
  pub replied : Replied s im (power_up_reply s im (length old) cut) r bytes spare
  pub table_left : table ≡ table_left s im old cut

pub record ReadDone (s : Shape) (im : Image) (old : List ℕ) (a : ℕ) (r : Answer) (page : List ℕ) : Type 0 where
  pub answer : r ≡ (read_reply s im (length old) a).answer
  pub page_left : page ≡ page_left s im old a

-- a page of the card, and so its 512 bytes are in the data image
abbrev pub LentIn : Shape → Image → Option ℕ → Type 0
LentIn s im (Some p) = Fits s im × (p < s.blocks * s.pages)
LentIn s im None = Unit {0}

-- the flash page lent, or none
pub record LentAt (s : Shape) (im : Image) (a : ℕ) (r : Option ℕ) : Type 0 where
  pub place : r ≡ lent_page s im a
  pub inside : LentIn s im r

-- The bytes lent. Where a slice starts a contract cannot say: that is LentAt's.
pub record Lent (s : Shape) (im : Image) (a : ℕ) (part : List ℕ) : Type 0 where
  pub bytes_lent : part ≡ lent_bytes im (lent_page s im a)
