-- One possible answer: what a command promises leaves one answer and one content of each buffer lent to it.
use mathlib.Core.Path.{◌≡◌, sym, ◌∙◌}
use mathlib.Core.List.{List}
use Prim.Native.Nat.{ℕ}
use Rattle.std.specs.Prelude.{Option}
use Rattle.rules.specs.declared.shape.Shape.{Shape}
use Rattle.rules.specs.declared.answer.Answer.{Answer}
use Rattle.rules.specs.Page.{Image}
use Rattle.rules.specs.Replies.{Reply}
use Rattle.rules.specs.Promises.{Replied, FormatDone, PowerUpDone, ReadDone, WriteDone, BlockWriteDone, LentAt, Lent}

-- two that are both the definition's value are one
one : {A : Type 0} {x y v : A} → x ≡ v → y ≡ v → x ≡ y
one e f = e ∙ sym f

module _ (s : Shape) (im : Image) where
  replied_one : (reply : Reply) {r r' : Answer} {bytes bytes' spare spare' : List ℕ} → Replied s im reply r bytes spare
      → Replied s im reply r' bytes' spare'
      → (r ≡ r') × (bytes ≡ bytes') × (spare ≡ spare')
  replied_one reply h k = (one h.answer k.answer, one h.bytes_left k.bytes_left, one h.spare_left k.spare_left)

  pub format_one : (cut : ℕ) {r r' : Answer} {bytes bytes' spare spare' : List ℕ} → FormatDone s im cut r bytes spare
      → FormatDone s im cut r' bytes' spare'
      → (r ≡ r') × (bytes ≡ bytes') × (spare ≡ spare')
  format_one cut h k = replied_one _ h k

  pub power_up_one : (old : List ℕ) (cut : ℕ) {r r' : Answer} {bytes bytes' spare spare' table table' : List ℕ}
      → PowerUpDone s im old cut r bytes spare table
      → PowerUpDone s im old cut r' bytes' spare' table' → ((r ≡ r') × (bytes ≡ bytes') × (spare ≡ spare')) × (table ≡ table')
  power_up_one old cut h k = (replied_one _ h.replied k.replied, one h.table_left k.table_left)

  pub read_one : (old : List ℕ) (a : ℕ) {r r' : Answer} {page page' : List ℕ} → ReadDone s im old a r page → ReadDone s im old a r' page'
      → (r ≡ r') × (page ≡ page')
  read_one old a h k = (one h.answer k.answer, one h.page_left k.page_left)

  pub write_one : (a : ℕ) (page : List ℕ) (cut : ℕ) {r r' : Answer} {bytes bytes' spare spare' : List ℕ} → WriteDone s im a page cut r bytes spare
      → WriteDone s im a page cut r' bytes' spare' → (r ≡ r') × (bytes ≡ bytes') × (spare ≡ spare')
  write_one a page cut h k = replied_one _ h k

  pub block_write_one : (l : ℕ) (block : List ℕ) (cut : ℕ) {r r' : Answer} {bytes bytes' spare spare' : List ℕ}
      → BlockWriteDone s im l block cut r bytes spare
      → BlockWriteDone s im l block cut r' bytes' spare' → (r ≡ r') × (bytes ≡ bytes') × (spare ≡ spare')
  block_write_one l block cut h k = replied_one _ h k

  pub lend_one : (a : ℕ) {part part' : List ℕ} → Lent s im a part → Lent s im a part' → part ≡ part'
  lend_one a h k = one h.bytes_lent k.bytes_lent

  pub lend_at_one : (a : ℕ) {place place' : Option ℕ} → LentAt s im a place → LentAt s im a place' → place ≡ place'
  lend_at_one a h k = one h.place k.place
