-- One possible answer: what a function promises leaves one number and one content of each buffer lent to it.
use mathlib.Core.Path.{◌≡◌, sym, ap, ◌∙◌}
use mathlib.Core.List.{List}
use Prim.Native.Nat.{ℕ}
use Rattle.rules.specs.declared.shape.Shape.{Shape}
use Rattle.rules.specs.declared.answer.Answer.{Answer}
use Rattle.rules.specs.Page.{Image}
use Rattle.rules.specs.Promises.{FormatDone, PowerUpDone, ReadDone, WriteDone, BlockWriteDone}
use Rattle.card.proofs.Unique as card
use Rattle.hamutsigra.specs.Results.{packed, Result, lent_byte, LentFrom}

-- one answer is one number
result_one : {A B : Answer → Type 0} {r r' : ℕ} (x : Result A r) (y : Result B r') → x.answer ≡ y.answer → r ≡ r'
result_one x y e = x.packs ∙ ap packed e ∙ sym y.packs

module _ (s : Shape) (im : Image) {r r' : ℕ} where
  module _ {bytes bytes' spare spare' : List ℕ} where
    pub format_one : (cut : ℕ) → Result (λ a. FormatDone s im cut a bytes spare) r → Result (λ a. FormatDone s im cut a bytes' spare') r'
        → (r ≡ r') × (bytes ≡ bytes') × (spare ≡ spare')
    format_one cut x y = let e = card.format_one s im cut x.kept y.kept in (result_one x y e.0, e.1, e.2)

    pub power_up_one : (old : List ℕ) (cut : ℕ) {table table' : List ℕ} → Result (λ a. PowerUpDone s im old cut a bytes spare table) r
        → Result (λ a. PowerUpDone s im old cut a bytes' spare' table') r' → (r ≡ r') × (bytes ≡ bytes') × (spare ≡ spare') × (table ≡ table')
    power_up_one old cut x y =
        let e = card.power_up_one s im old cut x.kept y.kept in
        (result_one x y e.0.0, e.0.1, e.0.2, e.1)

    pub write_one : (n : ℕ) (page : List ℕ) (cut : ℕ) → Result (λ a. WriteDone s im n page cut a bytes spare) r
        → Result (λ a. WriteDone s im n page cut a bytes' spare') r' → (r ≡ r') × (bytes ≡ bytes') × (spare ≡ spare')
    write_one n page cut x y = let e = card.write_one s im n page cut x.kept y.kept in (result_one x y e.0, e.1, e.2)

    pub block_write_one : (n : ℕ) (block : List ℕ) (cut : ℕ) → Result (λ a. BlockWriteDone s im n block cut a bytes spare) r
        → Result (λ a. BlockWriteDone s im n block cut a bytes' spare') r' → (r ≡ r') × (bytes ≡ bytes') × (spare ≡ spare')
    block_write_one n block cut x y = let e = card.block_write_one s im n block cut x.kept y.kept in (result_one x y e.0, e.1, e.2)

  pub read_one : (old : List ℕ) (n : ℕ) {page page' : List ℕ} → Result (λ a. ReadDone s im old n a page) r
      → Result (λ a. ReadDone s im old n a page') r' → (r ≡ r') × (page ≡ page')
  read_one old n x y = let e = card.read_one s im old n x.kept y.kept in (result_one x y e.0, e.1)

  pub lend_one : (n : ℕ) → LentFrom s im n r → LentFrom s im n r' → r ≡ r'
  lend_one n x y = x.byte ∙ ap lent_byte (card.lend_at_one s im n x.lent y.lent) ∙ sym y.byte
