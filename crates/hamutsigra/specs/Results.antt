-- What C is given: an answer as one number of 64 bits, and a lent page by the byte where it starts.
use Rattle.std.specs.Prelude.{◌≡◌, Option, Some, None, ℕ, ◌+◌, ◌*◌, ◌<◌}
use Rattle.rules.specs.declared.shape.Shape.{Shape}
use Rattle.rules.specs.declared.answer.Answer.{Answer}
use Rattle.rules.specs.Page.{Image}
use Rattle.rules.specs.Replies.{number, programs_of, erases_of}
use Rattle.rules.specs.Promises.{LentAt}

-- the answer's number in bits 0 to 7, its programs in bits 8 to 31, its erases in bits 32 to 63
abbrev pub packed : Answer → ℕ
packed a = number a + programs_of a * 256 + erases_of a * 4294967296

-- each of the three fits its bits
pub record InBits (a : Answer) : Type 0 where
  pub number_fits : number a < 256
  pub programs_fit : programs_of a < 16777216
  pub erases_fit : erases_of a < 4294967296

-- r is the answer that keeps the card's promise, packed
pub record Result (promise : Answer → Type 0) (r : ℕ) : Type 0 where
  pub answer : Answer
  pub kept : promise answer
  pub packs : r ≡ packed answer

-- the byte of the data image where a lent page starts, or 2^64 - 1
abbrev pub lent_byte : Option ℕ → ℕ
lent_byte (Some p) = p * 512
lent_byte None = 18446744073709551615

-- r is that byte for the page that the card lends, and its 512 bytes are in the data image
pub record LentFrom (s : Shape) (im : Image) (a r : ℕ) : Type 0 where
  pub place : Option ℕ
  pub lent : LentAt s im a place
  pub byte : r ≡ lent_byte place
