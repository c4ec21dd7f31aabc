-- Sixteen spare bytes held against those of an entry.
use Rattle.std.specs.Prelude.{◌≡◌, Option, Some, None, Bool, ◌&&◌, cond, List, ℕ, ◌+◌, ◌*◌, ◌≤◌, ◌<◌, eqb}
use Rattle.rules.specs.declared.kind.Kind.{Kind}
use Rattle.rules.specs.declared.kind.Kind.TheVariants.{Log, Copy}
use Rattle.rules.specs.Bytes.{byte}
use Rattle.rules.specs.Spare.{number_limit, log_kind, copy_kind, number_in, kind_in, address_in, in_table}

-- w is the four bytes of t from place i on, low byte first; each is below 256
pub record Word (t : List ℕ) (i w : ℕ) : Type 0 where
  pub is : w ≡ byte t i + byte t (i + 1) * 256 + byte t (i + 2) * 65536 + byte t (i + 3) * 16777216
  pub small_0 : byte t i < 256
  pub small_1 : byte t (i + 1) < 256
  pub small_2 : byte t (i + 2) < 256
  pub small_3 : byte t (i + 3) < 256

-- a number that the spare table lets stand
pub record OfTable (n : ℕ) : Type 0 where
  pub low : 1 ≤ n
  pub high : n ≤ number_limit

-- the kind that byte b names, if it names one
abbrev pub kind_told : ℕ → Option Kind
kind_told b = cond (eqb b log_kind) (Some Log) (cond (eqb b copy_kind) (Some Copy) None)

-- they are bytes of the table, with number n, kind k and logical page a
unfoldable pub is_entry_of : List ℕ → ℕ → ℕ → ℕ → Bool
is_entry_of t n k a = in_table t && eqb (number_in t) n && eqb (kind_in t) k && eqb (address_in t) a
