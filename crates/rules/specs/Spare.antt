-- The spare table of document 01: what the sixteen spare bytes of a page say.
--
--   bytes   content
--   0-3     sequence number, low byte first, 1 to 4,294,967,294
--   4       kind: 240 log, 15 copy
--   5       block status, 255
--   6-7     logical page, low byte first
--   8-15    255
use Rattle.std.specs.Prelude.{◌≡◌, ◌≢◌, Bool, ◌&&◌, ◌||◌, cond, Result, MatchResult, List, ◌∷◌, ℕ, ◌+◌, ◌*◌, ◌/◌, ◌%◌, leb, eqb, drop, replicate}
use Rattle.rules.specs.declared.kind.Kind.{Kind}
use Rattle.rules.specs.declared.kind.Kind.TheVariants.{Log, Copy}
use Rattle.rules.specs.declared.kind.UnknownKind.{UnknownKind}
use Rattle.rules.specs.Bytes.{all255, byte}

-- no sequence number is above this
abbrev pub number_limit : ℕ
number_limit = 4294967294

abbrev pub log_kind : ℕ
log_kind = 240

abbrev pub copy_kind : ℕ
copy_kind = 15

-- the byte of a kind
abbrev pub kind_byte : Kind → ℕ
kind_byte Log = log_kind
kind_byte Copy = copy_kind

-- the kind of a byte of the table: one of the two
abbrev pub kind_for : ℕ → Kind
kind_for b = cond (eqb b log_kind) Log Copy

-- what byte b is read as: the kind that it stands for, or an error where it stands for none
abbrev pub Reads : ℕ → Result Kind UnknownKind → Type 0
Reads b r = MatchResult r (λ k. kind_byte k ≡ b) (λ e. (e.0 ≡ b) × (b ≢ log_kind) × (b ≢ copy_kind))

abbrev pub number_in : List ℕ → ℕ
number_in t = byte t 0 + byte t 1 * 256 + byte t 2 * 65536 + byte t 3 * 16777216

abbrev pub kind_in : List ℕ → ℕ
kind_in t = byte t 4

abbrev pub status_in : List ℕ → ℕ
status_in t = byte t 5

abbrev pub address_in : List ℕ → ℕ
address_in t = byte t 6 + byte t 7 * 256

-- the bytes of the table
unfoldable pub in_table : List ℕ → Bool
in_table t =
    leb 1 (number_in t) && leb (number_in t) number_limit
    && (eqb (kind_in t) log_kind || eqb (kind_in t) copy_kind)
    && eqb (status_in t) 255
    && all255 (drop 8 t)

-- the sixteen bytes of a page with number n, kind k and logical page a
unfoldable pub spare_bytes : ℕ → ℕ → ℕ → List ℕ
spare_bytes n k a =
    n % 256 ∷ n / 256 % 256 ∷ n / 65536 % 256 ∷ n / 16777216 % 256
    ∷ k
    ∷ 255
    ∷ a % 256 ∷ a / 256 % 256
    ∷ replicate 8 255
