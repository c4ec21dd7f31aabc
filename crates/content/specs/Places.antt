-- Where a logical page is, told by the spare bytes alone.
use Rattle.std.specs.Prelude.{◌≡◌, cond, Option, Some, None, IfSome, List, [], ℕ, ◌*◌, ◌<◌}
use Rattle.rules.specs.declared.shape.Shape.{Shape}
use Rattle.rules.specs.Below.{is_none}
use Rattle.rules.specs.Facts.{image_of}
use Rattle.rules.specs.Shape.{page_no}
use Rattle.rules.specs.WellFormed.{Blocks, data_block, live_log}
use Rattle.rules.specs.Content.{newest, holder, bytes_at}

-- a place on the card, or none
abbrev pub PlaceIn : Shape → Option ℕ → Type 0
PlaceIn s r = IfSome r (λ p. p < s.blocks * s.pages)

-- the copy of offset o in the live log block of logical block l
abbrev pub log_place : Shape → List ℕ → Blocks → ℕ → ℕ → Option ℕ
log_place s spare c l o = newest s (image_of [] spare) (live_log s c l) o (c (live_log s c l)).filled

-- the page at offset o of the data block of logical block l, if it has one
abbrev pub data_place : Shape → Blocks → ℕ → ℕ → Option ℕ
data_place s c l o = cond (is_none (data_block s c l)) None (Some (page_no s (data_block s c l) o))

-- what is found, whatever the data bytes are
pub record Holder (s : Shape) (spare : List ℕ) (c : Blocks) (a : ℕ) (r : Option ℕ) : Type 0 where
  pub is : (bytes : List ℕ) → r ≡ holder s (image_of bytes spare) c a
  pub inside : PlaceIn s r

-- page is what is at the place q, whatever the spare bytes are
abbrev pub Copied : List ℕ → Option ℕ → List ℕ → Type 0
Copied bytes q page = (spare : List ℕ) → page ≡ bytes_at (image_of bytes spare) q
