-- Facts that the contracts of the code ask of a caller, or give him.
use Rattle.std.specs.Prelude.{◌≡◌, List, ℕ, ◌*◌, ◌≤◌, length}
use Rattle.rules.specs.declared.shape.Shape.{Shape}
use Rattle.rules.specs.Shape.{most}
use Rattle.rules.specs.Page.{Image}

-- ---- the limits

-- P 2 to 32, B 3 to 64, L and K at least 1.
pub record Limits (s : Shape) : Type 0 where
  pub pages_low : 2 ≤ s.pages
  pub pages_high : s.pages ≤ 32
  pub blocks_low : 3 ≤ s.blocks
  pub blocks_high : s.blocks ≤ most
  pub logical_low : 1 ≤ s.logical
  pub logs_low : 1 ≤ s.logs

-- what within_limits tests: the limits, and both images have B x P pages
pub record Within (s : Shape) (bytes spares : ℕ) : Type 0 where
  pub limits : Limits s
  pub bytes_long : bytes ≡ s.blocks * s.pages * 512
  pub spares_long : spares ≡ s.blocks * s.pages * 16

-- ---- the two slices that a card's image is lent in

abbrev pub image_of : List ℕ → List ℕ → Image
image_of bytes spare = record { bytes = bytes; spare = spare }

abbrev pub Fits : Shape → Image → Type 0
Fits s im = Within s (length im.bytes) (length im.spare)

-- what is left in the two slices is the image im
pub record Left (im : Image) (bytes spare : List ℕ) : Type 0 where
  pub bytes_are : bytes ≡ im.bytes
  pub spare_are : spare ≡ im.spare
