-- What the opening of a command finds, and leaves in the room lent for it.
use Rattle.std.specs.Prelude.{◌≡◌, Bool, List, length, ℕ, Some, None, Result, Ok, Err}
use Rattle.rules.specs.declared.shape.Shape.{Shape}
use Rattle.rules.specs.declared.refusal.Refusal.{Refusal}
use Rattle.rules.specs.declared.refusal.Refusal.TheVariants.{TooFewGood, IllFormed}
use Rattle.rules.specs.Shape.{most}
use Rattle.rules.specs.Page.{Image}
use Rattle.rules.specs.Facts.{Fits}
use Rattle.rules.specs.WellFormed.{blocks_of, blocks_in}
use Rattle.roles.specs.declared.census.Census.{Census}
use Rattle.roles.specs.declared.records.Room.{Room}
use Rattle.roles.specs.Passes.{numbers_of, census}
use Rattle.refusals.specs.Orders.{open_refusal}

-- the room holds the records of the card, in an array of 64, and these numbers
pub record Holds (s : Shape) (im : Image) (numbers : List ℕ) (room : Room) : Type 0 where
  pub long : length room.list ≡ most
  pub list_is : blocks_in room.list ≡ blocks_of s im
  pub numbers_are : room.numbers ≡ numbers

-- the card is within the limits; the room holds its records and the numbers of its data blocks; the census of the records
pub record Surveyed (s : Shape) (im : Image) (room : Room) (found : Census) : Type 0 where
  pub fits : Fits s im
  pub holds : Holds s im (numbers_of s (blocks_of s im)) room
  pub census_is : found ≡ census s (blocks_of s im)

-- what is left in the room by a refusal: by 4 the records, by 5 the numbers too, by 1 to 3, the call alone, what it held
abbrev pub Left : Shape → Image → Room → Room → Refusal → Type 0
Left s im old new TooFewGood = Holds s im old.numbers new
Left s im old new IllFormed = Holds s im (numbers_of s (blocks_of s im)) new
Left s im old new _ = new ≡ old

-- the refusal that applies, or, where none of 1 to 5 does, the census
abbrev pub Opened : Shape → Image → Bool → Bool → Room → Room → Result Census Refusal → Type 0
Opened s im sized ranged old new (Ok found) = (open_refusal s im sized ranged ≡ None) × Surveyed s im new found
Opened s im sized ranged old new (Err r) = (open_refusal s im sized ranged ≡ Some r) × Left s im old new r
