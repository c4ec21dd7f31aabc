-- Steps done by a run: what it holds at entry and at exit.
use Rattle.std.specs.Prelude.{◌≡◌, Bool, List, [], ◌∷◌, map, ℕ, ◌<◌, Option, Some, None}
use Rattle.rules.specs.Below.{pick_below}
use Rattle.rules.specs.Page.{Image}
use Rattle.rules.specs.Steps.{Step, erase, step_done}
use Rattle.rules.specs.Facts.{image_of, Left}
use Rattle.steps.specs.declared.run.Run.{Run}
use Rattle.steps.specs.Runs.{progress, Ran}

-- the image by now
abbrev pub image_in : Run → Image
image_in r = image_of r.bytes.now r.spare.now

-- the same lent images, of the same shape
pub record Same (old new : Run) : Type 0 where
  pub bytes_same : new.bytes.ghost_name ≡ old.bytes.ghost_name
  pub spare_same : new.spare.ghost_name ≡ old.spare.ghost_name
  pub shape_same : new.shape ≡ old.shape

-- one step done, and not yet counted
pub record Stepped (x : Step) (old new : Run) : Type 0 where
  pub image : Left (step_done old.shape x (image_in old)) new.bytes.now new.spare.now
  pub budget_same : new.budget ≡ old.budget
  pub same : Same old new

-- the steps f of the image at entry, done under the budget
pub record Does (f : Image → List Step) (old new : Run) : Type 0 where
  pub ran : Ran old.shape (f (image_in old)) (progress (image_in old) old.budget) new.bytes.now new.spare.now new.budget
  pub same : Same old new

-- the erase of a block, if there is one
abbrev pub erase_any : Option ℕ → List Step
erase_any None = []
erase_any (Some b) = erase b ∷ []

-- the erases of the blocks below n that pass, ascending
abbrev pub erases_to : (ℕ → Bool) → ℕ → List Step
erases_to p n = map erase (pick_below n p)

-- a test of block numbers says of each below n what p says
abbrev pub Tells : (ℕ → Bool → Type 0) → ℕ → (ℕ → Bool) → Type 0
Tells told n p = (j : ℕ) (r : Bool) → j < n → told j r → r ≡ p j
