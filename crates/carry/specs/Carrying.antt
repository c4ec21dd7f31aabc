-- The steps of a renewal r, with a block buffer d (none stands for the present content), and of a plan, on an image im with the records c; and what
-- they ask.
use Rattle.std.specs.Prelude.{◌≡◌, Option, Some, None, IfSome, IsSomeAnd, unwrap_or, List, [], ◌∷◌, ◌++◌, ℕ, ◌+◌, ◌*◌, ◌<◌, ◌≤◌, length}
use Rattle.rules.specs.declared.shape.Shape.{Shape}
use Rattle.rules.specs.Below.{none, list_below}
use Rattle.rules.specs.Spare.{log_kind, number_limit}
use Rattle.rules.specs.Shape.{most, page_no, logical_page}
use Rattle.rules.specs.Page.{Image}
use Rattle.rules.specs.WellFormed.{Blocks}
use Rattle.rules.specs.Content.{content}
use Rattle.rules.specs.Steps.{Step, steps_done, entry_step, copy_step, part_of}
use Rattle.steps.specs.Doing.{erase_any}
use Rattle.plans.specs.declared.plan.Plan.{Plan}
use Rattle.plans.specs.declared.renewal.Renewal.{Renewal}

-- ---- the steps

-- what logical page a, at offset o, gets
abbrev pub page_for : Shape → Image → Blocks → Option (List ℕ) → ℕ → ℕ → List ℕ
page_for s im c None a o = content s im c a
page_for s im c (Some d) a o = part_of d o

-- the same of logical block l, by offset
abbrev pub pages_for : Shape → Image → Blocks → ℕ → Option (List ℕ) → ℕ → List ℕ
pages_for s im c l d o = page_for s im c d (logical_page s l o) o

-- the number of a block, that of none for none
abbrev pub number_of_block : Option ℕ → ℕ
number_of_block b = unwrap_or b none

abbrev pub copy_to : Shape → Image → Blocks → Renewal → Option (List ℕ) → ℕ → Step
copy_to s im c r d o = copy_step s (number_of_block r.into) (r.highest + 1) r.logical (pages_for s im c r.logical d) o

-- the first m pages
abbrev pub copies_to : Shape → Image → Blocks → Renewal → Option (List ℕ) → ℕ → List Step
copies_to s im c r d m = list_below m (copy_to s im c r d)

unfoldable pub renewal_steps : Shape → Image → Blocks → Renewal → Option (List ℕ) → List Step
renewal_steps s im c r d = copies_to s im c r d s.pages ++ erase_any r.log ++ erase_any r.«data»

-- the steps of a merge, if there is one
abbrev pub merge_steps : Shape → Image → Blocks → Option Renewal → List Step
merge_steps s im c None = []
merge_steps s im c (Some r) = renewal_steps s im c r None

unfoldable pub first_steps : Shape → Image → Blocks → Plan → List Step
first_steps s im c p = merge_steps s im c p.merge

abbrev pub own_entry : Shape → Plan → ℕ → List ℕ → Step
own_entry s p a d = entry_step (page_no s (number_of_block p.block) p.place) (p.number + p.needed) log_kind a d

unfoldable pub planned : Shape → Image → Blocks → Plan → ℕ → List ℕ → List Step
planned s im c p a d = first_steps s im c p ++ (own_entry s p a d ∷ []) ++ erase_any p.former

-- ---- what they ask

-- a block buffer has P parts
abbrev pub Sized : Shape → Option (List ℕ) → Type 0
Sized s d = IfSome d (λ x. length x ≡ s.pages * 512)

-- The blocks are on the card, and the number fits.
pub record Renewable (s : Shape) (r : Renewal) (d : Option (List ℕ)) : Type 0 where
  pub sized : Sized s d
  pub logical_small : r.logical < most
  pub into_below : IsSomeAnd r.into (λ b. b < s.blocks)
  pub log_in : IfSome r.log (λ b. b < s.blocks)
  pub data_in : IfSome r.«data» (λ b. b < s.blocks)
  pub number_high : r.highest + 1 ≤ number_limit

-- While pages are programmed, what is still to be programmed stays, by the records of the start.
pub record Kept (s : Shape) (im : Image) (c : Blocks) (r : Renewal) (d : Option (List ℕ)) : Type 0 where
  pub page_kept : (m o : ℕ) → m ≤ s.pages
      → pages_for s (steps_done s (copies_to s im c r d m) im) c r.logical d o ≡ pages_for s im c r.logical d o

-- The blocks and pages of the plan are on the card, and its numbers fit.
pub record Doable (s : Shape) (im : Image) (c : Blocks) (p : Plan) : Type 0 where
  pub merge_in : IfSome p.merge (λ r. Renewable s r None × Kept s im c r None)
  pub former_in : IfSome p.former (λ b. b < s.blocks)
  pub block_below : IsSomeAnd p.block (λ b. b < s.blocks)
  pub place_below : p.place < s.pages
  pub number_high : p.number + p.needed ≤ number_limit
