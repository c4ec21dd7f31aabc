-- Steps done one after the other, each counted against the cut number.
use Rattle.std.specs.Prelude.{◌≡◌, true, false, cond, List, [], ◌∷◌, ℕ, ◌+◌, ◌-◌, ◌<◌, eqb}
use Rattle.rules.specs.declared.shape.Shape.{Shape}
use Rattle.rules.specs.Page.{Image}
use Rattle.rules.specs.Steps.{Step, program, erase, step_done}
use Rattle.rules.specs.Facts.{Left}
use Rattle.steps.specs.declared.budget.Budget.{Budget}

-- ---- the budget

abbrev pub started : ℕ → Budget
started cut = record { left = cut; short = false; programs = 0; erases = 0 }

abbrev pub stopped : Budget → Budget
stopped t = record { left = t.left; short = true; programs = t.programs; erases = t.erases }

-- one step counted; only its kind matters
abbrev pub spent : Step → Budget → Budget
spent (program p d m) t = record { left = t.left - 1; short = t.short; programs = t.programs + 1; erases = t.erases }
spent (erase b) t = record { left = t.left - 1; short = t.short; programs = t.programs; erases = t.erases + 1 }

-- what was counted and what is left came from one cut number, below 2^64: no sum of a budget wraps
pub record Sane (t : Budget) : Type 0 where
  pub sum : t.programs + t.erases + t.left < 18446744073709551616

-- ---- steps under a budget

-- the image so far, and the budget by then
pub record Progress : Type 0 where
  pub image : Image
  pub budget : Budget

abbrev pub progress : Image → Budget → Progress
progress im t = record { image = im; budget = t }

-- done if anything is left, else the run is short
unfoldable pub do_one : Shape → Step → Progress → Progress
do_one s x st = cond (eqb st.budget.left 0) (progress st.image (stopped st.budget)) (progress (step_done s x st.image) (spent x st.budget))

unfoldable pub run : Shape → List Step → Progress → Progress
run s [] st = st
run s (x ∷ xs) st = run s xs (do_one s x st)

-- what a function that does the steps xs leaves
pub record Ran (s : Shape) (xs : List Step) (st : Progress) (bytes spare : List ℕ) (t : Budget) : Type 0 where
  pub image : Left (run s xs st).image bytes spare
  pub budget : t ≡ (run s xs st).budget
  pub sane : Sane t
