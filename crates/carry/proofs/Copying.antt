-- Laws of the steps of a renewal and of a plan, one function after the other.
use mathlib.Core.Path.{◌≡◌, refl, sym, ap, ◌∙◌}
use mathlib.Core.List.{List, [], ◌∷◌, ◌++◌}
use Prim.Native.Nat.{ℕ, ◌+◌, ◌<◌, ◌≤◌}
use native.Mathlib.Omega.{arith}
use lib.ListN.{take}
use Rattle.std.specs.Prelude.{Option, Some, None}
use Rattle.rules.specs.declared.shape.Shape.{Shape}
use Rattle.rules.specs.Spare.{log_kind}
use Rattle.rules.specs.Shape.{page_no}
use Rattle.rules.specs.Page.{Image}
use Rattle.rules.specs.WellFormed.{Blocks}
use Rattle.rules.specs.Steps.{Step, steps_done, entry_step, copy_step}
use Rattle.laws.proofs.Below.{list_below-zero, list_below_some, list_below_more}
use Rattle.steps.specs.declared.run.Run.{Run}
use Rattle.steps.specs.Doing.{image_in, Does, erase_any}
use Rattle.steps.proofs.Running.{does_none, does_same, does_then, run_image}
use Rattle.plans.specs.declared.plan.Plan.{Plan}
use Rattle.plans.specs.declared.renewal.Renewal.{Renewal}
use Rattle.carry.specs.Carrying.{pages_for, copy_to, copies_to, number_of_block, renewal_steps, Kept, first_steps, own_entry, planned}

-- the page at offset o of the block taken, by the shape of the run
pub page_into : (s : Shape) (r : Renewal) (o : ℕ) {z : Shape} {b p : ℕ} → z ≡ s → r.into ≡ Some b → p ≡ page_no z b o → p ≡ page_no s (number_of_block r.into) o
page_into s r o {z} {b} e f g = rw f (g ∙ ap (λ (x : Shape). page_no x b o) e)

module _ (s : Shape) (c : Blocks) where
  -- ---- the pages

  module _ (x : Renewal) (d : Option (List ℕ)) where
    pub copies_none : (a : Run) → Does (λ im. copies_to s im c x d 0) a a
    copies_none a = does_same (sym (list_below-zero _)) (does_none a)

    -- One turn of the loop: the page is filled from the image of that moment.
    pub copies_turn : (o : ℕ) {a b e : Run} → a.shape ≡ s → o < s.pages → Kept s (image_in a) c x d
        → Does (λ im. copies_to s im c x d o) a b → Does (λ im. copy_to s im c x d o ∷ []) b e → Does (λ im. copies_to s im c x d (o + 1)) a e
    copies_turn o {a} {b} q h k past now = does_same list (does_then past now)
      where
        im : Image
        im = image_in a

        moment : (m : ℕ) × (m ≤ o) × (take a.budget.left (copies_to s im c x d o) ≡ copies_to s im c x d m)
        moment = list_below_some o a.budget.left (copy_to s im c x d)

        image : image_in b ≡ steps_done s (copies_to s im c x d moment.0) im
        image =
            run_image a.shape (copies_to s im c x d o) im past.ran
            ∙ ap (λ (z : Shape). steps_done z (take a.budget.left (copies_to s im c x d o)) im) q
            ∙ ap (λ (xs : List Step). steps_done s xs im) moment.2

        same : pages_for s (image_in b) c x.logical d o ≡ pages_for s im c x.logical d o
        same = ap (λ (i : Image). pages_for s i c x.logical d o) image ∙ k.page_kept moment.0 o (omega (arith, moment.1))

        list : copies_to s im c x d o ++ (copy_to s (image_in b) c x d o ∷ []) ≡ copies_to s im c x d (o + 1)
        list =
            ap (λ (v : List ℕ). copies_to s im c x d o ++ (copy_step s (number_of_block x.into) (x.highest + 1) x.logical (λ i. v) o ∷ [])) same
            ∙ list_below_more o (copy_to s im c x d)

    -- ---- then the erases

    pub renew_does : {a b e f : Run} → Does (λ im. copies_to s im c x d s.pages) a b → Does (λ _. erase_any x.log) b e
        → Does (λ _. erase_any x.«data») e f → Does (λ im. renewal_steps s im c x d) a f
    unfolding renewal_steps
    renew_does g h k = does_same refl (does_then (does_then g h) k)

  -- ---- the whole plan

  module _ (p : Plan) where
    pub first_none : {a : Run} → p.merge ≡ None → Does (λ im. first_steps s im c p) a a
    unfolding first_steps
    first_none {a} e = does_same (rw e refl) (does_none a)

    pub first_merge : {x : Renewal} {a b : Run} → p.merge ≡ Some x → Does (λ im. renewal_steps s im c x None) a b
        → Does (λ im. first_steps s im c p) a b
    unfolding first_steps
    first_merge e h = does_same (rw e refl) h

    -- its own page
    pub own_does : (n : ℕ) (d : List ℕ) {a b : Run} {j at : ℕ} → a.shape ≡ s → p.block ≡ Some j → at ≡ page_no a.shape j p.place
        → Does (λ _. entry_step at (p.number + p.needed) log_kind n d ∷ []) a b → Does (λ _. own_entry s p n d ∷ []) a b
    own_does n d {a} {b} {j} {at} q e f h =
        let place : at ≡ page_no s (number_of_block p.block) p.place = rw e (f ∙ ap (λ (z : Shape). page_no z j p.place) q) in
        does_same (ap (λ (k : ℕ). entry_step k (p.number + p.needed) log_kind n d ∷ []) place) h

    pub planned_does : (n : ℕ) (d : List ℕ) {a b e f : Run} → Does (λ im. first_steps s im c p) a b → Does (λ _. own_entry s p n d ∷ []) b e
        → Does (λ _. erase_any p.former) e f → Does (λ im. planned s im c p n d) a f
    unfolding planned
    planned_does n d g own h = does_same refl (does_then (does_then g own) h)
