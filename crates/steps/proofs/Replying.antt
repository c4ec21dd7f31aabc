-- From the steps done under a budget to the reply: what a command leaves.
use mathlib.Core.Path.{◌≡◌, refl, ap, ◌∙◌, subst}
use Rattle.std.specs.Prelude.{Option, Some, None}
use Rattle.rules.specs.declared.refusal.Refusal.{Refusal}
use mathlib.Core.Bool.{false}
use mathlib.Core.List.{List}
use Prim.Native.Nat.{ℕ}
use native.Mathlib.Omega.{arith}
use lib.Dec.{ltb}
use lib.ListN.{length, take}
use Rattle.rules.specs.declared.shape.Shape.{Shape}
use Rattle.rules.specs.declared.answer.Answer.{Answer}
use Rattle.rules.specs.declared.answer.Answer.TheVariants.{Refused}
use Rattle.rules.specs.Page.{Image}
use Rattle.rules.specs.Steps.{Step, steps_done, programs, erases}
use Rattle.rules.specs.Facts.{image_of}
use Rattle.rules.specs.Replies.{Reply, refused_by, carried_out, unless}
use Rattle.rules.specs.Promises.{Replied}
use Rattle.steps.specs.declared.budget.Budget.{Budget}
use Rattle.steps.specs.declared.run.Run.{Run}
use Rattle.steps.specs.Runs.{started, progress, run, Ran}
use Rattle.steps.specs.Doing.{image_in, Does}
use Rattle.steps.specs.Answers.{finished}
use Rattle.steps.proofs.Running.{RunAllowed, run_allowed, run_image}

-- the reply unless a refusal applies
abbrev pub reply_by : Option Refusal → ℕ → List Step → Reply
reply_by q cut xs = unless q refused_by (carried_out cut xs)

-- a refusal changes nothing
pub replied_refused : (s : Shape) (bytes spare : List ℕ) (cut : ℕ) (xs : List Step) {q : Option Refusal} {r : Refusal} → q ≡ Some r
    → Replied s (image_of bytes spare) (reply_by q cut xs) (Refused r) bytes spare
unfolding steps_done
replied_refused s bytes spare cut xs {q} {r} e = rw e (record { answer = refl; bytes_left = refl; spare_left = refl })

answered : (t : Budget) (cut : ℕ) (xs : List Step) → t.programs ≡ programs (take cut xs) → t.erases ≡ erases (take cut xs)
    → t.short ≡ ltb cut (length xs) → finished t ≡ (carried_out cut xs).answer
answered t cut xs p e b = cc

-- and where none of them applies, the first cut steps are done; what the run leaves is what the lent images hold
pub replied_done : {f : Image → List Step} {a b : Run} (cut : ℕ) {p : Option Refusal} {r : Answer} {bytes spare : List ℕ}
    → p ≡ None → a.budget ≡ started cut → Does f a b → r ≡ finished b.budget → bytes ≡ b.bytes.now → spare ≡ b.spare.now
    → Replied a.shape (image_in a) (reply_by p cut (f (image_in a))) r bytes spare
replied_done {f} {a} {b} cut {p} {r} {bytes} {spare} z q h e bytes_are spare_are =
    let s : Shape = a.shape in
    let im : Image = image_in a in
    let xs : List Step = f im in
    let k : Ran s xs (progress im (started cut)) b.bytes.now b.spare.now b.budget =
    subst (λ (u : Budget). Ran s xs (progress im u) b.bytes.now b.spare.now b.budget) q h.ran in
    let done : RunAllowed s xs im (started cut) = run_allowed s xs im cut 0 0 false in
    let left : image_in b ≡ steps_done s (take cut xs) im = run_image s xs im k in
    let u : Budget = (run s xs (progress im (started cut))).budget in
    rw z
    (record {
      answer = e ∙ ap finished k.budget ∙ answered u cut xs (omega (arith, done.programs_are)) (omega (arith, done.erases_are)) done.short_is;
      bytes_left = bytes_are ∙ ap (λ (i : Image). i.bytes) left;
      spare_left = spare_are ∙ ap (λ (i : Image). i.spare) left;
    })
