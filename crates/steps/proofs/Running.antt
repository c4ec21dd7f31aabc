-- Laws of steps done under a budget: the run with a budget is the first `cut` steps.
use mathlib.Core.Path.{◌≡◌, refl, sym, ap, ◌∙◌, subst}
use mathlib.Core.Bool.{Bool, true, false, cond, ◌||◌, or-true, or-false}
use mathlib.Core.List.{List, [], ◌∷◌, ◌++◌, map, map-append, append-nil}
use native.Mathlib.Numerals.{add-one}
use Rattle.rules.specs.Below.{pick_below}
use Prim.Native.Nat.{ℕ, zero, suc, ◌+◌, ◌-◌}
use native.Mathlib.Omega.{arith}
use lib.Dec.{eqb, ltb, leb-suc-zero, leb-suc-suc}
use lib.ListN.{length, take}
use lib.Seq.{take-nil}
use borrow.Author.Tests.{ne_eqb, lt-ltb}
use Rattle.rules.specs.declared.shape.Shape.{Shape}
use Rattle.rules.specs.Page.{Image}
use Rattle.rules.specs.Steps.{Step, program, erase, step_done, steps_done, programs, erases}
use Rattle.rules.specs.Facts.{image_of, Fits, Left}
use Rattle.laws.proofs.Pages.{left_one}
use Rattle.steps.specs.declared.budget.Budget.{Budget}
use Rattle.steps.specs.Runs.{stopped, spent, Sane, Progress, progress, do_one, run, Ran}
use Rattle.steps.specs.declared.run.Run.{Run}
use Rattle.steps.specs.Doing.{image_in, Same, Stepped, Does, erases_to}

-- ---- what a function leaves

module _ {s : Shape} {x : Step} {bytes spare : List ℕ} {t : Budget} where
  pub ran_stop : {r : Budget} → eqb t.left 0 ≡ true → (r ≡ stopped t) × Sane r → Ran s (x ∷ []) (progress (image_of bytes spare) t) bytes spare r
  unfolding run do_one
  ran_stop e h = record { image = rw e (record { bytes_are = refl; spare_are = refl }); budget = rw e h.0; sane = h.1 }

  pub ran_step : {y : Step} {bytes' spare' : List ℕ} {r : Budget} → y ≡ x → eqb t.left 0 ≡ false
      → Left (step_done s y (image_of bytes spare)) bytes' spare' → (r ≡ spent x t) × Sane r
      → Ran s (x ∷ []) (progress (image_of bytes spare) t) bytes' spare' r
  unfolding run do_one
  ran_step {y} {bytes'} {spare'} e f l h =
      record { image = rw f (subst (λ (z : Step). Left (step_done s z (image_of bytes spare)) bytes' spare') e l); budget = rw f h.0; sane = h.1 }

pub ran_none : {s : Shape} {bytes spare : List ℕ} {t : Budget} → Sane t → Ran s [] (progress (image_of bytes spare) t) bytes spare t
unfolding run
ran_none g = record { image = record { bytes_are = refl; spare_are = refl }; budget = refl; sane = g }

pub ran_same : {s : Shape} {xs ys : List Step} {st : Progress} {bytes spare : List ℕ} {t : Budget} → xs ≡ ys → Ran s xs st bytes spare t
    → Ran s ys st bytes spare t
ran_same {s} {xs} {ys} {st} {bytes} {spare} {t} e h = subst (λ (zs : List Step). Ran s zs st bytes spare t) e h

run-append : (s : Shape) (xs ys : List Step) (st : Progress) → run s (xs ++ ys) st ≡ run s ys (run s xs st)
unfolding run
run-append s [] ys st = refl
run-append s (x ∷ xs) ys st = run-append s xs ys (do_one s x st)

left_state : {s : Shape} {xs : List Step} {st : Progress} {bytes spare : List ℕ} {t : Budget} → Ran s xs st bytes spare t
    → progress (image_of bytes spare) t ≡ run s xs st
left_state h = rw (h.image.bytes_are, h.image.spare_are, h.budget)

-- one list of steps, then another
pub ran_then : {s : Shape} {xs ys : List Step} {st : Progress} {bytes spare bytes' spare' : List ℕ} {t r : Budget} → Ran s xs st bytes spare t
    → Ran s ys (progress (image_of bytes spare) t) bytes' spare' r → Ran s (xs ++ ys) st bytes' spare' r
ran_then {s} {xs} {ys} {st} {bytes} {spare} {bytes'} {spare'} {t} h k =
    let e : run s ys (progress (image_of bytes spare) t) ≡ run s (xs ++ ys) st = ap (run s ys) (left_state h) ∙ sym (run-append s xs ys st) in
    record {
      image = subst (λ (u : Progress). Left u.image bytes' spare') e k.image;
      budget = k.budget ∙ ap (λ (u : Progress). u.budget) e;
      sane = k.sane;
    }

-- ---- the same of runs

pub same_still : (a : Run) → Same a a
same_still a = record { bytes_same = refl; spare_same = refl; shape_same = refl }

pub same_then : {a b c : Run} → Same a b → Same b c → Same a c
same_then h k = record { bytes_same = k.bytes_same ∙ h.bytes_same; spare_same = k.spare_same ∙ h.spare_same; shape_same = k.shape_same ∙ h.shape_same }

pub does_none : (a : Run) → Does (λ _. []) a a
does_none a = record { ran = ran_none a.sane; same = same_still a }

pub does_same : {f g : Image → List Step} {a b : Run} → f (image_in a) ≡ g (image_in a) → Does f a b → Does g a b
does_same e h = record { ran = ran_same e h.ran; same = h.same }

-- one step, with the run as it is counted
module _ {x : Step} {a : Run} {r : Budget} where
  pub does_stop : {f : Fits a.shape (image_in a)} {g : Sane r} → true ≡ eqb a.budget.left 0 → (r ≡ stopped a.budget) × Sane r
      → Does (λ _. x ∷ []) a (record { bytes = a.bytes; spare = a.spare; shape = a.shape; budget = r; fits = f; sane = g })
  does_stop e h = record { ran = ran_stop (sym e) h; same = record { bytes_same = refl; spare_same = refl; shape_same = refl } }

  pub does_step : {b : Run} {f : Fits b.shape (image_in b)} {g : Sane r} → false ≡ eqb a.budget.left 0 → Stepped x a b → (r ≡ spent x b.budget) × Sane r
      → Does (λ _. x ∷ []) a (record { bytes = b.bytes; spare = b.spare; shape = b.shape; budget = r; fits = f; sane = g })
  does_step {b} e h k =
      record {
        ran = ran_step refl (sym e) h.image (k.0 ∙ ap (spent x) h.budget_same, k.1);
        same = record { bytes_same = h.same.bytes_same; spare_same = h.same.spare_same; shape_same = h.same.shape_same };
      }

-- one list of steps, then another, of the image by then
pub does_then : {f g : Image → List Step} {a b c : Run} → Does f a b → Does g b c → Does (λ im. f im ++ g (image_in b)) a c
does_then {f} {g} {a} {b} {c} h k =
    record {
      ran =
          ran_then h.ran
          (subst (λ (s : Shape). Ran s (g (image_in b)) (progress (image_in b) b.budget) c.bytes.now c.spare.now c.budget) h.same.shape_same k.ran);
      same = same_then h.same k.same;
    }

-- ---- blocks erased, ascending: one turn of a loop

module _ (p : ℕ → Bool) where
  pub erases_none : (a : Run) → Does (λ _. erases_to p 0) a a
  unfolding pick_below
  erases_none a = does_none a

  erases_next : (j : ℕ) → erases_to p j ++ map erase (cond (p j) (j ∷ []) []) ≡ erases_to p (j + 1)
  unfolding pick_below
  erases_next j = sym (ap (erases_to p) (add-one j) ∙ map-append erase (pick_below j p) (cond (p j) (j ∷ []) []))

  pub erases_more : (j : ℕ) {a b c : Run} → true ≡ p j → Does (λ _. erases_to p j) a b → Does (λ _. erase j ∷ []) b c → Does (λ _. erases_to p (j + 1)) a c
  erases_more j e h k =
      does_same (ap (λ (t : Bool). erases_to p j ++ map erase (cond t (j ∷ []) [])) e ∙ erases_next j) (does_then h k)

  pub erases_past : (j : ℕ) {a b : Run} → false ≡ p j → Does (λ _. erases_to p j) a b → Does (λ _. erases_to p (j + 1)) a b
  erases_past j e h =
      does_same (sym (append-nil (erases_to p j)) ∙ ap (λ (t : Bool). erases_to p j ++ map erase (cond t (j ∷ []) [])) e ∙ erases_next j) h

-- no second image and no second budget
pub ran_one : {s : Shape} {xs : List Step} {st : Progress} {bytes bytes' spare spare' : List ℕ} {t t' : Budget} → Ran s xs st bytes spare t
    → Ran s xs st bytes' spare' t'
    → ((bytes ≡ bytes') × (spare ≡ spare')) × (t ≡ t')
ran_one h k = (left_one h.image k.image, h.budget ∙ sym k.budget)

-- ---- the first `cut` steps

-- what a run leaves: the steps that the budget allowed are done and counted
pub record Allowed (s : Shape) (xs : List Step) (im : Image) (t : Budget) (st : Progress) : Type 0 where
  pub image : st.image ≡ steps_done s (take t.left xs) im
  pub programs_are : st.budget.programs ≡ t.programs + programs (take t.left xs)
  pub erases_are : st.budget.erases ≡ t.erases + erases (take t.left xs)
  pub short_is : st.budget.short ≡ (t.short || ltb t.left (length xs))

abbrev pub RunAllowed : Shape → List Step → Image → Budget → Type 0
RunAllowed s xs im t = Allowed s xs im t (run s xs (progress im t))

-- one step more in front
allowed_more : (s : Shape) (x : Step) (xs : List Step) (im : Image) (k p e p' e' : ℕ) (short : Bool) {st : Progress}
    → p' + programs (take k xs) ≡ p + programs (x ∷ take k xs) → e' + erases (take k xs) ≡ e + erases (x ∷ take k xs)
    → Allowed s xs (step_done s x im) (record { left = k; short = short; programs = p'; erases = e' }) st
    → Allowed s (x ∷ xs) im (record { left = suc k; short = short; programs = p; erases = e }) st
unfolding steps_done
allowed_more s x xs im k p e p' e' short f g ih =
    record {
      image = ih.image;
      programs_are = ih.programs_are ∙ f;
      erases_are = ih.erases_are ∙ g;
      short_is = ih.short_is ∙ ap (λ (b : Bool). short || b) (sym (leb-suc-suc (suc k) (length xs)));
    }

abbrev pub budget : ℕ → Bool → ℕ → ℕ → Budget
budget left short p e = record { left = left; short = short; programs = p; erases = e }

pub run_allowed : (s : Shape) (xs : List Step) (im : Image) (left p e : ℕ) (short : Bool) → RunAllowed s xs im (budget left short p e)
unfolding run do_one steps_done
run_allowed s [] im left p e short =
    let z : take {A = Step} left [] ≡ [] = take-nil left in
    record {
      image = rw z;
      programs_are = rw z (omega arith);
      erases_are = rw z (omega arith);
      short_is = rw (leb-suc-zero left) (sym (or-false short));
    }
run_allowed s (x ∷ xs) im zero p e short =
    let ih : RunAllowed s xs im (budget 0 true p e) = run_allowed s xs im zero p e true in
    record {
      image = ih.image;
      programs_are = ih.programs_are;
      erases_are = ih.erases_are;
      short_is = ih.short_is ∙ rw (lt-ltb 0 (suc (length xs)) (omega arith)) (sym (or-true short));
    }
run_allowed s (program q d m ∷ xs) im (suc k) p e short =
    let z : suc k - 1 ≡ k = omega arith in
    rw (ne_eqb (suc k) 0 (λ i. omega arith), z)
    (allowed_more s (program q d m) xs im k p e (p + 1) e short (omega arith) refl
    (run_allowed s xs (step_done s (program q d m) im) k (p + 1) e short))
run_allowed s (erase b ∷ xs) im (suc k) p e short =
    let z : suc k - 1 ≡ k = omega arith in
    rw (ne_eqb (suc k) 0 (λ i. omega arith), z)
    (allowed_more s (erase b) xs im k p e p (e + 1) short refl (omega arith) (run_allowed s xs (step_done s (erase b) im) k p (e + 1) short))

pub run_image : (s : Shape) (xs : List Step) (im : Image) {t r : Budget} {bytes spare : List ℕ} → Ran s xs (progress im t) bytes spare r
    → image_of bytes spare ≡ steps_done s (take t.left xs) im
run_image s xs im {t} h =
    ap (λ (st : Progress). st.image) (left_state h)
    ∙ (run_allowed s xs im t.left t.programs t.erases t.short).image
