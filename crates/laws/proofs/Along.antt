-- Lists of steps done to an image, cut anywhere: what holds before and after each step, and that each is allowed.
use mathlib.Core.Path.{◌≡◌, refl, ap, subst}
use mathlib.Core.List.{List, [], ◌∷◌, ◌++◌, map}
use Prim.Native.Nat.{ℕ, zero, suc, ◌+◌, ◌/◌, ◌≤◌, ◌<◌}
use native.Mathlib.Omega.{arith}
use native.Mathlib.Nat.{le_refl}
use lib.ListN.{length, take}
use lib.Seq.{take_all}
use lib.Dec.{T}
use Rattle.rules.specs.declared.shape.Shape.{Shape}
use Rattle.rules.specs.Bytes.{all255}
use Rattle.rules.specs.Spare.{status_in}
use Rattle.rules.specs.Page.{Image, page_bytes, page_spare, erased}
use Rattle.rules.specs.WellFormed.{is_bad}
use Rattle.rules.specs.Steps.{Step, program, erase, step_done, steps_done, programs, erases}
use Rattle.laws.proofs.Pages.{Programs}

-- ---- allowed steps

-- a program is of a page of the card that is erased, in a good block, and leaves it programmed, without the mark of a bad block
pub record Fresh (s : Shape) (im : Image) (p : ℕ) (d t : List ℕ) : Type 0 where
  pub page : Programs s p d t
  pub erased : T (erased (page_bytes im p) (page_spare im p))
  pub good : T (is_bad s im (p / s.pages)) → ⊥
  pub programmed : T (all255 t) → ⊥
  pub status : status_in t ≡ 255

-- an erase is of a good block of the card
pub record Wipes (s : Shape) (im : Image) (b : ℕ) : Type 0 where
  pub below : b < s.blocks
  pub good : T (is_bad s im b) → ⊥

abbrev pub Allowed : Shape → Step → Image → Type 0
Allowed s (program p d t) im = Fresh s im p d t
Allowed s (erase b) im = Wipes s im b

abbrev pub AllAllowed : Shape → List Step → Image → Type 0
AllAllowed s [] im = Unit {0}
AllAllowed s (t ∷ ts) im = Allowed s t im × AllAllowed s ts (step_done s t im)

-- ---- counts

pub erases-append : (ts us : List Step) → erases (ts ++ us) ≡ erases ts + erases us
erases-append [] us = omega arith
erases-append (program p d u ∷ ts) us = erases-append ts us
erases-append (erase b ∷ ts) us = omega (arith, erases-append ts us)

pub programs-append : (ts us : List Step) → programs (ts ++ us) ≡ programs ts + programs us
programs-append [] us = omega arith
programs-append (program p d u ∷ ts) us = omega (arith, programs-append ts us)
programs-append (erase b ∷ ts) us = programs-append ts us

pub programs-erases : (xs : List ℕ) → programs (map erase xs) ≡ 0
programs-erases [] = refl
programs-erases (x ∷ xs) = programs-erases xs

pub programs-take : (k : ℕ) (ts : List Step) → programs (take k ts) ≤ programs ts
programs-take zero ts = omega arith
programs-take (suc k) [] = omega arith
programs-take (suc k) (program p d u ∷ ts) = omega (arith, programs-take k ts)
programs-take (suc k) (erase b ∷ ts) = programs-take k ts

pub erases-erases : (xs : List ℕ) → erases (map erase xs) ≡ length xs
erases-erases [] = refl
erases-erases (x ∷ xs) = ap suc (erases-erases xs)

-- ---- along a list

-- I holds, of the erases done and the image, before and after each step, and each step is allowed; n erases were done before
abbrev pub Along : Shape → (ℕ → Image → Type 0) → ℕ → List Step → Image → Type 0
Along s I n [] im = I n im
Along s I n (t ∷ ts) im = I n im × Allowed s t im × Along s I (n + erases (t ∷ [])) ts (step_done s t im)

module _ (s : Shape) (I : ℕ → Image → Type 0) where
  pub along_here : (n : ℕ) (ts : List Step) (im : Image) → Along s I n ts im → I n im
  along_here n [] im a = a
  along_here n (t ∷ ts) im a = a.0

  -- after the first k steps
  pub along_cut : (n : ℕ) (ts : List Step) (im : Image) → Along s I n ts im → (k : ℕ) → I (n + erases (take k ts)) (steps_done s (take k ts) im)
  unfolding steps_done
  along_cut n ts im a zero = subst (λ (m : ℕ). I m im) (omega arith) (along_here n ts im a)
  along_cut n [] im a (suc k) = subst (λ (m : ℕ). I m im) (omega arith) a
  along_cut n (t ∷ ts) im a (suc k) =
      let e : n + erases (t ∷ []) + erases (take k ts) ≡ n + erases (t ∷ take k ts) = omega (arith, erases-append (t ∷ []) (take k ts)) in
      subst (λ (m : ℕ). I m (steps_done s (take k ts) (step_done s t im))) e (along_cut (n + erases (t ∷ [])) ts (step_done s t im) a.2 k)

  pub along_end : (n : ℕ) (ts : List Step) (im : Image) → Along s I n ts im → I (n + erases ts) (steps_done s ts im)
  along_end n ts im a = rw (take_all (length ts) ts (le_refl (length ts))) at (along_cut n ts im a (length ts))

  pub along_allowed : (n : ℕ) (ts : List Step) (im : Image) → Along s I n ts im → AllAllowed s ts im
  along_allowed n [] im a = tt
  along_allowed n (t ∷ ts) im a = (a.1, along_allowed (n + erases (t ∷ [])) ts (step_done s t im) a.2)

  pub along_append : (n : ℕ) (ts us : List Step) (im : Image) → Along s I n ts im → Along s I (n + erases ts) us (steps_done s ts im)
      → Along s I n (ts ++ us) im
  unfolding steps_done
  along_append n [] us im a b = subst (λ (m : ℕ). Along s I m us im) (omega arith) b
  along_append n (t ∷ ts) us im a b =
      let e : n + erases (t ∷ ts) ≡ n + erases (t ∷ []) + erases ts = omega (arith, erases-append (t ∷ []) ts) in (
        a.0,
        a.1,
        along_append (n + erases (t ∷ [])) ts us (step_done s t im) a.2
            (subst (λ (m : ℕ). Along s I m us (steps_done s ts (step_done s t im))) e b),
      )

  pub along_map : (J : ℕ → Image → Type 0) → ((n : ℕ) (im : Image) → I n im → J n im) → (n : ℕ) (ts : List Step) (im : Image) → Along s I n ts im
      → Along s J n ts im
  along_map J f n [] im a = f n im a
  along_map J f n (t ∷ ts) im a = (f n im a.0, a.1, along_map J f (n + erases (t ∷ [])) ts (step_done s t im) a.2)

-- any front of a list of allowed steps is one
pub allowed_take : (s : Shape) (k : ℕ) (ts : List Step) (im : Image) → AllAllowed s ts im → AllAllowed s (take k ts) im
allowed_take s zero ts im a = tt
allowed_take s (suc k) [] im a = tt
allowed_take s (suc k) (t ∷ ts) im a = (a.0, allowed_take s k ts (step_done s t im) a.1)

pub allowed_append : (s : Shape) (ts us : List Step) (im : Image) → AllAllowed s ts im → AllAllowed s us (steps_done s ts im)
    → AllAllowed s (ts ++ us) im
unfolding steps_done
allowed_append s [] us im a b = b
allowed_append s (t ∷ ts) us im a b = (a.0, allowed_append s ts us (step_done s t im) a.1 b)
