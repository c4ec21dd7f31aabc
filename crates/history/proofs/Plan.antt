-- A command as a plan: steps, its own program, from which on it has happened, and blocks erased then. What holds at every cut.
use mathlib.Core.Path.{◌≡◌, refl, sym, ap, ◌∙◌, subst}
use mathlib.Core.Logic.{◌≢◌, ◌⊎◌, inl}
use mathlib.Core.Bool.{cond}
use mathlib.Core.List.{List, [], ◌∷◌, ◌++◌, map}
use Prim.Native.Nat.{ℕ, suc, ◌+◌, ◌-◌, ◌≤◌, ◌<◌}
use native.Mathlib.Omega.{arith}
use lib.ListN.{length, take}
use lib.Seq.{take-append-le, take-append-add}
use lib.Dec.{eqb}
use Rattle.rules.specs.declared.shape.Shape.{Shape}
use Rattle.rules.specs.declared.block.Block.{Block}
use Rattle.rules.specs.Page.{Image}
use Rattle.rules.specs.WellFormed.{blocks_of}
use Rattle.rules.specs.Steps.{Step, erase, step_done, steps_done, erases}
use Rattle.laws.proofs.Tests.{cond_no, ne→eqb}
use Rattle.laws.proofs.Pages.{steps_done-append}
use Rattle.laws.proofs.Roles.{Recovered}
use Rattle.laws.proofs.Change.{NoLive}
use Rattle.laws.proofs.Along.{Allowed, AllAllowed, Along, erases-append, along_cut, along_end, along_allowed, allowed_append}
use Rattle.laws.proofs.Erasing.{Sound, content_of, obsoletes}
use Rattle.laws.proofs.Renewal.{Renewing, Before}
use Rattle.history.proofs.Cost.{log_pages, log_pages_is}

-- the bytes of each logical page
abbrev pub Memory : Type 0
Memory = ℕ → List ℕ

-- the bytes d written to page a
unfoldable pub written : ℕ → List ℕ → Memory → Memory
written a d m x = cond (eqb x a) d (m x)

pub written_same : (a : ℕ) (d : List ℕ) (m m' : Memory) (x : ℕ) → m x ≡ m' x → written a d m x ≡ written a d m' x
unfolding written
written_same a d m m' x e = ap (λ (v : List ℕ). cond (eqb x a) d v) e

pub written_is : (a : ℕ) (d : List ℕ) (m : Memory) (x : ℕ) → written a d m x ≡ cond (eqb x a) d (m x)
unfolding written
written_is a d m x = refl

pub written_other : (a : ℕ) (d : List ℕ) (m : Memory) (x : ℕ) → x ≢ a → written a d m x ≡ m x
unfolding written
written_other a d m x n = cond_no (eqb x a) d (m x) (ne→eqb x a n)

module _ (s : Shape) (im : Image) where
  -- what e erases are paid with, obsolete blocks counted as erased: at most k; or at most 2, and a full log block went, or it counts for P
  -- writes; or nothing is said
  abbrev pub Cost : Type 0 → ℕ → ℕ → ℕ → Image → Type 0
  Cost Any h k e im' =
      ((log_pages s (blocks_of s im') ≤ log_pages s (blocks_of s im) + h) × (e + obsoletes s im' ≤ k))
      ⊎ (((log_pages s (blocks_of s im') + s.pages ≤ log_pages s (blocks_of s im) + h) × (e + obsoletes s im' ≤ 2)) ⊎ Any)

  -- im', e erases after im, holds M; only logical blocks in Open may have got a log block
  pub record Mid (M : Memory) (Open : ℕ → Type 0) (Any : Type 0) (h k e : ℕ) (im' : Image) : Type 0 where
    pub sound : Sound s im'
    pub holds : (a : ℕ) → content_of s im' a ≡ M a
    pub total : e + obsoletes s im' ≤ 2
    pub no_live : (l : ℕ) → (Open l → ⊥) → NoLive s (blocks_of s im) l → NoLive s (blocks_of s im') l
    pub cost : Cost Any h k e im'

  -- before its own program: the contents are as they were
  abbrev pub NotYet : Type 0 → ℕ → Image → Type 0
  NotYet Any e im' = Mid (content_of s im) (λ l. ⊥) Any 0 1 e im'

  -- from its own program on: they are M, and it counts for h writes, in l
  abbrev pub Happened : Memory → ℕ → Type 0 → ℕ → ℕ → Image → Type 0
  Happened M l Any h e im' = Mid M (λ m. m ≡ l) Any h 0 e im'

  -- a logical block made anew, as part of a plan: no other gets a log block
  pub renewing_mid : {M : Memory} {Open : ℕ → Type 0} {Any : Type 0} {h k : ℕ} (e : ℕ) (im' : Image) → Renewing s im M e im' → Cost Any h k e im'
      → Mid M Open Any h k e im'
  renewing_mid e im' r cost =
      record {
        sound = r.sound;
        holds = r.holds;
        total = r.total;
        no_live = λ l q none' j t z. none' j (r.live j t).0 (ap (λ (b : Block). b.logical) (sym (r.live j t).1) ∙ z);
        cost = cost;
      }

  -- before its last page
  pub renewing_not_yet : {Any : Type 0} (e : ℕ) (im' : Image) → Before s im e im' → NotYet Any e im'
  renewing_not_yet e im' r =
      renewing_mid e im' r.0 (inl (omega (arith, log_pages_is s (blocks_of s im) (blocks_of s im') r.0.live), r.1))

  pub record PlanOk (pre : List Step) (own : Step) (post : List ℕ) (M : Memory) (l : ℕ) (Any : Type 0) (h : ℕ) : Type 0 where
    pub before : Along s (NotYet Any) 0 pre im
    pub after : Along s (Happened M l Any h) (0 + erases pre) (map erase post) (step_done s own (steps_done s pre im))
    pub ends : Recovered s (blocks_of s (steps_done s (map erase post) (step_done s own (steps_done s pre im))))
    pub allowed : Allowed s own (steps_done s pre im)
    pub programs : erases (own ∷ []) ≡ 0

  module _ {pre : List Step} {own : Step} {post : List ℕ} {M : Memory} {l : ℕ} {Any : Type 0} {h : ℕ} (ok : PlanOk pre own post M l Any h) where
    abbrev list : List Step
    list = pre ++ (own ∷ map erase post)

    abbrev im₁ : Image
    im₁ = step_done s own (steps_done s pre im)

    own_erases : (ts : List Step) → erases (own ∷ ts) ≡ erases ts
    own_erases ts = omega (arith, erases-append (own ∷ []) ts, ok.programs)

    -- cut before its own program
    pub plan_before : (k : ℕ) → k ≤ length pre → NotYet Any (erases (take k list)) (steps_done s (take k list) im)
    plan_before k q =
        rw (take-append-le k pre (own ∷ map erase post) q)
        (subst (λ (n : ℕ). NotYet Any n (steps_done s (take k pre) im)) (omega arith) (along_cut s (NotYet Any) 0 pre im ok.before k))

    -- cut behind it
    plan_behind : (i : ℕ) → Happened M l Any h (erases (take (length pre + suc i) list)) (steps_done s (take (length pre + suc i) list) im)
    unfolding steps_done
    plan_behind i =
        rw (
          take-append-add pre (own ∷ map erase post) (suc i),
          steps_done-append s pre (own ∷ take i (map erase post)) im,
          erases-append pre (own ∷ take i (map erase post)),
        )
        (subst (λ (n : ℕ). Happened M l Any h n (steps_done s (take i (map erase post)) im₁)) (omega (arith, own_erases (take i (map erase post))))
        (along_cut s (Happened M l Any h) (0 + erases pre) (map erase post) im₁ ok.after i))

    pub plan_after : (k : ℕ) → length pre < k → Happened M l Any h (erases (take k list)) (steps_done s (take k list) im)
    plan_after k q =
        let e : length pre + suc (k - suc (length pre)) ≡ k = omega arith in
        subst (λ (j : ℕ). Happened M l Any h (erases (take j list)) (steps_done s (take j list) im)) e (plan_behind (k - suc (length pre)))

    -- not cut
    pub plan_end : Sound s (steps_done s list im) × Recovered s (blocks_of s (steps_done s list im))
    unfolding steps_done
    plan_end =
        rw (steps_done-append s pre (own ∷ map erase post) im)
        ((along_end s (Happened M l Any h) (0 + erases pre) (map erase post) im₁ ok.after).sound, ok.ends)

    pub plan_allowed : AllAllowed s list im
    plan_allowed =
        allowed_append s pre (own ∷ map erase post) im (along_allowed s (NotYet Any) 0 pre im ok.before)
        (ok.allowed, along_allowed s (Happened M l Any h) (0 + erases pre) (map erase post) im₁ ok.after)

    -- at most two erases
    pub plan_erases : erases list ≤ 2
    plan_erases =
        let a = along_end s (Happened M l Any h) (0 + erases pre) (map erase post) im₁ ok.after in
        omega (arith, a.total, erases-append pre (own ∷ map erase post), own_erases (map erase post))
