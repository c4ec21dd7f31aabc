-- The steps of a write before its own, in each of its cases: every cut, and what its own program finds.
use mathlib.Core.Path.{◌≡◌, refl, sym, ap, ◌∙◌, subst}
use mathlib.Core.Logic.{◌⊎◌, inl, inr}
use Prim.Native.Nat.{ℕ, ◌+◌, ◌≤◌, ◌<◌}
use native.Mathlib.Omega.{arith}
use lib.Dec.{T}
use Rattle.rules.specs.declared.shape.Shape.{Shape}
use Rattle.rules.specs.declared.block.Block.{Block}
use Rattle.rules.specs.Spare.{number_limit}
use Rattle.rules.specs.Page.{Image}
use Rattle.rules.specs.WellFormed.{Blocks, is_free, is_live, is_obsolete, live_log, blocks_of}
use Rattle.rules.specs.Steps.{steps_done, erases, taken, highest, new_number, merge_list, Case, room, fresh, merging, numbers_needed, merge_first, log_block, log_number}
use Rattle.laws.proofs.Below.{count_below-none}
use Rattle.laws.proofs.Roles.{free_not_used, live_used, Recovered, taken_free}
use Rattle.laws.proofs.Change.{NoLive, LiveIs}
use Rattle.laws.proofs.Along.{Along}
use Rattle.laws.proofs.Steps.{used_numbers}
use Rattle.laws.proofs.Erasing.{Sound, content_of, obsoletes}
use Rattle.laws.proofs.Renewal.{After}
use Rattle.laws.proofs.Merge.{merge_along, merge_end}
use Rattle.laws.proofs.Cases.{Victim, MergeFirst, Cases, has_room, has_none, must_merge, merge_log, merge_logical}
use Rattle.history.proofs.Cost.{log_pages, log_pages_drop, live_logs-drop}
use Rattle.history.proofs.Plan.{Cost, NotYet, renewing_mid, renewing_not_yet}
use Rattle.history.proofs.Own.{Place}

-- a recovered card has no obsolete block
pub none_in : (s : Shape) (im : Image) → Recovered s (blocks_of s im) → obsoletes s im ≡ 0
unfolding obsoletes
none_in s im f = count_below-none s.blocks (is_obsolete s (blocks_of s im)) (λ j h. f j)

module _ (s : Shape) (im : Image) (w : Sound s im) (l : ℕ) where
  abbrev c : Blocks
  c = blocks_of s im

  -- ---- the steps before its own

  module _ (rec : Recovered s (blocks_of s im)) where
    abbrev Pre : ℕ → Image → Type 0
    Pre = NotYet s im (Victim s im l)

    -- im₁ is prepared for the own program, in block b with number n, e erases after im
    pub record Prepared (e : ℕ) (im₁ : Image) (b n : ℕ) : Type 0 where
      pub before : Pre e im₁
      pub clean : Recovered s (blocks_of s im₁)
      pub cost₀ : Cost s im (Victim s im l) 0 0 e im₁
      pub place : Place s (blocks_of s im₁) l b n
      pub below : (blocks_of s im₁ b).filled < s.pages
      pub high : n ≤ number_limit
      pub start : T (is_live s (blocks_of s im₁) b) → e ≡ 0

    none_yet : obsoletes s im ≡ 0
    none_yet = none_in s im rec

    cost_start : (k : ℕ) → Cost s im (Victim s im l) 0 k 0 im
    cost_start k = inl (omega arith, omega (arith, none_yet))

    pre_start : Pre 0 im
    pre_start = record { sound = w; holds = λ a. refl; total = omega (arith, none_yet); no_live = λ m q f. f; cost = cost_start 1 }

    abbrev Goal : Case → Type 0
    Goal k =
        Along s Pre 0 (merge_first s im c k) im
        × Prepared (0 + erases (merge_first s im c k)) (steps_done s (merge_first s im c k) im)
        (log_block s (blocks_of s (steps_done s (merge_first s im c k) im)) k l) (log_number s (blocks_of s (steps_done s (merge_first s im c k) im)) k l)

    -- a block just taken is free
    module _ (im₁ : Image) (w₁ : Sound s im₁) (clean₁ : Recovered s (blocks_of s im₁)) where
      free_taken : T (is_free (blocks_of s im₁ (taken s (blocks_of s im₁))).state)
      free_taken = (taken_free s (blocks_of s im₁) w₁.wf clean₁ w₁.enough).0

      free_below : (blocks_of s im₁ (taken s (blocks_of s im₁))).filled < s.pages
      free_below =
          omega (arith, w₁.fits.limits.pages_low, ap (λ (z : Block). z.filled) (w₁.wf.records.free (taken s (blocks_of s im₁)) free_taken))

      free_dead : T (is_live s (blocks_of s im₁) (taken s (blocks_of s im₁))) → ⊥
      free_dead t =
          free_not_used (blocks_of s im₁ (taken s (blocks_of s im₁))).state free_taken (live_used s (blocks_of s im₁) (taken s (blocks_of s im₁)) t)

    -- ---- the merge of m

    module _ (m : ℕ) (q : MergeFirst s im w l m) (fit : highest s c + 2 ≤ number_limit) where
      abbrev v : ℕ
      v = live_log s c m

      v_below : v < s.blocks
      v_below = merge_log s im w l q

      m_below : m < s.logical
      m_below = merge_logical s im w l q

      one : new_number s c ≤ number_limit
      one = omega arith

      -- the log block of m is live no longer
      gone : (im' : Image) → LiveIs s c (blocks_of s im') → NoLive s (blocks_of s im') m → T (is_live s (blocks_of s im') v) → ⊥
      gone im' f none' t = none' v t (ap (λ (z : Block). z.logical) (f v t).1 ∙ q.logical)

      merge_cost : (e : ℕ) (im' : Image) → After s im m (content_of s im) e im'
          → ((log_pages s (blocks_of s im') + s.pages ≤ log_pages s c + 0) × (e + obsoletes s im' ≤ 2)) ⊎ Victim s im l
      merge_cost e im' r =
          elim q.why [
            | inl h ↦ inl (
              omega (arith, log_pages_drop s c (blocks_of s im') r.0.live v v_below q.live (gone im' r.0.live r.1)),
              r.0.total,
            )
            | inr u ↦ inr u
          ]

      copied_pre : (e : ℕ) (im' : Image) → After s im m (content_of s im) e im' → Pre e im'
      copied_pre e im' r = renewing_mid s im e im' r.0 (inr (merge_cost e im' r))

      merge_goal : Goal (merging m)
      merge_goal = (
        merge_along s im w m rec m_below one Pre (renewing_not_yet s im) copied_pre,
        record {
          before = copied_pre e₁ im₁ r;
          clean = r';
          cost₀ = inr (merge_cost e₁ im₁ r);
          place = inr (
            free_taken im₁ r.0.sound r',
            none_of_l,
            omega (arith, live_logs-drop s c (blocks_of s im₁) r.0.live v v_below q.live (gone im₁ r.0.live r.1), w.wf.few_live),
            refl,
          );
          below = free_below im₁ r.0.sound r';
          high = omega (arith, r.0.highest);
          start = λ t. absurd (free_dead im₁ r.0.sound r' t);
        },
      )
        where
          e₁ : ℕ
          e₁ = 0 + erases (merge_list s im c m)

          im₁ : Image
          im₁ = steps_done s (merge_list s im c m) im

          r : After s im m (content_of s im) e₁ im₁
          r = (merge_end s im w m rec m_below one).0

          r' : Recovered s (blocks_of s im₁)
          r' = (merge_end s im w m rec m_below one).1

          none_of_l : NoLive s (blocks_of s im₁) l
          none_of_l j t e =
              let y = r.0.live j t in
              gone im₁ r.0.live r.1
              (subst (λ (i : ℕ). T (is_live s (blocks_of s im₁) i)) (q.only j y.0 (ap (λ (z : Block). z.logical) (sym y.1) ∙ e)) t)

    pub pre_goal : (k : Case) → Cases s im w l k → highest s c + numbers_needed k ≤ number_limit → Goal k
    unfolding steps_done
    pre_goal room (has_room t e h) fit = (
      pre_start,
      record {
        before = pre_start;
        clean = rec;
        cost₀ = cost_start 0;
        place = inl (t, e, refl);
        below = h;
        high = (used_numbers s im w.fits (live_log s c l) (live_used s c (live_log s c l) t)).1;
        start = λ u. refl;
      },
    )
    pre_goal fresh (has_none nl h) fit = (
      pre_start,
      record {
        before = pre_start;
        clean = rec;
        cost₀ = cost_start 0;
        place = inr (free_taken im w rec, nl, h, refl);
        below = free_below im w rec;
        high = fit;
        start = λ u. refl;
      },
    )
    pre_goal (merging k) (must_merge m q) fit = merge_goal m q fit
