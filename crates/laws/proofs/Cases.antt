-- The three cases of a write in logical block l: what the records say in each.
use mathlib.Core.Path.{◌≡◌, refl, sym, ap, subst}
use mathlib.Core.Logic.{◌≢◌, ◌⊎◌, inl, inr}
use Prim.Native.Nat.{ℕ, ◌≤◌, ◌<◌}
use native.Mathlib.Omega.{arith}
use lib.Dec.{T, ltb, T_not, ltb→lt, nltb→le}
use Rattle.rules.specs.declared.shape.Shape.{Shape}
use Rattle.rules.specs.Below.{none, is_none, lowest_below}
use Rattle.rules.specs.Page.{Image}
use Rattle.rules.specs.WellFormed.{Blocks, is_live, live_log, live_logs, blocks_of}
use Rattle.rules.specs.Steps.{victim, Case, room, fresh, merging, write_case}
use Rattle.laws.proofs.Tests.{tcase, is_true, is_false, eq→eqb, ne→eqb}
use Rattle.laws.proofs.Below.{lowest_below_found, count_below_some}
use Rattle.laws.proofs.Roles.{used_below, below_none, live_used, live_log_found, live_log_is}
use Rattle.laws.proofs.Change.{NoLive}
use Rattle.laws.proofs.Erasing.{Sound}

-- l has no live log block while K are live: that of another logical block is merged
abbrev pub Victim : Shape → Image → ℕ → Type 0
Victim s im l = (live_log s (blocks_of s im) l ≡ none) × (s.logs ≤ live_logs s (blocks_of s im))

module _ (s : Shape) (im : Image) (w : Sound s im) (l : ℕ) where
  abbrev c : Blocks
  c = blocks_of s im

  -- m has a live log block, which is full, or K are live; and l has no other
  pub record MergeFirst (m : ℕ) : Type 0 where
    pub live : T (is_live s c (live_log s c m))
    pub logical : (c (live_log s c m)).logical ≡ m
    pub why : (s.pages ≤ (c (live_log s c m)).filled) ⊎ Victim s im l
    pub only : (j : ℕ) → T (is_live s c j) → (c j).logical ≡ l → j ≡ live_log s c m

  pub data Cases : Case → Type 0 where
    has_room : T (is_live s c (live_log s c l)) → (c (live_log s c l)).logical ≡ l → (c (live_log s c l)).filled < s.pages → Cases room
    has_none : NoLive s c l → live_logs s c < s.logs → Cases fresh
    must_merge : (m : ℕ) → MergeFirst m → Cases (merging m)

  with_log : T (is_live s c (live_log s c l)) → (c (live_log s c l)).logical ≡ l → Cases (write_case s c l)
  unfolding write_case
  with_log t e =
      let n : live_log s c l ≢ none = below_none s c w.wf.records
      (used_below s c w.wf.records (live_log s c l) (live_used s c (live_log s c l) t)) in
      rw (is_false (is_none (live_log s c l)) (ne→eqb (live_log s c l) none n))
      (elim (tcase (ltb (c (live_log s c l)).filled s.pages)) [
        | inl u ↦ rw (is_true (ltb (c (live_log s c l)).filled s.pages) u) (has_room t e (ltb→lt (c (live_log s c l)).filled s.pages u))
        | inr u ↦
            rw (is_false (ltb (c (live_log s c l)).filled s.pages) (T_not (ltb (c (live_log s c l)).filled s.pages) u))
            (must_merge l (record {
              live = t;
              logical = e;
              why = inl (nltb→le (c (live_log s c l)).filled s.pages u);
              only = λ j v q. sym (live_log_is s c w.wf j l v q);
            }))
      ])

  -- where K log blocks are live, the one with the lowest number is there
  victim_live : 0 < live_logs s c → T (is_live s c (lowest_below s.blocks (is_live s c) (λ j. (c j).number)))
  unfolding live_logs
  victim_live h =
      let q = count_below_some s.blocks (is_live s c) h in
      elim (lowest_below_found s.blocks (is_live s c) (λ j. (c j).number) (omega (arith, w.wf.records.few))) [
        | inl r ↦ r.passes
        | inr r ↦ absurd (r.fails q.0 q.1 q.2)
      ]

  without_log : live_log s c l ≡ none → NoLive s c l → Cases (write_case s c l)
  unfolding write_case victim
  without_log e nl =
      rw (is_true (is_none (live_log s c l)) (eq→eqb (live_log s c l) none e))
      (elim (tcase (ltb (live_logs s c) s.logs)) [
        | inl u ↦ rw (is_true (ltb (live_logs s c) s.logs) u) (has_none nl (ltb→lt (live_logs s c) s.logs u))
        | inr u ↦
            let k : s.logs ≤ live_logs s c = nltb→le (live_logs s c) s.logs u in
            let v : ℕ = lowest_below s.blocks (is_live s c) (λ j. (c j).number) in
            let t : T (is_live s c v) = victim_live (omega (arith, w.fits.limits.logs_low)) in
            let q : live_log s c (c v).logical ≡ v = live_log_is s c w.wf v (c v).logical t refl in
            rw (is_false (ltb (live_logs s c) s.logs) (T_not (ltb (live_logs s c) s.logs) u))
            (must_merge (c v).logical (record {
              live = subst (λ (i : ℕ). T (is_live s c i)) (sym q) t;
              logical = ap (λ (i : ℕ). (c i).logical) q;
              why = inr (e, k);
              only = λ j x y. absurd (nl j x y);
            }))
      ])

  pub write_cases : Cases (write_case s c l)
  write_cases =
      elim (live_log_found s c w.wf.records l) [
        | inl q ↦ with_log q.passes q.logical
        | inr q ↦ without_log q.is q.fails
      ]

  -- the log block of a merge is on the card, and its logical block is one
  pub merge_log : {m : ℕ} → MergeFirst m → live_log s c m < s.blocks
  merge_log {m} q = used_below s c w.wf.records (live_log s c m) (live_used s c (live_log s c m) q.live)

  pub merge_logical : {m : ℕ} → MergeFirst m → m < s.logical
  merge_logical {m} q =
      subst (λ (i : ℕ). i < s.logical) q.logical (w.wf.records.in_range (live_log s c m) (live_used s c (live_log s c m) q.live))
