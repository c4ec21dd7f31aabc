-- The plan that the code makes is that of the definition.
use mathlib.Core.Path.{◌≡◌, refl, sym, ap, ◌∙◌}
use mathlib.Core.Logic.{inl, inr, ◌≢◌}
use Prim.Native.Nat.{ℕ, ◌<◌, ◌≤◌}
use native.Mathlib.Omega.{arith}
use lib.Dec.{eqb}
use borrow.Author.Tests.{eq-eqb, ne_eqb, lt-ltb, le-ltb}
use Rattle.std.specs.Prelude.{Option, Some, None}
use Rattle.rules.specs.declared.shape.Shape.{Shape}
use Rattle.rules.specs.declared.block.State.TheVariants.{Bad}
use Rattle.rules.specs.declared.block.Block.{Block}
use Rattle.rules.specs.Below.{none, found, first_below, lowest_below}
use Rattle.rules.specs.Shape.{most, block_of}
use Rattle.rules.specs.WellFormed.{Blocks, not_used, is_live, data_block, live_log, live_logs}
use Rattle.rules.specs.Steps.{taken, highest, victim, write_case}
use Rattle.laws.specs.Foreseen.{free_then}
use Rattle.laws.proofs.Tests.{dec_eq}
use Rattle.laws.proofs.Below.{first_below-same}
use Rattle.roles.specs.declared.census.Census.{Census}
use Rattle.roles.specs.declared.seats.Seats.{Seats}
use Rattle.roles.specs.Passes.{eldest_to, census_to, census, seats}
use Rattle.roles.proofs.Found.{found_none, found_some, found_is, found_not}
use Rattle.roles.proofs.Seating.{seats_data, seats-log}
use Rattle.plans.specs.declared.plan.Plan.{Plan}
use Rattle.plans.specs.declared.renewal.Renewal.{Renewal}
use Rattle.plans.specs.Plans.{renewal_by, renewal_of, room_plan, is_block, free_after_renewal, free_after, merge_plan, plan_of}

-- ---- the block taken after a merge

eqb_sym : (b j : ℕ) → eqb b j ≡ eqb j b
eqb_sym b j =
    elim (dec_eq b j) [
      | inl e ↦ rw (eq-eqb b j e, eq-eqb j b (sym e)) refl
      | inr n ↦ rw (ne_eqb b j n, ne_eqb j b (λ e. n (sym e))) refl
    ]

found_at : (b j : ℕ) → j < none → is_block (found b) j ≡ eqb j b
found_at b j h =
    elim (dec_eq b none) [
      | inl e ↦ rw (found_none e, ne_eqb j b (λ k. omega arith)) refl
      | inr n ↦ rw (found_some n) (eqb_sym b j)
    ]

free_after_is : (s : Shape) (c : Blocks) (l : ℕ) → s.blocks ≤ most
    → first_below s.blocks (free_after_renewal c (renewal_of s c l)) ≡ free_after s c (taken s c) (live_log s c l) (data_block s c l)
unfolding free_after renewal_of
free_after_is s c l h =
    first_below-same s.blocks (free_after_renewal c (renewal_of s c l)) (free_then c (taken s c) (live_log s c l) (data_block s c l))
    (λ j k. rw (found_at (taken s c) j (omega arith), found_at (live_log s c l) j (omega arith), found_at (data_block s c l) j (omega arith)) refl)

-- ---- what the census says

module _ (s : Shape) (c : Blocks) {t : Census} (e : t ≡ census s c) where
  census_free : t.free ≡ found (taken s c)
  unfolding census_to taken
  census_free = ap (λ (u : Census). u.free) e

  census_highest : t.highest ≡ highest s c
  unfolding census_to highest
  census_highest = ap (λ (u : Census). u.highest) e

  census_live : t.live ≡ live_logs s c
  unfolding census_to live_logs
  census_live = ap (λ (u : Census). u.live) e

  census_eldest : t.eldest ≡ found (lowest_below s.blocks (is_live s c) (λ j. (c j).number))
  unfolding census_to eldest_to
  census_eldest = ap (λ (u : Census). u.eldest) e

  -- what is answered of it
  pub victim_some : {l i : ℕ} → t.eldest ≡ Some i → l ≡ (c i).logical → l ≡ victim s c
  unfolding victim
  victim_some f g = g ∙ ap (λ (j : ℕ). (c j).logical) (sym (found_is (sym census_eldest ∙ f)).0)

  pub victim_none : c none ≡ not_used Bad → t.eldest ≡ None → 0 ≡ victim s c
  unfolding victim
  victim_none h f = sym (ap (λ (j : ℕ). (c j).logical) (found_not (sym census_eldest ∙ f)) ∙ ap (λ (x : Block). x.logical) h)

  pub renewal_is : (l : ℕ) {q : Seats} → q ≡ seats s c l → renewal_by t l q ≡ renewal_of s c l
  unfolding renewal_of
  renewal_is l f = rw (census_free, census_highest, seats-log s c l f, seats_data s c l f)

  pub merge_plan_lem : (l : ℕ) {q : Seats} {x : Renewal} {b : Option ℕ} → s.blocks ≤ most → q ≡ seats s c l → x ≡ renewal_by t l q
      → b ≡ found (first_below s.blocks (free_after_renewal c x))
      → ◌≡◌ {A = Plan} (record { needed = 2; merge = Some x; block = b; place = 0; number = t.highest; former = None }) (merge_plan s c l)
  merge_plan_lem l h f e g =
      let made = e ∙ renewal_is l f in
      let after = g ∙ ap found (ap (λ (y : Renewal). first_below s.blocks (free_after_renewal c y)) made ∙ free_after_is s c l h) in
      rw (after, made, census_highest) refl

-- ---- which plan

module _ (s : Shape) (c : Blocks) (a : ℕ) {q : Seats} (here : q ≡ seats s c (block_of s a)) where
  log_is : found (live_log s c (block_of s a)) ≡ q.log
  log_is = sym (seats-log s c (block_of s a) here)

  data_is : found (data_block s c (block_of s a)) ≡ q.«data»
  data_is = sym (seats_data s c (block_of s a) here)

  -- with a log block
  module _ {v : ℕ} (some : q.log ≡ Some v) where
    is : (live_log s c (block_of s a) ≡ v) × (live_log s c (block_of s a) ≢ none)
    is = found_is (log_is ∙ some)

    pub of_room : {r : Plan} {x : Block} → x ≡ c v → x.filled < s.pages → r ≡ room_plan s x q.log q.«data» a → r ≡ plan_of s c a
    unfolding plan_of write_case
    of_room {x = x} e h f =
        rw (ne_eqb (live_log s c (block_of s a)) none is.1, is.0, ← e, lt-ltb x.filled s.pages h, log_is, data_is, is.0, ← e) f

    pub of_full : {r : Plan} {x : Block} → x ≡ c v → s.pages ≤ x.filled → r ≡ merge_plan s c (block_of s a) → r ≡ plan_of s c a
    unfolding plan_of write_case
    of_full {x = x} e h f = rw (ne_eqb (live_log s c (block_of s a)) none is.1, is.0, ← e, le-ltb x.filled s.pages h) f

  -- with none
  module _ {t : Census} (counted : t ≡ census s c) (n : q.log ≡ None) where
    none_is : live_log s c (block_of s a) ≡ none
    none_is = found_not (log_is ∙ n)

    pub of_fresh : t.live < s.logs
        → ◌≡◌ {A = Plan} (record { needed = 1; merge = None; block = t.free; place = 0; number = t.highest; former = None }) (plan_of s c a)
    unfolding plan_of write_case
    of_fresh h =
        rw (eq-eqb (live_log s c (block_of s a)) none none_is, ← census_live s c counted, lt-ltb t.live s.logs h)
        (rw (census_free s c counted, census_highest s c counted) refl)

    pub of_victim : {r : Plan} {m : ℕ} → s.logs ≤ t.live → m ≡ victim s c → r ≡ merge_plan s c m → r ≡ plan_of s c a
    unfolding plan_of write_case
    of_victim h g f = rw (eq-eqb (live_log s c (block_of s a)) none none_is, ← census_live s c counted, le-ltb t.live s.logs h, ← g) f
