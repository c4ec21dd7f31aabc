-- The pages used in live log blocks, by which erases are paid for.
use mathlib.Core.Path.{◌≡◌, ap, subst}
use mathlib.Core.Logic.{◌≢◌}
use mathlib.Core.Bool.{Bool, true, false, cond}
use Prim.Native.Nat.{ℕ, ◌+◌, ◌≤◌, ◌<◌}
use native.Mathlib.Omega.{arith}
use native.Mathlib.Nat.{le_refl}
use lib.Dec.{T}
use Rattle.rules.specs.declared.shape.Shape.{Shape}
use Rattle.rules.specs.declared.block.Block.{Block}
use Rattle.rules.specs.WellFormed.{Blocks, data_number, is_live, live_logs}
use Rattle.laws.proofs.Tests.{cond_yes, cond_no}
use Rattle.laws.proofs.Below.{sum_below, sum_below-le, sum_below_move, sum_below-zero, bit_one, bit_zero, count_below_move}
use Rattle.laws.proofs.Roles.{IsLive, live_e, live_i}
use Rattle.laws.proofs.Change.{changed, changed_other, LiveIs}

abbrev pub pages_at : Shape → Blocks → ℕ → ℕ
pages_at s c j = cond (is_live s c j) (c j).filled 0

unfoldable pub log_pages : Shape → Blocks → ℕ
log_pages s c = sum_below s.blocks (pages_at s c)

pages_at_is : (t u : Bool) (x y : Block) → (T t → T u × (x ≡ y)) → cond t x.filled 0 ≤ cond u y.filled 0
pages_at_is false u x y f = omega arith
pages_at_is true true x y f = omega (arith, ap (λ (z : Block). z.filled) (f tt).1)
pages_at_is true false x y f = absurd (f tt).0

pub pages_at_most : (s : Shape) (c : Blocks) (j : ℕ) → pages_at s c j ≤ (c j).filled
pages_at_most s c j = go (is_live s c j)
  where
    go : (t : Bool) → cond t (c j).filled 0 ≤ (c j).filled
    go true = le_refl (c j).filled
    go false = omega arith

pub pages_at_live : (s : Shape) (c : Blocks) (j : ℕ) → T (is_live s c j) → pages_at s c j ≡ (c j).filled
pages_at_live s c j t = cond_yes (is_live s c j) (c j).filled 0 t

pub pages_at_dead : (s : Shape) (c : Blocks) (j : ℕ) → (T (is_live s c j) → ⊥) → pages_at s c j ≡ 0
pages_at_dead s c j f = cond_no (is_live s c j) (c j).filled 0 f

pub log_pages_none : (s : Shape) (c : Blocks) → ((j : ℕ) → T (is_live s c j) → ⊥) → log_pages s c ≡ 0
unfolding log_pages
log_pages_none s c f = sum_below-zero s.blocks (pages_at s c) (λ j h. pages_at_dead s c j (f j))

-- ---- where each live log block was one, as it stands

module _ (s : Shape) (c c' : Blocks) (f : LiveIs s c c') where
  pub log_pages_is : log_pages s c' ≤ log_pages s c
  unfolding log_pages
  log_pages_is = sum_below-le s.blocks (pages_at s c') (pages_at s c) (λ j h. pages_at_is (is_live s c' j) (is_live s c j) (c' j) (c j) (f j))

  -- and i is one no longer
  module _ (i : ℕ) (h : i < s.blocks) (t : T (is_live s c i)) (n : T (is_live s c' i) → ⊥) where
    pub log_pages_drop : log_pages s c' + (c i).filled ≤ log_pages s c
    unfolding log_pages
    log_pages_drop =
        let r = sum_below_move s.blocks (pages_at s c) (pages_at s c') i (c i).filled 0 h
        (λ j k ne. pages_at_is (is_live s c' j) (is_live s c j) (c' j) (c j) (f j))
        (omega (arith, pages_at_dead s c' i n, pages_at_live s c i t)) in
        omega arith

    pub live_logs-drop : live_logs s c' < live_logs s c
    unfolding live_logs
    live_logs-drop =
        let r = count_below_move s.blocks (is_live s c) (is_live s c') i 1 0 h (λ j k ne u. (f j u).0)
        (omega (arith, bit_zero (is_live s c' i) n, bit_one (is_live s c i) t)) in
        omega arith

-- ---- one record changes, and no data number falls

pub log_pages_changed : (s : Shape) (c : Blocks) (b : ℕ) (x : Block) (a k : ℕ) → b < s.blocks
    → ((l : ℕ) → data_number s c l ≤ data_number s (changed c b x) l)
    → pages_at s (changed c b x) b + a ≤ pages_at s c b + k → log_pages s (changed c b x) + a ≤ log_pages s c + k
unfolding log_pages
log_pages_changed s c b x a k h m q =
    sum_below_move s.blocks (pages_at s c) (pages_at s (changed c b x)) b a k h
    (λ j r ne. pages_at_is (is_live s (changed c b x) j) (is_live s c j) (changed c b x j) (c j) (λ t. (was j ne t, changed_other c b x j ne))) q
  where
    was : (j : ℕ) → j ≢ b → T (is_live s (changed c b x) j) → T (is_live s c j)
    was j ne t =
        let v = subst (λ (z : Block). IsLive s (data_number s (changed c b x) z.logical) z) (changed_other c b x j ne)
        (live_e s (changed c b x) j t) in
        live_i s c j (record { used = v.used; log = v.log; incomplete = v.incomplete; above = omega (arith, v.above, m (c j).logical) })
