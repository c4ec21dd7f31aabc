-- The sizes of a card within the limits: B x P pages, at most `most` x 32.
use mathlib.Core.Path.{subst}
use Prim.Native.Nat.{ℕ, ◌+◌, ◌*◌, ◌≤◌, ◌<◌}
use native.Mathlib.Nat.{suc-mul, mul-le-mul, mul-le-mul_right}
use native.Mathlib.Omega.{arith}
use Rattle.rules.specs.Shape.{most}

pub pages_most : {B P : ℕ} → B ≤ most → P ≤ 32 → B * P ≤ most * 32
pages_most hB hP = mul-le-mul hB hP

-- block b of B, P pages each, lies within the B x P pages
pub block_within : {b B : ℕ} (P : ℕ) → b < B → b * P + P ≤ B * P
block_within {b} {B} P h = subst (λ (n : ℕ). n ≤ B * P) (suc-mul b P) (mul-le-mul_right P h)

pub page_within : {b B P i : ℕ} → b < B → i < P → b * P + i < B * P
page_within {b} {B} {P} {i} hb hi = omega (arith, block_within P hb)
