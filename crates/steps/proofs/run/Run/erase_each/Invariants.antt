use Rattle.std.proofs.Common.{ℕ, Bool}
use Rattle.steps.specs.Doing.{Same, Does, Tells, erases_to}
use Rattle.steps.proofs.run.Run.erase_each.Given as goal

abbrev pub invariant-loop-b : goal.invariant-loop-b
invariant-loop-b g l =
    Same l.fn.self l.self
    × ((p : ℕ → Bool) → Tells (goal.F-post g l.goes) l.fn.self.shape.blocks p → Does (λ _. erases_to p l.b) l.fn.self l.self)
