use native.Mathlib.Omega.{arith}
use borrow.Author.Tests.{lt-ltb, le-ltb}
use Rattle.std.proofs.Common.{ap, not, ◌∙◌}
use Rattle.laws.proofs.First.{first_end, first_here, first_later}
use Rattle.refusals.proofs.Refusing.{told}
use Rattle.refusals.proofs.of_write.Goals as goal

pub returns-then-not-t : goal.returns-then-not-t
returns-then-not-t c = told (first_here _ _ (ap not c.if-not-t.true))

pub returns-then-from : goal.returns-then-from
returns-then-from c = told (first_later _ _ (ap not c.if-not-t.false) ∙ first_here _ _ (lt-ltb _ _ (omega arith)))

pub returns : goal.returns
returns c = told (first_later _ _ (ap not c.if-not-t.false) ∙ first_later _ _ (le-ltb _ _ (omega arith)) ∙ first_end)
