use Rattle.std.proofs.Common.{sym, ap, ◌∙◌, not}
use Rattle.laws.proofs.First.{first_end, first_here, first_later}
use Rattle.refusals.proofs.Refusing.{told}
use Rattle.refusals.proofs.of_call.Goals as goal

pub returns-then-not-within : goal.returns-then-not-within
returns-then-not-within c = told (first_here _ _ (ap not (sym c.within.ensures ∙ c.if-not-within.true)))

pub returns-then-not-sized : goal.returns-then-not-sized
returns-then-not-sized c =
    told (first_later _ _ (ap not (sym c.within.ensures ∙ c.if-not-within.false)) ∙ first_here _ _ (ap not c.if-not-sized.true))

pub returns-then-not-ranged : goal.returns-then-not-ranged
returns-then-not-ranged c =
    told
    (first_later _ _ (ap not (sym c.within.ensures ∙ c.if-not-within.false)) ∙ first_later _ _ (ap not c.if-not-sized.false)
    ∙ first_here _ _ (ap not c.if-not-ranged.true))

pub returns : goal.returns
returns c =
    told
    (first_later _ _ (ap not (sym c.within.ensures ∙ c.if-not-within.false)) ∙ first_later _ _ (ap not c.if-not-sized.false)
    ∙ first_later _ _ (ap not c.if-not-ranged.false) ∙ first_end)
