-- The answer of a command whose steps are over.
use Rattle.std.specs.Prelude.{cond}
use Rattle.rules.specs.declared.answer.Answer.{Answer}
use Rattle.rules.specs.declared.answer.Answer.TheVariants.{Done, Cut}
use Rattle.steps.specs.declared.budget.Budget.{Budget}

abbrev pub finished : Budget → Answer
finished t = cond t.short (Cut t.programs t.erases) (Done t.programs t.erases)
