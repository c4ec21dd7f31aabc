use Rattle.std.proofs.Common.{◌≡◌, subst, ap, ◌∙◌, List, ℕ}
use Rattle.rules.specs.Spare.{kind_byte, spare_bytes}
use Rattle.rules.specs.Steps.{program}
use Rattle.steps.specs.Doing.{Stepped}
use Rattle.steps.proofs.Running.{does_stop, does_step}
use Rattle.steps.proofs.run.Run.program_entry.Goals as goal

pub returns-then-is_spent : goal.returns-then-is_spent
returns-then-is_spent c = does_stop c.if-is_spent.ensures c.stop-self.ensures

pub returns : goal.returns
returns c =
    let a = c.args in
    let marks : c.spare_bytes.result ≡ spare_bytes a.n (kind_byte a.kind) a.a =
    c.spare_bytes.ensures ∙ ap (λ (k : ℕ). spare_bytes a.n k a.a) c.from.ensures in
    let done = subst (λ (m : List ℕ). Stepped (program a.p a.page.now m) a.self.now c.program.new.self) marks c.program.ensures in
    does_step c.if-is_spent.ensures done c.programmed-self.ensures
