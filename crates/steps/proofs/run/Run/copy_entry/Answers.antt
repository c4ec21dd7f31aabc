use Rattle.std.proofs.Common.{◌≡◌, refl, subst, ap, ◌∙◌, List, ℕ}
use Rattle.rules.specs.Spare.{kind_byte, spare_bytes}
use Rattle.rules.specs.Content.{bytes_at}
use Rattle.rules.specs.Steps.{program}
use Rattle.steps.specs.Doing.{image_in, Stepped}
use Rattle.steps.proofs.Running.{does_same, does_stop, does_step}
use Rattle.steps.proofs.run.Run.copy_entry.Goals as goal

pub returns-then-is_spent : goal.returns-then-is_spent
returns-then-is_spent c = does_same refl (does_stop c.if-is_spent.ensures c.stop-self.ensures)

pub returns : goal.returns
returns c =
    let a = c.args in
    let marks : c.spare_bytes.result ≡ spare_bytes a.n (kind_byte a.kind) a.a =
    c.spare_bytes.ensures ∙ ap (λ (k : ℕ). spare_bytes a.n k a.a) c.from.ensures in
    let done = subst (λ (m : List ℕ). Stepped (program a.p (bytes_at (image_in a.self.now) a.place) m) a.self.now c.program_from.new.self) marks c.program_from.ensures in
    does_same refl (does_step c.if-is_spent.ensures done c.programmed-self.ensures)
