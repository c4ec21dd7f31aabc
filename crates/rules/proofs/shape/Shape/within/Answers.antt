use Rattle.std.proofs.Common.{Bool, ◌*◌, eqb, ap, sym, ◌∙◌}
use mathlib.Core.Bool.{◌&&◌}
use Rattle.rules.specs.Shape.{within_limits}
use Rattle.rules.proofs.shape.Shape.within.Goals as goal

-- src/shape.rt:42:5
pub returns-then-limits : goal.returns-then-limits
unfolding within_limits
returns-then-limits c =
    let pages = c.args.self.blocks * c.args.self.pages in
    ap (λ (limits : Bool). limits && eqb c.args.bytes (pages * 512) && eqb c.args.spares (pages * 16)) (sym c.if-limits.true)

-- src/shape.rt:42:5
pub returns-else-limits : goal.returns-else-limits
unfolding within_limits
returns-else-limits c =
    let pages = c.args.self.blocks * c.args.self.pages in
    c.if-limits.false
    ∙ ap (λ (limits : Bool). limits && eqb c.args.bytes (pages * 512) && eqb c.args.spares (pages * 16)) (sym c.if-limits.false)
