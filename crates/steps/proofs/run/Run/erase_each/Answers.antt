use Rattle.std.proofs.Common.{sym, ◌∙◌, arith}
use Rattle.steps.proofs.Running.{same_still, same_then, erases_none, erases_more, erases_past}
use Rattle.steps.proofs.run.Run.erase_each.Goals as goal
use Rattle.steps.proofs.run.Run.erase_each.Goals.{then-goes, else-goes}

pub loop-b-init : goal.loop-b-init
loop-b-init g c = (same_still c.args.self.now, λ p t. erases_none p c.args.self.now)

pub loop-b-preserved : goal.loop-b-preserved
loop-b-preserved g c =
    elim c.if-goes.branch [
      | then-goes w ↦
          rw w.self-is (
            same_then c.loop-b.invariant.0 w.erase.ensures.same,
            λ p t. erases_more p c.loop-b.b (sym w.if-goes.true ∙ t c.loop-b.b _ (omega arith) c.goes.ensures) (c.loop-b.invariant.1 p t) w.erase.ensures,
          )
      | else-goes w ↦
          rw w.self-is (
            c.loop-b.invariant.0,
            λ p t. erases_past p c.loop-b.b (sym w.if-goes.false ∙ t c.loop-b.b _ (omega arith) c.goes.ensures) (c.loop-b.invariant.1 p t),
          )
    ]
