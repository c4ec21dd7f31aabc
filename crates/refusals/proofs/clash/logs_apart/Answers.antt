use Rattle.std.proofs.Common.{◌≡◌, refl, ap, ◌∙◌, rules, tests}
use Prim.Native.Nat.{ℕ, ◌<◌}
use native.Mathlib.Omega.{arith}
use Rattle.rules.specs.Below.{all_below}
use Rattle.rules.specs.Shape.{most}
use Rattle.rules.specs.WellFormed.{W6}
use Rattle.roles.specs.Kept.{recorded_by}
use Rattle.laws.proofs.Below.{all_turn, all_below-zero}
use Rattle.refusals.proofs.Clashing.{logs_none, logs_turn, lone_log, log_apart}
use Rattle.refusals.proofs.clash.logs_apart.Goals as goal

pub loop-i-init : goal.loop-i-init
loop-i-init c = record { apart = all_below-zero _; logs = logs_none _ _ refl }

pub loop-i-preserved : goal.loop-i-preserved
loop-i-preserved c =
    let records = c.args.records.now in
    let blocks = recorded_by records in
    let i = c.loop-i.i in
    let small : c.block.result.logical < most = rw c.block.ensures (records.numbers_are.recorded.small i) in
    let logs = c.loop-i.invariant.logs in
    rw c.from-l.ensures
    (record {
      apart = all_turn (log_apart records.shape blocks) i c.loop-i.invariant.apart
          (lone_log records.shape blocks i c.block.ensures c.is_live-live.ensures small logs refl) refl;
      logs = logs_turn records.shape blocks i c.block.ensures c.is_live-live.ensures small logs (search (rules, tests));
    })

pub returns : goal.returns
unfolding W6
returns c =
    let records = c.args.records.now in
    let end : c.loop-i.i ≡ records.shape.blocks = omega arith in
    c.loop-i.invariant.apart ∙ ap (λ (m : ℕ). all_below m (log_apart records.shape (recorded_by records))) end
