use Rattle.std.proofs.Common.{◌≡◌}
use Rattle.rules.specs.Below.{all_below}
use Rattle.roles.specs.Kept.{recorded_by}
use Rattle.refusals.proofs.Clashing.{apart}
use Rattle.refusals.proofs.clash.numbers_apart.Given as goal

abbrev pub invariant-loop-i : goal.invariant-loop-i
invariant-loop-i l = l.all ≡ all_below l.i (apart (recorded_by l.records))
