use Rattle.std.proofs.Common.{◌≡◌, ◌≤◌}
use Rattle.rules.specs.WellFormed.{blocks_in}
use Rattle.roles.specs.Passes.{good_to}
use Rattle.roles.proofs.census.good.Given as goal

abbrev pub invariant-loop-j : goal.invariant-loop-j
invariant-loop-j l = record {
  few : l.n ≤ l.j;
  counted : l.n ≡ good_to (blocks_in l.list) l.j;
}
