use Rattle.std.proofs.Common.{◌≡◌}
use Rattle.roles.specs.Kept.{recorded_by}
use Rattle.roles.specs.Passes.{census_to}
use Rattle.roles.proofs.records.Records.census.Given as goal

abbrev pub invariant-loop-j : goal.invariant-loop-j
invariant-loop-j l = l.census ≡ census_to l.self.shape (recorded_by l.self) l.j
