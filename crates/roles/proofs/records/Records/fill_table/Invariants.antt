use Rattle.roles.specs.Kept.{recorded_by}
use Rattle.roles.proofs.Entries.{TableTo}
use Rattle.roles.proofs.records.Records.fill_table.Given as goal

abbrev pub invariant-loop-j : goal.invariant-loop-j
invariant-loop-j l = TableTo l.self.shape (recorded_by l.self) l.table l.j
