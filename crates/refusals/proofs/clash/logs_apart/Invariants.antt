use Rattle.std.proofs.Common.{◌≡◌}
use Rattle.rules.specs.Below.{all_below}
use Rattle.roles.specs.Kept.{recorded_by}
use Rattle.refusals.proofs.Clashing.{LogsTo, log_apart}
use Rattle.refusals.proofs.clash.logs_apart.Given as goal

-- no two of the blocks so far clash, and `taken` says of each logical block whether one of them is its live log block
abbrev pub invariant-loop-i : goal.invariant-loop-i
invariant-loop-i l =
    record {
      apart : l.all ≡ all_below l.i (log_apart l.records.shape (recorded_by l.records));
      logs : LogsTo l.records.shape (recorded_by l.records) l.taken l.i;
    }
