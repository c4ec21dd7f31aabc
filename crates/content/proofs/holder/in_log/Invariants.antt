use Rattle.std.proofs.Common.{◌≡◌, ◌<◌, ◌≤◌, ℕ, None, false, []}
use Rattle.rules.specs.Facts.{image_of}
use Rattle.rules.specs.Content.{newest}
use Rattle.roles.specs.Kept.{recorded_by}
use Rattle.content.proofs.Places.{log_of}
use Rattle.content.proofs.holder.in_log.Given as goal

abbrev pub invariant-loop-i : goal.invariant-loop-i
invariant-loop-i l =
    let s = l.records.shape in
    let n = (recorded_by l.records l.b).filled in
    (l.i ≤ n) × (newest s (image_of [] l.spare) l.b l.o n ≡ newest s (image_of [] l.spare) l.b l.o l.i)

abbrev pub decreases-loop-i : goal.decreases-loop-i
decreases-loop-i l = l.i

abbrev pub invariant-scan : goal.invariant-scan
invariant-scan l = (l.found ≡ None) × ((j : ℕ) → j < l.b-counter → log_of l.records.shape (recorded_by l.records) l.l j ≡ false)
