use Rattle.std.proofs.Common.{◌<◌, ◌≤◌, arith}
use Rattle.roles.specs.Kept.{recorded_by}
use Rattle.plans.proofs.Choosing.{of_room, of_full, of_fresh, of_victim}
use Rattle.plans.proofs.plan.of.Goals as goal

pub returns-then-from-s : goal.returns-then-from-s
returns-then-from-s c =
    let records = c.args.counted.now.records in
    let h : c.block-x.result.filled < records.shape.pages = omega arith in
    of_room records.shape (recorded_by records) c.args.a c.seats-seats.ensures c.in-Some.is c.block-x.ensures h c.append.ensures

pub returns-else-from-s : goal.returns-else-from-s
returns-else-from-s c =
    let records = c.args.counted.now.records in
    let h : records.shape.pages ≤ c.block-x.result.filled = omega arith in
    of_full records.shape (recorded_by records) c.args.a c.seats-seats.ensures c.in-Some.is c.block-x.ensures h c.merge_first.ensures

pub returns-in-None : goal.returns-in-None
returns-in-None c =
    let records = c.args.counted.now.records in
    of_fresh records.shape (recorded_by records) c.args.a c.seats-seats.ensures c.args.counted.now.counted c.in-None.is (omega arith)

pub returns-in-None-2 : goal.returns-in-None-2
returns-in-None-2 c =
    let records = c.args.counted.now.records in
    of_victim records.shape (recorded_by records) c.args.a c.seats-seats.ensures c.args.counted.now.counted c.in-None.is (omega arith) c.oldest.ensures
    c.merge_first-in-None-2.ensures
