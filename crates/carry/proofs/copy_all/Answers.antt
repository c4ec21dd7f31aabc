use Rattle.std.proofs.Common.{option_copied, arith}
use Rattle.roles.specs.Kept.{recorded_by}
use Rattle.carry.proofs.Copying.{copies_none, copies_turn}
use Rattle.carry.proofs.copy_all.Goals as goal

pub loop-o-init : goal.loop-o-init
loop-o-init c =
    let r = c.args.records.now in
    copies_none r.shape (recorded_by r) c.args.renewal.now (option_copied c.args.block) c.args.run.now

pub loop-o-preserved : goal.loop-o-preserved
loop-o-preserved c =
    let r = c.args.records.now in
    copies_turn r.shape (recorded_by r) c.args.renewal.now (option_copied c.args.block) c.loop-o.o c.requires.0 (omega arith) c.requires.2
    c.loop-o.invariant c.copy_page.ensures
