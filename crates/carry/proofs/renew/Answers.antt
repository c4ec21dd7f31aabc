use Rattle.std.proofs.Common.{option_copied}
use Rattle.roles.specs.Kept.{recorded_by}
use Rattle.carry.proofs.Copying.{renew_does}
use Rattle.carry.proofs.renew.Goals as goal

pub returns : goal.returns
returns c =
    let r = c.args.records.now in
    renew_does r.shape (recorded_by r) c.args.renewal.now (option_copied c.args.block) c.copy_all.ensures c.erase_any.ensures c.erase_any-2.ensures
