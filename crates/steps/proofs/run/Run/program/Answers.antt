use Rattle.std.proofs.Common.{◌*◌, refl}
use Rattle.rules.specs.Steps.{step_done}
use Rattle.laws.proofs.Bytes.{replaced_lent}
use Rattle.steps.proofs.run.Run.program.Goals as goal

pub returns : goal.returns
unfolding step_done
returns c =
    record {
      image =
          record {
            bytes_are = replaced_lent c.args.self.now.bytes.now c.args.page.now _ (c.args.p * 512) _ 512 c.page_start-at.ensures c.copy_from_slice.ensures.after;
            spare_are = replaced_lent c.args.self.now.spare.now c.args.marks.now _ (c.args.p * 16) _ 16 c.page_start-from.ensures c.copy_from_slice-2.ensures.after;
          };
      budget_same = refl;
      same = record { bytes_same = refl; spare_same = refl; shape_same = refl };
    }
