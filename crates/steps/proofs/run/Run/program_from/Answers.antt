use Rattle.std.proofs.Common.{◌*◌, refl}
use Rattle.rules.specs.Steps.{step_done}
use Rattle.laws.proofs.Bytes.{replaced_lent}
use Rattle.steps.proofs.run.Run.program_from.Goals as goal

pub returns : goal.returns
unfolding step_done
returns c =
    let a = c.args.self.now in
    record {
      image =
          record {
            bytes_are = c.put_page.ensures a.spare.now;
            spare_are = replaced_lent a.spare.now c.args.marks.now _ (c.args.p * 16) _ 16 c.page_start-from.ensures c.copy_from_slice.ensures.after;
          };
      budget_same = refl;
      same = record { bytes_same = refl; spare_same = refl; shape_same = refl };
    }
