use Rattle.std.proofs.Common.{◌≤◌, refl, ap, ◌∙◌}
use native.Mathlib.Omega.{arith}
use lib.ListN.{length, drop, length-drop}
use lib.Seq.{take_all}
use Rattle.std.specs.Option.{is_some}
use Rattle.rules.specs.Bytes.{all255}
use Rattle.rules.specs.Spare.{kind_in, in_table}
use Rattle.nand.proofs.Entries.{kind_named}
use Rattle.nand.proofs.spare.Marks.in_table.Goals as goal

pub returns : goal.returns
unfolding in_table
returns c =
    let marks = c.args.self.now in
    let t = marks.bytes.now in
    let long : length (drop 8 t) ≤ 8 = simp length-drop (omega (arith, marks.sixteen)) in
    let rest = c.all_255.ensures ∙ ap all255 (take_all 8 (drop 8 t) long) in
    let kind = c.is_some-kind.ensures ∙ ap is_some c.kind.ensures ∙ kind_named (kind_in t) in
    rw (rest, c.number-n.ensures, kind) refl
