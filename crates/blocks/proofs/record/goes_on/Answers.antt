use Rattle.std.proofs.Common.{◌≡◌, Some, refl, T_not}
use mathlib.Core.Logic.{inl, inr}
use denote.Enum.Bare.{sameb}
use Rattle.std.specs.Option.{option_eq}
use Rattle.rules.specs.declared.kind.Kind.{Kind}
use Rattle.rules.specs.declared.kind.Kind.TheVariants.{Log, Copy}
use Rattle.rules.specs.contracts.kind.Kind.{the_type}
use Rattle.rules.specs.contracts.kind.KindPartialEq.TheImpl.{eq-value}
use Rattle.rules.specs.Spare.{in_table, kind_in, kind_for}
use Rattle.rules.specs.Page.{is_copy, same_kind}
use Rattle.laws.proofs.Tests.{tcase, is_true, is_false}
use Rattle.nand.proofs.Entries.{kind_of_table}
use Rattle.blocks.specs.Leading.{goes_on}
use Rattle.blocks.proofs.record.goes_on.Goals as goal

alike : (k m : Kind) → option_eq eq-value.it (Some k) (Some m) ≡ same_kind (Some k) (Some m)
alike Log Log = refl
alike Log Copy = refl
alike Copy Log = refl
alike Copy Copy = refl

copy : (k : Kind) → sameb the_type k Copy ≡ is_copy (Some k)
copy Log = refl
copy Copy = refl

pub returns : goal.returns
unfolding goes_on
returns c =
    let x = c.args.x in
    let t = c.args.marks.now.bytes.now in
    elim (tcase (in_table t)) [
      | inl h ↦
          rw (c.in_table.ensures, is_true (in_table t) h, c.eq.ensures, c.kind.ensures, kind_of_table t h, alike (kind_for (kind_in t)) x.kind, c.ne.ensures, copy x.kind, c.number.ensures, c.in_place.ensures, c.in_block.ensures)
          refl
      | inr h ↦ rw (c.in_table.ensures, is_false (in_table t) (T_not (in_table t) h)) refl
    ]
