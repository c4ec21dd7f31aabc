use Rattle.std.proofs.Common.{◌≡◌, true, false, List, ℕ, sym, ap, ◌∙◌}
use native.Mathlib.Omega.{arith}
use lib.ListN.{length, take}
use lib.Seq.{take_all}
use Rattle.rules.specs.Bytes.{all255}
use Rattle.rules.specs.Page.{erased}
use Rattle.nand.proofs.page.page_erased.Goals as goal

-- the sixteen spare bytes, lent as a part of themselves
whole : (t : List ℕ) → length t ≡ 16 → all255 (take 16 t) ≡ all255 t
whole t long = ap all255 (take_all 16 t (omega arith))

pub returns-then-not-all_255 : goal.returns-then-not-all_255
unfolding erased
returns-then-not-all_255 c =
    let marks = c.args.marks.now in
    let e : all255 marks.bytes.now ≡ false = sym (whole marks.bytes.now marks.sixteen) ∙ sym c.all_255.ensures ∙ c.if-not-all_255.true in
    simp e

pub returns : goal.returns
unfolding erased
returns c =
    let marks = c.args.marks.now in
    let e : all255 marks.bytes.now ≡ true = sym (whole marks.bytes.now marks.sixteen) ∙ sym c.all_255.ensures ∙ c.if-not-all_255.false in
    simp e c.data_erased.ensures
