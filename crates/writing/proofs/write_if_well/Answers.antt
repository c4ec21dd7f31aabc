use borrow.Author.Tests.{eqb-true}
use borrow.Author.Rules.{rules}
use native.Mathlib.Omega.{arith}
use lib.Dec.{eqb}
use lib.ListN.{length}
use Rattle.std.proofs.Common.{refl, sym, ap, ◌∙◌}
use Rattle.std.proofs.lemmas.Result.{err_from_is_err_and}
use Rattle.rules.specs.Facts.{image_of}
use Rattle.rules.specs.WellFormed.{blocks_of}
use Rattle.rules.specs.Steps.{write_list}
use Rattle.rules.specs.Replies.{write_reply}
use Rattle.refusals.specs.Orders.{open_refusal}
use Rattle.refusals.proofs.Refusing.{write_order}
use Rattle.survey.proofs.Opening.{opened_accepts, opened_numbers, told_of}
use Rattle.steps.specs.Runs.{started}
use Rattle.steps.proofs.Running.{does_same}
use Rattle.steps.proofs.Replying.{replied_refused, replied_done}
use Rattle.plans.specs.Plans.{plan_of}
use Rattle.carry.specs.Carrying.{planned}
use Rattle.writing.proofs.Accepting.{refused_first, write_refused, write_ready}
use Rattle.writing.proofs.write_if_well.Goals as goal

pub returns-in_err-census : goal.returns-in_err-census
unfolding write_reply
returns-in_err-census c =
    let a = c.args in
    let im = image_of a.bytes.now a.spare.now in
    let p = err_from_is_err_and c.from_residual.result c.from_residual.ensures.1 in
    let ranged = ap (open_refusal a.s im (eqb (length a.page.now) 512)) (sym c.in_range.ensures) in
    rw (p.1, p.2)
    (replied_refused a.s a.bytes.now a.spare.now a.cut (write_list a.s im (blocks_of a.s im) a.a a.page.now)
    (refused_first a.s im _ (write_order a.s im (length a.page.now) a.a refl) (ranged ∙ c.in_err-census.ensures.0)))

pub records-requires : goal.records-requires
records-requires c =
    let o = c.in_ok-census.ensures in
    opened_numbers c.args.s _ _ _ o.0 o.1

-- 6 and 7, once 1 to 5 do not apply
pub returns-in_err-of_write : goal.returns-in_err-of_write
unfolding write_reply
returns-in_err-of_write c =
    let a = c.args in
    let im = image_of a.bytes.now a.spare.now in
    let o = c.in_ok-census.ensures in
    let made = told_of (λ t b. plan_of t b a.a) c.of-p.ensures c.records.ensures.shape_is c.records.ensures.list_is o.1.holds.list_is in
    let p = err_from_is_err_and c.from_residual-in_err-of_write.result c.from_residual-in_err-of_write.ensures.1 in
    let ranged = ap (open_refusal a.s im (eqb (length a.page.now) 512)) (sym c.in_range.ensures) in
    rw (p.1, p.2)
    (replied_refused a.s a.bytes.now a.spare.now a.cut (write_list a.s im (blocks_of a.s im) a.a a.page.now)
    (write_refused a.s im a.a a.page.now (ranged ∙ o.0) o.1.census_is made (sym c.of_write.ensures ∙ c.in_err-of_write.was)))

pub carry_out-requires : goal.carry_out-requires
carry_out-requires c =
    let a = c.args in
    let im = image_of a.bytes.now a.spare.now in
    let o = c.in_ok-census.ensures in
    let made = told_of (λ t b. plan_of t b a.a) c.of-p.ensures c.records.ensures.shape_is c.records.ensures.list_is o.1.holds.list_is in
    let ranged = ap (open_refusal a.s im (eqb (length a.page.now) 512)) (sym c.in_range.ensures) in
    let w = write_ready a.s im a.a a.page.now (ranged ∙ o.0) o.1.census_is made (sym c.of_write.ensures ∙ c.in_ok-of_write.was) in
    (sym c.records.ensures.shape_is, eqb-true _ _ (opened_accepts a.s im _ _ o.0).lengths, rw (c.records.ensures.shape_is, c.records.ensures.list_is, o.1.holds.list_is) w.1.doable)

pub returns : goal.returns
unfolding write_reply
returns c =
    let a = c.args in
    let im = image_of a.bytes.now a.spare.now in
    let o = c.in_ok-census.ensures in
    let made = told_of (λ t b. plan_of t b a.a) c.of-p.ensures c.records.ensures.shape_is c.records.ensures.list_is o.1.holds.list_is in
    let ranged = ap (open_refusal a.s im (eqb (length a.page.now) 512)) (sym c.in_range.ensures) in
    let w = write_ready a.s im a.a a.page.now (ranged ∙ o.0) o.1.census_is made (sym c.of_write.ensures ∙ c.in_ok-of_write.was) in
    let steps = told_of (λ t b. planned t im b c.of-p.result a.a a.page.now) refl c.records.ensures.shape_is c.records.ensures.list_is o.1.holds.list_is ∙ w.1.steps_are in
    replied_done {f = λ i. write_list a.s i (blocks_of a.s i) a.a a.page.now} a.cut w.0 (c.new-budget.ensures.0 ∙ ap started (omega arith)) (does_same steps c.carry_out.ensures) c.answer.ensures
    (search rules) (search rules)
