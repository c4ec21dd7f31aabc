use borrow.Author.Rules.{rules}
use mathlib.Core.Bool.{Bool}
use lib.Dec.{ltb}
use lib.ListN.{length}
use Rattle.std.proofs.Common.{refl, sym, ap, ◌∙◌, Some}
use Rattle.std.proofs.lemmas.Result.{err_from_is_err_and}
use Rattle.rules.specs.Facts.{image_of}
use Rattle.rules.specs.WellFormed.{blocks_of}
use Rattle.rules.specs.Steps.{block_write_list}
use Rattle.rules.specs.Replies.{block_write_reply}
use Rattle.refusals.specs.Orders.{open_refusal}
use Rattle.refusals.proofs.Refusing.{block_write_order}
use Rattle.survey.proofs.Opening.{opened_numbers, told_of}
use Rattle.steps.proofs.Running.{does_same}
use Rattle.steps.proofs.Replying.{replied_refused, replied_done}
use Rattle.roles.specs.Passes.{seats}
use Rattle.plans.specs.Plans.{renewal_by}
use Rattle.carry.specs.Carrying.{renewal_steps}
use Rattle.writing.proofs.Accepting.{refused_first, block_write_refused, block_write_ready}
use Rattle.writing.proofs.block_write_if_well.Goals as goal

pub returns-in_err-census : goal.returns-in_err-census
unfolding block_write_reply
returns-in_err-census c =
    let a = c.args in
    let im = image_of a.bytes.now a.spare.now in
    let p = err_from_is_err_and c.from_residual.result c.from_residual.ensures.1 in
    let sized = ap (λ (b : Bool). open_refusal a.s im b (ltb a.l a.s.logical)) (sym c.block_sized-sized.ensures) in
    rw (p.1, p.2)
    (replied_refused a.s a.bytes.now a.spare.now a.cut (block_write_list a.s (blocks_of a.s im) a.l a.block.now)
    (refused_first a.s im 1 (block_write_order a.s im (length a.block.now) a.l refl) (sized ∙ c.in_err-census.ensures.0)))

-- 6 and 7, once 1 to 5 do not apply
pub returns-in_err-of_write : goal.returns-in_err-of_write
unfolding block_write_reply
returns-in_err-of_write c =
    let a = c.args in
    let im = image_of a.bytes.now a.spare.now in
    let o = c.in_ok-census.ensures in
    let p = err_from_is_err_and c.from_residual-in_err-of_write.result c.from_residual-in_err-of_write.ensures.1 in
    let sized = ap (λ (b : Bool). open_refusal a.s im b (ltb a.l a.s.logical)) (sym c.block_sized-sized.ensures) in
    rw (p.1, p.2)
    (replied_refused a.s a.bytes.now a.spare.now a.cut (block_write_list a.s (blocks_of a.s im) a.l a.block.now)
    (block_write_refused a.s im a.l a.block.now (sized ∙ o.0) o.1.census_is (sym c.of_write.ensures ∙ c.in_err-of_write.was)))

pub records-records-requires : goal.records-records-requires
records-records-requires c =
    let a = c.args in
    let o = c.in_ok-census.ensures in
    opened_numbers a.s _ _ _ o.0 o.1

pub renew-requires : goal.renew-requires
renew-requires c =
    let a = c.args in
    let im = image_of a.bytes.now a.spare.now in
    let o = c.in_ok-census.ensures in
    let sized = ap (λ (b : Bool). open_refusal a.s im b (ltb a.l a.s.logical)) (sym c.block_sized-sized.ensures) in
    let seated = told_of (λ t b. seats t b a.l) c.seats.ensures c.records-records.ensures.shape_is c.records-records.ensures.list_is o.1.holds.list_is in
    let w = block_write_ready a.s im a.l a.block.now (sized ∙ o.0) o.1.census_is (sym c.of_write.ensures ∙ c.in_ok-of_write.was)
    (c.by-r.ensures ∙ ap (renewal_by c.in_ok-census.census a.l) seated) in
    (sym c.records-records.ensures.shape_is, rw c.records-records.ensures.shape_is w.1, rw (c.records-records.ensures.shape_is, c.records-records.ensures.list_is, o.1.holds.list_is) w.2)

pub returns : goal.returns
unfolding block_write_reply
returns c =
    let a = c.args in
    let im = image_of a.bytes.now a.spare.now in
    let o = c.in_ok-census.ensures in
    let sized = ap (λ (b : Bool). open_refusal a.s im b (ltb a.l a.s.logical)) (sym c.block_sized-sized.ensures) in
    let seated = told_of (λ t b. seats t b a.l) c.seats.ensures c.records-records.ensures.shape_is c.records-records.ensures.list_is o.1.holds.list_is in
    let w = block_write_ready a.s im a.l a.block.now (sized ∙ o.0) o.1.census_is (sym c.of_write.ensures ∙ c.in_ok-of_write.was)
    (c.by-r.ensures ∙ ap (renewal_by c.in_ok-census.census a.l) seated) in
    let steps = told_of (λ t b. renewal_steps t im b c.by-r.result (Some a.block.now)) refl c.records-records.ensures.shape_is c.records-records.ensures.list_is o.1.holds.list_is ∙ w.3 in
    replied_done {f = λ i. block_write_list a.s (blocks_of a.s i) a.l a.block.now} a.cut w.0 c.new.ensures.0 (does_same steps c.renew.ensures) c.answer.ensures
    (search rules) (search rules)
