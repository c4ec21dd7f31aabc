use lib.ListN.{length}
use borrow.Author.Tests.{eqb-true}
use Rattle.std.proofs.Common.{sym, ap, ◌∙◌}
use native.Mathlib.Omega.{arith}
use Rattle.std.proofs.lemmas.Result.{err_from_is_err_and}
use Rattle.rules.specs.Shape.{in_range}
use Rattle.rules.specs.Facts.{image_of}
use Rattle.rules.specs.Content.{content}
use Rattle.survey.proofs.Opening.{opened_accepts, opened_numbers, told_of}
use Rattle.reading.proofs.Fetching.{read_opened, read_refused, read_done}
use Rattle.reading.proofs.read_if_well.Goals as goal

pub returns-in_err-of : goal.returns-in_err-of
returns-in_err-of c =
    let a = c.args in
    let im = image_of a.bytes.now a.spare.now in
    let p = err_from_is_err_and c.from_residual.result c.from_residual.ensures.1 in
    rw (p.1, p.2) (read_refused a.s im a.page.now a.a (read_opened a.s im (length a.page.now) a.a c.in_err-of.ensures.0 (c.in_range.ensures ∙ ap (in_range a.s) (omega arith))))

pub records-requires : goal.records-requires
records-requires c =
    let o = c.in_ok-of.ensures in
    opened_numbers c.args.s _ _ _ o.0 o.1

pub fetch-requires : goal.fetch-requires
fetch-requires c =
    let o = c.in_ok-of.ensures in
    (eqb-true _ _ (opened_accepts _ _ _ _ o.0).lengths, sym c.records.ensures.shape_is)

pub returns : goal.returns
returns c =
    let a = c.args in
    let im = image_of a.bytes.now a.spare.now in
    let o = c.in_ok-of.ensures in
    read_done a.s im a.page.now a.a (read_opened a.s im (length a.page.now) a.a o.0 (c.in_range.ensures ∙ ap (in_range a.s) (omega arith)))
    (told_of (λ s b. content s im b a.a) c.fetch.ensures c.records.ensures.shape_is c.records.ensures.list_is o.1.holds.list_is)
