use Rattle.std.proofs.Common.{refl, sym, ap, not, ◌∙◌}
use Rattle.std.proofs.lemmas.Result.{err_from_is_err_and}
use Rattle.rules.specs.Facts.{image_of}
use Rattle.rules.specs.WellFormed.{well_formed}
use Rattle.rules.specs.Replies.{too_few_good}
use Rattle.laws.proofs.First.{first_end, first_here, first_later}
use Rattle.roles.specs.Passes.{census}
use Rattle.refusals.proofs.Refusing.{told_ok, told_err, call_accepts, few_by}
use Rattle.survey.proofs.Opening.{recorded, by_call, by_card, told_of, held, held_numbers, left_by_call}
use Rattle.survey.proofs.of.Goals as goal

pub returns-in_err-of_call : goal.returns-in_err-of_call
returns-in_err-of_call c =
    let a = c.args in
    let im = image_of a.bytes.now a.spare.now in
    let p = err_from_is_err_and c.from_residual.result c.from_residual.ensures.1 in
    let call = told_err _ (sym c.of_call.ensures ∙ c.in_err-of_call.was) in
    rw (p.1, p.2) (by_call a.s im a.sized a.ranged call, left_by_call a.s im a.sized a.ranged a.room.now call)

pub invariant_of-chip : goal.invariant_of-chip
invariant_of-chip c = record { fits = (call_accepts _ _ _ _ _ (told_ok _ (sym c.of_call.ensures ∙ c.in_ok-of_call.was))).within }

pub returns-then-short_of : goal.returns-then-short_of
returns-then-short_of c =
    let s = c.args.s in
    let few = few_by _ _ c.good.ensures c.short_of.ensures ∙ ap (too_few_good s) c.scan.ensures.is in (
      by_card s _ _ _ (told_ok _ (sym c.of_call.ensures ∙ c.in_ok-of_call.was)) ∙ first_here _ _ (sym few ∙ c.if-short_of.true),
      record { long = c.scan.ensures.long; list_is = c.scan.ensures.is; numbers_are = refl },
    )

pub number-requires : goal.number-requires
number-requires c =
    let s = c.args.s in
    let few = few_by _ _ c.good.ensures c.short_of.ensures ∙ ap (too_few_good s) c.scan.ensures.is in
    let call = call_accepts _ _ _ _ _ (told_ok _ (sym c.of_call.ensures ∙ c.in_ok-of_call.was)) in
    rw c.scan.ensures.is (recorded s (image_of c.args.bytes.now c.args.spare.now) call.within (sym few ∙ c.if-short_of.false))

pub records-records-requires : goal.records-records-requires
records-records-requires c =
    let s = c.args.s in
    let im = image_of c.args.bytes.now c.args.spare.now in
    let few = few_by _ _ c.good.ensures c.short_of.ensures ∙ ap (too_few_good s) c.scan.ensures.is in
    let call = call_accepts _ _ _ _ _ (told_ok _ (sym c.of_call.ensures ∙ c.in_ok-of_call.was)) in
    held_numbers s im (held s im c.scan.ensures.long c.scan.ensures.is c.number.ensures.list c.number.ensures.numbers) (recorded s im call.within (sym few ∙ c.if-short_of.false))

pub returns-then-not-is_well_formed : goal.returns-then-not-is_well_formed
returns-then-not-is_well_formed c =
    let s = c.args.s in
    let im = image_of c.args.bytes.now c.args.spare.now in
    let few = few_by _ _ c.good.ensures c.short_of.ensures ∙ ap (too_few_good s) c.scan.ensures.is in
    let holds = held s im c.scan.ensures.long c.scan.ensures.is c.number.ensures.list c.number.ensures.numbers in
    let well = told_of well_formed c.is_well_formed.ensures c.records-records.ensures.shape_is c.records-records.ensures.list_is holds.list_is in (
      by_card s _ _ _ (told_ok _ (sym c.of_call.ensures ∙ c.in_ok-of_call.was))
          ∙ first_later _ _ (sym few ∙ c.if-short_of.false) ∙ first_here _ _ (ap not (sym well ∙ c.if-not-is_well_formed.true)),
      holds,
    )

pub returns : goal.returns
returns c =
    let s = c.args.s in
    let im = image_of c.args.bytes.now c.args.spare.now in
    let few = few_by _ _ c.good.ensures c.short_of.ensures ∙ ap (too_few_good s) c.scan.ensures.is in
    let holds = held s im c.scan.ensures.long c.scan.ensures.is c.number.ensures.list c.number.ensures.numbers in
    let well = told_of well_formed c.is_well_formed.ensures c.records-records.ensures.shape_is c.records-records.ensures.list_is holds.list_is in (
      by_card s _ _ _ (told_ok _ (sym c.of_call.ensures ∙ c.in_ok-of_call.was))
          ∙ first_later _ _ (sym few ∙ c.if-short_of.false) ∙ first_later _ _ (ap not (sym well ∙ c.if-not-is_well_formed.false)) ∙ first_end,
      record {
        fits = (call_accepts _ _ _ _ _ (told_ok _ (sym c.of_call.ensures ∙ c.in_ok-of_call.was))).within;
        holds = holds;
        census_is = told_of census c.census.ensures c.records-records.ensures.shape_is c.records-records.ensures.list_is holds.list_is;
      },
    )
