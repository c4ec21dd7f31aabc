use Rattle.std.proofs.Common.{◌≡◌, true, sym, ap, ◌∙◌, rules}
use Rattle.std.proofs.lemmas.Result.{err_from_is_err_and}
use Rattle.rules.specs.Facts.{image_of}
use Rattle.rules.specs.WellFormed.{blocks_of, blocks_in}
use Rattle.rules.specs.Steps.{format_list}
use Rattle.rules.specs.Replies.{format_reply}
use Rattle.refusals.proofs.Refusing.{told_ok, told_err, call_accepts}
use Rattle.steps.proofs.Replying.{replied_refused, replied_done}
use Rattle.sweep.proofs.Sweeping.{goes, few_told, goes_same, format_refused, format_few, format_none}
use Rattle.sweep.proofs.format_if_good.Goals as goal

pub returns-in_err-of_call : goal.returns-in_err-of_call
unfolding format_reply
returns-in_err-of_call c =
    let s = c.args.s in
    let im = image_of c.args.bytes.now c.args.spare.now in
    let p = err_from_is_err_and c.from_residual.result c.from_residual.ensures.1 in
    rw (p.1, p.2)
    (replied_refused s _ _ c.args.cut (format_list s (blocks_of s im))
    (format_refused s im (told_err _ (sym c.of_call.ensures ∙ c.in_err-of_call.was))))

pub invariant_of-chip : goal.invariant_of-chip
invariant_of-chip c = record { fits = (call_accepts _ _ _ true true (told_ok _ (sym c.of_call.ensures ∙ c.in_ok-of_call.was))).within }

pub returns-then-short_of : goal.returns-then-short_of
unfolding format_reply
returns-then-short_of c =
    let s = c.args.s in
    let im = image_of c.args.bytes.now c.args.spare.now in
    let few = few_told s im c.scan_use.ensures.is c.good.ensures c.short_of.ensures in
    replied_refused s _ _ c.args.cut (format_list s (blocks_of s im))
    (format_few s im (told_ok _ (sym c.of_call.ensures ∙ c.in_ok-of_call.was)) (sym few ∙ c.if-short_of.true))

pub returns : goal.returns
unfolding format_reply format_list
returns c =
    let s = c.args.s in
    let im = image_of c.args.bytes.now c.args.spare.now in
    let few = few_told s im c.scan_use.ensures.is c.good.ensures c.short_of.ensures in
    let none = format_none s im (told_ok _ (sym c.of_call.ensures ∙ c.in_ok-of_call.was)) (sym few ∙ c.if-short_of.false) in
    let does = c.erase_each.ensures.erased (goes (blocks_of s im)) (λ j r h told.
    let goes_j : r ≡ goes (blocks_in c.scan_use.new.list) j = search rules in
    goes_j ∙ ap (λ b. goes b j) c.scan_use.ensures.is ∙ goes_same s im j) in
    replied_done {f = λ _. format_list s (blocks_of s im)} c.args.cut none c.new.ensures.0 does c.answer.ensures (search rules) (search rules)
