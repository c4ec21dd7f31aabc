use Rattle.std.proofs.Common.{◌≡◌, true, false, sym, ap, ◌∙◌, rules, tests}
use borrow.Author.Tests.{eqb-true}
use Prim.Native.Nat.{◌*◌}
use mathlib.Core.Bool.{Bool, cond}
use Rattle.std.proofs.lemmas.Result.{err_from_is_err_and}
use Rattle.rules.specs.Facts.{image_of}
use Rattle.rules.specs.WellFormed.{blocks_of, is_obsolete}
use Rattle.rules.specs.Steps.{power_up_list}
use Rattle.rules.specs.Replies.{table_of}
use Rattle.roles.specs.Kept.{recorded_by}
use Rattle.refusals.specs.Orders.{open_refusal}
use Rattle.survey.proofs.Opening.{opened_accepts, opened_numbers, told_of}
use Rattle.sweep.proofs.Sweeping.{power_up_refused, power_up_done}
use Rattle.sweep.proofs.power_up_if_well.Goals as goal
use Rattle.sweep.proofs.power_up_if_well.Goals.{then-not-run, else-not-run}

pub returns-in_err-of : goal.returns-in_err-of
returns-in_err-of c =
    let s = c.args.s in
    let im = image_of c.args.bytes.now c.args.spare.now in
    let p = err_from_is_err_and c.from_residual.result c.from_residual.ensures.1 in
    rw (p.1, p.2) (power_up_refused s _ _ _ _ (ap (λ b. open_refusal s im b true) (sym c.table_sized-sized.ensures) ∙ c.in_err-of.ensures.0))

pub records-records-requires : goal.records-records-requires
records-records-requires c =
    let ok = c.in_ok-of.ensures in
    opened_numbers c.args.s _ _ _ ok.0 ok.1

pub fill_table-requires : goal.fill_table-requires
fill_table-requires c =
    let s = c.args.s in
    let im = image_of c.args.bytes.now c.args.spare.now in
    let ok = c.in_ok-of.ensures in
    eqb-true _ _ (sym c.table_sized-sized.ensures ∙ (opened_accepts s im _ true ok.0).lengths) ∙ ap (λ t. 2 * t.logical) (sym c.records-records.ensures.shape_is)

pub returns : goal.returns
unfolding power_up_list
returns c =
    let s = c.args.s in
    let im = image_of c.args.bytes.now c.args.spare.now in
    let ok = c.in_ok-of.ensures in
    let none = ap (λ b. open_refusal s im b true) (sym c.table_sized-sized.ensures) ∙ ok.0 in
    let records = c.records-records.result in
    let does = c.erase_each.ensures.erased (is_obsolete s (blocks_of s im)) (λ j r h told.
    let goes_j : r ≡ is_obsolete records.shape (recorded_by records) j = search rules in
    told_of (λ t b. is_obsolete t b j) goes_j c.records-records.ensures.shape_is c.records-records.ensures.list_is ok.1.holds.list_is) in
    let kept = λ (b : Bool). cond b c.args.table.now (table_of s (blocks_of s im) s.logical) in
    elim c.if-not-run.branch [
      | then-not-run w ↦
          let uncut : c.erase_each.new.self.budget.short ≡ false = search (rules, tests) in
          let filled = told_of (λ t b. table_of t b t.logical) w.fill_table.ensures c.records-records.ensures.shape_is c.records-records.ensures.list_is ok.1.holds.list_is in
          rw w.table-is
          (power_up_done c.args.table.now c.args.cut none c.new.ensures.0 does c.answer.ensures (search rules) (search rules) (filled ∙ sym (ap kept uncut)))
      | else-not-run w ↦
          let was_cut : c.erase_each.new.self.budget.short ≡ true = search (rules, tests) in
          rw w.table-is
          (power_up_done c.args.table.now c.args.cut none c.new.ensures.0 does c.answer.ensures (search rules) (search rules) (sym (ap kept was_cut)))
    ]
