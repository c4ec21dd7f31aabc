use Rattle.std.proofs.Common.{sym, ap, ◌∙◌, Some, ℕ}
use Rattle.roles.specs.Kept.{recorded_by}
use Rattle.content.proofs.Places.{data_none, data_at, data_below}
use Rattle.content.proofs.holder.in_data.Goals as goal

pub returns-in_err-b : goal.returns-in_err-b
returns-in_err-b c =
    let r = c.args.records.now in
    rw c.from_residual.ensures (sym (data_none r.shape (recorded_by r) c.args.l c.args.o c.seats.ensures c.in_err-b.was), tt)

pub page_no-requires : goal.page_no-requires
page_no-requires c =
    let r = c.args.records.now in (
      c.requires.0,
      data_below r.shape (recorded_by r) c.args.l c.args.o c.seats.ensures r.numbers_are.recorded c.in_ok-b.was,
      c.requires.1,
    )

pub returns : goal.returns
returns c =
    let r = c.args.records.now in (
      ap (λ (p : ℕ). Some p) c.page_no.ensures.0 ∙ sym (data_at r.shape (recorded_by r) c.args.l c.args.o c.seats.ensures c.in_ok-b.was),
      c.page_no.ensures.1,
    )
