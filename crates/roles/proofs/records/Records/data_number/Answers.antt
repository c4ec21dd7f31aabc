use Rattle.std.proofs.Common.{ap, arith, ◌∙◌}
use Rattle.rules.specs.declared.block.Block.{Block}
use Rattle.rules.specs.WellFormed.{data_number}
use Rattle.roles.specs.Kept.{recorded_by}
use Rattle.roles.proofs.Passes.{number_at}
use Rattle.roles.proofs.records.Records.data_number.Goals as goal

pub returns : goal.returns
returns c =
    let records = c.args.self.now in
    let same = ap (λ (x : Block). x.logical) c.block-x.ensures in
    number_at records.numbers_are _ (omega (arith, records.numbers_are.recorded.small c.args.j))
    ∙ ap (data_number records.shape (recorded_by records)) (c.from.ensures ∙ same)
