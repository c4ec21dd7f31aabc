use borrow.Author.Rules.{rules}
use Rattle.rules.specs.Shape.{most}
use Rattle.roles.specs.Kept.{recorded_by}
use Rattle.laws.proofs.Arrays.{made}
use Rattle.laws.proofs.Below.{list_below_ext}
use Rattle.refusals.proofs.clash.numbers_in.Goals as goal

pub returns : goal.returns
returns c =
    let blocks = recorded_by c.args.records.now in
    let items = c.from_fn.ensures.items in
    list_below_ext most (λ j. (blocks j).number) 0 items.long
    (λ j h. made _ _ (λ i. (blocks i).number) (λ i y f' k. search rules) c.from_fn.result most j 0 items h)
