use Rattle.std.proofs.Common.{◌≡◌, arith, ◌∙◌, ap, sym, refl, true, false}
use Rattle.rules.specs.Below.{found}
use Rattle.roles.specs.Kept.{recorded_by}
use Rattle.roles.specs.Passes.{eldest_to}
use Rattle.std.specs.Option.{option_or}
use Rattle.roles.proofs.Passes.{census_none, census_few, census_more, census_eldest, none_or_lower}
use Rattle.roles.proofs.records.Records.census.Goals as goal
use Rattle.roles.proofs.records.Records.census.Goals.{then-is_live+then-is_below, then-is_live+else-is_below, else-is_live}

pub loop-j-init : goal.loop-j-init
loop-j-init c = census_none _ _

pub overflow_add-census : goal.overflow_add-census
overflow_add-census c =
    let few = census_few c.args.self.now.shape (recorded_by c.args.self.now) c.loop-j.j c.loop-j.invariant in
    omega arith

pub loop-j-preserved : goal.loop-j-preserved
loop-j-preserved c =
    let s = c.args.self.now.shape in
    let records = recorded_by c.args.self.now in
    let j = c.loop-j.j in
    let e = eldest_to s records j in
    let before : c.loop-j.census.eldest ≡ found e = census_eldest s records j c.loop-j.invariant in
    let few = c.args.self.now.numbers_are.recorded.few in
    let free = c.or-census.ensures ∙ ap (option_or c.loop-j.census.free) c.then_some.ensures in
    elim c.if-is_live.branch [
      | then-is_live+then-is_below w ↦
          let lower = none_or_lower records c.block-x.result.number e before w.is_below.ensures (λ i h. h) in
          rw w.census-is (census_more s records j (omega arith) c.loop-j.invariant true true c.block-x.ensures c.is_ill.ensures (sym w.if-is_live.true ∙ c.is_live.ensures) c.is_obsolete.ensures c.max.ensures c.is_free.ensures free (sym w.if-is_below.true ∙ lower))
      | then-is_live+else-is_below w ↦
          let lower = none_or_lower records c.block-x.result.number e before w.is_below.ensures (λ i h. h) in
          rw w.census-is (census_more s records j (omega arith) c.loop-j.invariant true false c.block-x.ensures c.is_ill.ensures (sym w.if-is_live.true ∙ c.is_live.ensures) c.is_obsolete.ensures c.max.ensures c.is_free.ensures free (sym w.if-is_below.false ∙ lower))
      | else-is_live w ↦
          rw w.census-is (census_more s records j (omega arith) c.loop-j.invariant false _ c.block-x.ensures c.is_ill.ensures (sym w.if-is_live.false ∙ c.is_live.ensures) c.is_obsolete.ensures c.max.ensures c.is_free.ensures free refl)
    ]
