use Rattle.std.proofs.Common.{ap, refl}
use Rattle.rules.specs.WellFormed.{live_logs, W7, well_formed}
use Rattle.roles.specs.declared.census.Census.{Census}
use Rattle.roles.specs.Passes.{census_to}
use Rattle.refusals.proofs.clash.is_well_formed.Goals as goal

pub returns : goal.returns
unfolding well_formed W7 live_logs census_to
returns c =
    rw (c.numbers_apart.ensures, c.logs_apart.ensures, ap (λ (u : Census). u.sound) c.args.counted.now.counted, ap (λ (u : Census). u.live) c.args.counted.now.counted) refl
