use Rattle.std.proofs.Common.{refl, rules, arith}
use Rattle.std.proofs.lemmas.Option.{IfSome_then}
use Rattle.nand.proofs.Groups.{some_then, groups_told}
use Rattle.nand.proofs.page.data_erased.Goals as goal

pub returns : goal.returns
returns c =
    let run = c.all.ensures.runs in
    let cut = c.chunks_exact.ensures in
    groups_told run.0 c.args.page _ c.requires refl (rw (run.1, cut.size, cut.rest) at (cut.runs run.0 run.0.seen (rw (run.1, cut.size) (omega arith)))) c.all.result run.2
    (λ g k. IfSome_then (run.0.at k) (g (λ a r f q. refl) k) (λ x q. search rules))
    (λ g. let any = g (λ a r f q. refl) in (any.0, any.1, some_then (run.0.at any.0) any.2 (λ x q. search rules)))
