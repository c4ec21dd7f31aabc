use Rattle.std.proofs.Common.{◌≡◌, ◌<◌, ◌*◌, ◌∙◌, ℕ, ◌-◌, Some, sym, ap, arith, rules}
use Rattle.rules.specs.Shape.{page_no}
use Rattle.content.proofs.Places.{given, newest_next, newest_found, newest_none, log_found, log_none}
use Rattle.content.proofs.holder.in_log.Goals as goal
use Rattle.content.proofs.holder.in_log.Goals.{then-i-eq0, else-i-eq0+then-offset_at-o}

pub loop-i-preserved : goal.loop-i-preserved
loop-i-preserved c =
    let b = c.scan.b-counter in
    let i = c.loop-i.i in
    let some : 0 < i = omega arith in
    (omega arith, c.loop-i.invariant.1 ∙ newest_next c.args.records.now.shape c.args.spare.now b c.args.o i some (λ e. c.if-offset_at-o.false (c.offset_at.ensures ∙ e)))

pub returns-after-scan : goal.returns-after-scan
returns-after-scan c =
    let r = c.args.records.now in
    let none = log_none r.shape c.args.spare.now c.args.l c.args.o r.numbers_are.recorded (λ j k. c.scan.invariant.1 j (omega arith)) in
    rw c.scan.invariant.0 (sym none, tt)

pub map-found-requires : goal.map-found-requires
map-found-requires c = λ x e k l p q u v w. (
  c.requires.0,
  omega arith,
  elim c.if-i-eq0.branch [
    | then-i-eq0 w ↦ absurd (cc)
    | else-i-eq0+then-offset_at-o w ↦
        let r = c.args.records.now in
        let some : 0 < c.loop-i.i = omega (arith, w.if-i-eq0.false) in
        let few = r.numbers_are.recorded.fits c.scan.b-counter in
        let at : x ≡ c.loop-i.i - 1 = cc in
        omega (arith, at, few, c.loop-i.invariant.0)
  ],
)

pub returns-after-i-eq0 : goal.returns-after-i-eq0
returns-after-i-eq0 c =
    let r = c.args.records.now in
    let s = r.shape in
    let spare = c.args.spare.now in
    let b = c.scan.b-counter in
    let i = c.loop-i.i in
    let here = log_found s spare c.args.l c.args.o r.numbers_are.recorded b (omega arith) c.scan.invariant.1 (search rules) in
    elim c.if-i-eq0.branch [
      | then-i-eq0 w ↦
          let none = rw w.position-is at c.map-found.ensures.cases in
          rw none (sym (here ∙ c.loop-i.invariant.1 ∙ rw w.if-i-eq0.true (newest_none s spare b c.args.o)), tt)
      | else-i-eq0+then-offset_at-o w ↦
          let some : 0 < i = omega (arith, w.if-i-eq0.false) in
          let said = given c.map-found.result (rw w.position-is at c.map-found.ensures.cases) in
          let told = said.2 in
          let page : (said.0 ≡ page_no s b (i - 1)) × (said.0 < s.blocks * s.pages) = search rules in (
            said.1 ∙ ap (λ (p : ℕ). Some p) page.0 ∙ sym (here ∙ c.loop-i.invariant.1 ∙ newest_found s spare b c.args.o i some (sym w.offset_at.ensures ∙ w.if-offset_at-o.true)),
            rw said.1 page.1,
          )
    ]
