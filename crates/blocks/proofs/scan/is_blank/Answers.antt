use Rattle.std.proofs.Common.{◌≡◌, ℕ, subst}
use native.Mathlib.Omega.{arith}
use borrow.Author.Rules.{rules}
use Rattle.rules.specs.WellFormed.{pages_of}
use Rattle.nand.specs.Chip.{seen}
use Rattle.blocks.proofs.Image.{ErasedTo, blank_turn, blank_not, blank_all}
use Rattle.blocks.proofs.scan.is_blank.Goals as goal

pub returns-then-not-erased_at : goal.returns-then-not-erased_at
returns-then-not-erased_at c =
    let chip = c.args.chip.now in
    blank_not chip.shape (seen chip) c.args.b c.args.from c.loop-i.i c.loop-i-test.true c.page_no.ensures.0 c.erased_at.ensures
    (omega (arith, c.loop-i.auto.i, c.requires.1)) c.if-not-erased_at.true

pub loop-i-preserved : goal.loop-i-preserved
loop-i-preserved c =
    let chip = c.args.chip.now in
    blank_turn chip.shape (seen chip) c.args.b c.args.from c.loop-i.i c.loop-i-test.true c.page_no.ensures.0 c.erased_at.ensures c.loop-i.invariant
    c.if-not-erased_at.false

pub returns : goal.returns
returns c =
    let chip = c.args.chip.now in
    let g = pages_of chip.shape (seen chip) c.args.b in
    let all : c.loop-i.i ≡ chip.shape.pages = omega (arith, c.loop-i.auto.i-end (search rules)) in
    blank_all chip.shape g c.args.from (subst (λ (k : ℕ). ErasedTo g c.args.from k) all c.loop-i.invariant)
