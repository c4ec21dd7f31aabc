use Rattle.std.proofs.Common.{◌≡◌, ℕ, subst, ap, refl, sym, ◌∙◌}
use native.Mathlib.Omega.{arith}
use Rattle.rules.specs.Page.{page_bytes, page_of}
use Rattle.rules.specs.WellFormed.{pages_of}
use Rattle.nand.specs.Chip.{seen}
use Rattle.laws.proofs.Tests.{true_is, false_is}
use Rattle.blocks.proofs.Leading.{Begun, none_leading, begun_turn, begun_ends, goes_fits}
use Rattle.blocks.proofs.Image.{order_begun, page_read}
use Rattle.blocks.proofs.scan.leading.Goals as goal

pub returns-in_default : goal.returns-in_default
returns-in_default c =
    let chip = c.args.chip.now in
    none_leading chip.shape (pages_of chip.shape (seen chip) c.args.b) c.in_default.ensures c.not_used.ensures

pub loop-i-init : goal.loop-i-init
loop-i-init c =
    let chip = c.args.chip.now in
    order_begun chip.shape (seen chip) c.args.b chip.fits c.requires c.in-Some.ensures c.in_order-i.ensures

pub returns-then-not-goes_on : goal.returns-then-not-goes_on
returns-then-not-goes_on c =
    let chip = c.args.chip.now in
    let s = chip.shape in
    let i = c.loop-i.i in
    let marks = c.marks-marks.result in
    let begun = c.loop-i.invariant in
    let here =
    page_read s (seen chip) c.args.b i c.loop-i-test.true c.page_no.ensures.0
    ∙ ap (page_of (page_bytes (seen chip) c.page_no.result)) (sym c.marks-marks.ensures) in
    let some = c.in_order-i.ensures.some in
    begun_ends s (pages_of s (seen chip) c.args.b) i (omega (arith, c.loop-i.auto.i)) (omega arith) begun
    (λ h u. false_is _ (sym (c.goes_on.ensures ∙ goes_fits s chip.fits.limits _ begun.named i _ _ marks.sixteen here) ∙ c.if-not-goes_on.true) u)
    c.with_pages.ensures

pub loop-i-preserved : goal.loop-i-preserved
loop-i-preserved c =
    let chip = c.args.chip.now in
    let s = chip.shape in
    let i = c.loop-i.i in
    let marks = c.marks-marks.result in
    let here =
    page_read s (seen chip) c.args.b i c.loop-i-test.true c.page_no.ensures.0
    ∙ ap (page_of (page_bytes (seen chip) c.page_no.result)) (sym c.marks-marks.ensures) in
    begun_turn s chip.fits.limits (pages_of s (seen chip) c.args.b) i _ _ marks.sixteen here c.loop-i.invariant
    (true_is _ (sym c.goes_on.ensures ∙ c.if-not-goes_on.false)) c.in_place-ordered.ensures refl

pub returns : goal.returns
returns c =
    let chip = c.args.chip.now in
    let s = chip.shape in
    let g = pages_of s (seen chip) c.args.b in
    let order = c.in_order-i.ensures in
    let all : c.loop-i.i ≡ s.pages = omega (arith, c.loop-i.auto.i-end order.few) in
    begun_ends s g s.pages (omega (arith, order.some, order.few)) (omega arith)
    (subst (λ (n : ℕ). Begun s g c.in-Some.x n c.loop-i.ordered) all c.loop-i.invariant) (λ h u. omega arith) c.with_pages-2.ensures
