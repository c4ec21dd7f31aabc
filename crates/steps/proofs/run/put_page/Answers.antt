use Rattle.std.proofs.Common.{Option, List, ℕ, ◌*◌, ◌-◌, ◌≡◌, sym, ap, ◌∙◌, replicate, arith}
use Rattle.rules.specs.Bytes.{part, replaced}
use Rattle.rules.specs.Facts.{image_of}
use Rattle.rules.specs.Content.{bytes_at}
use Rattle.laws.proofs.Bytes.{part_lent, part_before, part_after, replaced_between}
use Rattle.steps.proofs.run.put_page.Goals as goal

-- page q lies before page p
pub returns-then-q-p : goal.returns-then-q-p
returns-then-q-p c spare =
    let xs : List ℕ = c.args.bytes.now in
    let at : ℕ = c.args.p * 512 in
    let q : ℕ = c.in-Some.q * 512 in
    let low = c.split_at_mut-before in
    let high = c.split_at_mut-own in
    let own = c.copy_from_slice.ensures.after ∙ part_lent _ q 512
    ∙ part_before xs _ at q 512 low.ensures.front (omega (arith, c.requires.0)) (omega (arith, c.if-q-p.true)) in
    replaced_between xs _ _ _ _ _ at 512 low.ensures.front low.ensures.back high.ensures.back own
    ∙ ap (λ (o : Option ℕ). replaced xs at 512 (bytes_at (image_of xs spare) o)) (sym c.in-Some.is)

-- after it
pub returns-then-p-q : goal.returns-then-p-q
returns-then-p-q c spare =
    let xs : List ℕ = c.args.bytes.now in
    let at : ℕ = c.args.p * 512 in
    let q : ℕ = c.in-Some.q * 512 in
    let low = c.split_at_mut-before in
    let high = c.split_at_mut-own in
    let own = c.copy_from_slice-then-p-q.ensures.after ∙ part_lent _ (q - at - 512) 512
    ∙ part_after xs _ _ at 512 q 512 low.ensures.back high.ensures.back (omega (arith, c.if-p-q.true)) in
    replaced_between xs _ _ _ _ _ at 512 low.ensures.front low.ensures.back high.ensures.back own
    ∙ ap (λ (o : Option ℕ). replaced xs at 512 (bytes_at (image_of xs spare) o)) (sym c.in-Some.is)

-- or is it
pub returns-else-p-q : goal.returns-else-p-q
returns-else-p-q c spare =
    let xs : List ℕ = c.args.bytes.now in
    let at : ℕ = c.args.p * 512 in
    let low = c.split_at_mut-before in
    let high = c.split_at_mut-own in
    let same : c.args.p ≡ c.in-Some.q = omega (arith, c.if-q-p.false, c.if-p-q.false) in
    let own = high.ensures.front ∙ ap (λ (l : List ℕ). part l 0 512) low.ensures.back ∙ ap (λ (k : ℕ). part xs (k * 512) 512) same in
    replaced_between xs _ _ _ _ _ at 512 low.ensures.front low.ensures.back high.ensures.back own
    ∙ ap (λ (o : Option ℕ). replaced xs at 512 (bytes_at (image_of xs spare) o)) (sym c.in-Some.is)

pub returns-in-None : goal.returns-in-None
returns-in-None c spare =
    let xs : List ℕ = c.args.bytes.now in
    let at : ℕ = c.args.p * 512 in
    let low = c.split_at_mut-before in
    let high = c.split_at_mut-own in
    replaced_between xs _ _ _ _ _ at 512 low.ensures.front low.ensures.back high.ensures.back
    (c.fill.ensures.after (λ y e. e) ∙ ap (λ (k : ℕ). replicate k 255) high.ensures.front_len)
    ∙ ap (λ (o : Option ℕ). replaced xs at 512 (bytes_at (image_of xs spare) o)) (sym c.in-None.is)
