use native.Mathlib.Omega.{arith}
use Rattle.std.proofs.Common.{◌≡◌, sym, ap, ◌∙◌}
use Rattle.rules.specs.Bytes.{part}
use Rattle.rules.specs.Facts.{image_of}
use Rattle.rules.specs.Replies.{lent_page, lent_bytes}
use Rattle.laws.proofs.Bytes.{part_lent}
use Rattle.reading.proofs.lend.Goals as goal

pub returns-in-Some : goal.returns-in-Some
returns-in-Some c =
    let a = c.args in
    let im = image_of a.bytes.now a.spare.now in
    let here : c.place.result ≡ lent_page a.s im a.a = c.place.ensures.place ∙ ap (lent_page a.s im) (omega arith) in
    record {
      bytes_lent = part_lent a.bytes.now c.page_start-at.result 512 ∙ ap (λ n. part a.bytes.now n 512) c.page_start-at.ensures
          ∙ sym (ap (lent_bytes im) (sym here ∙ c.in-Some.is));
    }

pub returns-in-None : goal.returns-in-None
returns-in-None c =
    let a = c.args in
    let im = image_of a.bytes.now a.spare.now in
    let here : c.place.result ≡ lent_page a.s im a.a = c.place.ensures.place ∙ ap (lent_page a.s im) (omega arith) in
    record { bytes_lent = sym (ap (lent_bytes im) (sym here ∙ c.in-None.is)) }
