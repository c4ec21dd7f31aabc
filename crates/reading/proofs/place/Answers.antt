use Rattle.std.proofs.Common.{subst}
use Rattle.rules.specs.declared.shape.Shape.{Shape}
use Rattle.rules.specs.Facts.{image_of}
use Rattle.rules.specs.Content.{holder}
use Rattle.content.specs.Places.{PlaceIn}
use Rattle.survey.proofs.Opening.{opened_accepts, opened_numbers, told_of}
use Rattle.reading.proofs.Fetching.{read_opened, lent_in, lent_refused, lent_done}
use Rattle.reading.proofs.place.Goals as goal

pub records-requires : goal.records-requires
records-requires c =
    let o = c.in-Ok.ensures in
    opened_numbers c.args.s _ _ _ o.0 o.1

pub returns-in-Ok : goal.returns-in-Ok
returns-in-Ok c =
    let a = c.args in
    let im = image_of a.bytes.now a.spare.now in
    let o = c.in-Ok.ensures in
    let held = c.of-in-Ok in
    record {
      place = lent_done a.s im a.a (read_opened a.s im 512 a.a o.0 c.in_range.ensures)
          (told_of (λ s b. holder s im b a.a) (held.ensures.is a.bytes.now) c.records.ensures.shape_is c.records.ensures.list_is o.1.holds.list_is);
      inside = lent_in a.s im held.result (opened_accepts a.s im _ _ o.0).within (subst (λ (s : Shape). PlaceIn s held.result) c.records.ensures.shape_is held.ensures.inside);
    }

pub returns-in-Err : goal.returns-in-Err
returns-in-Err c =
    let a = c.args in
    let im = image_of a.bytes.now a.spare.now in
    record { place = lent_refused a.s im a.a (read_opened a.s im 512 a.a c.in-Err.ensures.0 c.in_range.ensures); inside = tt }
