use Rattle.std.proofs.Common.{Option, ℕ, ◌+◌, ◌*◌, List, [], ◌∷◌, ap, ◌∙◌}
use Rattle.rules.specs.Spare.{copy_kind}
use Rattle.rules.specs.Shape.{page_no, logical_page}
use Rattle.rules.specs.Facts.{image_of}
use Rattle.rules.specs.Content.{content, holder, bytes_at}
use Rattle.rules.specs.Steps.{entry_step}
use Rattle.laws.proofs.Bytes.{part_lent}
use Rattle.roles.specs.Kept.{recorded_by}
use Rattle.steps.proofs.Running.{does_same}
use Rattle.carry.specs.Carrying.{number_of_block}
use Rattle.carry.proofs.Copying.{page_into}
use Rattle.carry.proofs.copy_page.Goals as goal

pub returns-in-Some : goal.returns-in-Some
returns-in-Some c =
    let r = c.args.renewal.now in
    let s = c.args.records.now.shape in
    let o = c.args.o in
    let step = λ (page : List ℕ). entry_step (page_no s (number_of_block r.into) o) (r.highest + 1) copy_kind (logical_page s r.logical o) page ∷ [] in
    does_same (rw (page_into s r o c.requires.0 c.unwrap.ensures c.page_no-p.ensures.0, c.in-Some.is) (ap step (part_lent _ (o * 512) 512)))
    c.program_entry.ensures

-- the present content, from where it lies
pub returns-in-None : goal.returns-in-None
unfolding content
returns-in-None c =
    let r = c.args.renewal.now in
    let s = c.args.records.now.shape in
    let o = c.args.o in
    let a : ℕ = logical_page s r.logical o in
    let run = c.args.run.now in
    let step = λ (place : Option ℕ). entry_step (page_no s (number_of_block r.into) o) (r.highest + 1) copy_kind a (bytes_at (image_of run.bytes.now run.spare.now) place) ∷ [] in
    let here = c.of-place.ensures.is run.bytes.now
    ∙ ap (λ (spare : List ℕ). holder s (image_of run.bytes.now spare) (recorded_by c.args.records.now) a) c.chip.ensures.spare_are in
    does_same (rw (page_into s r o c.requires.0 c.unwrap.ensures c.page_no-p.ensures.0, c.in-None.is) (ap step here)) c.copy_entry.ensures
