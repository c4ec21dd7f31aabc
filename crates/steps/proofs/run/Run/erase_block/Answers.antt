use Rattle.std.proofs.Common.{ℕ, ◌*◌, ◌+◌, ◌≤◌, length, replicate, refl, ap, ◌∙◌, arith}
use Rattle.rules.specs.Steps.{step_done}
use Rattle.rules.specs.Facts.{image_of}
use Rattle.laws.proofs.Bytes.{part_lent_length, replaced_lent}
use Rattle.laws.proofs.Pages.{fits_block}
use Rattle.steps.proofs.run.Run.erase_block.Goals as goal

pub returns : goal.returns
unfolding step_done
returns c =
    let a = c.args.self.now in
    let room = fits_block a.shape (image_of a.bytes.now a.spare.now) a.fits c.args.b c.requires in
    let long : ℕ = a.shape.pages * 512 in
    let short : ℕ = a.shape.pages * 16 in
    let at = c.block_start-at in
    let from = c.block_start-from in
    let here : at.result + long ≤ length a.bytes.now = omega (arith, room, at.ensures) in
    let there : from.result + short ≤ length a.spare.now = omega (arith, room, from.ensures) in
    record {
      image =
          record {
            bytes_are =
                replaced_lent a.bytes.now (replicate long 255) _ (c.args.b * a.shape.pages * 512) _ long at.ensures
                (c.fill.ensures.after (λ y e. e) ∙ ap (λ (k : ℕ). replicate k 255) (part_lent_length a.bytes.now at.result long here));
            spare_are =
                replaced_lent a.spare.now (replicate short 255) _ (c.args.b * a.shape.pages * 16) _ short from.ensures
                (c.fill-2.ensures.after (λ y e. e) ∙ ap (λ (k : ℕ). replicate k 255) (part_lent_length a.spare.now from.result short there));
          };
      budget_same = refl;
      same = record { bytes_same = refl; spare_same = refl; shape_same = refl };
    }
