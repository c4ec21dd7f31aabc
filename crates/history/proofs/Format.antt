-- A format that is answered 0, of any image: afterwards every good block is free, and every page reads 255.
use mathlib.Core.Path.{◌≡◌, refl, sym, ap, ◌∙◌, subst}
use mathlib.Core.Logic.{◌≢◌, ◌⊎◌, inl, inr}
use mathlib.Core.Bool.{Bool, not, ◌&&◌}
use mathlib.Core.List.{List, [], ◌∷◌, map}
use Prim.Native.Nat.{ℕ, ◌≤◌, ◌<◌}
use native.Mathlib.Omega.{arith}
use lib.ListN.{length, replicate}
use lib.Dec.{T, not_T, nltb→le}
use Rattle.rules.specs.declared.shape.Shape.{Shape}
use Rattle.rules.specs.declared.block.State.TheVariants.{Free}
use Rattle.rules.specs.Below.{pick_below}
use Rattle.rules.specs.Shape.{good_needed, block_of, within_limits}
use Rattle.rules.specs.Page.{Image}
use Rattle.rules.specs.WellFormed.{Blocks, not_used, is_good, is_free, is_ill, is_used, is_live, live_logs, blocks_of}
use Rattle.rules.specs.Steps.{Step, erase, step_done, steps_done, format_list}
use Rattle.rules.specs.Replies.{Reply, number, good_blocks, too_few_good, format_tests, format_refusal, carried_out, image_left, format_reply}
use Rattle.rules.specs.Facts.{Fits}
use Rattle.laws.proofs.First.{first_none}
use Rattle.laws.proofs.Tests.{tcase, and_l, and_i, dec_eq}
use Rattle.laws.proofs.Below.{All, all_map, pick_below_all, pick_below_out, count_below-none}
use Rattle.laws.proofs.Shape.{within_limits_within, offset_of_below}
use Rattle.laws.proofs.Roles.{free_if_good, good_below, none_filled, data_used, live_used, obsolete_e, data_block_none, live_log_none, Recovered}
use Rattle.laws.proofs.Records.{blocks_of_records}
use Rattle.laws.proofs.Change.{changed, changed_same, changed_other, changed_elim, good_blocks_kept}
use Rattle.laws.proofs.Content.{content_blank}
use Rattle.laws.proofs.Along.{AllAllowed}
use Rattle.laws.proofs.Steps.{erase_done}
use Rattle.laws.proofs.Erasing.{Sound, content_of}
use Rattle.history.proofs.Answers.{passes, answered_0}

-- ---- erasing good blocks, whatever they hold

-- im' is im with the blocks xs erased
pub record Wiped (s : Shape) (im : Image) (xs : List ℕ) (im' : Image) : Type 0 where
  pub fits : Fits s im'
  pub blocks : (j : ℕ) → (All (λ x. j ≢ x) xs × (blocks_of s im' j ≡ blocks_of s im j)) ⊎ (blocks_of s im' j ≡ not_used Free)
  pub good : good_blocks s (blocks_of s im) ≤ good_blocks s (blocks_of s im')
  pub allowed : AllAllowed s (map erase xs) im

wipe : (s : Shape) (xs : List ℕ) (im : Image) → Fits s im → All (λ x. T (is_good (blocks_of s im x).state)) xs
    → Wiped s im xs (steps_done s (map erase xs) im)
unfolding steps_done
wipe s [] im w a = record { fits = w; blocks = λ j. inl (tt, refl); good = omega arith; allowed = tt }
wipe s (x ∷ xs) im w a =
    let d = erase_done s im w x a.0 in
    let r = wipe s xs (step_done s (erase x) im) d.fits
    (all_map (λ y. T (is_good (blocks_of s im y).state)) (λ y. T (is_good (blocks_of s (step_done s (erase x) im) y).state)) xs
    (λ y t. subst (λ (k : Blocks). T (is_good (k y).state)) (sym d.blocks)
    (changed_elim (blocks_of s im) x (not_used Free) (λ j z. T (is_good (blocks_of s im j).state) → T (is_good z.state)) (λ u. tt) (λ j n u. u) y t))
    a.1) in
    record {
      fits = r.fits;
      blocks = λ j. elim (r.blocks j) [
        | inl q ↦ elim (dec_eq j x) [
          | inl e ↦ inr (q.1 ∙ ap (λ (k : Blocks). k j) d.blocks ∙ ap (changed (blocks_of s im) x (not_used Free)) e
              ∙ changed_same (blocks_of s im) x (not_used Free))
          | inr n ↦ inl ((n, q.0), q.1 ∙ ap (λ (k : Blocks). k j) d.blocks ∙ changed_other (blocks_of s im) x (not_used Free) j n)
        ]
        | inr q ↦ inr q
      ];
      good =
          let g : good_blocks s (blocks_of s im) ≤ good_blocks s (blocks_of s (step_done s (erase x) im)) =
          subst (λ (k : Blocks). good_blocks s (blocks_of s im) ≤ good_blocks s k) (sym d.blocks)
          (good_blocks_kept s (blocks_of s im) x (not_used Free) tt) in
          omega (arith, r.good);
      allowed = (d.allowed, r.allowed);
    }

-- ---- an image with no used block

module _ (s : Shape) (im : Image) (w : Fits s im)
    (empty : (j : ℕ) → (T (is_used (blocks_of s im j).state) → ⊥) × (T (is_ill (blocks_of s im j).state) → ⊥))
    (enough : good_needed s ≤ good_blocks s (blocks_of s im)) where
  abbrev c : Blocks
  c = blocks_of s im

  pub empty_live : (j : ℕ) → T (is_live s c j) → ⊥
  empty_live j t = (empty j).0 (live_used s c j t)

  pub empty_recovered : Recovered s (blocks_of s im)
  empty_recovered j t = (empty j).0 (obsolete_e s c j t).0

  pub empty_sound : Sound s im
  unfolding live_logs
  empty_sound =
      record {
        fits = w;
        wf = record {
          records = blocks_of_records s im (omega (arith, w.limits.pages_low)) w.limits.blocks_high;
          no_ill = λ j. (empty j).1;
          numbers = λ i j t u e. absurd ((empty i).0 t);
          one_live = λ i j t u e. absurd (empty_live i t);
          few_live = omega (arith, count_below-none s.blocks (is_live s c) (λ j h. empty_live j));
        };
        enough = enough;
      }

  pub empty_blank : (a : ℕ) → content_of s im a ≡ replicate 512 255
  empty_blank a =
      content_blank s a (offset_of_below s w.limits a) im c
      (ap (λ (v : ℕ). (c v).filled) (live_log_none s c empty_sound.wf.records (block_of s a) (λ j t e. empty_live j t))
      ∙ none_filled s c empty_sound.wf.records)
      (data_block_none s c empty_sound.wf.records (block_of s a) (λ j t e. (empty j).0 (data_used s c j t)))

-- ---- the format

pub record JustFormatted (s : Shape) (im : Image) (r : Reply) : Type 0 where
  pub fits : Fits s im
  pub sound : Sound s (image_left s im r)
  pub blank : (a : ℕ) → content_of s (image_left s im r) a ≡ replicate 512 255
  pub no_live : (j : ℕ) → T (is_live s (blocks_of s (image_left s im r)) j) → ⊥
  pub clean : Recovered s (blocks_of s (image_left s im r))
  pub allowed : AllAllowed s r.steps im

module _ (s : Shape) (im : Image) (w : Fits s im) (enough : good_needed s ≤ good_blocks s (blocks_of s im)) where
  dirty : ℕ → Bool
  dirty j = is_good (blocks_of s im j).state && not (is_free (blocks_of s im j).state)

  all_wiped : Wiped s im (pick_below s.blocks dirty) (steps_done s (map erase (pick_below s.blocks dirty)) im)
  unfolding dirty
  all_wiped =
      wipe s (pick_below s.blocks dirty) im w
      (all_map (λ x. (x < s.blocks) × T (dirty x)) (λ x. T (is_good (blocks_of s im x).state)) (pick_below s.blocks dirty)
      (λ x a. and_l (is_good (blocks_of s im x).state) (not (is_free (blocks_of s im x).state)) a.1) (pick_below_all s.blocks dirty))

  -- a good block that was not erased is free
  kept_free : (j : ℕ) → T (is_good (blocks_of s im j).state) → All (λ x. j ≢ x) (pick_below s.blocks dirty) → T (is_free (blocks_of s im j).state)
  unfolding dirty
  kept_free j g a =
      let below = good_below s (blocks_of s im) (blocks_of_records s im (omega (arith, w.limits.pages_low)) w.limits.blocks_high) j g in
      elim (tcase (is_free (blocks_of s im j).state)) [
        | inl f ↦ f
        | inr f ↦ absurd (pick_below_out s.blocks dirty j below
            (and_i (is_good (blocks_of s im j).state) (not (is_free (blocks_of s im j).state)) g f) a)
      ]

  list_leaves : (r : Reply) → r.steps ≡ format_list s (blocks_of s im) → JustFormatted s im r
  unfolding format_list dirty
  list_leaves r e =
      subst (λ (ts : List Step). JustFormatted s im (record { answer = r.answer; steps = ts })) (sym e)
      (record {
        fits = w;
        sound = empty_sound s im' all_wiped.fits empty enough';
        blank = empty_blank s im' all_wiped.fits empty enough';
        no_live = empty_live s im' all_wiped.fits empty enough';
        clean = empty_recovered s im' all_wiped.fits empty enough';
        allowed = all_wiped.allowed;
      })
    where
      im' : Image
      im' = steps_done s (map erase (pick_below s.blocks dirty)) im

      enough' : good_needed s ≤ good_blocks s (blocks_of s im')
      enough' = omega (arith, all_wiped.good)

      empty : (j : ℕ) → (T (is_used (blocks_of s im' j).state) → ⊥) × (T (is_ill (blocks_of s im' j).state) → ⊥)
      empty j =
          free_if_good (blocks_of s im' j).state
          (λ g. elim (all_wiped.blocks j) [ inl q ↦ rw q.1 (kept_free j (rw q.1 at g) q.0) | inr q ↦ rw q tt ])

pub format_done : (s : Shape) (im : Image) (cut : ℕ) → number (format_reply s im cut).answer ≡ 0 → JustFormatted s im (format_reply s im cut)
unfolding format_reply format_refusal
format_done s im cut z =
    let ts : List Step = format_list s (blocks_of s im) in
    let q = answered_0 (format_refusal s im (blocks_of s im)) cut ts z in
    let (f₁, (f₄, _)) = first_none (format_tests s im (blocks_of s im)) q.0 in
    let w = within_limits_within s (length im.bytes) (length im.spare) (passes (within_limits s (length im.bytes) (length im.spare)) f₁) in
    let enough = nltb→le (good_blocks s (blocks_of s im)) (good_needed s) (not_T (too_few_good s (blocks_of s im)) f₄) in
    rw q.0 (list_leaves s im w enough (carried_out cut ts) q.1)
