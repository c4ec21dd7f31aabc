-- A write: every cut of it, and its end.
use mathlib.Core.Path.{◌≡◌, refl, sym, ap, ◌∙◌, subst}
use mathlib.Core.Logic.{inl, inr}
use mathlib.Core.Bool.{cond}
use mathlib.Core.List.{List, [], ◌∷◌, ◌++◌, map}
use Prim.Native.Nat.{ℕ, ◌+◌, ◌≤◌}
use native.Mathlib.Omega.{arith}
use lib.ListN.{length}
use lib.Dec.{T, T_not}
use Rattle.rules.specs.declared.shape.Shape.{Shape}
use Rattle.rules.specs.declared.kind.Kind.TheVariants.{Log}
use Rattle.rules.specs.declared.block.Block.{Block}
use Rattle.rules.specs.Below.{if_any}
use Rattle.rules.specs.Spare.{number_limit}
use Rattle.rules.specs.Shape.{block_of, in_range}
use Rattle.rules.specs.Page.{Image}
use Rattle.rules.specs.WellFormed.{Blocks, is_complete, data_block, block_at, blocks_of}
use Rattle.rules.specs.Steps.{Step, erase, step_done, steps_done, erases, programs, highest, Case, room, fresh, merging, write_case, numbers_needed, merge_first, log_block, log_number, own_step, erase_after, own_list, write_list}
use Rattle.laws.proofs.Tests.{tcase, is_true, is_false}
use Rattle.laws.proofs.Roles.{Recovered}
use Rattle.laws.proofs.Records.{blocks_of_at}
use Rattle.laws.proofs.Blocks.{one_more}
use Rattle.laws.proofs.Change.{changed_same}
use Rattle.laws.proofs.Along.{Allowed, Along, along_map, programs-append, programs-erases}
use Rattle.laws.proofs.Steps.{next_step, Programmed}
use Rattle.laws.proofs.Erasing.{Sound, content_of, obsoletes, Erasing}
use Rattle.laws.proofs.Merge.{merge_programs}
use Rattle.laws.proofs.Cases.{Victim, write_cases}
use Rattle.history.proofs.Cost.{log_pages, log_pages_is}
use Rattle.history.proofs.Plan.{Happened, PlanOk, written, written_same}
use Rattle.history.proofs.Own.{Ready, Appends, Fills, done, b_below, own_appends, own_fills}
use Rattle.history.proofs.Prepare.{none_in, Prepared, pre_goal}

-- ---- its own program, from an image that is ready

module _ (s : Shape) (im : Image) (w : Sound s im) (rec : Recovered s (blocks_of s im)) (a : ℕ) (d : List ℕ) (long : length d ≡ 512)
    (inside : T (in_range s a))
    (e : ℕ) (im₁ : Image) (b n : ℕ) (r : Prepared s im w (block_of s a) rec e im₁ b n) where
  abbrev l : ℕ
  l = block_of s a

  abbrev c₁ : Blocks
  c₁ = blocks_of s im₁

  abbrev x : Block
  x = one_more s (c₁ b) n Log a

  abbrev im₂ : Image
  im₂ = step_done s (next_step s im₁ b n Log a d) im₁

  abbrev Post : ℕ → Image → Type 0
  Post = Happened s im (written a d (content_of s im)) l (Victim s im l) 1

  -- the contents then, from those at the start
  holds₂ : (im' : Image) → ((y : ℕ) → content_of s im' y ≡ written a d (content_of s im₁) y) → (y : ℕ)
      → content_of s im' y ≡ written a d (content_of s im) y
  holds₂ im' f y = f y ∙ written_same a d (content_of s im₁) (content_of s im) y (r.before.holds y)

  -- the erases after it
  abbrev after : List ℕ
  after = cond (is_complete s (block_at s im₂ b)) (if_any (data_block s c₁ l)) []

  abbrev OwnGoal : Type 0
  OwnGoal =
      Along s Post e (map erase after) im₂ × Recovered s (blocks_of s (steps_done s (map erase after) im₂))
      × Allowed s (next_step s im₁ b n Log a d) im₁

  ready : Ready s im₁ a d b n
  ready =
      record {
        sound = r.before.sound;
        clean = r.clean;
        long = long;
        inside = inside;
        place = r.place;
        below = r.below;
        high = r.high;
      }

  made : Programmed s im₁ b n Log a d im₂
  made = done s im₁ ready

  x_there : block_at s im₂ b ≡ x
  x_there =
      sym (blocks_of_at s im₂ b (b_below s im₁ ready))
      ∙ ap (λ (k : Blocks). k b) made.blocks ∙ changed_same c₁ b x

  own_append : (T (is_complete s x) → ⊥) → OwnGoal
  unfolding steps_done
  own_append f = rw (x_there, is_false (is_complete s x) f) (post, p.clean, made.allowed)
    where
      p : Appends s im₁ a d im₂
      p = own_appends s im₁ ready f

      none' : obsoletes s im₂ ≡ 0
      none' = none_in s im₂ p.clean

      post : Post e im₂
      post =
          record {
            sound = p.sound;
            holds = holds₂ im₂ p.holds;
            total = omega (arith, none', r.before.total);
            no_live = λ m ne z. p.no_live m ne (r.before.no_live m (λ y. y) z);
            cost = elim r.cost₀ [
              | inl y ↦ inl (omega (arith, p.pages, y.0), omega (arith, none', y.1))
              | inr z ↦ elim z [
                | inl y ↦ inr (inl (omega (arith, p.pages, y.0), omega (arith, none', y.1)))
                | inr y ↦ inr (inr y)
              ]
            ];
          }

  own_fill : T (is_complete s x) → OwnGoal
  own_fill t =
      rw (x_there, is_true (is_complete s x) t) (
        subst (λ (k : ℕ). Along s Post k (map erase (if_any (data_block s c₁ l))) im₂) (sym (r.start p.was_live))
            (along_map s (Erasing s im₂) Post post 0 (map erase (if_any (data_block s c₁ l))) im₂ p.along),
        p.clean,
        made.allowed,
      )
    where
      p : Fills s im₁ a d b im₂
      p = own_fills s im₁ ready t

      post : (k : ℕ) (im' : Image) → Erasing s im₂ k im' → Post k im'
      post k im' i =
          record {
            sound = i.sound;
            holds = λ y. i.same y ∙ holds₂ im₂ p.holds y;
            total = total;
            no_live = λ m ne z j u q.
                let y = i.live j u in
                let v = p.live j y.0 in
                r.before.no_live m (λ z. z) z j v.0 (ap (λ (z : Block). z.logical) (sym v.1 ∙ sym y.1) ∙ q);
            cost = elim r.cost₀ [
              | inl y ↦ inr (inl (omega (arith, pages, y.0), total))
              | inr z ↦ elim z [ inl y ↦ inr (inl (omega (arith, pages, y.0), total)) | inr y ↦ inr (inr y) ]
            ];
          }
        where
          total : k + obsoletes s im' ≤ 2
          total = omega (arith, i.total, p.obsolete)

          pages : log_pages s (blocks_of s im') + s.pages ≤ log_pages s c₁ + 1
          pages = omega (arith, log_pages_is s (blocks_of s im₂) (blocks_of s im') i.live, p.pages)

  pub own_goal : OwnGoal
  own_goal = elim (tcase (is_complete s x)) [ inl t ↦ own_fill t | inr t ↦ own_append (T_not (is_complete s x) t) ]

-- ---- the write

module _ (s : Shape) (im : Image) (a : ℕ) (d : List ℕ) where
  abbrev pub the_case : Case
  the_case = write_case s (blocks_of s im) (block_of s a)

  -- the steps before its own
  abbrev pub pre_steps : List Step
  pre_steps = merge_first s im (blocks_of s im) the_case

  -- the image by then
  abbrev pub pre_image : Image
  pre_image = steps_done s pre_steps im

  abbrev pub own : Step
  own = own_step s (blocks_of s pre_image) the_case a d

  abbrev pub post_erases : List ℕ
  post_erases = erase_after s pre_image (blocks_of s pre_image) the_case a d

  pub write_is : write_list s im (blocks_of s im) a d ≡ pre_steps ++ (own ∷ map erase post_erases)
  unfolding write_list own_list
  write_is = refl

  pub write_ok : Sound s im → Recovered s (blocks_of s im) → length d ≡ 512 → T (in_range s a)
      → highest s (blocks_of s im) + numbers_needed the_case ≤ number_limit
      → PlanOk s im pre_steps own post_erases (written a d (content_of s im)) (block_of s a) (Victim s im (block_of s a)) 1
  unfolding own_step erase_after
  write_ok w rec long inside fit =
      let p = pre_goal s im w (block_of s a) rec the_case (write_cases s im w (block_of s a)) fit in
      let q = own_goal s im w rec a d long inside (0 + erases pre_steps) pre_image
      (log_block s (blocks_of s pre_image) the_case (block_of s a)) (log_number s (blocks_of s pre_image) the_case (block_of s a)) p.1 in
      record { before = p.0; after = q.0; ends = q.1; allowed = q.2; programs = refl }

  -- at most P + 1 programs
  pub write-programs : programs (write_list s im (blocks_of s im) a d) ≤ s.pages + 1
  unfolding own_step
  write-programs =
      rw write_is
      (omega (arith, programs-append pre_steps (own ∷ map erase post_erases), pre_programs the_case, programs-erases post_erases))
    where
      pre_programs : (k : Case) → programs (merge_first s im (blocks_of s im) k) ≤ s.pages
      pre_programs room = omega arith
      pre_programs fresh = omega arith
      pre_programs (merging m) = omega (arith, merge_programs s im (blocks_of s im) m)
