-- What one command does to a sound image, whatever its arguments and its cut.
use mathlib.Core.Path.{◌≡◌, refl, sym, ap, ◌∙◌, subst}
use mathlib.Core.Logic.{◌≢◌, ◌⊎◌, inl, inr}
use mathlib.Core.Bool.{Bool, true, false, ◌&&◌, ◌||◌, cond, and-false}
use mathlib.Core.List.{List, [], ◌∷◌, ◌++◌, map}
use Prim.Native.Nat.{ℕ, ◌+◌, ◌≤◌, ◌<◌}
use native.Mathlib.Omega.{arith}
use lib.ListN.{length, take, length-append}
use lib.Dec.{T, ltb, eqb, ltb→lt}
use borrow.Author.Tests.{lt-ltb, le-ltb}
use Rattle.std.specs.Prelude.{Option, Some, None}
use Rattle.rules.specs.declared.shape.Shape.{Shape}
use Rattle.rules.specs.declared.refusal.Refusal.{Refusal}
use Rattle.rules.specs.declared.refusal.Refusal.TheVariants.{OutsideLimits, WrongLength, OutOfRange, TooFewGood, IllFormed, Unrecovered, OutOfNumbers}
use Rattle.rules.specs.declared.block.Block.{Block}
use Rattle.rules.specs.Shape.{block_of, offset_of}
use Rattle.rules.specs.Below.{pick_below}
use Rattle.rules.specs.Page.{Image}
use Rattle.rules.specs.WellFormed.{Blocks, is_obsolete, blocks_of}
use Rattle.rules.specs.Steps.{Step, erase, erases, steps_done, power_up_list, write_list, part_of, block_write_list}
use Rattle.rules.specs.Replies.{Reply, number, power_up_refusal, read_refusal, write_refusal, block_write_refusal, carried_out, refused_by, unless, image_left, power_up_reply, read_reply, write_reply, block_write_reply}
use Rattle.laws.proofs.Tests.{and_i, or_l, or_r, cond_yes, cond_both, lt_or_le, eq→eqb}
use Rattle.laws.proofs.Below.{bit, bit_one, All, all_map, pick_below_all, pick_below_distinct, pick_below_out}
use Rattle.laws.proofs.Shape.{in_range_block, in_range_small}
use Rattle.laws.proofs.Roles.{used_below, obsolete_e, Recovered}
use Rattle.history.specs.History.{Command, read, write, block_write, power_up, reply_to, Event, answered, own_done, happened, block_happened, page_after, is_write, done_or_cut, was_cut, worth, writes_of, block_written}
use Rattle.laws.proofs.Change.{NoLive}
use Rattle.laws.proofs.Along.{AllAllowed, Along, along_cut, along_end, along_allowed, allowed_take}
use Rattle.laws.proofs.Erasing.{Sound, logical_few, content_of, obsoletes, Erasing, erasing_start, erasing}
use Rattle.laws.proofs.Renewal.{renewed}
use Rattle.laws.proofs.Cases.{Victim}
use Rattle.history.proofs.Cost.{log_pages, log_pages_is}
use Rattle.history.proofs.Plan.{Memory, Mid, PlanOk, written, plan_before, plan_after, plan_allowed}
use Rattle.history.proofs.Prepare.{none_in}
use Rattle.history.proofs.Write.{pre_steps, own, post_erases, write_is, write_ok}
use Rattle.history.proofs.BlockWrite.{block_write_is, block_write_ok}
use Rattle.history.proofs.Answers.{WriteTaken, BlockWriteTaken, write_taken, block_write_taken, done_number}
use Rattle.history.proofs.Happened.{happened_is, block_happened_is}

-- ---- power-up: every cut, and its end

module _ (s : Shape) (im : Image) (w : Sound s im) where
  power_up_goal : Along s (Erasing s im) 0 (power_up_list s (blocks_of s im)) im
      × Recovered s (blocks_of s (steps_done s (power_up_list s (blocks_of s im)) im))
  unfolding power_up_list
  power_up_goal = (
    r.0,
    λ j t. let u = r.1 j t in
        pick_below_out s.blocks (is_obsolete s c) j (used_below s c w.wf.records j (obsolete_e s c j u.0).0) u.0 u.1,
  )
    where
      c : Blocks
      c = blocks_of s im

      xs : List ℕ
      xs = pick_below s.blocks (is_obsolete s c)

      r : Along s (Erasing s im) 0 (map erase xs) im
          × ((j : ℕ) → T (is_obsolete s (blocks_of s (steps_done s (map erase xs) im)) j) → T (is_obsolete s c j) × All (λ x. j ≢ x) xs)
      r =
          erasing s im xs 0 im (erasing_start s im w)
          (all_map (λ x. (x < s.blocks) × T (is_obsolete s c x)) (λ x. T (is_obsolete s c x)) xs (λ x a. a.1)
          (pick_below_all s.blocks (is_obsolete s c)))
          (pick_below_distinct s.blocks (is_obsolete s c))

  pub power_up_cut : (k : ℕ) → Erasing s im (erases (take k (power_up_list s (blocks_of s im)))) (steps_done s (take k (power_up_list s (blocks_of s im))) im)
  power_up_cut k =
      let ts : List Step = take k (power_up_list s (blocks_of s im)) in
      subst (λ (n : ℕ). Erasing s im n (steps_done s ts im)) (omega arith)
      (along_cut s (Erasing s im) 0 (power_up_list s (blocks_of s im)) im power_up_goal.0 k)

  pub power_up_end : Sound s (steps_done s (power_up_list s (blocks_of s im)) im)
      × Recovered s (blocks_of s (steps_done s (power_up_list s (blocks_of s im)) im))
  power_up_end = ((along_end s (Erasing s im) 0 (power_up_list s (blocks_of s im)) im power_up_goal.0).sound, power_up_goal.1)

  power_up_allowed : (k : ℕ) → AllAllowed s (take k (power_up_list s (blocks_of s im))) im
  power_up_allowed k =
      allowed_take s k (power_up_list s (blocks_of s im)) im (along_allowed s (Erasing s im) 0 (power_up_list s (blocks_of s im)) im power_up_goal.0)

-- ---- the outcome of a command that is replied r

module _ (s : Shape) (im : Image) (x : Command) (r : Reply) where
  abbrev event : Event
  event = record { command = x; reply = r }

  abbrev left : Image
  left = image_left s im r

  -- what its erases are paid with, obsolete blocks counted as erased: by a cut; or by a full log block, or P writes in one; or
  -- nothing is said but that a log block of another logical block was merged
  abbrev pub Paid : Type 0
  Paid =
      ((log_pages s (blocks_of s left) ≤ log_pages s (blocks_of s im) + writes_of s.pages event)
      × (erases r.steps + obsoletes s left ≤ obsoletes s im + bit (was_cut event)))
      ⊎ (T (done_or_cut event) × (block_written s x < s.logical) × (erases r.steps + obsoletes s left ≤ obsoletes s im + 2)
      × ((log_pages s (blocks_of s left) + s.pages ≤ log_pages s (blocks_of s im) + writes_of s.pages event) ⊎ Victim s im (block_written s x)))

  pub record Outcome : Type 0 where
    pub sound : Sound s left
    pub holds : (a : ℕ) → content_of s left a ≡ page_after s x r a (content_of s im a)
    pub allowed : AllAllowed s r.steps im
    pub no_live : (l : ℕ) → (T (done_or_cut event) → l ≢ block_written s x) → NoLive s (blocks_of s im) l → NoLive s (blocks_of s left) l
    pub paid : Paid

-- ---- a command that does nothing

module _ (s : Shape) (im : Image) (w : Sound s im) (x : Command) where
  nothing : (r : Reply) → r.steps ≡ [] → erases r.steps ≡ 0 → ((a : ℕ) (v : List ℕ) → page_after s x r a v ≡ v) → Outcome s im x r
  unfolding steps_done
  nothing r e z same =
      record {
        sound = subst (Sound s) here w;
        holds = λ a. ap (λ (i : Image). content_of s i a) (sym here) ∙ sym (same a (content_of s im a));
        allowed = subst (λ (ts : List Step). AllAllowed s ts im) (sym e) tt;
        no_live = λ l n f. subst (λ (i : Image). NoLive s (blocks_of s i) l) here f;
        paid = inl (
          subst (λ (i : Image). log_pages s (blocks_of s i) ≤ log_pages s (blocks_of s im) + writes_of s.pages (event s im x r)) here
              (omega arith),
          omega (arith, z, ap (obsoletes s) here),
        );
      }
    where
      here : im ≡ image_left s im r
      here = ap (λ (ts : List Step). steps_done s ts im) (sym e)

  -- refused, or carried out
  refused_or : (r : Option Refusal) (cut : ℕ) (ts : List Step) → (r ≡ None → Outcome s im x (carried_out cut ts))
      → ((q : Refusal) (a : ℕ) (v : List ℕ) → page_after s x (refused_by q) a v ≡ v) → Outcome s im x (unless r refused_by (carried_out cut ts))
  refused_or None cut ts f same = f refl
  refused_or (Some q) cut ts f same = nothing (refused_by q) refl refl (same q)

-- ---- a write or block write that is not refused

-- x is a plan for the logical block that it writes, with what it is worth, and has happened if it is cut behind its own program
record Planned (s : Shape) (im : Image) (x : Command) (cut : ℕ) (pre : List Step) (own : Step) (post : List ℕ) : Type 0 where
  new : Memory
  plan : PlanOk s im pre own post new (block_written s x) (Victim s im (block_written s x)) (worth s.pages x)
  writes : T (is_write x)
  clean : Recovered s (blocks_of s im)
  below : block_written s x < s.logical
  reads : (a : ℕ) → page_after s x (carried_out cut (pre ++ (own ∷ map erase post))) a (content_of s im a)
      ≡ cond (ltb (length pre) cut) (new a) (content_of s im a)

module _ (s : Shape) (im : Image) (x : Command) (cut : ℕ) {pre : List Step} {own : Step} {post : List ℕ} (p : Planned s im x cut pre own post) where
  abbrev ts : List Step
  ts = pre ++ (own ∷ map erase post)

  abbrev r : Reply
  r = carried_out cut ts

  taken_on : T (done_or_cut (event s im x r))
  taken_on =
      and_i (is_write x) (answered 0 r || answered 8 r) p.writes
      (elim (done_number cut ts) [
        | inl q ↦ or_l (answered 0 r) (answered 8 r) (eq→eqb (number r.answer) 0 q.0)
        | inr q ↦ or_r (answered 0 r) (answered 8 r) (eq→eqb (number r.answer) 8 q.0)
      ])

  counted : writes_of s.pages (event s im x r) ≡ worth s.pages x
  counted = cond_yes (done_or_cut (event s im x r)) (worth s.pages x) 0 taken_on

  cut_short : cut ≤ length pre → bit (was_cut (event s im x r)) ≡ 1
  cut_short h =
      elim (done_number cut ts) [
        | inl q ↦ absurd (omega (arith, q.1, length-append pre (own ∷ map erase post)))
        | inr q ↦ bit_one (was_cut (event s im x r)) (and_i (is_write x) (answered 8 r) p.writes (eq→eqb (number r.answer) 8 q.0))
      ]

  -- from the state of the plan
  module _ (M : Memory) (Open : ℕ → Type 0) (h k : ℕ)
      (m : Mid s im M Open (Victim s im (block_written s x)) h k (erases (take cut ts)) (steps_done s (take cut ts) im)) where
    from_mid : h ≤ worth s.pages x → k ≤ bit (was_cut (event s im x r)) → ((l : ℕ) → l ≢ block_written s x → Open l → ⊥) → (b : Bool)
        → ltb (length pre) cut ≡ b
        → ((y : ℕ) → M y ≡ cond b (p.new y) (content_of s im y)) → Outcome s im x r
    from_mid hh hk no-open b e same =
        let none' : obsoletes s im ≡ 0 = none_in s im p.clean in
        record {
          sound = m.sound;
          holds = λ y. m.holds y ∙ same y ∙ sym (p.reads y ∙ ap (λ (t : Bool). cond t (p.new y) (content_of s im y)) e);
          allowed = allowed_take s cut ts im (plan_allowed s im p.plan);
          no_live = λ l n f. m.no_live l (no-open l (n taken_on)) f;
          paid = elim m.cost [
            | inl q ↦ inl (omega (arith, q.0, counted), omega (arith, q.1, none'))
            | inr q ↦ inr (
              taken_on,
              p.below,
              omega (arith, m.total, none'),
              elim q [ inl y ↦ inl (omega (arith, y.0, counted)) | inr v ↦ inr v ],
            )
          ];
        }

  plan_outcome : Outcome s im x (carried_out cut (pre ++ (own ∷ map erase post)))
  plan_outcome =
      elim (lt_or_le (length pre) cut) [
        | inl h ↦
            from_mid p.new (λ l. l ≡ block_written s x) (worth s.pages x) 0 (plan_after s im p.plan cut h) (omega arith) (omega arith) (λ l n e. n e)
            true (lt-ltb (length pre) cut h) (λ y. refl)
        | inr h ↦
            from_mid (content_of s im) (λ l. ⊥) 0 1 (plan_before s im p.plan cut h) (omega arith) (omega (arith, cut_short h)) (λ l n e. e)
            false (le-ltb (length pre) cut h) (λ y. refl)
      ]

-- a page as written where it is one of those written and the write has happened: as it reads once that has happened, else as it was
reads_by : (t : Bool) {b b' : Bool} (d v : List ℕ) → b ≡ b' → cond (t && b) d v ≡ cond b' (cond t d v) v
reads_by true d v e = ap (λ (b : Bool). cond b d v) e
reads_by false {b' = b'} d v e = cond_both (λ x. v ≡ x) b' v v (λ t. refl) (λ t. refl)

pub taken_plan : (s : Shape) (im : Image) (a : ℕ) (d : List ℕ) → WriteTaken s im (length d) a
    → PlanOk s im (pre_steps s im a d) (own s im a d) (post_erases s im a d) (written a d (content_of s im)) (block_of s a) (Victim s im (block_of s a)) 1
taken_plan s im a d t = write_ok s im a d t.sound t.clean t.long t.inside t.fit

module _ (s : Shape) (im : Image) (d : List ℕ) (cut : ℕ) where
  write_outcome : (a : ℕ) → WriteTaken s im (length d) a → Outcome s im (write a d cut) (carried_out cut (write_list s im (blocks_of s im) a d))
  unfolding written
  write_outcome a t =
      let small : a < 65536 = in_range_small s t.sound.fits.limits (logical_few s im t.sound) a t.inside in
      rw (write_is s im a d)
      (plan_outcome s im (write a d cut) cut (record {
        new = written a d (content_of s im);
        plan = taken_plan s im a d t;
        writes = tt;
        clean = t.clean;
        below = in_range_block s t.sound.fits.limits a t.inside;
        reads = λ y. reads_by (eqb y a) d (content_of s im y) (happened_is s im a d small cut);
      }))

  block_write_outcome : (l : ℕ) → BlockWriteTaken s im (length d) l
      → Outcome s im (block_write l d cut) (carried_out cut (block_write_list s (blocks_of s im) l d))
  unfolding renewed
  block_write_outcome l t =
      rw (block_write_is s im l d t)
      (plan_outcome s im (block_write l d cut) cut (record {
        new = renewed s l (part_of d) (content_of s im);
        plan = block_write_ok s im l d t;
        writes = tt;
        clean = t.clean;
        below = ltb→lt l s.logical t.inside;
        reads = λ y. reads_by (eqb (block_of s y) l) (part_of d (offset_of s y)) (content_of s im y) (block_happened_is s im l d cut t);
      }))

-- ---- any command

-- what is refused has not happened
refused_not : (r : Refusal) (b : Bool) → (answered 0 (refused_by r) || (answered 8 (refused_by r) && b)) ≡ false
refused_not OutsideLimits b = refl
refused_not WrongLength b = refl
refused_not OutOfRange b = refl
refused_not TooFewGood b = refl
refused_not IllFormed b = refl
refused_not Unrecovered b = refl
refused_not OutOfNumbers b = refl

module _ (s : Shape) (im : Image) (w : Sound s im) where
  write_any : (a : ℕ) (d : List ℕ) (cut : ℕ) → Outcome s im (write a d cut) (write_reply s im a d cut)
  unfolding write_reply happened own_done
  write_any a d cut =
      refused_or s im w (write a d cut) (write_refusal s im (blocks_of s im) (length d) a) cut (write_list s im (blocks_of s im) a d)
      (λ e. write_outcome s im d cut a (write_taken s im (length d) a e)) (λ r y v. rw (refused_not r false, and-false) refl)

  block_write_any : (l : ℕ) (d : List ℕ) (cut : ℕ) → Outcome s im (block_write l d cut) (block_write_reply s im l d cut)
  unfolding block_write_reply block_happened
  block_write_any l d cut =
      refused_or s im w (block_write l d cut) (block_write_refusal s im (blocks_of s im) (length d) l) cut (block_write_list s (blocks_of s im) l d)
      (λ e. block_write_outcome s im d cut l (block_write_taken s im (length d) l e))
      (λ r y v. rw (refused_not r (eqb 0 s.pages), and-false) refl)

  read_any : (a : ℕ) (buffer : List ℕ) → Outcome s im (read a buffer) (read_reply s im (length buffer) a)
  unfolding read_reply
  read_any a buffer =
      refused_or s im w (read a buffer) (read_refusal s im (blocks_of s im) (length buffer) a) 0 []
      (λ e. nothing s im w (read a buffer) (carried_out 0 []) refl refl (λ y v. refl)) (λ r y v. refl)

  power_up_any : (table : List ℕ) (cut : ℕ) → Outcome s im (power_up table cut) (power_up_reply s im (length table) cut)
  unfolding power_up_reply
  power_up_any table cut =
      refused_or s im w (power_up table cut) (power_up_refusal s im (blocks_of s im) (length table)) cut ts'
      (λ e. record {
        sound = q.sound;
        holds = q.same;
        allowed = power_up_allowed s im w cut;
        no_live = λ l n f j u z. f j (q.live j u).0 (ap (λ (y : Block). y.logical) (sym (q.live j u).1) ∙ z);
        paid = inl (
          omega (arith, log_pages_is s (blocks_of s im) (blocks_of s (steps_done s (take cut ts') im)) q.live),
          omega (arith, q.total),
        );
      })
      (λ r y v. refl)
    where
      ts' : List Step
      ts' = power_up_list s (blocks_of s im)

      q : Erasing s im (erases (take cut ts')) (steps_done s (take cut ts') im)
      q = power_up_cut s im w cut

  pub outcome : (x : Command) → Outcome s im x (reply_to s im x)
  outcome (read a buffer) = read_any a buffer
  outcome (write a d cut) = write_any a d cut
  outcome (block_write l d cut) = block_write_any l d cut
  outcome (power_up table cut) = power_up_any table cut
