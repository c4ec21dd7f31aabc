-- Histories, command by command: contents, steps and wear.
use mathlib.Core.Path.{◌≡◌, refl, sym, ap, ◌∙◌, subst}
use mathlib.Core.Logic.{inl, inr}
use mathlib.Core.Bool.{Bool, true, false, ◌&&◌, ◌||◌, cond}
use mathlib.Core.List.{List, [], ◌∷◌}
use Prim.Native.Nat.{ℕ, suc, ◌+◌, ◌-◌, ◌*◌, ◌≤◌, ◌<◌}
use native.Mathlib.Omega.{arith}
use lib.Dec.{T, eqb, eqb→eq, eqb_refl, T_not}
use Rattle.rules.specs.declared.shape.Shape.{Shape}
use Rattle.rules.specs.Below.{count_below}
use Rattle.rules.specs.Shape.{shape_of}
use Rattle.rules.specs.Page.{Image}
use Rattle.rules.specs.WellFormed.{Blocks, is_live, live_log, live_logs, blocks_of}
use Rattle.rules.specs.Replies.{shape_for, image_left}
use Rattle.rules.specs.Facts.{Fits}
use Rattle.laws.proofs.Tests.{tcase, and_l, and_r, and_i, or_r}
use Rattle.laws.proofs.Below.{bit, bit_one, bit_zero, bit_mono, sum_below, sum_below_move, count_below_sum, count_below_places}
use Rattle.laws.proofs.Roles.{live_used, live_log_found, below_none, used_below}
use Rattle.history.specs.History.{Command, read, write, block_write, power_up, reply_to, Event, events_from, image_after, last_from, is_write, answered, done_or_cut, was_cut, worth, writes_in, cuts_in, erases_in, block_written, FallIn, steps_in}
use Rattle.laws.proofs.Change.{NoLive}
use Rattle.laws.proofs.Along.{AllAllowed, allowed_append}
use Rattle.laws.proofs.Erasing.{Sound, content_of, obsoletes}
use Rattle.laws.proofs.Cases.{Victim}
use Rattle.history.proofs.Cost.{log_pages}
use Rattle.history.proofs.Outcome.{outcome}

-- ---- the same, for one shape

module _ (s : Shape) where
  abbrev left : Image → Command → Image
  left im x = image_left s im (reply_to s im x)

  abbrev pub after : Image → List Command → Image
  after im [] = im
  after im (x ∷ xs) = after (left im x) xs

  abbrev pub events_of : Image → List Command → List Event
  events_of im [] = []
  events_of im (x ∷ xs) = record { command = x; reply = reply_to s im x } ∷ events_of (left im x) xs

-- images of one card have one shape
shape_stays : (P L K : ℕ) (s : Shape) (im im' : Image) → Fits s im → Fits s im' → shape_for P L K im ≡ s → shape_for P L K im' ≡ s
shape_stays P L K s im im' w w' e = ap (shape_of P L K) (w'.bytes_long ∙ sym w.bytes_long) ∙ e

-- each command is given P, L and K, and finds the same shape
pub one_shape : (P L K : ℕ) (s : Shape) (im : Image) (xs : List Command) → shape_for P L K im ≡ s → Sound s im
    → (events_from P L K im xs ≡ events_of s im xs) × (image_after P L K im xs ≡ after s im xs) × (shape_for P L K (after s im xs) ≡ s)
one_shape P L K s im [] e w = (refl, refl, e)
one_shape P L K s im (x ∷ xs) e w =
    let o = outcome s im w x in
    let r = one_shape P L K s (left s im x) xs (shape_stays P L K s im (left s im x) w.fits o.sound.fits e) o.sound in
    let there : image_left (shape_for P L K im) im (reply_to (shape_for P L K im) im x) ≡ left s im x =
    ap (λ (z : Shape). image_left z im (reply_to z im x)) e in (
      ap (λ (z : Shape). record { command = x; reply = reply_to z im x } ∷ events_from P L K (image_left z im (reply_to z im x)) xs) e
          ∙ ap (λ (es : List Event). record { command = x; reply = reply_to s im x } ∷ es) r.0,
      ap (λ (i : Image). image_after P L K i xs) there ∙ r.1,
      r.2,
    )

-- ---- contents and steps

module _ (s : Shape) where
  pub sound_after : (im : Image) (xs : List Command) → Sound s im → Sound s (after s im xs)
  sound_after im [] w = w
  sound_after im (x ∷ xs) w = sound_after (left s im x) xs (outcome s im w x).sound

  pub holds_after : (im : Image) (xs : List Command) → Sound s im → (a : ℕ)
      → content_of s (after s im xs) a ≡ last_from s (events_of s im xs) a (content_of s im a)
  holds_after im [] w a = refl
  holds_after im (x ∷ xs) w a =
      let o = outcome s im w x in
      holds_after (left s im x) xs o.sound a ∙ ap (last_from s (events_of s (left s im x) xs) a) (o.holds a)

  pub allowed_after : (im : Image) (xs : List Command) → Sound s im → AllAllowed s (steps_in (events_of s im xs)) im
  allowed_after im [] w = tt
  allowed_after im (x ∷ xs) w =
      let o = outcome s im w x in
      allowed_append s (reply_to s im x).steps (steps_in (events_of s (left s im x) xs)) im o.allowed (allowed_after (left s im x) xs o.sound)

  -- ---- at most two erases for each write

  cut_too : (e : Event) → bit (was_cut e) ≤ bit (done_or_cut e)
  cut_too e =
      bit_mono (was_cut e) (done_or_cut e)
      (λ t. and_i (is_write e.command) (answered 0 e.reply || answered 8 e.reply) (and_l (is_write e.command) (answered 8 e.reply) t)
      (or_r (answered 0 e.reply) (answered 8 e.reply) (and_r (is_write e.command) (answered 8 e.reply) t)))

  -- where P is not 0, each counts for one write at least
  one_at_least : 1 ≤ s.pages → (x : Command) (b : Bool) → bit (is_write x && b) ≤ cond (is_write x && b) (worth s.pages x) 0
  one_at_least h (read a buffer) b = omega arith
  one_at_least h (write a d cut) b = omega arith
  one_at_least h (block_write l d cut) true = h
  one_at_least h (block_write l d cut) false = omega arith
  one_at_least h (power_up table cut) b = omega arith

  pub wear : (im : Image) (xs : List Command) → Sound s im
      → erases_in (events_of s im xs) + obsoletes s (after s im xs) ≤ obsoletes s im + 2 * writes_in s.pages (events_of s im xs)
  wear im [] w = omega arith
  wear im (x ∷ xs) w =
      let o = outcome s im w x in
      let e : Event = record { command = x; reply = reply_to s im x } in
      let r = wear (left s im x) xs o.sound in
      let some = one_at_least (omega (arith, w.fits.limits.pages_low)) x (answered 0 e.reply || answered 8 e.reply) in
      elim o.paid [
        | inl q ↦ omega (arith, q.1, cut_too e, some)
        | inr q ↦ omega (arith, q.2, bit_one (done_or_cut e) q.0, some)
      ]

-- ---- writes in at most K logical blocks

module _ (s : Shape) (S : ℕ → Bool) (few : count_below s.logical S ≤ s.logs) where
  -- only logical blocks in S have a live log block
  abbrev pub Inside : Image → Type 0
  Inside im = (l : ℕ) → (T (S l) → ⊥) → NoLive s (blocks_of s im) l

  -- so no log block of another logical block need be merged
  no_victim : (im : Image) → Sound s im → Inside im → (l : ℕ) → T (S l) → l < s.logical → Victim s im l → ⊥
  unfolding live_logs
  no_victim im w v l t hl y =
      let a : count_below s.blocks (is_live s c) ≤ sum_below s.logical weight =
      count_below_places s.blocks s.logical (is_live s c) (λ j. (c j).logical) weight (λ j h u. w.wf.records.in_range j (live_used s c j u))
      heavy (λ i j h k. w.wf.one_live i j) in
      let b : sum_below s.logical weight + 1 ≤ sum_below s.logical (λ m. bit (S m)) + 0 =
      sum_below_move s.logical (λ m. bit (S m)) weight l 1 0 hl (λ j h ne. omega arith)
      (omega (arith, bit_one (S l) t, bit_one (eqb l l) (eqb_refl l))) in
      omega (arith, few, count_below_sum s.logical S, y.1)
    where
      c : Blocks
      c = blocks_of s im

      weight : ℕ → ℕ
      weight m = bit (S m) - bit (eqb m l)

      none_of_l : NoLive s c l
      none_of_l j u q =
          elim (live_log_found s c w.wf.records l) [
            | inl r ↦ below_none s c w.wf.records (used_below s c w.wf.records (live_log s c l) (live_used s c (live_log s c l) r.passes))
                y.0
            | inr r ↦ r.fails j u q
          ]

      heavy : (j : ℕ) → j < s.blocks → T (is_live s c j) → 0 < weight (c j).logical
      heavy j h u =
          elim (tcase (S (c j).logical)) [
            | inl z ↦ omega (arith, bit_one (S (c j).logical) z, bit_zero (eqb (c j).logical l) (λ q. none_of_l j u (eqb→eq (c j).logical l q)))
            | inr z ↦ absurd (v (c j).logical (T_not (S (c j).logical) z) j u refl)
          ]

  -- full: the full log blocks that went, and the block writes
  pub wear_few : (im : Image) (xs : List Command) → Sound s im → Inside im → FallIn s S (events_of s im xs)
      → (full : ℕ) × (s.pages * full + log_pages s (blocks_of s (after s im xs)) ≤ log_pages s (blocks_of s im) + writes_in s.pages (events_of s im xs))
      × (erases_in (events_of s im xs) + obsoletes s (after s im xs) ≤ obsoletes s im + 2 * full + cuts_in (events_of s im xs))
  wear_few im [] w v f = (0, omega arith, omega arith)
  wear_few im (x ∷ xs) w v f =
      let o = outcome s im w x in
      let v' : Inside (left s im x) = λ l n. o.no_live l (λ t q. n (subst (λ (m : ℕ). T (S m)) (sym q) (f.0 t))) (v l n) in
      let r = wear_few (left s im x) xs o.sound v' f.1 in
      elim o.paid [
        | inl q ↦ (r.0, omega (arith, r.1, q.0), omega (arith, r.2, q.1))
        | inr q ↦
            elim q.3 [
              | inl p ↦ (suc r.0, omega (arith, r.1, p), omega (arith, r.2, q.2))
              | inr y ↦ absurd (no_victim im w v (block_written s x) (f.0 q.0) q.1 y)
            ]
      ]
