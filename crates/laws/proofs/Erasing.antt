-- Erasing obsolete blocks, any of them in any order, cut anywhere: contents, W1 to W7, data blocks and live log blocks stay.
use mathlib.Core.Path.{◌≡◌, refl, sym, ap, ◌∙◌, subst}
use mathlib.Core.Logic.{◌≢◌, inl, inr}
use mathlib.Core.List.{List, [], ◌∷◌, map}
use Prim.Native.Nat.{ℕ, ◌+◌, ◌≤◌, ◌<◌}
use native.Mathlib.Omega.{arith}
use lib.Dec.{T}
use Rattle.rules.specs.declared.shape.Shape.{Shape}
use Rattle.rules.specs.declared.block.State.TheVariants.{Free}
use Rattle.rules.specs.declared.block.Block.{Block}
use Rattle.rules.specs.Below.{none, count_below}
use Rattle.rules.specs.Shape.{good_needed, block_of}
use Rattle.rules.specs.Page.{Image}
use Rattle.rules.specs.WellFormed.{Blocks, not_used, is_good, is_used, data_number, is_data, is_live, is_obsolete, data_block, live_log, blocks_of}
use Rattle.rules.specs.Content.{content}
use Rattle.rules.specs.Steps.{erase, step_done, steps_done, highest}
use Rattle.rules.specs.Replies.{good_blocks}
use Rattle.rules.specs.Facts.{Fits}
use Rattle.laws.proofs.Below.{All, Distinct, all_two, bit_one, bit_zero, count_below-most, count_below_move}
use Rattle.laws.proofs.Shape.{offset_of_below}
use Rattle.laws.proofs.Roles.{used_good, Records, used_below, below_none, complete_e, IsData, IsLive, obsolete_e, WellFormed, Has, has_some, data_block_found, live_log_found, highest_ge, highest_le}
use Rattle.laws.proofs.Change.{changed, changed_same, changed_other, changed_elim, Fitting, live_log_kept, data_block_kept, good_blocks_kept, obsolete_other, Idle, LiveIs, Quiet, quiet}
use Rattle.laws.proofs.Content.{SamePages, content_same}
use Rattle.laws.proofs.Along.{Along}
use Rattle.laws.proofs.Steps.{Erases, erase_done}

-- ---- an image that answers none of 1, 4 and 5

pub record Sound (s : Shape) (im : Image) : Type 0 where
  pub fits : Fits s im
  pub wf : WellFormed s (blocks_of s im)
  pub enough : good_needed s ≤ good_blocks s (blocks_of s im)

-- a card has as many blocks as it needs good ones
pub logical_few : (s : Shape) (im : Image) → Sound s im → s.logical ≤ s.blocks
unfolding good_blocks
logical_few s im w = omega (arith, w.enough, count_below-most s.blocks (λ j. is_good (blocks_of s im j).state))

abbrev pub content_of : Shape → Image → ℕ → List ℕ
content_of s im a = content s im (blocks_of s im) a

-- ---- the content of a page of l, where a block changes that is none of l's

module _ (s : Shape) (im im' : Image) (fits : Fits s im) (c : Blocks) (r : Records s c) (b : ℕ) (x : Block) (below : b < s.blocks)
    (others : (j : ℕ) → j ≢ b → SamePages s im im' j s.pages) where
  pub content_kept : (a : ℕ) → data_number s (changed c b x) (block_of s a) ≡ data_number s c (block_of s a)
      → (T (is_data s c b) → (c b).logical ≢ block_of s a) → (T (is_live s c b) → (c b).logical ≢ block_of s a)
      → (IsData s (data_number s c (block_of s a)) x → x.logical ≢ block_of s a)
      → (IsLive s (data_number s c (block_of s a)) x → x.logical ≢ block_of s a)
      → content s im' (changed c b x) a ≡ content s im c a
  content_kept a e nd nl nd' nl' =
      content_same s a (offset_of_below s fits.limits a) im im' c (changed c b x) v (c v).filled
      refl (live_log_kept s c b x l e nl nl') refl (ap (λ (y : Block). y.filled) (changed_other c b x v nv))
      (λ i h. others v nv i (omega (arith, r.fits v)))
      (data_block_kept s c b x l e nd nd') (λ q. others (data_block s c l) (nb q))
    where
      l : ℕ
      l = block_of s a

      v : ℕ
      v = live_log s c l

      nv : v ≢ b
      nv q =
          elim (live_log_found s c r l) [
            | inl y ↦ let z = subst (Has (is_live s c) c l) q y in nl z.passes z.logical
            | inr y ↦ below_none s c r below (sym q ∙ y.is)
          ]

      nb : data_block s c l ≢ none → data_block s c l ≢ b
      nb n q = let z = subst (Has (is_data s c) c l) q (has_some (data_block_found s c r l) n) in nd z.passes z.logical

  -- every content, where b was neither data block nor live, and x is neither
  pub contents_kept : ((l : ℕ) → data_number s (changed c b x) l ≡ data_number s c l) → (T (is_data s c b) → ⊥) → (T (is_live s c b) → ⊥) → Idle s x
      → (a : ℕ) → content s im' (changed c b x) a ≡ content s im c a
  contents_kept e nd nl q a =
      content_kept a (e (block_of s a)) (λ t. absurd (nd t)) (λ t. absurd (nl t)) (λ t. absurd (q.incomplete t.complete))
      (λ t. absurd (q.no_log t.used t.log))

-- ---- one erase

-- each logical block has the data block and the live log block that it had
abbrev pub SamePlaces : Shape → Blocks → Blocks → Type 0
SamePlaces s c c' = (l : ℕ) → (data_block s c' l ≡ data_block s c l) × (live_log s c' l ≡ live_log s c l)

idle_free : (s : Shape) → Idle s (not_used Free)
idle_free s = record { incomplete = λ t. (complete_e s (not_used Free) t).used; no_log = λ t. absurd t }

module _ (s : Shape) (im : Image) (w : Sound s im) (b : ℕ) (t : T (is_obsolete s (blocks_of s im) b)) where
  abbrev c : Blocks
  c = blocks_of s im

  abbrev im' : Image
  im' = step_done s (erase b) im

  abbrev c' : Blocks
  c' = changed c b (not_used Free)

  o : T (is_used (c b).state) × (T (is_data s c b) → ⊥) × (T (is_live s c b) → ⊥)
  o = obsolete_e s c b t

  b_below : b < s.blocks
  b_below = used_below s c w.wf.records b o.0

  done : Erases s im b
  done = erase_done s im w.fits b (used_good (c b).state o.0)

  free_allowed : Fitting s c b (not_used Free)
  free_allowed =
      record { below = b_below; good = tt; no_ill = λ u. u; free = λ u. refl; in_range = λ u. absurd u; fits = omega arith; fresh = λ u. absurd u }

  calm : Quiet s c c'
  calm = quiet s c b (not_used Free) w.wf free_allowed (idle_free s) o.1 o.2

  sound : Sound s im'
  sound =
      record {
        fits = done.fits;
        wf = rw done.blocks calm.wf;
        enough = rw done.blocks (omega (arith, good_blocks_kept s c b (not_used Free) tt, w.enough));
      }

  same : (a : ℕ) → content_of s im' a ≡ content_of s im a
  same a =
      ap (λ (k : Blocks). content s im' k a) done.blocks
      ∙ contents_kept s im im' w.fits c w.wf.records b (not_used Free) b_below done.others calm.numbers o.1 o.2 (idle_free s) a

  -- what is obsolete then was so, and is not b
  was : (j : ℕ) → T (is_obsolete s (blocks_of s im') j) → (j ≢ b) × T (is_obsolete s c j)
  was j u =
      let u' : T (is_obsolete s c' j) = subst (λ (k : Blocks). T (is_obsolete s k j)) done.blocks u in
      let n : j ≢ b = λ e. subst (λ (y : Block). T (is_used y.state)) (ap c' e ∙ changed_same c b (not_used Free)) (obsolete_e s c' j u').0 in
      (n, subst T (obsolete_other s c b (not_used Free) j n (calm.numbers (c j).logical)) u')

  -- and what else was so is so
  still : (j : ℕ) → j ≢ b → T (is_obsolete s c j) → T (is_obsolete s (blocks_of s im') j)
  still j n u =
      subst (λ (k : Blocks). T (is_obsolete s k j)) (sym done.blocks)
      (subst T (sym (obsolete_other s c b (not_used Free) j n (calm.numbers (c j).logical))) u)

  fewer : count_below s.blocks (is_obsolete s (blocks_of s im')) + 1 ≤ count_below s.blocks (is_obsolete s c)
  fewer =
      let r = count_below_move s.blocks (is_obsolete s c) (is_obsolete s (blocks_of s im')) b 1 0 b_below (λ j h n u. (was j u).1)
      (omega (arith, bit_one (is_obsolete s c b) t, bit_zero (is_obsolete s (blocks_of s im') b) (λ u. (was b u).0 refl))) in
      omega arith

  live : LiveIs s c (blocks_of s im')
  live = rw done.blocks calm.live

  lower : highest s (blocks_of s im') ≤ highest s c
  lower =
      rw done.blocks
      (highest_le s c' (highest s c) (changed_elim c b (not_used Free) (λ j z. j < s.blocks → z.number ≤ highest s c) (λ h. omega arith)
      (λ j n h. highest_ge s c j h)))

  places : SamePlaces s c (blocks_of s im')
  places l =
      rw done.blocks (
        data_block_kept s c b (not_used Free) l (calm.numbers l) (λ u. absurd (o.1 u)) (λ v. absurd ((idle_free s).incomplete v.complete)),
        live_log_kept s c b (not_used Free) l (calm.numbers l) (λ u. absurd (o.2 u)) (λ v. absurd v.used),
      )

-- ---- lists of erases

unfoldable pub obsoletes : Shape → Image → ℕ
obsoletes s im = count_below s.blocks (is_obsolete s (blocks_of s im))

-- im' is im with n obsolete blocks erased
pub record Erasing (s : Shape) (im : Image) (n : ℕ) (im' : Image) : Type 0 where
  pub sound : Sound s im'
  pub same : (a : ℕ) → content_of s im' a ≡ content_of s im a
  pub total : n + obsoletes s im' ≤ obsoletes s im
  pub live : LiveIs s (blocks_of s im) (blocks_of s im')
  pub places : SamePlaces s (blocks_of s im) (blocks_of s im')
  pub highest : highest s (blocks_of s im') ≤ highest s (blocks_of s im)

pub erasing_start : (s : Shape) (im : Image) → Sound s im → Erasing s im 0 im
erasing_start s im w =
    record { sound = w; same = λ a. refl; total = omega arith; live = λ j t. (t, refl); places = λ l. (refl, refl); highest = omega arith }

pub live_is_trans : (s : Shape) (a b c : Blocks) → LiveIs s a b → LiveIs s b c → LiveIs s a c
live_is_trans s a b c f g j t = let r = g j t in let q = f j r.0 in (q.0, r.1 ∙ q.1)

module _ (s : Shape) (im : Image) where
  erasing_step : (n : ℕ) (im' : Image) (b : ℕ) → Erasing s im n im' → T (is_obsolete s (blocks_of s im') b)
      → Erasing s im (n + 1) (step_done s (erase b) im')
  unfolding obsoletes
  erasing_step n im' b i t =
      record {
        sound = sound s im' i.sound b t;
        same = λ a. same s im' i.sound b t a ∙ i.same a;
        total = omega (arith, fewer s im' i.sound b t, i.total);
        live = live_is_trans s (blocks_of s im) (blocks_of s im') (blocks_of s (step_done s (erase b) im')) i.live (live s im' i.sound b t);
        places = λ l. let r = places s im' i.sound b t l in let q = i.places l in (r.0 ∙ q.0, r.1 ∙ q.1);
        highest = omega (arith, lower s im' i.sound b t, i.highest);
      }

  -- every cut, and which blocks are obsolete at the end
  pub erasing : (xs : List ℕ) (n : ℕ) (im' : Image) → Erasing s im n im' → All (λ x. T (is_obsolete s (blocks_of s im') x)) xs → Distinct xs
      → Along s (Erasing s im) n (map erase xs) im'
      × ((j : ℕ) → T (is_obsolete s (blocks_of s (steps_done s (map erase xs) im')) j) → T (is_obsolete s (blocks_of s im') j) × All (λ x. j ≢ x) xs)
  unfolding steps_done
  erasing [] n im' i a d = (i, λ j t. (t, tt))
  erasing (x ∷ xs) n im' i a d =
      let r = erasing xs (n + 1) (step_done s (erase x) im') (erasing_step n im' x i a.0)
      (all_two (λ y. T (is_obsolete s (blocks_of s im') y)) (λ y. y ≢ x) (λ y. T (is_obsolete s (blocks_of s (step_done s (erase x) im')) y)) xs
      (λ y t ne. still s im' i.sound x a.0 y ne t) a.1 d.0) d.1 in (
        (i, (done s im' i.sound x a.0).allowed, r.0),
        λ j t. let u = r.1 j t in let v = was s im' i.sound x a.0 j u.0 in (v.1, (v.0, u.1)),
      )
