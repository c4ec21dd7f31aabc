-- The merge of a logical block: every cut of it, and its end. It is made anew with its own content, so that every page holds what it held.
use mathlib.Core.Path.{◌≡◌, refl, sym, ap, ◌∙◌}
use mathlib.Core.Logic.{◌≢◌, inl, inr}
use Prim.Native.Nat.{ℕ, ◌+◌, ◌*◌, ◌≤◌, ◌<◌}
use native.Mathlib.Omega.{arith}
use lib.ListN.{length}
use borrow.Author.Tests.{eq-eqb, ne_eqb}
use Rattle.rules.specs.declared.shape.Shape.{Shape}
use Rattle.rules.specs.Below.{none}
use Rattle.rules.specs.Spare.{number_limit}
use Rattle.rules.specs.Shape.{page_no, block_of, offset_of, logical_page}
use Rattle.rules.specs.Page.{Image, page_bytes}
use Rattle.rules.specs.WellFormed.{Blocks, data_block, live_log, blocks_of}
use Rattle.rules.specs.Content.{content}
use Rattle.rules.specs.Steps.{steps_done, erases, programs, taken, new_number, contents, merge_list}
use Rattle.laws.proofs.Tests.{dec_eq}
use Rattle.laws.proofs.Bytes.{part_length}
use Rattle.laws.proofs.Shape.{page_no_below, logical_page_of, offset_of_below}
use Rattle.laws.proofs.Roles.{used_below, none_filled, data_used, live_used, has_some, data_block_found, live_log_found, Recovered}
use Rattle.laws.proofs.Content.{content-length}
use Rattle.laws.proofs.Along.{Along}
use Rattle.laws.proofs.Copy.{Copies}
use Rattle.laws.proofs.Erasing.{Sound, content_of}
use Rattle.laws.proofs.Renewal.{renewed, Before, After, renewal_made, renewal_along, renewal_end, renewal-programs}

module _ (s : Shape) (im : Image) (w : Sound s im) (l : ℕ) where
  abbrev c : Blocks
  c = blocks_of s im

  page_length : (b i : ℕ) → b < s.blocks → i < s.pages → length (page_bytes im (page_no s b i)) ≡ 512
  page_length b i h k = part_length im.bytes (page_no s b i * 512) 512 (omega (arith, w.fits.bytes_long, page_no_below s b i h k))

  long : (o : ℕ) → o < s.pages → length (contents s im c l o) ≡ 512
  long o h =
      content-length s (logical_page s l o) (offset_of_below s w.fits.limits (logical_page s l o)) im c
      (λ i k. page_length v i (v_below i k) (omega (arith, w.wf.records.fits v)))
      (λ q. page_length d (offset_of s (logical_page s l o)) (d_below q) (offset_of_below s w.fits.limits (logical_page s l o)))
    where
      m : ℕ
      m = block_of s (logical_page s l o)

      v : ℕ
      v = live_log s c m

      d : ℕ
      d = data_block s c m

      v_below : (i : ℕ) → i < (c v).filled → v < s.blocks
      v_below i k =
          let some : v ≢ none = λ z. omega (arith, none_filled s c w.wf.records, ap (λ (j : ℕ). (c j).filled) z) in
          used_below s c w.wf.records v (live_used s c v (has_some (live_log_found s c w.wf.records m) some).passes)

      d_below : d ≢ none → d < s.blocks
      d_below q = used_below s c w.wf.records d (data_used s c d (has_some (data_block_found s c w.wf.records m) q).passes)

  -- its own content: nothing reads differently
  renewed_same : (a : ℕ) → renewed s l (contents s im c l) (content_of s im) a ≡ content_of s im a
  unfolding renewed
  renewed_same a =
      elim (dec_eq (block_of s a) l) [
        | inl r ↦ rw (eq-eqb (block_of s a) l r) (ap (content s im c) (ap (λ (m : ℕ). logical_page s m (offset_of s a)) (sym r) ∙ logical_page_of s a))
        | inr ne ↦ rw (ne_eqb (block_of s a) l ne) refl
      ]

  as_held : (e : ℕ) (im' : Image) → After s im l (renewed s l (contents s im c l) (content_of s im)) e im' → After s im l (content_of s im) e im'
  as_held e im' r =
      let q = r.0 in (
        record { sound = q.sound; holds = λ a. q.holds a ∙ renewed_same a; live = q.live; highest = q.highest; total = q.total },
        r.1,
      )

  module _ (rec : Recovered s (blocks_of s im)) (hl : l < s.logical) (fit : new_number s (blocks_of s im) ≤ number_limit) where
    -- after m of the pages
    pub merge_made : (m : ℕ) → m ≤ s.pages → Copies s (taken s (blocks_of s im)) (new_number s (blocks_of s im)) l (contents s im (blocks_of s im) l) im m
    merge_made = renewal_made s im w rec l hl fit (contents s im c l) long

    pub merge_along : (I : ℕ → Image → Type 0) → ((e : ℕ) (im' : Image) → Before s im e im' → I e im')
        → ((e : ℕ) (im' : Image) → After s im l (content_of s im) e im' → I e im')
        → Along s I 0 (merge_list s im (blocks_of s im) l) im
    unfolding merge_list
    merge_along I f h = renewal_along s im w rec l hl fit (contents s im c l) long I f (λ e im' r. h e im' (as_held e im' r))

    pub merge_end : After s im l (content_of s im) (0 + erases (merge_list s im (blocks_of s im) l)) (steps_done s (merge_list s im (blocks_of s im) l) im)
        × Recovered s (blocks_of s (steps_done s (merge_list s im (blocks_of s im) l) im))
    unfolding merge_list
    merge_end = let r = renewal_end s im w rec l hl fit (contents s im c l) long in (as_held _ _ r.0, r.1)

pub merge_programs : (s : Shape) (im : Image) (c : Blocks) (l : ℕ) → programs (merge_list s im c l) ≡ s.pages
unfolding merge_list
merge_programs s im c l = renewal-programs s c l (contents s im c l)
