-- Laws of the search for a logical page.
use mathlib.Core.Path.{◌≡◌, refl, sym, ap, ◌∙◌, subst}
use mathlib.Core.Bool.{Bool, true, false, ◌&&◌, cond}
use mathlib.Core.List.{List, []}
use Prim.Native.Nat.{ℕ, zero, suc, ◌-◌, ◌*◌, ◌<◌}
use native.Mathlib.Nat.{not-suc-le-zero}
use native.Mathlib.Numerals.{sub-one}
use native.Mathlib.Omega.{arith}
use lib.Dec.{eqb}
use borrow.Author.Tests.{eq-eqb, ne_eqb}
use Rattle.std.specs.Prelude.{Option, Some, None, IsSomeAnd}
use Rattle.rules.specs.declared.shape.Shape.{Shape}
use Rattle.rules.specs.declared.block.Block.{Block}
use Rattle.rules.specs.Below.{none}
use Rattle.rules.specs.Bytes.{part}
use Rattle.rules.specs.Spare.{address_in}
use Rattle.rules.specs.Shape.{page_no, block_of, offset_of}
use Rattle.rules.specs.Facts.{image_of}
use Rattle.rules.specs.WellFormed.{Blocks, is_live, live_log, data_block}
use Rattle.rules.specs.Content.{newest, in_log, in_data, or_else, holder}
use Rattle.laws.proofs.Tests.{true_is, false_is}
use Rattle.laws.proofs.Below.{first_below_is, first_below-none}
use Rattle.roles.specs.declared.seats.Seats.{Seats}
use Rattle.roles.specs.Passes.{Recorded, seats}
use Rattle.roles.proofs.Found.{found_is, found_not}
use Rattle.roles.proofs.Seating.{seats_data, data_block_in, found_in}
use Rattle.content.specs.Places.{PlaceIn, log_place, data_place, Holder}

-- the offset that the spare bytes of page i of block b say
abbrev pub offset_in : Shape → List ℕ → ℕ → ℕ → ℕ
offset_in s spare b i = offset_of s (address_in (part spare (page_no s b i * 16) 16))

-- what a call gave, where it gave a value of which P holds
pub given : {P : ℕ → Type 0} (r : Option ℕ) → IsSomeAnd r P → (x : ℕ) × (r ≡ Some x) × P x
given None h = absurd h
given (Some x) h = (x, refl, h)

-- ---- the search backwards: a page, and where it ends

module _ (s : Shape) (spare : List ℕ) (b o : ℕ) where
  step : (i : ℕ) → 0 < i
      → newest s (image_of [] spare) b o i
      ≡ cond (eqb (offset_in s spare b (i - 1)) o) (Some (page_no s b (i - 1))) (newest s (image_of [] spare) b o (i - 1))
  unfolding newest
  step zero h = absurd (not-suc-le-zero h)
  step (suc k) h = rw sub-one

  pub newest_next : (i : ℕ) → 0 < i → (offset_in s spare b (i - 1) ≡ o → ⊥)
      → newest s (image_of [] spare) b o i ≡ newest s (image_of [] spare) b o (i - 1)
  newest_next i h f = step i h ∙ rw (ne_eqb (offset_in s spare b (i - 1)) o f) refl

  pub newest_found : (i : ℕ) → 0 < i → offset_in s spare b (i - 1) ≡ o → newest s (image_of [] spare) b o i ≡ Some (page_no s b (i - 1))
  newest_found i h f = step i h ∙ rw (eq-eqb (offset_in s spare b (i - 1)) o f) refl

  pub newest_none : newest s (image_of [] spare) b o 0 ≡ None
  unfolding newest
  newest_none = refl

-- ---- the scan over the blocks

-- block j is a live log block of logical block l
abbrev pub log_of : Shape → Blocks → ℕ → ℕ → Bool
log_of s c l j = is_live s c j && eqb (c j).logical l

module _ (s : Shape) (spare : List ℕ) {c : Blocks} (l o : ℕ) (r : Recorded s c) where
  pub log_found : (b : ℕ) → b < s.blocks → ((j : ℕ) → j < b → log_of s c l j ≡ false) → log_of s c l b ≡ true
      → log_place s spare c l o ≡ newest s (image_of [] spare) b o (c b).filled
  unfolding live_log
  log_found b h f t =
      let few = r.few in
      let first = first_below_is s.blocks (log_of s c l) b (omega arith) (record { below = h; passes = true_is _ t; first = λ j k. false_is _ (f j k) }) in
      ap (λ (j : ℕ). newest s (image_of [] spare) j o (c j).filled) first

  pub log_none : ((j : ℕ) → j < s.blocks → log_of s c l j ≡ false) → log_place s spare c l o ≡ None
  unfolding live_log newest
  log_none f =
      let few = r.few in
      ap (λ (j : ℕ). newest s (image_of [] spare) j o (c j).filled) (first_below-none s.blocks (log_of s c l) (omega arith) (λ j k. false_is _ (f j k)))
      ∙ ap (λ (x : Block). newest s (image_of [] spare) none o x.filled) (r.outside none (omega arith))

-- ---- the data block

module _ (s : Shape) (c : Blocks) (l o : ℕ) {t : Seats} (e : t ≡ seats s c l) where
  pub data_none : t.«data» ≡ None → data_place s c l o ≡ None
  data_none f = rw (eq-eqb (data_block s c l) none (found_not (sym (seats_data s c l e) ∙ f))) refl

  pub data_at : {b : ℕ} → t.«data» ≡ Some b → data_place s c l o ≡ Some (page_no s b o)
  data_at {b} f =
      let h = found_is (sym (seats_data s c l e) ∙ f) in
      rw (ne_eqb (data_block s c l) none h.1, h.0) refl

  pub data_below : {b : ℕ} → Recorded s c → t.«data» ≡ Some b → b < s.blocks
  data_below r f = found_in s (data_block_in s c l r.few refl) (sym (seats_data s c l e) ∙ f)

-- ---- both

-- whatever the data bytes are
newest_any : (s : Shape) (bytes spare : List ℕ) (b o n : ℕ) → newest s (image_of [] spare) b o n ≡ newest s (image_of bytes spare) b o n
unfolding newest
newest_any s bytes spare b o zero = refl
newest_any s bytes spare b o (suc n) =
    ap (cond (eqb (offset_in s spare b n) o) (Some (page_no s b n))) (newest_any s bytes spare b o n)

module _ (s : Shape) (spare : List ℕ) (c : Blocks) (a : ℕ) {q : Option ℕ} (e : q ≡ log_place s spare c (block_of s a) (offset_of s a)) where
  in_log_lem : (bytes : List ℕ) → q ≡ in_log s (image_of bytes spare) c a
  unfolding in_log
  in_log_lem bytes = e ∙ newest_any s bytes spare _ _ _

  pub holder_log : {p : ℕ} → q ≡ Some p → PlaceIn s q → Holder s spare c a (Some p)
  unfolding holder
  holder_log f h =
      record { is = λ bytes. ap (λ (t : Option ℕ). or_else t (in_data s c a)) (sym f ∙ in_log_lem bytes); inside = subst (PlaceIn s) f h }

  pub holder_data : {r : Option ℕ} → q ≡ None → (r ≡ data_place s c (block_of s a) (offset_of s a)) × PlaceIn s r → Holder s spare c a r
  unfolding holder in_data
  holder_data f h =
      record {
        is = λ bytes. h.0 ∙ ap (λ (t : Option ℕ). or_else t (in_data s c a)) (sym f ∙ in_log_lem bytes);
        inside = h.1;
      }

-- There is one place that is the holder, whatever the data bytes.
pub holder_one : {s : Shape} {spare : List ℕ} {c : Blocks} {a : ℕ} {r r' : Option ℕ} → Holder s spare c a r → Holder s spare c a r' → r ≡ r'
holder_one h k = h.is [] ∙ sym (k.is [])
