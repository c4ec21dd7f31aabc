-- Laws of read and lend.
use mathlib.Core.Path.{◌≡◌, sym, ap, ◌∙◌}
use mathlib.Core.Bool.{Bool}
use mathlib.Core.List.{List, []}
use Prim.Native.Nat.{ℕ}
use lib.Dec.{eqb}
use lib.ListN.{length}
use Rattle.std.specs.Prelude.{Option, Some, None}
use Rattle.rules.specs.declared.shape.Shape.{Shape}
use Rattle.rules.specs.declared.refusal.Refusal.{Refusal}
use Rattle.rules.specs.declared.answer.Answer.TheVariants.{Done, Refused}
use Rattle.rules.specs.Shape.{in_range}
use Rattle.rules.specs.Page.{Image}
use Rattle.rules.specs.Facts.{Fits}
use Rattle.rules.specs.WellFormed.{blocks_of}
use Rattle.rules.specs.Content.{holder, content}
use Rattle.rules.specs.Replies.{Reply, refused_by, carried_out, read_refusal, read_reply, page_left, lent_page}
use Rattle.rules.specs.Promises.{LentIn, ReadDone}
use Rattle.content.specs.Places.{PlaceIn}
use Rattle.laws.proofs.First.{unless_some, unless_none}
use Rattle.refusals.specs.Orders.{open_refusal}
use Rattle.refusals.proofs.Refusing.{read_order}

-- ---- read

-- the refusal that the opening finds
pub read_opened : (s : Shape) (im : Image) (size a : ℕ) {q : Option Refusal} {ranged : Bool} → open_refusal s im (eqb size 512) ranged ≡ q
    → ranged ≡ in_range s a → read_refusal s im (blocks_of s im) size a ≡ q
read_opened s im size a e f = read_order s im size a ∙ sym (ap (open_refusal s im (eqb size 512)) f) ∙ e

module _ (s : Shape) (im : Image) (old : List ℕ) (a : ℕ) where
  pub read_refused : {r : Refusal} → read_refusal s im (blocks_of s im) (length old) a ≡ Some r → ReadDone s im old a (Refused r) old
  unfolding read_reply page_left
  read_refused q =
      record {
        answer = sym (ap (λ (r : Reply). r.answer) (unless_some refused_by (carried_out 0 []) q));
        page_left = sym (unless_some (λ r. old) (content s im (blocks_of s im) a) q);
      }

  pub read_done : {page : List ℕ} → read_refusal s im (blocks_of s im) (length old) a ≡ None → page ≡ content s im (blocks_of s im) a
      → ReadDone s im old a (Done 0 0) page
  unfolding read_reply page_left
  read_done q e =
      record {
        answer = sym (ap (λ (r : Reply). r.answer) (unless_none refused_by (carried_out 0 []) q));
        page_left = e ∙ sym (unless_none (λ r. old) (content s im (blocks_of s im) a) q);
      }

-- ---- lending

module _ (s : Shape) (im : Image) where
  pub lent_in : (q : Option ℕ) → Fits s im → PlaceIn s q → LentIn s im q
  lent_in (Some p) w h = (w, h)
  lent_in None w h = tt

module _ (s : Shape) (im : Image) (a : ℕ) where
  pub lent_refused : {r : Refusal} → read_refusal s im (blocks_of s im) 512 a ≡ Some r → ◌≡◌ {A = Option ℕ} None (lent_page s im a)
  unfolding lent_page
  lent_refused q = sym (unless_some (λ r. None) (holder s im (blocks_of s im) a) q)

  pub lent_done : {p : Option ℕ} → read_refusal s im (blocks_of s im) 512 a ≡ None → p ≡ holder s im (blocks_of s im) a → p ≡ lent_page s im a
  unfolding lent_page
  lent_done q e = e ∙ sym (unless_none (λ r. None) (holder s im (blocks_of s im) a) q)
