-- The pages of a logical block programmed in order into a free block: what each leaves.
use mathlib.Core.Path.{◌≡◌, refl, sym, ap, ◌∙◌, subst}
use mathlib.Core.Logic.{◌≢◌, inr}
use mathlib.Core.Bool.{true}
use mathlib.Core.List.{List, [], ◌∷◌}
use Prim.Native.Nat.{ℕ, zero, suc, ◌≤◌, ◌<◌}
use native.Mathlib.Omega.{arith}
use native.Mathlib.Nat.{le_refl}
use lib.ListN.{length}
use lib.Dec.{T}
use Rattle.std.specs.Prelude.{Some, None}
use Rattle.rules.specs.declared.shape.Shape.{Shape}
use Rattle.rules.specs.declared.kind.Kind.TheVariants.{Copy}
use Rattle.rules.specs.declared.block.State.TheVariants.{Free}
use Rattle.rules.specs.declared.block.Block.{Block}
use Rattle.rules.specs.Below.{list_below}
use Rattle.rules.specs.Bytes.{all255}
use Rattle.rules.specs.Spare.{number_limit, copy_kind, spare_bytes}
use Rattle.rules.specs.Shape.{page_no, logical_page}
use Rattle.rules.specs.Page.{Image, page_bytes}
use Rattle.rules.specs.WellFormed.{not_used, is_free, is_bad, block_at, blocks_of}
use Rattle.rules.specs.Steps.{Step, step_done, steps_done, erases, programs, copy_step}
use Rattle.rules.specs.Facts.{Fits}
use Rattle.laws.proofs.Tests.{false_is}
use Rattle.laws.proofs.Below.{list_below-zero, list_below-suc}
use Rattle.laws.proofs.Shape.{page_no_below, page_no_block}
use Rattle.laws.proofs.Spare.{spare_bytes-length, spare_bytes_status, spare_bytes_not_255}
use Rattle.laws.proofs.Pages.{steps_done-append}
use Rattle.laws.proofs.Records.{blocks_of_at, pages_of_at}
use Rattle.laws.proofs.Filled.{used_with}
use Rattle.laws.proofs.Blocks.{blank_block_at, free_block_filled, block_at_same, Copied, copies_copied, copies-block_at}
use Rattle.laws.proofs.Change.{changed}
use Rattle.laws.proofs.Content.{SamePages}
use Rattle.laws.proofs.Along.{Allowed, Along, erases-append, programs-append, along_append}
use Rattle.laws.proofs.Steps.{blocks_changed, page_at-erased}

-- the pages page 0, page 1, .. into block fb, with number n, as copy of l
module _ (s : Shape) (fb n l : ℕ) (page : ℕ → List ℕ) where
  abbrev pub first : ℕ → List Step
  first m = list_below m (copy_step s fb n l page)

  -- after m of them
  abbrev pub copied : ℕ → Image → Image
  copied m im = steps_done s (first m) im

  -- the record of fb then
  abbrev pub copy_record : ℕ → Block
  copy_record zero = not_used Free
  copy_record (suc m) = used_with n (Some Copy) l (suc m) true

  pub copy_record_filled : (m : ℕ) → (copy_record m).filled ≡ m
  copy_record_filled zero = refl
  copy_record_filled (suc m) = refl

  pub copy_record_some : (m : ℕ) → 0 < m → copy_record m ≡ used_with n (Some Copy) l m true
  copy_record_some zero h = absurd (omega arith)
  copy_record_some (suc m) h = refl

  pub copies-erases : (m : ℕ) → erases (first m) ≡ 0
  copies-erases zero = ap erases (list_below-zero (copy_step s fb n l page))
  copies-erases (suc m) =
      ap erases (list_below-suc m (copy_step s fb n l page)) ∙ omega (arith, erases-append (first m) (copy_step s fb n l page m ∷ []), copies-erases m)

  pub copies-programs : (m : ℕ) → programs (first m) ≡ m
  copies-programs zero = ap programs (list_below-zero (copy_step s fb n l page))
  copies-programs (suc m) =
      ap programs (list_below-suc m (copy_step s fb n l page)) ∙ omega (arith, programs-append (first m) (copy_step s fb n l page m ∷ []), copies-programs m)

  pub copied_next : (m : ℕ) (im : Image) → copied (suc m) im ≡ step_done s (copy_step s fb n l page m) (copied m im)
  unfolding steps_done
  copied_next m im =
      ap (λ (ts : List Step). steps_done s ts im) (list_below-suc m (copy_step s fb n l page))
      ∙ steps_done-append s (first m) (copy_step s fb n l page m ∷ []) im

  -- the image after m of them
  pub record Copies (im : Image) (m : ℕ) : Type 0 where
    pub fits : Fits s (copied m im)
    pub blocks : blocks_of s (copied m im) ≡ changed (blocks_of s im) fb (copy_record m)
    pub others : (j : ℕ) → j ≢ fb → SamePages s im (copied m im) j s.pages
    pub pages : (o : ℕ) → o < m → page_bytes (copied m im) (page_no s fb o) ≡ page o
    pub next : m < s.pages → Allowed s (copy_step s fb n l page m) (copied m im)

  module _ (im : Image) (w : Fits s im) (below : fb < s.blocks) (fr : T (is_free (blocks_of s im fb).state)) (low : 1 ≤ n) (high : n ≤ number_limit)
      (hl : l < s.logical) (few : s.logical ≤ s.blocks) (long : (o : ℕ) → o < s.pages → length (page o) ≡ 512) where
    free_read : T (is_free (block_at s im fb).state)
    free_read = subst (λ (x : Block). T (is_free x.state)) (blocks_of_at s im fb below) fr

    is_copied : (m : ℕ) → m ≤ s.pages → Copied s im fb n l page m (copied m im)
    is_copied = copies_copied s im w fb below free_read low high hl few page long

    record_at : (m : ℕ) → m ≤ s.pages → block_at s (copied m im) fb ≡ copy_record m
    unfolding steps_done list_below
    record_at zero h = blank_block_at s im fb (free_block_filled s im fb free_read 0 None 0)
    record_at (suc m) h = copies-block_at s im w fb below free_read low high hl few page long (suc m) (omega arith) h

    pub copies_is : (m : ℕ) → m ≤ s.pages → Copies im m
    copies_is m h =
        let q = is_copied m h in
        record {
          fits = q.fits;
          blocks =
              blocks_changed s im (copied m im) fb (copy_record m) below (record_at m h)
              (λ j ne. block_at_same s (copied m im) im w.limits.pages_low j (λ i k. q.others j i ne k));
          others = λ j ne i k. let o = q.others j i ne k in (o.bytes_are, o.spare_are);
          pages = q.bytes;
          next = λ k. record {
            page = record {
              page_in = page_no_below s fb m below k;
              bytes_long = long m k;
              spare_long =
                  spare_bytes-length n copy_kind (logical_page s l m);
            };
            erased = page_at-erased (copied m im) (page_no s fb m) (sym (pages_of_at s (copied m im) fb m k) ∙ q.filled.pages.blank m (le_refl m) k);
            good = λ t. q.filled.good (subst (λ (b : ℕ). T (is_bad s (copied m im) b)) (page_no_block s fb m k) t);
            programmed = false_is (all255 (spare_bytes n copy_kind (logical_page s l m))) (spare_bytes_not_255 n copy_kind (logical_page s l m) (inr refl));
            status = spare_bytes_status n copy_kind (logical_page s l m);
          };
        }

    -- what holds after each of them holds along the list
    pub copies_along : (I : ℕ → Image → Type 0) (m : ℕ) → m ≤ s.pages → ((k : ℕ) → k ≤ m → I 0 (copied k im)) → Along s I 0 (first m) im
    unfolding steps_done list_below
    copies_along I zero h f = f 0 (omega arith)
    copies_along I (suc m) h f =
        let last : Along s I 0 (copy_step s fb n l page m ∷ []) (copied m im) =
        (f m (omega arith), (copies_is m (omega arith)).next (omega arith), subst (I 0) (copied_next m im) (f (suc m) (le_refl (suc m)))) in
        along_append s I 0 (first m) (copy_step s fb n l page m ∷ []) im (copies_along I m (omega arith) (λ k q. f k (omega arith)))
        (subst (λ (e : ℕ). Along s I e (copy_step s fb n l page m ∷ []) (copied m im)) (omega (arith, copies-erases m)) last)
