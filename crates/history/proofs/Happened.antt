-- A write or block write has happened exactly if its cut number is above the length of what comes before its own program.
use mathlib.Core.Path.{◌≡◌, refl, sym, ap, ◌∙◌}
use mathlib.Core.Logic.{inl, inr}
use mathlib.Core.Bool.{Bool, true, false, ◌&&◌, ◌||◌, or_assoc}
use mathlib.Core.List.{List, [], ◌∷◌, ◌++◌, map}
use Prim.Native.Nat.{ℕ, zero, suc, ◌+◌, ◌-◌, ◌<◌}
use native.Mathlib.Omega.{arith}
use lib.ListN.{length, take, length-append}
use lib.Seq.{take-append-le, take-append-add}
use lib.Dec.{ltb, eqb}
use borrow.Author.Tests.{lt-ltb, le-ltb, eq-eqb, ne_eqb}
use Rattle.rules.specs.declared.shape.Shape.{Shape}
use Rattle.rules.specs.Spare.{log_kind, copy_kind, kind_in, address_in, spare_bytes}
use Rattle.rules.specs.Below.{if_any, list_below}
use Rattle.rules.specs.Shape.{block_of, logical_page}
use Rattle.rules.specs.Page.{Image}
use Rattle.rules.specs.WellFormed.{Blocks, blocks_of, data_block, live_log}
use Rattle.rules.specs.Steps.{Step, erase, taken, new_number, copy_step, copies, renewal, contents, merge_list, Case, room, fresh, merging, merge_first, own_step, log_number, programs, part_of}
use Rattle.rules.specs.Replies.{Reply, carried_out}
use Rattle.laws.proofs.Tests.{is_true, and_i, lt_or_le, eq→eqb}
use Rattle.laws.proofs.Spare.{spare_bytes_kind, spare_bytes_address}
use Rattle.laws.proofs.Along.{programs-append, programs-take, programs-erases}
use Rattle.laws.proofs.Copy.{copies-programs}
use Rattle.history.specs.History.{answered, is_own, own_done, happened, block_happened}
use Rattle.history.proofs.Write.{the_case, pre_steps, pre_image, own, post_erases}
use Rattle.history.proofs.BlockWrite.{copies_first, copy_last, erased_then}
use Rattle.history.proofs.Answers.{BlockWriteTaken, done_number}

-- where a test of the steps done passes from its own program on
behind_own : (done : List Step → Bool) (pre : List Step) (own : Step) (post : List Step) (cut : ℕ) → ((k : ℕ) → done (take k pre) ≡ false)
    → ((i : ℕ) → done (pre ++ (own ∷ take i post)) ≡ true)
    → let r : Reply = carried_out cut (pre ++ (own ∷ post)) in (answered 0 r || (answered 8 r && done r.steps)) ≡ ltb (length pre) cut
behind_own done pre own post cut no_own own_is =
    elim (done_number cut list) [
      | inl q ↦
          ap (λ (n : ℕ). eqb n 0 || (eqb n 8 && done (take cut list))) q.0
          ∙ sym (lt-ltb (length pre) cut (omega (arith, q.1, length-append pre (own ∷ post))))
      | inr q ↦ ap (λ (n : ℕ). eqb n 0 || (eqb n 8 && done (take cut list))) q.0 ∙ own_done_lem
    ]
  where
    list : List Step
    list = pre ++ (own ∷ post)

    own_done_lem : done (take cut list) ≡ ltb (length pre) cut
    own_done_lem =
        elim (lt_or_le (length pre) cut) [
          | inl h ↦
              let e : cut ≡ length pre + suc (cut - suc (length pre)) = omega arith in
              ap (λ (k : ℕ). done (take k list)) e ∙ ap done (take-append-add pre (own ∷ post) (suc (cut - suc (length pre))))
              ∙ own_is (cut - suc (length pre)) ∙ sym (lt-ltb (length pre) cut h)
          | inr h ↦ ap done (take-append-le cut pre (own ∷ post) h) ∙ no_own cut ∙ sym (le-ltb (length pre) cut h)
        ]

-- ---- the own program of a write among the steps done

own_append : (a : ℕ) (ts us : List Step) → own_done a (ts ++ us) ≡ (own_done a ts || own_done a us)
unfolding own_done
own_append a [] us = refl
own_append a (t ∷ ts) us = ap (λ (b : Bool). is_own a t || b) (own_append a ts us) ∙ sym (or_assoc (is_own a t) (own_done a ts) (own_done a us))

own_take : (a k : ℕ) (ts : List Step) → own_done a ts ≡ false → own_done a (take k ts) ≡ false
unfolding own_done
own_take a zero ts e = refl
own_take a (suc k) [] e = refl
own_take a (suc k) (t ∷ ts) e = go (is_own a t) (own_take a k ts) e
  where
    go : (b : Bool) → (own_done a ts ≡ false → own_done a (take k ts) ≡ false) → (b || own_done a ts) ≡ false → (b || own_done a (take k ts)) ≡ false
    go true f e = e
    go false f e = f e

own_erases : (a : ℕ) (xs : List ℕ) → own_done a (map erase xs) ≡ false
unfolding own_done
own_erases a [] = refl
own_erases a (x ∷ xs) = own_erases a xs

own_copies : (s : Shape) (a fb n l : ℕ) (page : ℕ → List ℕ) (m : ℕ) → own_done a (list_below m (copy_step s fb n l page)) ≡ false
unfolding own_done list_below
own_copies s a fb n l page zero = refl
own_copies s a fb n l page (suc m) =
    own_append a (list_below m (copy_step s fb n l page)) (copy_step s fb n l page m ∷ [])
    ∙ ap (λ (b : Bool). b || (is_own a (copy_step s fb n l page m) || false)) (own_copies s a fb n l page m)
    ∙ ap (λ (k : ℕ). (eqb k log_kind && eqb (address_in (spare_bytes n copy_kind (logical_page s l m))) a) || false)
    (spare_bytes_kind n copy_kind (logical_page s l m))

own_before : (s : Shape) (im : Image) (c : Blocks) (a : ℕ) (k : Case) → own_done a (merge_first s im c k) ≡ false
unfolding merge_list renewal copies own_done
own_before s im c a room = refl
own_before s im c a fresh = refl
own_before s im c a (merging m) =
    let page : ℕ → List ℕ = contents s im c m in
    let ts : List Step = list_below s.pages (copy_step s (taken s c) (new_number s c) m page) in
    own_append a ts (map erase (if_any (live_log s c m) ++ if_any (data_block s c m)))
    ∙ rw (own_copies s a (taken s c) (new_number s c) m page s.pages) (own_erases a (if_any (live_log s c m) ++ if_any (data_block s c m)))

module _ (s : Shape) (im : Image) (a : ℕ) (d : List ℕ) (small : a < 65536) (cut : ℕ) where
  own_is : is_own a (own s im a d) ≡ true
  unfolding own_step
  own_is =
      let n : ℕ = log_number s (blocks_of s (pre_image s im a d)) (the_case s im a d) (block_of s a) in
      is_true (is_own a (own s im a d))
      (and_i (eqb (kind_in (spare_bytes n log_kind a)) log_kind) (eqb (address_in (spare_bytes n log_kind a)) a)
      (eq→eqb (kind_in (spare_bytes n log_kind a)) log_kind (spare_bytes_kind n log_kind a))
      (eq→eqb (address_in (spare_bytes n log_kind a)) a (spare_bytes_address n log_kind a small)))

  no_own : own_done a (pre_steps s im a d) ≡ false
  no_own = own_before s im (blocks_of s im) a (the_case s im a d)

  pub happened_is : happened a (carried_out cut (pre_steps s im a d ++ (own s im a d ∷ map erase (post_erases s im a d))))
      ≡ ltb (length (pre_steps s im a d)) cut
  unfolding happened own_done
  happened_is =
      behind_own (own_done a) (pre_steps s im a d) (own s im a d) (map erase (post_erases s im a d)) cut
      (λ k. own_take a k (pre_steps s im a d) no_own)
      (λ i. own_append a (pre_steps s im a d) (own s im a d ∷ take i (map erase (post_erases s im a d))) ∙ rw (no_own, own_is) refl)

-- ---- the last page of a block write among the steps done

pub block_happened_is : (s : Shape) (im : Image) (l : ℕ) (d : List ℕ) (cut : ℕ) → BlockWriteTaken s im (length d) l
    → block_happened s (carried_out cut (copies_first s im l d ++ (copy_last s im l d ∷ map erase (erased_then s im l d))))
    ≡ ltb (length (copies_first s im l d)) cut
unfolding block_happened
block_happened_is s im l d cut t =
    behind_own (λ ts. eqb (programs ts) s.pages) pre (copy_last s im l d) post cut
    (λ k. ne_eqb (programs (take k pre)) s.pages (λ e. omega (arith, programs-take k pre, all, t.sound.fits.limits.pages_low)))
    (λ i. eq-eqb (programs (pre ++ (copy_last s im l d ∷ take i post))) s.pages (omega (
      arith,
      programs-append pre (copy_last s im l d ∷ take i post),
      all,
      t.sound.fits.limits.pages_low,
      programs-take i post,
      programs-erases (erased_then s im l d),
    )))
  where
    pre : List Step
    pre = copies_first s im l d

    post : List Step
    post = map erase (erased_then s im l d)

    all : programs pre ≡ s.pages - 1
    all = copies-programs s (taken s (blocks_of s im)) (new_number s (blocks_of s im)) l (part_of d) (s.pages - 1)
