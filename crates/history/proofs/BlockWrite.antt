-- A block write: every cut of it, and its end. Its own program is that of the last page.
use mathlib.Core.Path.{◌≡◌, refl}
use mathlib.Core.Logic.{inl, inr}
use mathlib.Core.List.{List, ◌∷◌, ◌++◌, map}
use Prim.Native.Nat.{ℕ, ◌*◌}
use native.Mathlib.Omega.{arith}
use lib.ListN.{length}
use lib.Dec.{ltb→lt}
use Rattle.rules.specs.declared.shape.Shape.{Shape}
use Rattle.rules.specs.Page.{Image}
use Rattle.rules.specs.WellFormed.{blocks_of}
use Rattle.rules.specs.Steps.{Step, erase, part_of, block_write_list}
use Rattle.laws.proofs.Bytes.{part_length}
use Rattle.laws.proofs.Erasing.{content_of}
use Rattle.laws.proofs.Renewal.{renewed, pages_first, page_last, old_blocks, renewal_is, renewal_halves}
use Rattle.history.proofs.Cost.{log_pages_is}
use Rattle.history.proofs.Plan.{NotYet, Happened, PlanOk, renewing_mid, renewing_not_yet}
use Rattle.history.proofs.Answers.{BlockWriteTaken}

module _ (s : Shape) (im : Image) (l : ℕ) (d : List ℕ) where
  abbrev pub copies_first : List Step
  copies_first = pages_first s (blocks_of s im) l (part_of d)

  abbrev pub copy_last : Step
  copy_last = page_last s (blocks_of s im) l (part_of d)

  abbrev pub erased_then : List ℕ
  erased_then = old_blocks s (blocks_of s im) l

  pub block_write_is : BlockWriteTaken s im (length d) l → block_write_list s (blocks_of s im) l d ≡ copies_first ++ (copy_last ∷ map erase erased_then)
  unfolding block_write_list
  block_write_is t = renewal_is s (blocks_of s im) l (part_of d) (omega (arith, t.sound.fits.limits.pages_low))

  -- the P writes that it counts for pay for its two erases, whatever else a plan may say
  pub block_write_ok : {Any : Type 0} → BlockWriteTaken s im (length d) l
      → PlanOk s im copies_first copy_last erased_then (renewed s l (part_of d) (content_of s im)) l Any s.pages
  block_write_ok {Any} t =
      let r = renewal_halves s im t.sound t.clean l (ltb→lt l s.logical t.inside) t.fit (part_of d)
      (λ o h. part_length d (o * 512) 512 (omega (arith, t.long)))
      (NotYet s im Any) (Happened s im (renewed s l (part_of d) (content_of s im)) l Any s.pages) (renewing_not_yet s im)
      (λ e im' r. renewing_mid s im e im' r.0
      (inr (inl (omega (arith, log_pages_is s (blocks_of s im) (blocks_of s im') r.0.live), r.0.total)))) in
      record { before = r.0; after = r.2; ends = r.3; allowed = r.1; programs = refl }
