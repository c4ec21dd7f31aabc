-- "Makes the log block complete", from the record before the program.
use mathlib.Core.Path.{◌≡◌, refl, sym, ap, ◌∙◌, subst}
use mathlib.Core.Logic.{inl, inr}
use mathlib.Core.List.{List}
use Prim.Native.Nat.{ℕ, ◌≤◌, ◌<◌}
use native.Mathlib.Omega.{arith}
use lib.Dec.{T}
use lib.ListN.{length}
use borrow.Author.Tests.{ne_eqb}
use Rattle.rules.specs.declared.shape.Shape.{Shape}
use Rattle.rules.specs.declared.kind.Kind.{Kind}
use Rattle.rules.specs.declared.block.Block.{Block}
use Rattle.rules.specs.Page.{Image}
use Rattle.rules.specs.WellFormed.{is_complete, block_at, blocks_of}
use Rattle.rules.specs.Steps.{step_done}
use Rattle.rules.specs.Facts.{Fits}
use Rattle.laws.specs.Foreseen.{completes}
use Rattle.laws.proofs.Records.{blocks_of_at}
use Rattle.laws.proofs.Roles.{free_good, used_good, complete_e}
use Rattle.laws.proofs.Blocks.{one_more, Writable, Joins}
use Rattle.laws.proofs.Change.{changed_same}
use Rattle.laws.proofs.Steps.{next_step, program_done, good_in}

module _ (s : Shape) (x : Block) (n : ℕ) (k : Kind) (a : ℕ) where
  -- of a block with a page or more
  one_more_completes : 0 < x.filled → is_complete s (one_more s x n k a) ≡ completes s x a
  unfolding is_complete
  one_more_completes some = rw (ne_eqb x.filled 0 (λ z. omega arith)) refl

  -- one page is not all of them
  one_more_first : x.filled ≡ 0 → 2 ≤ s.pages → T (is_complete s (one_more s x n k a)) → ⊥
  one_more_first z h t = omega (arith, (complete_e s (one_more s x n k a) t).full)

module _ (s : Shape) (im : Image) (w : Fits s im) (b n : ℕ) (k : Kind) (a : ℕ) (d : List ℕ) (e : Writable n a) (j : Joins s (blocks_of s im b) n k a)
    (long : length d ≡ 512) where
  left : block_at s (step_done s (next_step s im b n k a d) im) b ≡ one_more s (blocks_of s im b) n k a
  left =
      sym (blocks_of_at s (step_done s (next_step s im b n k a d) im) b below)
      ∙ ap (λ (c : ℕ → Block). c b) (program_done s im w b n k a d e j long).blocks ∙ changed_same (blocks_of s im) b (one_more s (blocks_of s im b) n k a)
    where
      below : b < s.blocks
      below =
          elim j.own [
            | inl t ↦ good_in s im w b (free_good (blocks_of s im b).state t)
            | inr t ↦ good_in s im w b (used_good (blocks_of s im b).state t.0)
          ]

  -- The next page of a block with a page or more makes it complete, or not.
  pub next_completes : 0 < (blocks_of s im b).filled
      → is_complete s (block_at s (step_done s (next_step s im b n k a d) im) b) ≡ completes s (blocks_of s im b) a
  next_completes some = ap (is_complete s) left ∙ one_more_completes s (blocks_of s im b) n k a some

  -- Page 0 of a block just taken does not.
  pub first_incomplete : (blocks_of s im b).filled ≡ 0 → T (is_complete s (block_at s (step_done s (next_step s im b n k a d) im) b)) → ⊥
  first_incomplete z t =
      one_more_first s (blocks_of s im b) n k a z w.limits.pages_low (subst (λ (x : Block). T (is_complete s x)) left t)
