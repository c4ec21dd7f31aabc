-- The data bytes asked in groups, of which a page has so many that no byte is left.
use mathlib.Core.Path.{◌≡◌, refl, ap, subst, ◌∙◌}
use mathlib.Core.Bool.{Bool, true, false}
use mathlib.Core.List.{List}
use Prim.Native.Nat.{ℕ, zero, suc, ◌+◌, ◌*◌, ◌/◌, ◌<◌, ◌≤◌}
use native.Mathlib.Nat.{zero-mul}
use native.Mathlib.Omega.{arith}
use lib.ListN.{length, take}
use lib.Seq.{take_all}
use Rattle.std.proofs.Common.{Bor}
use Rattle.std.specs.Prelude.{Option, Some, None, IfSome, IsSomeAnd, IsTrue, MatchBool}
use Rattle.std.specs.Option.{option_map}
use Rattle.std.specs.List.{IsSubsliceAt}
use Rattle.std.specs.Iterator.Runs.{Run, IsChunksExactRun, AllItems, AnyItem}
use Rattle.rules.specs.Bytes.{all255, part}
use Rattle.laws.proofs.Bytes.{all255-none, group_next, group_differs}

-- what is said of each group is said of one that is there
said : (P : Bor (List ℕ) → Type 0) {y : Bor (List ℕ)} (o : Option (Bor (List ℕ))) → option_map (λ x. x) o ≡ Some y → IfSome o P → IsSomeAnd o P
said P None e h = absurd (cc)
said P (Some x) e h = h

pub some_then : {P Q : Bor (List ℕ) → Type 0} (o : Option (Bor (List ℕ))) → IsSomeAnd o P → ((x : Bor (List ℕ)) → P x → Q x) → IsSomeAnd o Q
some_then None h f = h
some_then (Some x) h f = f x h

module _ (xs : List ℕ) (n : ℕ) where
  -- group k is the n bytes from place n k on
  group : {r : Bool} (k : ℕ) (o : Option (Bor (List ℕ)))
      → IfSome o (λ x. (length x.now ≡ n) × (k * n + n ≤ length xs) × IsSubsliceAt n xs (k * n) x.now)
      → IsSomeAnd o (λ x. r ≡ all255 x.now) → r ≡ all255 (part xs (k * n) n)
  group k None h t = absurd t
  group k (Some x) h t = t ∙ ap all255 h.2.0

  groups : (m : ℕ) → ((k : ℕ) → k < m → true ≡ all255 (part xs (k * n) n)) → true ≡ all255 (take (m * n) xs)
  groups zero f = rw (zero-mul n) (all255-none xs)
  groups (suc m) f =
      let next : m + 1 ≡ suc m = omega arith in
      subst (λ (i : ℕ). true ≡ all255 (take (i * n) xs)) next (group_next xs n m (f m (omega arith)) (groups m (λ k h. f k (omega arith))) refl)

module _ {S : Type 0} {steps : S → Option (Bor (List ℕ)) → S → Type 0} (p : Run steps) (page : Bor (List ℕ)) (n : ℕ)
    (long : length page.now ≡ 512) (full : 512 / n * n ≡ 512) (cut : IsChunksExactRun p n page.now) where
  every : IsTrue p.whole → AllItems p (λ x. true ≡ all255 x.now) → true ≡ all255 page.now
  every w f =
      let all : p.len ≡ 512 / n = cut.1 w ∙ ap (λ (m : ℕ). m / n) long in
      let end : p.len * n ≡ 512 = ap (λ (m : ℕ). m * n) all ∙ full in
      groups page.now n p.len (λ k h. group page.now n k (p.at k) (cut.2 k) (said _ (p.at k) (p.reads k page (omega arith)) (f k)))
      ∙ ap all255 (take_all (p.len * n) page.now (omega arith))

  -- what the test of each group says of the page, where A and B are what it says of the groups
  pub groups_told : {A B : Type 0} (r : Bool) → MatchBool r (IsTrue p.whole × A) B → (A → AllItems p (λ x. true ≡ all255 x.now))
      → (B → AnyItem p (λ x. false ≡ all255 x.now)) → r ≡ all255 page.now
  groups_told true h f g = every h.0 (f h.1)
  groups_told false h f g = let any = g h in group_differs page.now n any.0 (group page.now n any.0 (p.at any.0) (cut.2 any.0) any.2) refl
