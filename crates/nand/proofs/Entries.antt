-- Sixteen spare bytes by fours.
use mathlib.Core.Path.{◌≡◌, refl, sym, ap, subst, ◌∙◌}
use mathlib.Core.Logic.{inl, inr, ⊎_elim}
use mathlib.Core.Bool.{Bool, true, false, ◌&&◌, cond}
use mathlib.Core.List.{List, [], ◌∷◌}
use Prim.Native.Nat.{ℕ, suc, ◌+◌, ◌*◌, ◌≤◌, ◌<◌}
use native.Mathlib.Omega.{arith}
use lib.Dec.{T, eqb, eqb→eq}
use lib.ListN.{length, take, drop, length-drop}
use lib.Seq.{take_all, drop-cons, drop-drop}
use Rattle.rules.specs.Bytes.{all255, byte, part}
use Rattle.std.specs.Prelude.{Option, Some, None, Result, Ok, Err, ◌||◌, is_some, MatchOption, ⊤}
use Rattle.std.specs.Result.{result_ok}
use borrow.Author.Tests.{ne_eqb}
use Rattle.rules.specs.declared.kind.Kind.{Kind}
use Rattle.rules.specs.declared.kind.Kind.TheVariants.{Log, Copy}
use Rattle.rules.specs.declared.kind.UnknownKind.{UnknownKind}
use Rattle.rules.specs.declared.page.Page.TheVariants.{Entry}
use Rattle.rules.specs.Spare.{Reads, log_kind, copy_kind, kind_for, number_in, kind_in, status_in, address_in, in_table}
use Rattle.laws.proofs.Tests.{lt_or_le, bool_ext, eq→eqb, chain_each, each_chain}
use Rattle.laws.proofs.Bytes.{all255_more, all255_at, part_length}
use Rattle.laws.proofs.Spare.{InTable, KindByte, facts_in_table, in_table_facts}
use Rattle.nand.specs.Entries.{Word, OfTable, kind_told, is_entry_of}

-- the kind that a byte is read as
pub kind_read : (b : ℕ) (r : Result Kind UnknownKind) → Reads b r → result_ok r ≡ kind_told b
kind_read b (Ok Log) e = rw (← e) refl
kind_read b (Ok Copy) e = rw (← e) refl
kind_read b (Err x) (_, no_log, no_copy) = rw (ne_eqb b log_kind no_log, ne_eqb b copy_kind no_copy) refl

-- whether it names one
pub kind_named : (b : ℕ) → is_some (kind_told b) ≡ (eqb b log_kind || eqb b copy_kind)
kind_named b = go (eqb b log_kind) (eqb b copy_kind)
  where
    go : (l c : Bool) → is_some (cond l (Some Log) (cond c (Some Copy) None)) ≡ (l || c)
    go true c = refl
    go false true = refl
    go false false = refl

-- bytes of the table name their kind
pub kind_of_table : (t : List ℕ) → T (in_table t) → kind_told (kind_in t) ≡ Some (kind_for (kind_in t))
kind_of_table t h = ⊎_elim (λ e. rw e refl) (λ e. rw e refl) (in_table_facts t h).kind

pub entry_of_table : (t : List ℕ) {k : Kind} → Some k ≡ kind_told (kind_in t) → T (in_table t)
    → Entry (number_in t) k (address_in t) ≡ Entry (number_in t) (kind_for (kind_in t)) (address_in t)
entry_of_table t {k} e h = let same : Some k ≡ Some (kind_for (kind_in t)) = e ∙ kind_of_table t h in cc

-- those that name none are not of the table
pub no_kind : (t : List ℕ) → None ≡ kind_told (kind_in t) → T (in_table t) → ⊥
no_kind t e h = subst (λ (o : Option Kind). MatchOption o ⊤ (λ _. ⊥)) (e ∙ kind_of_table t h) tt

part-cons : (t : List ℕ) (i j n : ℕ) → i < length t → j ≡ i + 1 → part t i (suc n) ≡ byte t i ∷ part t j n
part-cons t i j n h e =
    let next : suc i ≡ j = omega arith in
    ap (take (suc n)) (drop-cons t i 0 h) ∙ ap (λ (k : ℕ). byte t i ∷ part t k n) next

-- four bytes of 255
word_255 : (t : List ℕ) (i : ℕ) {w : ℕ} → i + 4 ≤ length t → Word t i w → eqb w 4294967295 ≡ all255 (part t i 4)
unfolding all255
word_255 t i {w} h u =
    let a : ℕ = byte t i in
    let b : ℕ = byte t (i + 1) in
    let c : ℕ = byte t (i + 2) in
    let d : ℕ = byte t (i + 3) in
    let four : part t i 4 ≡ a ∷ b ∷ c ∷ d ∷ [] =
    part-cons t i (i + 1) 3 (omega arith) refl
    ∙ ap (λ (l : List ℕ). a ∷ l) (part-cons t (i + 1) (i + 2) 2 (omega arith) (omega arith)
    ∙ ap (λ (l : List ℕ). b ∷ l) (part-cons t (i + 2) (i + 3) 1 (omega arith) (omega arith)
    ∙ ap (λ (l : List ℕ). c ∷ l) (part-cons t (i + 3) (i + 4) 0 (omega arith) (omega arith)))) in
    let long : length (part t i 4) ≡ 4 = part_length t i 4 h in
    bool_ext (eqb w 4294967295) (all255 (part t i 4))
    (λ q. let e : w ≡ 4294967295 = eqb→eq w 4294967295 q in
    let e₀ : a ≡ 255 = omega (arith, u.is, u.small_0, u.small_1, u.small_2, u.small_3) in
    let e₁ : b ≡ 255 = omega (arith, u.is, u.small_0, u.small_1, u.small_2, u.small_3) in
    let e₂ : c ≡ 255 = omega (arith, u.is, u.small_0, u.small_1, u.small_2, u.small_3) in
    let e₃ : d ≡ 255 = omega (arith, u.is, u.small_0, u.small_1, u.small_2, u.small_3) in
    rw (four, e₀, e₁, e₂, e₃) tt)
    (λ q. let at : (j : ℕ) → j < 4 → byte (a ∷ b ∷ c ∷ d ∷ []) j ≡ 255 =
    λ j k. ap (λ (l : List ℕ). byte l j) (sym four) ∙ all255_at (part t i 4) j q (omega arith) in
    let e₀ : a ≡ 255 = at 0 (omega arith) in
    let e₁ : b ≡ 255 = at 1 (omega arith) in
    let e₂ : c ≡ 255 = at 2 (omega arith) in
    let e₃ : d ≡ 255 = at 3 (omega arith) in
    let e : w ≡ 4294967295 = omega (arith, u.is) in
    eq→eqb w 4294967295 e)

-- two digits of base 256, or the lowest and all the others
digits : (a b x y : ℕ) → a < 256 → b < 256 → a + x * 256 ≡ b + y * 256 → (a ≡ b) × (x ≡ y)
digits a b x y small small' e =
    elim (lt_or_le x y) [
      | inl h ↦ absurd (omega arith)
      | inr h ↦ elim (lt_or_le y x) [
        | inl k ↦ absurd (omega arith)
        | inr k ↦ (omega arith, omega arith)
      ]
    ]

rest_255 : (t : List ℕ) → length t ≡ 16 → all255 (drop 8 t) ≡ (all255 (part t 8 4) && all255 (part t 12 4))
rest_255 t long =
    let short : length (drop 8 t) ≤ 8 = simp length-drop (omega arith) in
    ap all255 (sym (take_all 8 (drop 8 t) short)) ∙ all255_more (drop 8 t) 4 4
    ∙ ap (λ (l : List ℕ). all255 (part t 8 4) && all255 (take 4 l)) (drop-drop 4 8 t)

module _ (t : List ℕ) (n k a : ℕ) (long : length t ≡ 16) (o : OfTable n) (byte_of : KindByte k) {w₀ w₁ w₂ w₃ : ℕ} (u₀ : Word t 0 w₀) (u₁ : Word t 4 w₁) (u₂ : Word t 8 w₂)
    (u₃ : Word t 12 w₃) where
  rest : (eqb w₂ 4294967295 && eqb w₃ 4294967295) ≡ all255 (drop 8 t)
  rest = rw (word_255 t 8 (omega arith) u₂, word_255 t 12 (omega arith) u₃) (sym (rest_255 t long))

  small : k < 256
  small = ⊎_elim (λ e. omega arith) (λ e. omega arith) byte_of

  pub entry_told : (eqb w₀ n && eqb w₁ (k + 65280 + a * 65536) && (eqb w₂ 4294967295 && eqb w₃ 4294967295)) ≡ is_entry_of t n k a
  unfolding is_entry_of
  entry_told =
      let m : ℕ = k + 65280 + a * 65536 in
      let r : Bool = eqb w₂ 4294967295 && eqb w₃ 4294967295 in
      let fields : List Bool = eqb (number_in t) n ∷ eqb (kind_in t) k ∷ eqb (address_in t) a ∷ [] in
      bool_ext (eqb w₀ n && eqb w₁ m && r) (is_entry_of t n k a)
      (λ q. let (q₀, (q₁, (q₂, _))) = chain_each (eqb w₀ n) (eqb w₁ m ∷ r ∷ []) q in
      let e : w₀ ≡ n = eqb→eq w₀ n q₀ in
      let f : w₁ ≡ m = eqb→eq w₁ m q₁ in
      let number : number_in t ≡ n = sym u₀.is ∙ e in
      let (kind, upper) = digits (kind_in t) k (status_in t + address_in t * 256) (255 + a * 256) u₁.small_0 small (omega (arith, f, u₁.is)) in
      let (status, address) = digits (status_in t) 255 (address_in t) a u₁.small_1 (omega arith) upper in
      let table : InTable t =
      record { number_low = omega (arith, o.low); number_high = omega (arith, o.high); kind = rw kind byte_of; status = status; rest = subst T rest q₂ } in
      each_chain (in_table t) fields (facts_in_table t table) (eq→eqb _ _ number, (eq→eqb _ _ kind, (eq→eqb _ _ address, tt))))
      (λ q. let (q₀, (q₁, (q₂, (q₃, _)))) = chain_each (in_table t) fields q in
      let table = in_table_facts t q₀ in
      let e : w₀ ≡ n = u₀.is ∙ eqb→eq (number_in t) n q₁ in
      let f : w₁ ≡ m = omega (arith, u₁.is, eqb→eq (kind_in t) k q₂, table.status, eqb→eq (address_in t) a q₃) in
      each_chain (eqb w₀ n) (eqb w₁ m ∷ r ∷ []) (eq→eqb w₀ n e) (eq→eqb w₁ m f, (subst T (sym rest) table.rest, tt)))
