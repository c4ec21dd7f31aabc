-- Laws of the spare table: what is written there is read back, and is in the table.
use mathlib.Core.Path.{◌≡◌, refl}
use mathlib.Core.Bool.{Bool, false, ◌||◌, and-false}
use mathlib.Core.Logic.{◌⊎◌, inl, inr, ⊎_elim}
use mathlib.Core.List.{List, [], ◌∷◌}
use Prim.Native.Nat.{ℕ, ◌/◌, ◌%◌, ◌≤◌, ◌<◌}
use native.Mathlib.Nat.{div-div-eq-div-mul, div-add-mod', mod-eq_of_lt}
use native.Mathlib.Omega.{arith}
use borrow.Author.Tests.{ne_eqb}
use lib.Dec.{T, leb, eqb, leb→le, le→leb, eqb→eq}
use lib.ListN.{length, drop}
use Rattle.rules.specs.declared.kind.Kind.{Kind}
use Rattle.rules.specs.declared.kind.Kind.TheVariants.{Log, Copy}
use Rattle.rules.specs.Bytes.{all255}
use Rattle.rules.specs.Spare.{number_limit, log_kind, copy_kind, kind_byte, kind_for, number_in, kind_in, status_in, address_in, in_table, spare_bytes}
use Rattle.laws.proofs.Tests.{or_l, or_r, or_e, chain_each, each_chain, eq→eqb}

-- ---- in_table

-- the byte of a kind
abbrev pub KindByte : ℕ → Type 0
KindByte b = (b ≡ log_kind) ⊎ (b ≡ copy_kind)

pub kind_byte_is : (k : Kind) → KindByte (kind_byte k)
kind_byte_is Log = inl refl
kind_byte_is Copy = inr refl

-- the kind of its byte is the kind
pub kind_for_byte : (k : Kind) → kind_for (kind_byte k) ≡ k
kind_for_byte Log = refl
kind_for_byte Copy = refl

pub record InTable (t : List ℕ) : Type 0 where
  pub number_low : 1 ≤ number_in t
  pub number_high : number_in t ≤ number_limit
  pub kind : KindByte (kind_in t)
  pub status : status_in t ≡ 255
  pub rest : T (all255 (drop 8 t))

is_kind : ℕ → Bool
is_kind k = eqb k log_kind || eqb k copy_kind

-- its tests but the first
tests : List ℕ → List Bool
tests t = leb (number_in t) number_limit ∷ is_kind (kind_in t) ∷ eqb (status_in t) 255 ∷ all255 (drop 8 t) ∷ []

pub facts_in_table : (t : List ℕ) → InTable t → T (in_table t)
unfolding in_table tests is_kind
facts_in_table t f =
    let k : ℕ = kind_in t in
    let kind : T (is_kind k) =
    ⊎_elim (λ e. or_l (eqb k log_kind) (eqb k copy_kind) (eq→eqb _ _ e)) (λ e. or_r (eqb k log_kind) (eqb k copy_kind) (eq→eqb _ _ e)) f.kind in
    each_chain (leb 1 (number_in t)) (tests t) (le→leb _ _ f.number_low)
    (le→leb _ _ f.number_high, (kind, (eq→eqb _ _ f.status, (f.rest, tt))))

pub in_table_facts : (t : List ℕ) → T (in_table t) → InTable t
unfolding in_table tests is_kind
in_table_facts t h =
    let k : ℕ = kind_in t in
    let e = chain_each (leb 1 (number_in t)) (tests t) h in
    record {
      number_low = leb→le _ _ e.0;
      number_high = leb→le _ _ e.1.0;
      kind = ⊎_elim (λ a. inl (eqb→eq _ _ a)) (λ a. inr (eqb→eq _ _ a)) (or_e (eqb k log_kind) (eqb k copy_kind) e.1.1.0);
      status = eqb→eq _ _ e.1.1.1.0;
      rest = e.1.1.1.1.0;
    }

-- ---- spare_bytes

module _ (n k a : ℕ) where
  pub spare_bytes-length : length (spare_bytes n k a) ≡ 16
  unfolding spare_bytes
  spare_bytes-length = refl

  pub spare_bytes_number : n < 4294967296 → number_in (spare_bytes n k a) ≡ n
  unfolding spare_bytes
  spare_bytes_number h =
      let two : n / 256 / 256 ≡ n / 65536 = div-div-eq-div-mul n 256 256 in
      let three : n / 65536 / 256 ≡ n / 16777216 = div-div-eq-div-mul n 65536 256 in
      let top : n / 16777216 % 256 ≡ n / 16777216 = mod-eq_of_lt (omega arith) in
      omega (arith, div-add-mod' n 256, div-add-mod' (n / 256) 256, div-add-mod' (n / 65536) 256)

  pub spare_bytes_kind : kind_in (spare_bytes n k a) ≡ k
  unfolding spare_bytes
  spare_bytes_kind = refl

  pub spare_bytes_status : status_in (spare_bytes n k a) ≡ 255
  unfolding spare_bytes
  spare_bytes_status = refl

  pub spare_bytes_address : a < 65536 → address_in (spare_bytes n k a) ≡ a
  unfolding spare_bytes
  spare_bytes_address h = omega arith

  pub spare_bytes-in_table : 1 ≤ n → n ≤ number_limit → KindByte k → T (in_table (spare_bytes n k a))
  unfolding spare_bytes all255
  spare_bytes-in_table low high kind =
      let e : number_in (spare_bytes n k a) ≡ n = spare_bytes_number (omega arith) in
      facts_in_table (spare_bytes n k a) (record { number_low = omega arith; number_high = omega arith; kind = kind; status = refl; rest = tt })

  -- A programmed page is never taken for an erased one, whatever its data.
  pub spare_bytes_not_255 : KindByte k → all255 (spare_bytes n k a) ≡ false
  unfolding spare_bytes all255
  spare_bytes_not_255 kind =
      let e : eqb k 255 ≡ false = ne_eqb k 255 (λ h. ⊎_elim (λ g. omega arith) (λ g. omega arith) kind) in
      simp (e, and-false)
