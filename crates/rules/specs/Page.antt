-- The image, its pages, and what a page says.
use Rattle.std.specs.Prelude.{Bool, true, false, ◌&&◌, cond, Option, Some, None, List, ℕ, ◌*◌, eqb}
use Rattle.rules.specs.Bytes.{all255, part}
use Rattle.rules.specs.Spare.{kind_byte, kind_for, number_in, kind_in, address_in, in_table}
use Rattle.rules.specs.declared.kind.Kind.{Kind}
use Rattle.rules.specs.declared.kind.Kind.TheVariants.{Log, Copy}
use Rattle.rules.specs.declared.page.Page.{Page}
use Rattle.rules.specs.declared.page.Page.TheVariants.{Erased, Entry, Junk}

-- a raw dump: the data image and the spare image
pub record Image : Type 0 where
  pub bytes : List ℕ
  pub spare : List ℕ

-- page p is handled as a part of the image that starts at its own byte
abbrev pub page_bytes : Image → ℕ → List ℕ
page_bytes im p = part im.bytes (p * 512) 512

abbrev pub page_spare : Image → ℕ → List ℕ
page_spare im p = part im.spare (p * 16) 16

-- A page is erased when all 528 bytes are 255.
unfoldable pub erased : List ℕ → List ℕ → Bool
erased d t = all255 t && all255 d

-- erased, an entry with the bytes of the spare table, or neither
unfoldable pub page_of : List ℕ → List ℕ → Page
page_of d t =
    cond (erased d t) Erased
    (cond (in_table t) (Entry (number_in t) (kind_for (kind_in t)) (address_in t)) Junk)

unfoldable pub page_at : Image → ℕ → Page
page_at im p = page_of (page_bytes im p) (page_spare im p)

abbrev pub is_erased : Page → Bool
is_erased Erased = true
is_erased (Entry n k a) = false
is_erased Junk = false

abbrev pub is_entry : Page → Bool
is_entry Erased = false
is_entry (Entry n k a) = true
is_entry Junk = false

-- number, kind and logical page of an entry; 0 or no kind of any other page
abbrev pub number_of : Page → ℕ
number_of Erased = 0
number_of (Entry n k a) = n
number_of Junk = 0

abbrev pub kind_of : Page → Option Kind
kind_of Erased = None
kind_of (Entry n k a) = Some k
kind_of Junk = None

abbrev pub address_of : Page → ℕ
address_of Erased = 0
address_of (Entry n k a) = a
address_of Junk = 0

-- ---- kinds, if there are any

abbrev pub is_log : Option Kind → Bool
is_log None = false
is_log (Some Log) = true
is_log (Some Copy) = false

abbrev pub is_copy : Option Kind → Bool
is_copy None = false
is_copy (Some Log) = false
is_copy (Some Copy) = true

abbrev pub same_kind : Option Kind → Option Kind → Bool
same_kind None None = true
same_kind None (Some m) = false
same_kind (Some k) None = false
same_kind (Some k) (Some m) = eqb (kind_byte k) (kind_byte m)
