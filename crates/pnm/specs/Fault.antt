-- the first fault of bytes that aren't a picture
use Rattle.std.specs.Prelude.{ℕ, ◌-◌, ◌*◌, ◌==◌, ◌||◌, ◌&&◌, not, nat_lt, Bool, true, false, Option, Some, None, List, [], ◌∷◌, length, drop, slice_index, if◌then◌else◌}
use Rattle.px.specs.declared.kind.Cfa.{Cfa}
use Rattle.px.specs.declared.kind.PlaneKind.{PlaneKind}
use Rattle.px.specs.Kind.{least_side}
use Rattle.pnm.specs.declared.fault.PnmFault.{PnmFault}
use Rattle.pnm.specs.declared.fault.PnmKind.{PnmKind}
use Rattle.pnm.specs.declared.fault.PnmKind.TheVariants.{BadMagic, OtherForm, BadHeader, TooLarge, TooSmall, BadMaxval, Short}
use Rattle.pnm.specs.Grammar.{is_white, is_line_end, is_decimal, opens_gap, number_from}
use Rattle.pnm.specs.Samples.{read_kind, samples_of_magic, bytes_of_sample}

-- ---- the words of a text, as far as they are there

-- what follows white bytes and comments, as far as they go; `inside` says that the text begins in a comment
abbrev pub after_filling : Bool → List ℕ → List ℕ
after_filling false [] = []
after_filling true [] = []
after_filling false (b ∷ t) = if is_white b then after_filling false t else (if b == 35 then after_filling true t else b ∷ t)
after_filling true (b ∷ t) = if is_line_end b then after_filling false t else after_filling true t

-- the digits that a text begins with, and what follows them
abbrev pub front_digits : List ℕ → List ℕ
front_digits [] = []
front_digits (b ∷ t) = if is_decimal b then b ∷ front_digits t else []

abbrev pub after_digits : List ℕ → List ℕ
after_digits [] = []
after_digits (b ∷ t) = if is_decimal b then after_digits t else b ∷ t

-- the text begins with a byte of this kind
abbrev pub begins : (ℕ → Bool) → List ℕ → Bool
begins p [] = false
begins p (b ∷ t) = p b

-- where the number begins that is due behind a gap, the number, and what follows it
abbrev pub number_text : List ℕ → List ℕ
number_text text = after_filling false text

abbrev pub number_of : List ℕ → ℕ
number_of text = number_from 0 (front_digits (number_text text))

abbrev pub behind : List ℕ → List ℕ
behind text = after_digits (number_text text)

-- the gaps before the three numbers, the byte behind the last one, and the raster with what follows it
abbrev pub width_gap : List ℕ → List ℕ
width_gap bytes = drop 2 bytes

abbrev pub height_gap : List ℕ → List ℕ
height_gap bytes = behind (width_gap bytes)

abbrev pub greatest_gap : List ℕ → List ℕ
greatest_gap bytes = behind (height_gap bytes)

abbrev pub last_white : List ℕ → List ℕ
last_white bytes = behind (greatest_gap bytes)

abbrev pub raster_text : List ℕ → List ℕ
raster_text bytes = drop 1 (last_white bytes)

-- what the magic and the colour filter array make of the picture
abbrev pub kind_of : List ℕ → Option Cfa → PlaneKind
kind_of bytes cfa = read_kind (slice_index bytes 1) cfa

-- how many bytes the raster has to have
abbrev pub raster_len : List ℕ → ℕ
raster_len bytes = number_of (height_gap bytes) * number_of (width_gap bytes) * samples_of_magic (slice_index bytes 1) * bytes_of_sample (number_of (greatest_gap bytes))

-- ---- the checks, in their order

-- the fault of this kind where the test holds; `left` of `total` bytes stand from its place on
abbrev pub fails : Bool → PnmKind → ℕ → ℕ → Option PnmFault
fails test kind total left = if test then Some (record { kind = kind; place = total - left }) else None

abbrev pub first_of : List (Option PnmFault) → Option PnmFault
first_of [] = None
first_of (None ∷ later) = first_of later
first_of (Some fault ∷ later) = Some fault

-- Netpbm's other magics are P1 to P4 and P7.
abbrev pub is_other : List ℕ → Bool
is_other bytes = slice_index bytes 0 == 80 && (slice_index bytes 1 == 49 || slice_index bytes 1 == 50 || slice_index bytes 1 == 51 || slice_index bytes 1 == 52 || slice_index bytes 1 == 55)

abbrev pub is_read : List ℕ → Bool
is_read bytes = slice_index bytes 0 == 80 && (slice_index bytes 1 == 53 || slice_index bytes 1 == 54)

unfoldable pub magic_fault : List ℕ → Option PnmFault
magic_fault bytes = first_of (fails (is_other bytes) OtherForm (length bytes) (length bytes) ∷ fails (not (is_read bytes)) BadMagic (length bytes) (length bytes) ∷ [])

-- a number from 1 to `most`, due behind a gap
unfoldable pub number_fault : ℕ → List ℕ → ℕ → PnmKind → PnmKind → Option PnmFault
number_fault total text most zero large = first_of (
    fails (not (begins opens_gap text)) BadHeader total (length text)
    ∷ fails (not (begins is_decimal (number_text text))) BadHeader total (length (number_text text))
    ∷ fails (number_of text == 0) zero total (length (number_text text))
    ∷ fails (nat_lt most (number_of text)) large total (length (number_text text)) ∷ [])

-- the number of pixels, told at the height, and sides that the kind doesn't allow, told at the width
unfoldable pub sides_fault : ℕ → PlaneKind → ℕ → ℕ → ℕ → ℕ → Option PnmFault
sides_fault total kind w h width_left height_left = first_of (
    fails (nat_lt 25165824 (w * h)) TooLarge total height_left
    ∷ fails (nat_lt w (least_side kind) || nat_lt h (least_side kind)) TooSmall total width_left ∷ [])

-- the white byte behind the last number, and so many bytes of a raster behind it
unfoldable pub raster_fault : ℕ → List ℕ → ℕ → Option PnmFault
raster_fault total text need = first_of (
    fails (not (begins is_white text)) BadHeader total (length text)
    ∷ fails (nat_lt (length (drop 1 text)) need) Short total 0 ∷ [])

-- the first check that fails
abbrev pub fault_of : List ℕ → Option Cfa → Option PnmFault
fault_of bytes cfa = first_of (
    magic_fault bytes
    ∷ number_fault (length bytes) (width_gap bytes) 16384 BadHeader TooLarge
    ∷ number_fault (length bytes) (height_gap bytes) 16384 BadHeader TooLarge
    ∷ sides_fault (length bytes) (kind_of bytes cfa) (number_of (width_gap bytes)) (number_of (height_gap bytes)) (length (number_text (width_gap bytes))) (length (number_text (height_gap bytes)))
    ∷ number_fault (length bytes) (greatest_gap bytes) 65535 BadMaxval BadMaxval
    ∷ raster_fault (length bytes) (last_white bytes) (raster_len bytes) ∷ [])
