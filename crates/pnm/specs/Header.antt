-- what reading finds of a header
use Rattle.std.specs.Prelude.{◌≡◌, ℕ, ◌*◌, ◌<◌, ◌≤◌, ◌⊎◌, true, Option, None, List, length, take, drop, slice_index}
use Rattle.px.specs.declared.kind.Cfa.{Cfa}
use Rattle.px.specs.declared.kind.PlaneKind.{PlaneKind}
use Rattle.px.specs.Kind.{least_side}
use Rattle.pnm.specs.declared.fault.PnmKind.{PnmKind}
use Rattle.pnm.specs.Fault.{begins, magic_fault, number_fault, sides_fault, raster_fault, last_white, number_of, number_text, behind, fault_of, kind_of, width_gap, height_gap, greatest_gap, raster_text, raster_len}
use Rattle.pnm.specs.Grammar.{is_decimal, is_white, opens_gap}
use Rattle.pnm.specs.Samples.{samples_of_magic, bytes_of_sample}

-- a gap and a number are due at the front of the text, and they are there
pub record HasNumber (text : List ℕ) : Type 0 where
  pub opens : begins opens_gap text ≡ true
  pub starts : begins is_decimal (number_text text) ≡ true

-- the words of a header are there
pub record HasWords (bytes : List ℕ) : Type 0 where
  pub long : 2 ≤ length bytes
  pub first : slice_index bytes 0 ≡ 80
  pub second : (slice_index bytes 1 ≡ 53) ⊎ (slice_index bytes 1 ≡ 54)
  pub width : HasNumber (width_gap bytes)
  pub height : HasNumber (height_gap bytes)
  pub greatest : HasNumber (greatest_gap bytes)
  pub white : begins is_white (last_white bytes) ≡ true

-- the number that is due behind a gap, from 1 to `most`
pub record IsNumberDue (total : ℕ) (text : List ℕ) (most : ℕ) (zero large : PnmKind) (value left : ℕ) (rest : List ℕ) : Type 0 where
  pub none : number_fault total text most zero large ≡ None
  pub has : HasNumber text
  pub value_is : value ≡ number_of text
  pub left_is : left ≡ length (number_text text)
  pub rest_is : rest ≡ behind text
  pub some : 0 < value
  pub small : value ≤ most
  pub within : left ≤ length text
  pub shorter : length rest ≤ length text

-- the second byte of a P5 or P6
pub record HasMagic (bytes : List ℕ) (magic : ℕ) : Type 0 where
  pub none : magic_fault bytes ≡ None
  pub long : 2 ≤ length bytes
  pub first : slice_index bytes 0 ≡ 80
  pub second : (magic ≡ 53) ⊎ (magic ≡ 54)
  pub is : magic ≡ slice_index bytes 1

-- the sides belong to a picture that is read
pub record HasSides (total : ℕ) (kind : PlaneKind) (w h width_left height_left : ℕ) : Type 0 where
  pub none : sides_fault total kind w h width_left height_left ≡ None
  pub pixels : w * h ≤ 25165824
  pub wide_enough : least_side kind ≤ w
  pub high_enough : least_side kind ≤ h

-- the raster that is due behind a white byte
pub record HasRaster (total : ℕ) (text : List ℕ) (need : ℕ) (raster : List ℕ) : Type 0 where
  pub none : raster_fault total text need ≡ None
  pub white : begins is_white text ≡ true
  pub enough : need ≤ length (drop 1 text)
  pub raster_is : raster ≡ take need (drop 1 text)
  pub len : length raster ≡ need

-- the bytes have no fault, and their header says this
pub record IsHeader (bytes : List ℕ) (cfa : Option Cfa) (kind : PlaneKind) (w h samples top : ℕ) (raster : List ℕ) : Type 0 where
  pub none : fault_of bytes cfa ≡ None
  pub words : HasWords bytes
  pub kind_is : kind ≡ kind_of bytes cfa
  pub w_is : w ≡ number_of (width_gap bytes)
  pub h_is : h ≡ number_of (height_gap bytes)
  pub samples_is : samples ≡ samples_of_magic (slice_index bytes 1)
  pub top_is : top ≡ number_of (greatest_gap bytes)
  pub raster_is : raster ≡ take (raster_len bytes) (raster_text bytes)
  pub len : length raster ≡ h * w * samples * bytes_of_sample top
  pub wide : w ≤ 16384
  pub high : h ≤ 16384
  pub some_wide : 0 < w
  pub some_high : 0 < h
  pub wide_enough : least_side kind ≤ w
  pub high_enough : least_side kind ≤ h
  pub pixels : w * h ≤ 25165824
  pub some_top : 0 < top
  pub top_fits : top ≤ 65535
