-- Netpbm's P5 and P6: the header, the raster and what the samples mean
use Rattle.std.specs.Prelude.{◌≡◌, ℕ, ◌+◌, ◌-◌, ◌*◌, ◌/◌, ◌%◌, ◌<◌, ◌≤◌, ◌⊎◌, true, Option, Some, List, [], ◌∷◌, ◌++◌, length, min, codes}
use Rattle.std.specs.Fmt.{decimal}
use Rattle.std.specs.List.{flat_map}
use Rattle.px.specs.declared.depth.Depth.{Depth}
use Rattle.px.specs.declared.depth.Depth.TheVariants.{Eight, Sixteen}
use Rattle.px.specs.declared.kind.Cfa.{Cfa}
use Rattle.px.specs.Kind.{channels, least_side}
use Rattle.px.specs.Picture.{Picture, samples_of}
use Rattle.pnm.specs.declared.fault.PnmEnd.{PnmEnd}
use Rattle.pnm.specs.declared.fault.PnmEnd.TheVariants.{Fault, Memory}
use Rattle.pnm.specs.Fault.{fault_of}
use Rattle.pnm.specs.Grammar.{is_white, IsGap, IsNumeral}
use Rattle.pnm.specs.Samples.{samples_of_magic, read_kind, bytes_of_sample, sample_at, meaning}

-- the header of a P6 as it is written: the magic, both sides and the greatest sample
abbrev pub header : ℕ → ℕ → ℕ → List ℕ
header w h top = codes "P6\n" ++ (decimal w ++ (codes " " ++ (decimal h ++ (codes "\n" ++ (decimal top ++ codes "\n")))))

-- The bytes are this picture: a header, a raster, and any rest. Words stand behind gaps; one white byte ends the header.
pub record IsPicture (bytes : List ℕ) (cfa : Option Cfa) (q : Picture) : Type 0 where
  pub magic : ℕ
  pub first_gap : List ℕ
  pub width : List ℕ
  pub second_gap : List ℕ
  pub height : List ℕ
  pub third_gap : List ℕ
  pub greatest : List ℕ
  pub white : ℕ
  pub raster : List ℕ
  pub rest : List ℕ
  pub text : bytes ≡ 80 ∷ magic ∷ (first_gap ++ (width ++ (second_gap ++ (height ++ (third_gap ++ (greatest ++ white ∷ (raster ++ rest)))))))
  pub is_magic : (magic ≡ 53) ⊎ (magic ≡ 54)
  pub has_gaps : IsGap first_gap × IsGap second_gap × IsGap third_gap
  pub ends_white : is_white white ≡ true
  pub is_width : IsNumeral width q.w
  pub is_height : IsNumeral height q.h
  pub top : ℕ
  pub is_greatest : IsNumeral greatest top
  pub some_top : 0 < top
  pub top_fits : top ≤ 65535
  pub kind : q.kind ≡ read_kind magic cfa
  pub wide : q.w ≤ 16384
  pub high : q.h ≤ 16384
  pub wide_enough : least_side q.kind ≤ q.w
  pub high_enough : least_side q.kind ≤ q.h
  pub pixels : q.w * q.h ≤ 25165824
  pub len : length raster ≡ q.h * q.w * samples_of_magic magic * bytes_of_sample top
  pub same : (x y c : ℕ) → x < q.w → y < q.h → c < channels q.kind
      → q.at x y c ≡ meaning q.kind top (sample_at top raster ((y * q.w + x) * samples_of_magic magic + min c (samples_of_magic magic - 1)))

-- The bytes were refused: this is their first fault, and they are no picture. Want of memory says nothing of them.
abbrev pub IsRefusal : List ℕ → Option Cfa → PnmEnd → Type 0
IsRefusal bytes cfa (Fault f) = (fault_of bytes cfa ≡ Some f) × ((q : Picture) → IsPicture bytes cfa q → ⊥)
IsRefusal bytes cfa Memory = Unit {0}

-- the greatest sample of a depth
abbrev pub greatest : Depth → ℕ
greatest Eight = 255
greatest Sixteen = 65535

-- the bytes of one sample; a value above white is written as white
abbrev pub sample_bytes : Depth → ℕ → List ℕ
sample_bytes Eight v = min v 65535 / 257 ∷ []
sample_bytes Sixteen v = min v 65535 / 256 ∷ (min v 65535 % 256) ∷ []

-- a P6 of these sides and these values, row by row
abbrev pub written_values : ℕ → ℕ → List ℕ → Depth → List ℕ
written_values w h values d = header w h (greatest d) ++ flat_map (sample_bytes d) values

-- the bytes that a picture is written as
abbrev pub written : Picture → Depth → List ℕ
written q d = written_values q.w q.h (samples_of q) d

-- each value above white cut at white
abbrev pub whitened : Picture → Picture
whitened q = record { kind = q.kind; w = q.w; h = q.h; at = λ x y c. min (q.at x y c) 65535 }
