-- Settings as the parts of their row, and the range of each number of them.
use Rattle.std.specs.Prelude.{◌≡◌, ℕ, zero, suc, ◌+◌, ℤ, pos, negsuc, int_le, ◌≤ℤ◌, ◌&&◌, IsTrue, Bool, false, nat_eq, List, [], ◌∷◌, map, length, slice_index, slice_index_or, option_map, ⊤, Option, Some, None, IfSome, Result, Ok, Err, if◌then◌else◌}
use Rattle.std.specs.List.{AllByRecursion}
use Rattle.params.specs.Form.{natural_of, only_if}
use Rattle.params.specs.Rules.{first_fault, IsKept}
use Rattle.params.specs.Seen.{wide_nodes}
use Rattle.params.specs.Stated.{Fits, StatedBlend, StatedMask, part_at, row_entries, mask_entries, blend_entries}
use Rattle.params.specs.Table.{Part, one, three, nine, pairs, flag, Triple, module_row, row_of, old_row_of, blend_row, mask_row_of}
use Rattle.params.specs.declared.blending.Blend.{Blend}
use Rattle.params.specs.declared.blending.Shape.{Shape}
use Rattle.params.specs.declared.blending.Shape.TheVariants as shapes
use Rattle.params.specs.declared.fault.Field.TheVariants as fields
use Rattle.params.specs.declared.fault.ParamFault.{ParamFault}
use Rattle.params.specs.declared.masks.MaskKind.{MaskKind}
use Rattle.params.specs.declared.masks.MaskKind.TheVariants as masks
use Rattle.params.specs.declared.modules.Module.{Module}
use Rattle.params.specs.declared.modules.Module.TheVariants as modules
use Rattle.params.specs.declared.old.OldParams.{OldParams}
use Rattle.params.specs.declared.old.OldParams.TheVariants as old
use Rattle.params.specs.declared.old.OldVersion.{OldVersion}
use Rattle.params.specs.declared.old.OldVersion.TheVariants as olds
use Rattle.params.specs.declared.rules.Entry.{Entry}
use Rattle.params.specs.declared.row.Cell.{Cell}
use Rattle.params.specs.declared.settings.Params.{Params}
use Rattle.params.specs.declared.settings.Params.TheVariants as params

-- ---- modules

abbrev pub module_of : Params → Module
module_of (params.RawPrepare p) = modules.RawPrepare
module_of (params.Temperature p) = modules.Temperature
module_of params.Demosaic = modules.Demosaic
module_of (params.Orientation p) = modules.Orientation
module_of (params.Crop p) = modules.Crop
module_of (params.Exposure p) = modules.Exposure
module_of (params.ChannelMixer p) = modules.ChannelMixer
module_of (params.ToneCurve p) = modules.ToneCurve
module_of (params.BoxBlur p) = modules.BoxBlur
module_of (params.Sharpen p) = modules.Sharpen

-- whether a module's output may be blended with its input
abbrev pub blends : Module → Bool
blends m = (module_row m).blends

-- whether a history may have an item of the module
abbrev pub takes_item : Module → Bool
takes_item m = (module_row m).takes_item

-- the newest version of a module's settings, which is the one that is written
abbrev pub newest_of : Module → ℕ
newest_of m = (module_row m).newest

-- the old version of a module's settings, if it is one
abbrev pub old_version : Module → ℕ → Option OldVersion
old_version modules.Exposure version = only_if (nat_eq version 1) olds.Exposure1
old_version modules.ToneCurve version = only_if (nat_eq version 1) olds.ToneCurve1
old_version _ version = None

-- ---- what a part holds, and a number of 0 where it holds another thing

abbrev pub one_of : Part → ℤ
one_of (one z) = z
one_of (three t) = pos 0
one_of (nine t) = pos 0
one_of (pairs ns) = pos 0
one_of (flag b) = pos 0

abbrev pub no_three : Triple
no_three = (pos 0, pos 0, pos 0)

abbrev pub three_of : Part → Triple
three_of (one z) = no_three
three_of (three t) = t
three_of (nine t) = no_three
three_of (pairs ns) = no_three
three_of (flag b) = no_three

abbrev pub nine_of : Part → Triple × Triple × Triple
nine_of (one z) = (no_three, no_three, no_three)
nine_of (three t) = (no_three, no_three, no_three)
nine_of (nine t) = t
nine_of (pairs ns) = (no_three, no_three, no_three)
nine_of (flag b) = (no_three, no_three, no_three)

abbrev pub pairs_of : Part → List (ℤ × ℤ)
pairs_of (one z) = []
pairs_of (three t) = []
pairs_of (nine t) = []
pairs_of (pairs ns) = ns
pairs_of (flag b) = []

abbrev pub flag_of : Part → Bool
flag_of (one z) = false
flag_of (three t) = false
flag_of (nine t) = false
flag_of (pairs ns) = false
flag_of (flag b) = b

-- ---- from parts

abbrev pub flag_at : List Part → ℕ → Bool
flag_at ps i = flag_of (part_at ps i)

abbrev pub natural_at : List Part → ℕ → ℕ
natural_at ps i = natural_of (one_of (part_at ps i))

abbrev pub signed_at : List Part → ℕ → ℤ
signed_at ps i = one_of (part_at ps i)

abbrev pub naturals : Triple → List ℕ
naturals t = natural_of t.0 ∷ natural_of t.1 ∷ natural_of t.2 ∷ []

abbrev pub naturals_at : List Part → ℕ → List ℕ
naturals_at ps i = naturals (three_of (part_at ps i))

abbrev pub matrix : Triple × Triple × Triple → List ℤ
matrix t = t.0.0 ∷ t.0.1 ∷ t.0.2 ∷ t.1.0 ∷ t.1.1 ∷ t.1.2 ∷ t.2.0 ∷ t.2.1 ∷ t.2.2 ∷ []

abbrev pub matrix_at : List Part → ℕ → List ℤ
matrix_at ps i = matrix (nine_of (part_at ps i))

abbrev pub node_of : ℤ × ℤ → ℕ × ℕ
node_of n = (natural_of n.0, natural_of n.1)

abbrev pub nodes_of : List (ℤ × ℤ) → List (ℕ × ℕ)
nodes_of ns = map node_of ns

abbrev pub nodes_at : List Part → ℕ → List (ℕ × ℕ)
nodes_at ps i = nodes_of (pairs_of (part_at ps i))

abbrev pub params_from : Module → List Part → Params
params_from modules.RawPrepare ps = params.RawPrepare (record { black = naturals_at ps 0; white = natural_at ps 1 })
params_from modules.Temperature ps = params.Temperature (record { mul = naturals_at ps 0 })
params_from modules.Demosaic ps = params.Demosaic
params_from modules.Orientation ps = params.Orientation (record { swap = flag_at ps 0; flip_x = flag_at ps 1; flip_y = flag_at ps 2 })
params_from modules.Crop ps = params.Crop (record { left = natural_at ps 0; top = natural_at ps 1; right = natural_at ps 2; bottom = natural_at ps 3 })
params_from modules.Exposure ps = params.Exposure (record { black = signed_at ps 0; gain = natural_at ps 1; stops = signed_at ps 2 })
params_from modules.ChannelMixer ps = params.ChannelMixer (record { rows = matrix_at ps 0 })
params_from modules.ToneCurve ps = params.ToneCurve (record { red = nodes_at ps 0; green = nodes_at ps 1; blue = nodes_at ps 2 })
params_from modules.BoxBlur ps = params.BoxBlur (record { radius = natural_at ps 0 })
params_from modules.Sharpen ps = params.Sharpen (record { radius = natural_at ps 0; amount = natural_at ps 1 })

abbrev pub old_from : OldVersion → List Part → OldParams
old_from olds.Exposure1 ps = old.Exposure1 (signed_at ps 0) (natural_at ps 1)
old_from olds.ToneCurve1 ps = old.ToneCurve1 (nodes_at ps 0)

abbrev pub shape_from : MaskKind → List Part → Shape
shape_from masks.Gradient ps = shapes.Gradient (natural_at ps 0) (natural_at ps 1) (signed_at ps 2) (signed_at ps 3) (natural_at ps 4)
shape_from masks.Ellipse ps =
    shapes.Ellipse (natural_at ps 0) (natural_at ps 1) (signed_at ps 2) (signed_at ps 3) (natural_at ps 4) (natural_at ps 5) (natural_at ps 6)

abbrev pub mask_from : StatedMask → Shape
mask_from m = shape_from m.0 m.1

abbrev pub blend_from : StatedBlend → Blend
blend_from s = record { opacity = natural_at s.parts 0; mode = s.mode; mask = option_map mask_from s.mask }

-- ---- to parts

abbrev pub natural : ℕ → Part
natural n = one (pos n)

abbrev pub wide_three : List ℕ → Triple
wide_three xs = (pos (slice_index xs 0), pos (slice_index xs 1), pos (slice_index xs 2))

-- the three whole numbers of a list from a place on
abbrev pub three_from : List ℤ → ℕ → Triple
three_from xs i = (slice_index_or xs i (pos 0), slice_index_or xs (i + 1) (pos 0), slice_index_or xs (i + 2) (pos 0))

abbrev pub wide_nine : List ℤ → Triple × Triple × Triple
wide_nine xs = (three_from xs 0, three_from xs 3, three_from xs 6)

abbrev pub curve_part : List (ℕ × ℕ) → Part
curve_part nodes = pairs (wide_nodes nodes)

abbrev pub parts_of : Params → List Part
parts_of (params.RawPrepare p) = three (wide_three p.black) ∷ natural p.white ∷ []
parts_of (params.Temperature p) = three (wide_three p.mul) ∷ []
parts_of params.Demosaic = []
parts_of (params.Orientation p) = flag p.swap ∷ flag p.flip_x ∷ flag p.flip_y ∷ []
parts_of (params.Crop p) = natural p.left ∷ natural p.top ∷ natural p.right ∷ natural p.bottom ∷ []
parts_of (params.Exposure p) = one p.black ∷ natural p.gain ∷ one p.stops ∷ []
parts_of (params.ChannelMixer p) = nine (wide_nine p.rows) ∷ []
parts_of (params.ToneCurve p) = curve_part p.red ∷ curve_part p.green ∷ curve_part p.blue ∷ []
parts_of (params.BoxBlur p) = natural p.radius ∷ []
parts_of (params.Sharpen p) = natural p.radius ∷ natural p.amount ∷ []

abbrev pub version_of : OldParams → OldVersion
version_of (old.Exposure1 black gain) = olds.Exposure1
version_of (old.ToneCurve1 nodes) = olds.ToneCurve1

abbrev pub old_parts_of : OldParams → List Part
old_parts_of (old.Exposure1 black gain) = one black ∷ natural gain ∷ []
old_parts_of (old.ToneCurve1 nodes) = curve_part nodes ∷ []

abbrev pub kind_of : Shape → MaskKind
kind_of (shapes.Gradient ax ay dx dy slope) = masks.Gradient
kind_of (shapes.Ellipse cx cy ux uy a b feather) = masks.Ellipse

abbrev pub shape_parts : Shape → List Part
shape_parts (shapes.Gradient ax ay dx dy slope) = natural ax ∷ natural ay ∷ one dx ∷ one dy ∷ natural slope ∷ []
shape_parts (shapes.Ellipse cx cy ux uy a b feather) = natural cx ∷ natural cy ∷ one ux ∷ one uy ∷ natural a ∷ natural b ∷ natural feather ∷ []

abbrev pub stated_mask : Shape → StatedMask
stated_mask shape = (kind_of shape, shape_parts shape)

abbrev pub stated_blend : Blend → StatedBlend
stated_blend b = record { mode = b.mode; parts = natural b.opacity ∷ []; mask = option_map stated_mask b.mask }

-- arrays are as long as the type's
abbrev pub IsSized : Params → Type 0
IsSized (params.RawPrepare p) = length p.black ≡ 3
IsSized (params.Temperature p) = length p.mul ≡ 3
IsSized (params.ChannelMixer p) = length p.rows ≡ 9
IsSized _ = ⊤

-- ---- within the ranges

-- each number of the parts keeps the row's rules
pub record IsRowKept (row : List Cell) (parts : List Part) : Type 0 where
  pub fits : Fits row parts
  pub kept : AllByRecursion IsKept (row_entries row parts)

abbrev pub entries_of : Params → List Entry
entries_of p = row_entries (row_of (module_of p)) (parts_of p)

pub record IsWithin (p : Params) : Type 0 where
  pub sized : IsSized p
  pub kept : AllByRecursion IsKept (entries_of p)

-- the first number outside its range
abbrev pub check_of : Params → Result ⊤ ParamFault
check_of p = first_fault (entries_of p)

-- ---- old versions

-- the settings that mean the same as those of an old version
abbrev pub migrated : OldParams → Params
migrated (old.Exposure1 black gain) = params.Exposure (record { black = black; gain = gain; stops = pos 0 })
migrated (old.ToneCurve1 nodes) = params.ToneCurve (record { red = nodes; green = nodes; blue = nodes })

abbrev pub old_entries_of : OldParams → List Entry
old_entries_of p = row_entries (old_row_of (version_of p)) (old_parts_of p)

pub record IsOldWithin (p : OldParams) : Type 0 where
  pub kept : AllByRecursion IsKept (old_entries_of p)

-- the first number outside the old ranges
abbrev pub check_old_of : OldParams → Result ⊤ ParamFault
check_old_of p = first_fault (old_entries_of p)

-- ---- blends

-- what is stated for a mask has the fields of its row, each within its range
abbrev pub IsMaskKept : StatedMask → Type 0
IsMaskKept m = IsRowKept (mask_row_of m.0) m.1

-- what is stated for a blend has the fields of its rows, each within its range
pub record IsBlendKept (s : StatedBlend) : Type 0 where
  pub row : IsRowKept blend_row s.parts
  pub mask : IfSome s.mask IsMaskKept

-- a mask is within its ranges
pub record IsShapeWithin (s : Shape) : Type 0 where
  pub kept : AllByRecursion IsKept (mask_entries (Some (stated_mask s)))

-- a blend is within its ranges, whatever its module
pub record IsBlendWithin (b : Blend) : Type 0 where
  pub kept : AllByRecursion IsKept (blend_entries (stated_blend b))

-- a module's blend: there is none, or the module blends and the blend is within its ranges
abbrev pub IsBlendFit : Module → Option Blend → Type 0
IsBlendFit m None = ⊤
IsBlendFit m (Some b) = IsTrue (blends m) × IsBlendWithin b

abbrev pub blend_fault : ParamFault
blend_fault = record { field = fields.Blend; at = 0; value = pos 0 }

-- the first fault of a blend at a module
abbrev pub check_blend_of : Module → Option Blend → Result ⊤ ParamFault
check_blend_of m None = Ok tt
check_blend_of m (Some b) = if blends m then first_fault (blend_entries (stated_blend b)) else Err blend_fault

-- ---- ranges of cells

abbrev pub is_range : ℤ → ℤ → List Cell → ℕ → Bool
is_range low high [] i = false
is_range low high (c ∷ cs) zero = int_le low c.low && int_le c.high high
is_range low high (c ∷ cs) (suc i) = is_range low high cs i

abbrev pub IsNatural : List Cell → ℕ → Type 0
IsNatural row i = IsTrue (is_range (pos 0) (pos 4294967295) row i)

abbrev pub IsSigned : List Cell → ℕ → Type 0
IsSigned row i = IsTrue (is_range (negsuc 2147483647) (pos 2147483647) row i)

-- a number from one to another
abbrev pub IsIn : ℤ → ℤ → ℤ → Type 0
IsIn low high z = (low ≤ℤ z) × (z ≤ℤ high)

abbrev pub IsInput : ℤ × ℤ → Type 0
IsInput n = IsIn (pos 0) (pos 1048575) n.0 × IsIn (pos 0) (pos 1048575) n.1

abbrev pub AreInputs : List (ℤ × ℤ) → Type 0
AreInputs ns = AllByRecursion IsInput ns

abbrev pub AreIn : ℤ → ℤ → Triple → Type 0
AreIn low high t = IsIn low high t.0 × IsIn low high t.1 × IsIn low high t.2

abbrev pub IsU32 : ℤ → Type 0
IsU32 z = IsIn (pos 0) (pos 4294967295) z

abbrev pub IsI32 : ℤ → Type 0
IsI32 z = IsIn (negsuc 2147483647) (pos 2147483647) z

abbrev pub AreU32 : Triple → Type 0
AreU32 t = AreIn (pos 0) (pos 4294967295) t

abbrev pub AreI32 : Triple × Triple × Triple → Type 0
AreI32 t = AreIn (negsuc 2147483647) (pos 2147483647) t.0 × AreIn (negsuc 2147483647) (pos 2147483647) t.1 × AreIn (negsuc 2147483647) (pos 2147483647) t.2
