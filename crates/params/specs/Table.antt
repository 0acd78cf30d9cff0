-- The table: what is known of each module, the fields of its settings in each version, and those of a blend and of each mask.
use Rattle.std.specs.Prelude.{ℕ, ℤ, pos, negsuc, Bool, true, false, List, [], ◌∷◌, codes}
use Rattle.params.specs.declared.fault.Field.{Field}
use Rattle.params.specs.declared.fault.Field.TheVariants as fields
use Rattle.params.specs.declared.masks.MaskKind.{MaskKind}
use Rattle.params.specs.declared.masks.MaskKind.TheVariants as masks
use Rattle.params.specs.declared.modules.Module.{Module}
use Rattle.params.specs.declared.modules.Module.TheVariants as modules
use Rattle.params.specs.declared.old.OldVersion.{OldVersion}
use Rattle.params.specs.declared.old.OldVersion.TheVariants as olds
use Rattle.params.specs.declared.row.Cell.{Cell}
use Rattle.params.specs.declared.row.Layout.{Layout}
use Rattle.params.specs.declared.row.Layout.TheVariants.{One, Three, Nine, Pairs, Flag}
use Rattle.params.specs.declared.row.Tie.{Tie}
use Rattle.params.specs.declared.row.Tie.TheVariants.{Free, Above, NotBothZero}

-- ---- cells

abbrev pub tied : Field → Layout → ℤ → ℤ → Tie → Cell
tied field layout low high tie = record { field = field; layout = layout; low = low; high = high; tie = tie }

abbrev pub cell : Field → Layout → ℤ → ℤ → Cell
cell field layout low high = tied field layout low high Free

-- the nodes of a curve
abbrev pub nodes : Field → Cell
nodes field = cell field Pairs (pos 0) (pos 1048575)

abbrev pub flag_cell : Field → Cell
flag_cell field = cell field Flag (pos 0) (pos 1)

-- ---- modules

-- what is known of a module: its number, its name, its newest version, whether it blends, whether it takes an item, and the fields of its settings in the order of the checks
pub record ModuleSeen : Type 0 where
  pub number : ℕ
  pub name : List ℕ
  pub newest : ℕ
  pub blends : Bool
  pub takes_item : Bool
  pub cells : List Cell

abbrev pub module_seen : ℕ → List ℕ → ℕ → Bool → List Cell → ModuleSeen
module_seen number name newest blends cells = record { number = number; name = name; newest = newest; blends = blends; takes_item = true; cells = cells }

abbrev pub module_row : Module → ModuleSeen
module_row modules.RawPrepare = module_seen 0 (codes "rawprepare") 1 false (cell fields.Black Three (pos 0) (pos 65535) ∷ tied fields.White One (pos 1) (pos 65535) (Above 0) ∷ [])
module_row modules.Temperature = module_seen 1 (codes "temperature") 1 false (cell fields.Mul Three (pos 0) (pos 32768) ∷ [])
module_row modules.Demosaic = record { number = 2; name = codes "demosaic"; newest = 1; blends = false; takes_item = false; cells = [] }
module_row modules.Orientation = module_seen 3 (codes "orientation") 1 false (flag_cell fields.Swap ∷ flag_cell fields.FlipX ∷ flag_cell fields.FlipY ∷ [])
module_row modules.Crop = module_seen 4 (codes "crop") 1 false (
    cell fields.Left One (pos 0) (pos 65535) ∷ cell fields.Top One (pos 0) (pos 65535)
    ∷ tied fields.Right One (pos 1) (pos 65536) (Above 0) ∷ tied fields.Bottom One (pos 1) (pos 65536) (Above 1) ∷ [])
module_row modules.Exposure = module_seen 5 (codes "exposure") 2 true (
    cell fields.Black One (negsuc 65534) (pos 65535) ∷ cell fields.Gain One (pos 0) (pos 65536) ∷ cell fields.Stops One (negsuc 3) (pos 4) ∷ [])
module_row modules.ChannelMixer = module_seen 6 (codes "channelmixer") 1 true (cell fields.Rows Nine (negsuc 32767) (pos 32768) ∷ [])
module_row modules.ToneCurve = module_seen 7 (codes "tonecurve") 2 true (nodes fields.Red ∷ nodes fields.Green ∷ nodes fields.Blue ∷ [])
module_row modules.BoxBlur = module_seen 8 (codes "boxblur") 1 true (cell fields.Radius One (pos 1) (pos 64) ∷ [])
module_row modules.Sharpen = module_seen 9 (codes "sharpen") 1 true (cell fields.Radius One (pos 1) (pos 64) ∷ cell fields.Amount One (pos 0) (pos 16384) ∷ [])

-- the modules, by their numbers
abbrev pub all_modules : List Module
all_modules =
    modules.RawPrepare ∷ modules.Temperature ∷ modules.Demosaic ∷ modules.Orientation ∷ modules.Crop ∷ modules.Exposure ∷ modules.ChannelMixer ∷ modules.ToneCurve
    ∷ modules.BoxBlur ∷ modules.Sharpen ∷ []

-- the fields of a module's settings, of its newest version
abbrev pub row_of : Module → List Cell
row_of m = (module_row m).cells

-- ---- old versions

-- the fields of settings of an old version
abbrev pub old_row_of : OldVersion → List Cell
old_row_of olds.Exposure1 = cell fields.Black One (negsuc 65534) (pos 65535) ∷ cell fields.Gain One (pos 0) (pos 65536) ∷ []
old_row_of olds.ToneCurve1 = nodes fields.Nodes ∷ []

-- ---- blends and masks

-- the fields of a blend beside its mode and its mask
abbrev pub blend_row : List Cell
blend_row = cell fields.Opacity One (pos 0) (pos 65536) ∷ []

abbrev pub name_of_mask : MaskKind → List ℕ
name_of_mask masks.Gradient = codes "gradient"
name_of_mask masks.Ellipse = codes "ellipse"

abbrev pub all_masks : List MaskKind
all_masks = masks.Gradient ∷ masks.Ellipse ∷ []

-- the fields of a mask
abbrev pub mask_row_of : MaskKind → List Cell
mask_row_of masks.Gradient =
    cell fields.Ax One (pos 0) (pos 65536) ∷ cell fields.Ay One (pos 0) (pos 65536)
    ∷ cell fields.Dx One (negsuc 1023) (pos 1024) ∷ tied fields.Dy One (negsuc 1023) (pos 1024) (NotBothZero 2)
    ∷ cell fields.Slope One (pos 1) (pos 65536) ∷ []
mask_row_of masks.Ellipse =
    cell fields.Cx One (pos 0) (pos 65536) ∷ cell fields.Cy One (pos 0) (pos 65536)
    ∷ cell fields.Ux One (negsuc 1023) (pos 1024) ∷ tied fields.Uy One (negsuc 1023) (pos 1024) (NotBothZero 2)
    ∷ cell fields.A One (pos 1) (pos 65536) ∷ cell fields.B One (pos 1) (pos 65536) ∷ cell fields.Feather One (pos 1) (pos 65536) ∷ []

-- ---- what a field holds

abbrev pub Triple : Type 0
Triple = ℤ × ℤ × ℤ

pub data Part : Type 0 where
  one : ℤ → Part
  three : Triple → Part
  nine : Triple × Triple × Triple → Part
  pairs : List (ℤ × ℤ) → Part
  flag : Bool → Part
