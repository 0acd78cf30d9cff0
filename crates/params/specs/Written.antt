-- The JSON values that are written for settings, blends and masks.
use Rattle.std.specs.Prelude.{ℕ, ℤ, List, [], ◌∷◌, map, Option, Some, None, codes}
use Rattle.serde_json.specs.Data.{Data, unsigned, null, boolean, number, string, array, object, Items, no_items, item, Members, no_members, member, put}
use Rattle.serde_json.specs.Find.{of_integer}
use Rattle.serde_json.specs.View.{items_of}
use Rattle.params.specs.Names.{name_of_mode}
use Rattle.params.specs.Ranges.{module_of, parts_of, natural, kind_of, shape_parts}
use Rattle.params.specs.Stated.{key_of, shape_key}
use Rattle.params.specs.Table.{Part, one, three, nine, pairs, flag, Triple, row_of, blend_row, name_of_mask, mask_row_of}
use Rattle.params.specs.declared.blending.Blend.{Blend}
use Rattle.params.specs.declared.blending.Mode.{Mode}
use Rattle.params.specs.declared.blending.Shape.{Shape}
use Rattle.params.specs.declared.masks.MaskKind.{MaskKind}
use Rattle.params.specs.declared.row.Cell.{Cell}
use Rattle.params.specs.declared.settings.Params.{Params}

abbrev pub integer_data : ℤ → Data
integer_data z = number (of_integer z)

abbrev pub natural_data : ℕ → Data
natural_data n = number (unsigned n)

abbrev pub pair_data : Data → Data → Data
pair_data a b = array (item a (item b no_items))

abbrev pub node_data : ℤ × ℤ → Data
node_data p = pair_data (integer_data p.0) (integer_data p.1)

abbrev pub triple_data : Data → Data → Data → Data
triple_data a b c = array (item a (item b (item c no_items)))

abbrev pub three_data : Triple → Data
three_data t = triple_data (integer_data t.0) (integer_data t.1) (integer_data t.2)

abbrev pub nine_data : Triple × Triple × Triple → Data
nine_data t = triple_data (three_data t.0) (three_data t.1) (three_data t.2)

abbrev pub pairs_data : List (ℤ × ℤ) → Items
pairs_data ns = items_of (map node_data ns)

unfoldable pub part_data : Part → Data
part_data (one z) = integer_data z
part_data (three t) = three_data t
part_data (nine t) = nine_data t
part_data (pairs ns) = array (pairs_data ns)
part_data (flag b) = boolean b

-- the members, with those of some cells put among them
abbrev pub cells_members : List Cell → List Part → Members → Members
cells_members [] ps ms = ms
cells_members (c ∷ cs) [] ms = ms
cells_members (c ∷ cs) (p ∷ ps) ms = cells_members cs ps (put (key_of c) (part_data p) ms)

abbrev pub row_data : List Cell → List Part → Data
row_data row parts = object (cells_members row parts no_members)

-- what is written for settings, in their newest version; the module and the version stand beside them
abbrev pub params_data : Params → Data
params_data p = row_data (row_of (module_of p)) (parts_of p)

-- ---- blends and masks

abbrev pub shape_member : MaskKind → Members
shape_member kind = member shape_key (string (name_of_mask kind)) no_members

abbrev pub shape_data : Shape → Data
shape_data s = object (cells_members (mask_row_of (kind_of s)) (shape_parts s) (shape_member (kind_of s)))

abbrev pub mask_data : Option Shape → Data
mask_data None = null
mask_data (Some shape) = shape_data shape

abbrev pub blend_members : Data → Mode → Members
blend_members mask mode = member (codes "mask") mask (member (codes "mode") (string (name_of_mode mode)) no_members)

abbrev pub blend_value_data : Blend → Data
blend_value_data b = object (cells_members blend_row (natural b.opacity ∷ []) (blend_members (mask_data b.mask) b.mode))

-- what is written for a blend, or for none
abbrev pub blend_data : Option Blend → Data
blend_data None = null
blend_data (Some b) = blend_value_data b
