-- What a JSON value states by a row, whatever the ranges; and the entries of what is stated.
use Rattle.std.specs.Prelude.{ℕ, ◌+◌, ℤ, pos, negsuc, Bool, true, false, ◌&&◌, not, List, [], ◌∷◌, ◌++◌, map, get_or, Option, Some, None, is_some, option_map, codes, if◌then◌else◌, length, int_le, nat_le}
use Rattle.serde_json.specs.Data.{Data, Items, no_items, item}
use Rattle.serde_json.specs.Find.{get, as_array, as_bool, as_null}
use Rattle.params.specs.Form.{has_only, is_one_of, integer, triple, two_integers, three_integers, text_at, named, ◌>>=◌}
use Rattle.params.specs.Names.{name_of_field, mode_named}
use Rattle.params.specs.Rules.{entry, up_to, three_entries}
use Rattle.params.specs.Table.{Part, one, three, nine, pairs, flag, Triple, blend_row, name_of_mask, all_masks, mask_row_of}
use Rattle.params.specs.declared.blending.Mode.{Mode}
use Rattle.params.specs.declared.fault.Field.{Field}
use Rattle.params.specs.declared.masks.MaskKind.{MaskKind}
use Rattle.params.specs.declared.row.Cell.{Cell}
use Rattle.params.specs.declared.row.Layout.{Layout}
use Rattle.params.specs.declared.row.Layout.TheVariants as layouts
use Rattle.params.specs.declared.row.Tie.{Tie}
use Rattle.params.specs.declared.row.Tie.TheVariants as tie
use Rattle.params.specs.declared.rules.Entry.{Entry}
use Rattle.params.specs.declared.rules.Rule.{Rule}
use Rattle.params.specs.declared.rules.Rule.TheVariants.{Between, Above, NotBothZero}

-- ---- form

abbrev pub key_of : Cell → List ℕ
key_of c = name_of_field c.field

abbrev pub keys_of : List Cell → List (List ℕ)
keys_of row = map key_of row

-- a list of pairs
abbrev pub pairs_form : Items → Option (List (ℤ × ℤ))
pairs_form no_items = Some []
pairs_form (item d ds) = two_integers d >>= λ node. option_map (λ nodes. node ∷ nodes) (pairs_form ds)

abbrev pub nine_form : Data → Option (Triple × Triple × Triple)
nine_form d = do
  rows ← triple d
  red ← three_integers rows.0
  green ← three_integers rows.1
  blue ← three_integers rows.2
  Some (red, green, blue)

unfoldable pub part_form : Layout → Data → Option Part
part_form layouts.One d = option_map one (integer d)
part_form layouts.Three d = option_map three (three_integers d)
part_form layouts.Nine d = option_map nine (nine_form d)
part_form layouts.Pairs d = option_map pairs (as_array d >>= pairs_form)
part_form layouts.Flag d = option_map flag (as_bool d)

-- whether a layout is of some numbers that are known before, and no list of pairs
abbrev pub is_plain_layout : Layout → Bool
is_plain_layout layouts.Pairs = false
is_plain_layout _ = true

abbrev pub all_plain : List Cell → Bool
all_plain [] = true
all_plain (c ∷ cs) = is_plain_layout c.layout && all_plain cs

-- a row with no list of pairs, and of few fields
abbrev pub is_plain : List Cell → Bool
is_plain row = nat_le (length row) 7 && all_plain row

abbrev pub cell_form : Cell → Data → Option Part
cell_form c d = get (key_of c) d >>= part_form c.layout

abbrev pub parts_form : List Cell → Data → Option (List Part)
parts_form [] d = Some []
parts_form (c ∷ cs) d = cell_form c d >>= λ p. option_map (λ ps. p ∷ ps) (parts_form cs d)

-- an object that has the row's keys and some beside them, and no other, each of the row with its layout
abbrev pub row_form : List (List ℕ) → List Cell → Data → Option (List Part)
row_form beside row d = if has_only (beside ++ keys_of row) d then parts_form row d else None

-- ---- masks and blends

-- what is stated for a mask: which it is, and its fields
abbrev pub StatedMask : Type 0
StatedMask = MaskKind × List Part

abbrev pub mask_named : List ℕ → Option MaskKind
mask_named text = named name_of_mask all_masks text

abbrev pub shape_key : List ℕ
shape_key = codes "shape"

-- `shape` says which mask it is, and beside it stand the keys of that mask's row
abbrev pub mask_form : Data → Option StatedMask
mask_form d = do
  word ← text_at shape_key d
  kind ← mask_named word
  parts ← row_form (shape_key ∷ []) (mask_row_of kind) d
  Some (kind, parts)

-- a form, where null stands for none
abbrev pub null_or : {A : Type 0} → (Data → Option A) → Data → Option (Option A)
null_or form d = if is_some (as_null d) then Some None else option_map Some (form d)

-- what is stated for a blend: its mode, its fields and its mask
pub record StatedBlend : Type 0 where
  pub mode : Mode
  pub parts : List Part
  pub mask : Option StatedMask

abbrev pub blend_keys : List (List ℕ)
blend_keys = codes "mask" ∷ codes "mode" ∷ []

abbrev pub blend_form : Data → Option StatedBlend
blend_form d = do
  parts ← row_form blend_keys blend_row d
  word ← text_at (codes "mode") d
  mode ← mode_named word
  value ← get (codes "mask") d
  mask ← null_or mask_form value
  Some (record { mode = mode; parts = parts; mask = mask })

-- ---- entries

-- the node at a place, behind a node whose first number is `before`
abbrev pub node_entries : Field → ℕ → ℤ → ℤ × ℤ → List Entry → List Entry
node_entries field at before node more =
    entry field at node.0 (up_to (pos 1048575)) ∷ entry field at node.1 (up_to (pos 1048575)) ∷ entry field at node.0 (Above before) ∷ more

abbrev pub nodes_entries : Field → ℕ → ℤ → List (ℤ × ℤ) → List Entry
nodes_entries field at before [] = []
nodes_entries field at before (node ∷ nodes) = node_entries field at before node (nodes_entries field (at + 1) node.0 nodes)

abbrev pub count_entry : Field → ℤ → Entry
count_entry field count = entry field 0 count (Between (pos 2) (pos 20))

abbrev pub curve_entries : Field → List (ℤ × ℤ) → List Entry
curve_entries field nodes = count_entry field (pos (length nodes)) ∷ nodes_entries field 0 (negsuc 0) nodes

-- a number above each of a part
abbrev pub above_entries : Field → ℤ → Part → List Entry
above_entries field z (one y) = entry field 0 z (Above y) ∷ []
above_entries field z (three t) = entry field 0 z (Above t.0) ∷ entry field 0 z (Above t.1) ∷ entry field 0 z (Above t.2) ∷ []
above_entries field z (nine t) = []
above_entries field z (pairs ns) = []
above_entries field z (flag b) = []

abbrev pub nonzero_entries : Field → ℤ → Part → List Entry
nonzero_entries field z (one y) = entry field 0 z (NotBothZero y) ∷ []
nonzero_entries field z (three t) = []
nonzero_entries field z (nine t) = []
nonzero_entries field z (pairs ns) = []
nonzero_entries field z (flag b) = []

-- the part at a place, or a part of no numbers
abbrev pub part_at : List Part → ℕ → Part
part_at all i = get_or all i (flag false)

abbrev pub tie_entries : Field → ℤ → Tie → List Part → List Entry
tie_entries field z tie.Free all = []
tie_entries field z (tie.Above i) all = above_entries field z (part_at all i)
tie_entries field z (tie.NotBothZero i) all = nonzero_entries field z (part_at all i)

abbrev pub nine_entries : Field → Rule → Triple × Triple × Triple → List Entry
nine_entries field rule rows = three_entries field 0 rows.0 rule (three_entries field 3 rows.1 rule (three_entries field 6 rows.2 rule []))

abbrev pub cell_entries : List Part → Cell → Part → List Entry
cell_entries all c (one z) = entry c.field 0 z (Between c.low c.high) ∷ tie_entries c.field z c.tie all
cell_entries all c (three t) = three_entries c.field 0 t (Between c.low c.high) []
cell_entries all c (nine t) = nine_entries c.field (Between c.low c.high) t
cell_entries all c (pairs ns) = curve_entries c.field ns
cell_entries all c (flag b) = []

-- the entries of some cells, tied to all parts of the row
abbrev pub cells_entries : List Part → List Cell → List Part → List Entry
cells_entries all [] ps = []
cells_entries all (c ∷ cs) [] = []
cells_entries all (c ∷ cs) (p ∷ ps) = cell_entries all c p ++ cells_entries all cs ps

abbrev pub row_entries : List Cell → List Part → List Entry
row_entries row parts = cells_entries parts row parts

abbrev pub mask_entries : Option StatedMask → List Entry
mask_entries None = []
mask_entries (Some m) = row_entries (mask_row_of m.0) m.1

-- the fields of a blend, then those of its mask
abbrev pub blend_entries : StatedBlend → List Entry
blend_entries s = row_entries blend_row s.parts ++ mask_entries s.mask

-- ---- what a row's parts are

abbrev pub HasLayout : Layout → Part → Type 0
HasLayout layouts.One (one z) = Unit {0}
HasLayout layouts.Three (three t) = Unit {0}
HasLayout layouts.Nine (nine t) = Unit {0}
HasLayout layouts.Pairs (pairs ns) = Unit {0}
HasLayout layouts.Flag (flag b) = Unit {0}
HasLayout s p = ⊥

-- the parts are those of a row, each of its cell's layout
abbrev pub Fits : List Cell → List Part → Type 0
Fits [] [] = Unit {0}
Fits [] (p ∷ ps) = ⊥
Fits (c ∷ cs) [] = ⊥
Fits (c ∷ cs) (p ∷ ps) = HasLayout c.layout p × Fits cs ps

-- ---- what a row has to be

-- no two cells have one key, and no number is greater than a channel's greatest
abbrev pub is_row : List Cell → Bool
is_row [] = true
is_row (c ∷ cs) = not (is_one_of (key_of c) (keys_of cs)) && (int_le (negsuc 1048574) c.low && (int_le c.high (pos 1048575) && is_row cs))
