-- What the code holds for the fields of a row.
use Rattle.std.specs.Prelude.{ℕ, ℤ, pos, List, map, take, option_map}
use Rattle.params.specs.Table.{Part, one, three, nine, pairs, flag, ModuleSeen}
use Rattle.params.specs.Stated.{StatedMask, StatedBlend as BlendSeen}
use Rattle.params.specs.declared.blend_form.StatedBlend.{StatedBlend}
use Rattle.params.specs.declared.blend_form.StatedMask.{StatedMask as MaskHeld}
use Rattle.params.specs.declared.modules.ModuleRow.{ModuleRow}
use Rattle.params.specs.declared.parts.Parts.{Parts}
use Rattle.params.specs.declared.part.Numbers.{Numbers}
use Rattle.params.specs.declared.part.Numbers.TheVariants as numbers
use Rattle.params.specs.declared.part.Stated.{Stated}
use Rattle.params.specs.declared.part.Stated.TheVariants as read_as

abbrev pub wide_node : ℕ × ℕ → ℤ × ℤ
wide_node node = (pos node.0, pos node.1)

abbrev pub wide_nodes : List (ℕ × ℕ) → List (ℤ × ℤ)
wide_nodes nodes = map wide_node nodes

abbrev pub seen : Numbers → Part
seen (numbers.One z) = one z
seen (numbers.Three t) = three t
seen (numbers.Nine t) = nine t
seen (numbers.Nodes ns) = pairs (wide_nodes ns.now)
seen (numbers.Pairs ns) = pairs ns.now
seen (numbers.Flag b) = flag b

abbrev pub all_seen : List Numbers → List Part
all_seen ns = map seen ns

-- what a field was read to hold
abbrev pub stated : Stated → Part
stated (read_as.Plain n) = seen n
stated (read_as.Pairs v) = pairs v.items

abbrev pub all_stated : List Stated → List Part
all_stated xs = map stated xs

-- the parts that are there
abbrev pub parts_seen : Parts → List Part
parts_seen p = all_seen (take p.count p.parts)

-- ---- modules and blends

abbrev pub module_seen : ModuleRow → ModuleSeen
module_seen r = record { number = r.number; name = r.name.now; newest = r.newest; blends = r.blends; takes_item = r.takes_item; cells = r.cells.now }

abbrev pub mask_seen : MaskHeld → StatedMask
mask_seen m = (m.kind, parts_seen m.parts)

abbrev pub blend_seen : StatedBlend → BlendSeen
blend_seen b = record { mode = b.mode; parts = parts_seen b.parts; mask = option_map mask_seen b.mask }
