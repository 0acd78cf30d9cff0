-- The names that scripts give modules, modes and fields.
use Rattle.std.specs.Prelude.{ℕ, ◌-◌, List, [], ◌∷◌, length, Option, codes}
use Rattle.params.specs.Form.{named}
use Rattle.params.specs.Table.{module_row, all_modules}
use Rattle.params.specs.declared.blending.Mode.{Mode}
use Rattle.params.specs.declared.blending.Mode.TheVariants as modes
use Rattle.params.specs.declared.modules.Module.{Module}
use Rattle.params.specs.declared.fault.Field.{Field}
use Rattle.params.specs.declared.fault.Field.TheVariants as fields

abbrev pub name_of_module : Module → List ℕ
name_of_module m = (module_row m).name

abbrev pub module_named : List ℕ → Option Module
module_named text = named name_of_module all_modules text

abbrev pub name_of_mode : Mode → List ℕ
name_of_mode modes.Normal = codes "normal"
name_of_mode modes.Multiply = codes "multiply"
name_of_mode modes.Screen = codes "screen"
name_of_mode modes.Lighten = codes "lighten"
name_of_mode modes.Darken = codes "darken"
name_of_mode modes.Add = codes "add"
name_of_mode modes.Subtract = codes "subtract"
name_of_mode modes.Difference = codes "difference"
name_of_mode modes.Average = codes "average"

abbrev pub all_modes : List Mode
all_modes = modes.Normal ∷ modes.Multiply ∷ modes.Screen ∷ modes.Lighten ∷ modes.Darken ∷ modes.Add ∷ modes.Subtract ∷ modes.Difference ∷ modes.Average ∷ []

abbrev pub mode_named : List ℕ → Option Mode
mode_named text = named name_of_mode all_modes text

-- a module's place among the modules
abbrev pub number_of : Module → ℕ
number_of m = (module_row m).number

-- the greatest number of a module
abbrev pub last_number : ℕ
last_number = length all_modules - 1

-- a field's name: the key under which it stands
abbrev pub name_of_field : Field → List ℕ
name_of_field fields.Black = codes "black"
name_of_field fields.White = codes "white"
name_of_field fields.Mul = codes "mul"
name_of_field fields.Swap = codes "swap"
name_of_field fields.FlipX = codes "flip_x"
name_of_field fields.FlipY = codes "flip_y"
name_of_field fields.Left = codes "left"
name_of_field fields.Top = codes "top"
name_of_field fields.Right = codes "right"
name_of_field fields.Bottom = codes "bottom"
name_of_field fields.Gain = codes "gain"
name_of_field fields.Stops = codes "stops"
name_of_field fields.Rows = codes "rows"
name_of_field fields.Nodes = codes "nodes"
name_of_field fields.Red = codes "red"
name_of_field fields.Green = codes "green"
name_of_field fields.Blue = codes "blue"
name_of_field fields.Radius = codes "radius"
name_of_field fields.Amount = codes "amount"
name_of_field fields.Opacity = codes "opacity"
name_of_field fields.Ax = codes "ax"
name_of_field fields.Ay = codes "ay"
name_of_field fields.Dx = codes "dx"
name_of_field fields.Dy = codes "dy"
name_of_field fields.Slope = codes "slope"
name_of_field fields.Cx = codes "cx"
name_of_field fields.Cy = codes "cy"
name_of_field fields.Ux = codes "ux"
name_of_field fields.Uy = codes "uy"
name_of_field fields.A = codes "a"
name_of_field fields.B = codes "b"
name_of_field fields.Feather = codes "feather"
name_of_field fields.Blend = codes "blend"
