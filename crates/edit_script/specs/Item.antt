-- Items of a history: their form, then their numbers.
use Rattle.std.specs.Prelude.{ℕ, List, [], ◌∷◌, Bool, true, Option, Some, None, option_and_then, Result, Ok, Err, codes, if◌then◌else◌}
use Rattle.serde_json.specs.Data.{Data}
use Rattle.serde_json.specs.Find.{get}
use Rattle.params.specs.declared.blending.Blend.{Blend}
use Rattle.params.specs.declared.fault.ParamFault.{ParamFault}
use Rattle.params.specs.declared.fault.JsonEnd.{JsonEnd}
use Rattle.params.specs.declared.fault.JsonEnd.TheVariants.{Form, Param, Memory}
use Rattle.params.specs.declared.modules.Module.{Module}
use Rattle.params.specs.declared.settings.Params.{Params}
use Rattle.params.specs.Form.{natural_or, bool_or, text_at, or_absent, ◌>>=◌}
use Rattle.params.specs.Names.{module_named}
use Rattle.params.specs.Ranges.{blends, blend_fault}
use Rattle.params.specs.Read.{params_of, blend_of}
use Rattle.history.specs.declared.items.Item.{Item}
use Rattle.edit_script.specs.Binds.{result_and_then}
use Rattle.edit_script.specs.Parts.{if_only}

-- ---- numbers

-- what reading gives of a value that has the form: the value, or the first number outside its range
abbrev pub formed : {A : Type 0} → Result A JsonEnd → Option (Result A ParamFault)
formed (Ok x) = Some (Ok x)
formed (Err Form) = None
formed (Err (Param f)) = Some (Err f)
formed (Err Memory) = None

-- the blend of a module: on one that doesn't blend it is a fault, whatever the blend's own numbers are
abbrev pub blend_at : Module → Result (Option Blend) ParamFault → Result (Option Blend) ParamFault
blend_at m (Ok None) = Ok None
blend_at m (Ok (Some b)) = if blends m then Ok (Some b) else Err blend_fault
blend_at m (Err f) = if blends m then Err f else Err blend_fault

-- the item of these parts: the numbers of the module come before those of the blend
abbrev pub item_of : Module → ℕ → Bool → Result Params ParamFault → Result (Option Blend) ParamFault → Result Item ParamFault
item_of m instance enabled params blend =
    result_and_then (λ p. result_and_then (λ b. Ok (record { instance = instance; enabled = enabled; params = p; blend = b })) (blend_at m blend)) params

-- ---- form

-- what the keys of an object say as a module
abbrev pub module_at : Data → Option Module
module_at d = option_and_then module_named (text_at (codes "module") d)

-- the version of the module's settings that the keys of an object say: 1 where they say none
abbrev pub version_at : Data → Option ℕ
version_at d = natural_or (codes "version") 1 0 255 d

abbrev pub params_at : Module → ℕ → Data → Option (Result Params ParamFault)
params_at m version d = option_and_then (λ v. formed (params_of m version v)) (get (codes "params") d)

abbrev pub blend_in : Data → Option (Result (Option Blend) ParamFault)
blend_in d = or_absent (Ok None) (λ v. formed (blend_of v)) (get (codes "blend") d)

abbrev pub item_keys : List (List ℕ)
item_keys = codes "module" ∷ codes "instance" ∷ codes "enabled" ∷ codes "version" ∷ codes "params" ∷ codes "blend" ∷ []

-- the item that the keys of an object say, if they have the form
unfoldable pub item_at_keys : Data → Option (Result Item ParamFault)
item_at_keys d = do
  m ← module_at d
  instance ← natural_or (codes "instance") 0 0 255 d
  enabled ← bool_or (codes "enabled") true d
  version ← version_at d
  params ← params_at m version d
  blend ← blend_in d
  Some (item_of m instance enabled params blend)

abbrev pub item_form : Data → Option (Result Item ParamFault)
item_form d = if_only item_keys d (item_at_keys d)
