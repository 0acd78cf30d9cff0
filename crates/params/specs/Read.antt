-- What a JSON value is as settings of a module or as a blend: its form, then its numbers.
use Rattle.std.specs.Prelude.{◌≡◌, ℕ, nat_eq, if◌then◌else◌, ⊤, List, [], Option, Some, None, Result, Ok, Err}
use Rattle.serde_json.specs.Data.{Data}
use Rattle.params.specs.Ranges.{newest_of, old_version, params_from, old_from, migrated, blend_from}
use Rattle.params.specs.Rules.{first_fault}
use Rattle.params.specs.Stated.{StatedBlend, row_form, row_entries, blend_form, blend_entries, null_or}
use Rattle.params.specs.Table.{Part, row_of, old_row_of}
use Rattle.params.specs.declared.blending.Blend.{Blend}
use Rattle.params.specs.declared.modules.Module.{Module}
use Rattle.params.specs.declared.old.OldVersion.{OldVersion}
use Rattle.params.specs.declared.row.Cell.{Cell}
use Rattle.params.specs.declared.settings.Params.{Params}
use Rattle.params.specs.declared.fault.JsonEnd.{JsonEnd}
use Rattle.params.specs.declared.fault.JsonEnd.TheVariants.{Form, Param, Memory}
use Rattle.params.specs.declared.fault.ParamFault.{ParamFault}

abbrev pub or_form : {A B : Type 0} → Option A → (A → Result B JsonEnd) → Result B JsonEnd
or_form None next = Err Form
or_form (Some x) next = next x

abbrev pub unless_fault : {B : Type 0} → Result ⊤ ParamFault → B → Result B JsonEnd
unless_fault (Ok t) x = Ok x
unless_fault (Err f) x = Err (Param f)

-- what the parts of a row make, where the value has the row's form and all its numbers lie within their ranges
abbrev pub row_read : {B : Type 0} → List Cell → (List Part → B) → Data → Result B JsonEnd
row_read row make d = or_form (row_form [] row d) (λ ps. unless_fault (first_fault (row_entries row ps)) (make ps))

-- a value as settings of the newest version
abbrev pub newest_read : Module → Data → Result Params JsonEnd
newest_read m d = row_read (row_of m) (params_from m) d

-- a value as settings of an old version, which become those that mean the same
abbrev pub old_read : OldVersion → Data → Result Params JsonEnd
old_read o d = row_read (old_row_of o) (λ ps. migrated (old_from o ps)) d

-- what a value is as settings of a version of a module: `Form` outside the form or at a version that the module hasn't, else `Param` with the first number outside its range
abbrev pub params_of : Module → ℕ → Data → Result Params JsonEnd
params_of m version d =
    if nat_eq version (newest_of m) then newest_read m d
    else or_form (old_version m version) (λ o. old_read o d)

abbrev pub blend_kept : Option StatedBlend → Result (Option Blend) JsonEnd
blend_kept None = Ok None
blend_kept (Some s) = unless_fault (first_fault (blend_entries s)) (Some (blend_from s))

-- what a value is as a blend, or as none where it is null
abbrev pub blend_of : Data → Result (Option Blend) JsonEnd
blend_of d = or_form (null_or blend_form d) blend_kept

-- ---- contracts

-- a form as a reading
abbrev pub form_read : {A : Type 0} → Option A → Result A JsonEnd
form_read o = or_form o (λ x. Ok x)

-- what was returned, seen by a view, is what reading gives, unless memory ran out
abbrev pub Gives : {A B : Type 0} → (A → B) → Result A JsonEnd → Result B JsonEnd → Type 0
Gives view (Ok x) read = read ≡ Ok (view x)
Gives view (Err Form) read = read ≡ Err Form
Gives view (Err (Param f)) read = read ≡ Err (Param f)
Gives view (Err Memory) read = ⊤

abbrev pub IsReading : {B : Type 0} → Result B JsonEnd → Result B JsonEnd → Type 0
IsReading r read = Gives (λ x. x) r read
