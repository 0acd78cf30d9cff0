-- What a number of the settings has to be, and the first number that isn't.
use Rattle.std.specs.Prelude.{◌≡◌, ℕ, ◌+◌, ℤ, pos, neg_ℤ, ◌≤ℤ◌, ◌<ℤ◌, int_le, int_lt, ◌&&◌, Bool, not, List, [], ◌∷◌, ⊤, Result, Ok, Err, if◌then◌else◌}
use Rattle.std.specs.List.{AllByRecursion}
use Rattle.std.specs.Ordering.{int_eq}
use Rattle.params.specs.declared.fault.Field.{Field}
use Rattle.params.specs.declared.fault.ParamFault.{ParamFault}
use Rattle.params.specs.declared.rules.Rule.{Rule}
use Rattle.params.specs.declared.rules.Rule.TheVariants.{Between, Above, NotBothZero}
use Rattle.params.specs.declared.rules.Entry.{Entry}

-- from 0 to a number
abbrev pub up_to : ℤ → Rule
up_to high = Between (pos 0) high

-- from a number below 0 to the same above 0
abbrev pub either_side : ℤ → Rule
either_side high = Between (neg_ℤ high) high

abbrev pub entry : Field → ℕ → ℤ → Rule → Entry
entry field at value rule = record { field = field; at = at; value = value; rule = rule }

-- three numbers of one rule, at places from one on
abbrev pub three_entries : Field → ℕ → ℤ × ℤ × ℤ → Rule → List Entry → List Entry
three_entries field at values rule more =
    entry field at values.0 rule ∷ entry field (at + 1) values.1 rule ∷ entry field (at + 2) values.2 rule ∷ more

-- the number keeps the rule
abbrev pub Keeps : ℤ → Rule → Type 0
Keeps value (Between low high) = (low ≤ℤ value) × (value ≤ℤ high)
Keeps value (Above low) = low <ℤ value
Keeps value (NotBothZero other) = other ≡ pos 0 → value ≡ pos 0 → ⊥

abbrev pub keeps : ℤ → Rule → Bool
keeps value (Between low high) = int_le low value && int_le value high
keeps value (Above low) = int_lt low value
keeps value (NotBothZero other) = not (int_eq other (pos 0) && int_eq value (pos 0))

abbrev pub IsKept : Entry → Type 0
IsKept e = Keeps e.value e.rule

-- all entries are kept
pub record AllKept (entries : List Entry) : Type 0 where
  pub kept : AllByRecursion IsKept entries

abbrev pub fault_at : Entry → ParamFault
fault_at e = record { field = e.field; at = e.at; value = e.value }

-- the entry as a fault where it isn't kept
abbrev pub held : Entry → Result ⊤ ParamFault
held e = if keeps e.value e.rule then Ok tt else Err (fault_at e)

-- the fault that there is, else what comes behind
abbrev pub or_else : Result ⊤ ParamFault → Result ⊤ ParamFault → Result ⊤ ParamFault
or_else (Ok t) more = more
or_else (Err f) more = Err f

-- the first entry that isn't kept, as a fault
unfoldable pub first_fault : List Entry → Result ⊤ ParamFault
first_fault [] = Ok tt
first_fault (e ∷ es) = or_else (held e) (first_fault es)
