-- The passes that stand behind the holds.
use Rattle.std.specs.Prelude.{◌≡◌, ℕ, List, map, slice_index_or, Option, Some, None, option_map}
use Rattle.level_store.specs.declared.hold.Hold.{Hold}
use Rattle.level_store.specs.declared.hold.Hold.TheVariants.{Writes, Reads}
use Rattle.level_store.specs.declared.holds.HoldPass.{HoldPass}
use Rattle.level_store.specs.declared.holds.HoldPass.TheVariants.{Write, Read}

abbrev pub hold_by : HoldPass → Hold
hold_by (Write pass) = Writes pass.level
hold_by (Read pass) = Reads pass.level

abbrev pub holds_by : List (Option HoldPass) → List (Option Hold)
holds_by passes = map (option_map hold_by) passes

-- a pass to write is this worker's
abbrev pub IsOwn : ℕ → Option HoldPass → Type 0
IsOwn w None = Unit {0}
IsOwn w (Some (Write pass)) = pass.worker ≡ w
IsOwn w (Some (Read pass)) = Unit {0}

-- each worker has its own passes
abbrev pub AreOwn : List (Option HoldPass) → Type 0
AreOwn passes = (w : ℕ) → IsOwn w (slice_index_or passes w None)
