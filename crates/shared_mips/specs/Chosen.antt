-- The level that was chosen to go.
use Rattle.std.specs.Prelude.{ℕ, Option, Some, None, Result, Ok, Err}
use Rattle.std.specs.declared.alloc.AllocError.{AllocError}
use Rattle.shared_mips.specs.declared.cells.Chosen.{Chosen}

abbrev pub chosen_level : Result (Option Chosen) AllocError → Result (Option ℕ) AllocError
chosen_level (Ok (Some chosen)) = Ok (Some chosen.level)
chosen_level (Ok None) = Ok None
chosen_level (Err e) = Err e
