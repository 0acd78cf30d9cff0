-- What an undo stack keeps of its lists: few values, and room for as many as the depth.
use Rattle.std.specs.Prelude.{ℕ, ◌+◌, ◌≤◌, List, length}

pub record IsKept {T : Type 0} (past future : List T) (depth past_room future_room : ℕ) : Type 0 where
  pub some_depth : 1 ≤ depth
  pub small_depth : depth ≤ 64
  pub few : length past + length future ≤ depth
  pub past_fits : depth ≤ past_room
  pub future_fits : depth ≤ future_room
