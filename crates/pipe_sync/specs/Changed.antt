-- How much of a pipe's nodes a change of its history makes anew.
use Rattle.std.specs.Prelude.{◌≡◌, ℕ, ◌+◌, false, if◌then◌else◌, List, [], ◌∷◌, Option, Some, None}
use Rattle.history.specs.declared.changes.Kinds.{Kinds}
use Rattle.pipe_nodes.specs.declared.active.Active.{Active}
use Rattle.pipe_nodes.specs.SamePrefix.{same_active}

-- one where the old list has another instance at a place than the new one, or none
abbrev pub change_at : Option Active → Active → ℕ
change_at None a = 1
change_at (Some b) a = if same_active b a then 0 else 1

-- at how many places the new list differs from the old one; a place past the old list's end differs
abbrev pub changed_places : List Active → List Active → ℕ
changed_places old [] = 0
changed_places [] (a ∷ new) = change_at None a + changed_places [] new
changed_places (b ∷ old) (a ∷ new) = change_at (Some b) a + changed_places old new

-- changes of these kinds leave the nodes: at most the view changed
pub record LeaveNodes (kinds : Kinds) : Type 0 where
  pub top : kinds.top ≡ false
  pub synch : kinds.synch ≡ false
  pub remove : kinds.remove ≡ false
