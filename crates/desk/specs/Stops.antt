-- that a worker stops the desk
use Rattle.std.specs.Prelude.{◌≡◌, ℕ, Bool, true, false, List, [], ◌∷◌}
use Rattle.journal.specs.declared.entry.Entry.{Entry}
use Rattle.journal.specs.declared.entry.Entry.TheVariants.{Stopped}
use Rattle.desk.specs.Passes.{DeskKnown}
use Rattle.desk.specs.Turns.{OneTurn, Found}

-- a worker's stop adds its entry where the desk wasn't stopped before
abbrev pub stop_adds : ℕ → Bool → List Entry
stop_adds w true = []
stop_adds w false = Stopped w ∷ []

-- one turn that stops the desk
pub record StopTurn (old new : DeskKnown) : Type 0 where
  pub before : Bool
  pub turn : OneTurn old new (stop_adds old.number before)
  pub was : Found new.seen (stop_adds old.number before) (λ d. d.stopped ≡ before)
