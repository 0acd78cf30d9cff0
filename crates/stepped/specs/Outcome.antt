-- what a list of events leaves
use Rattle.std.specs.Prelude.{◌≡◌, ℕ, ◌+◌, List, [], ◌∷◌, ◌++◌, take, slice_get, Option, Some, None, Result, Ok, Err}
use Rattle.std.specs.Prelude.{option_and_then}
use Rattle.dev_core.specs.Subject.{SubjectSeen}
use Rattle.events.specs.declared.event.Event.{Event}
use Rattle.events.specs.declared.event.Event.TheVariants.{Node}
use Rattle.stepped.specs.declared.answer.Answer.{Answer}
use Rattle.stepped.specs.declared.answer.StepEnd.{StepEnd}
use Rattle.stepped.specs.declared.answer.StepEnd.TheVariants.{NotAllowed, Memory}
use Rattle.stepped.specs.Step.{Core, core_of, step}

-- the state, each event's answer, and the number of node events
pub record OutcomeSeen : Type 0 where
  pub core : Core
  pub answers : List Answer
  pub processed : ℕ

abbrev pub start_of : SubjectSeen → OutcomeSeen
start_of subject = record { core = core_of subject; answers = []; processed = 0 }

-- 1 for a node event
abbrev pub nodes_in : Event → ℕ
nodes_in (Node w) = 1
nodes_in _ = 0

-- the outcome with this state and this answer to an event
abbrev pub outcome_with : OutcomeSeen → Event → Core × Answer → OutcomeSeen
outcome_with o e next = record { core = next.0; answers = o.answers ++ next.1 ∷ []; processed = o.processed + nodes_in e }

-- the outcome after all events; nothing where one of them may not happen after those before it
abbrev pub run : OutcomeSeen → List Event → Option OutcomeSeen
run o [] = Some o
run o (e ∷ es) = option_and_then (λ next. run (outcome_with o e next) es) (step o.core e)

-- the event in this place, counted from 1, is the first that may not happen, and the outcome is that before it
pub record IsRefused (o : OutcomeSeen) (es : List Event) (place : ℕ) (new : OutcomeSeen) : Type 0 where
  pub before : ℕ
  pub counted : place ≡ before + 1
  pub front : run o (take before es) ≡ Some new
  pub event : Event
  pub stands : slice_get es before ≡ Some event
  pub refused : step new.core event ≡ None

-- one event: it happened, or may not happen and left all as it was; where memory ran out all is as before
abbrev pub IsStep : OutcomeSeen → Event → OutcomeSeen → Result (Unit {0}) StepEnd → Type 0
IsStep o e new (Ok u) = run o (e ∷ []) ≡ Some new
IsStep o e new (Err (NotAllowed place)) = (step o.core e ≡ None) × (place ≡ 1) × (new ≡ o)
IsStep o e new (Err Memory) = new ≡ o

-- a list of events: all happened, or the first that may not happen is told; where memory ran out, a front of them happened
abbrev pub IsRun : OutcomeSeen → List Event → OutcomeSeen → Result (Unit {0}) StepEnd → Type 0
IsRun o es new (Ok u) = run o es ≡ Some new
IsRun o es new (Err (NotAllowed place)) = IsRefused o es place new
IsRun o es new (Err Memory) = (i : ℕ) × (run o (take i es) ≡ Some new)
