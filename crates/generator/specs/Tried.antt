-- Events that are tried one after the other, until one happens.
use Rattle.std.specs.Prelude.{ℕ, List, [], ◌∷◌, ◌++◌, Option, Some, None}
use Rattle.journal.specs.Desk.{due}
use Rattle.events.specs.declared.event.Event.{Event}
use Rattle.stepped.specs.declared.answer.Answer.{Answer}
use Rattle.stepped.specs.Step.{Core, desk_at, step}
use Rattle.generator.specs.NextOf.{Done, takes, run_on, done_with}
use Rattle.generator.specs.Rounds.{Course, course_with}

-- this event, where it may happen, or else what comes of the others
abbrev pub tried_or : Course → Event → Course × Option Done → Option (Core × Answer) → Course × Option Done
tried_or c e others None = others
tried_or c e others (Some next) = (course_with c e next, Some (e, next.1))

-- the first of the events that may happen
abbrev pub tried : Course → List Event → Course × Option Done
tried c [] = (c, None)
tried c (e ∷ es) = tried_or c e (tried c es) (step c.outcome.core e)

-- what a worker would do next, what it would rather do first
abbrev pub wish_to_take : Course → ℕ → List Event
wish_to_take c w = takes w (due c.outcome.core.subject.script (desk_at c.outcome.core))

abbrev pub wishes : Course → ℕ → List Done → List Event
wishes c w done = wish_to_take c w ++ run_on w done

abbrev pub next_tried : Course → ℕ → List Done → Course × Option Done
next_tried c w done = tried c (wishes c w done)

-- what a worker has done, with what it did now
abbrev pub with_done : List Done → Option Done → List Done
with_done done None = done
with_done done (Some d) = done_with done d.0 d.1
