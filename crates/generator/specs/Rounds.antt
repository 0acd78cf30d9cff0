-- The rounds: how the events of a whole run come about.
use Rattle.std.specs.Prelude.{◌≡◌, ⊤, Result, Ok, Err, ℕ, zero, suc, Bool, false, ◌&&◌, if◌then◌else◌, List, [], ◌∷◌, ◌++◌, length, map, sum, slice_get, Option, Some, None, is_none}
use Rattle.std.specs.Option.{option_map_or}
use Rattle.edit_steps.specs.declared.step.Step.{Step}
use Rattle.edit_steps.specs.declared.fault.ScriptEnd.{ScriptEnd}
use Rattle.edit_steps.specs.declared.fault.ScriptEnd.TheVariants.{Fault}
use Rattle.edit_steps.specs.declared.fault.ScriptEnd.TheVariants as script_end
use Rattle.edit_steps.specs.Faults.{is_settle}
use Rattle.edit_steps.specs.Script.{changes}
use Rattle.journal.specs.declared.entry.Entry.{Entry}
use Rattle.journal.specs.Lines.{lines}
use Rattle.dev_core.specs.Jobs.{FrameSeen}
use Rattle.dev_core.specs.Lines.{frames_of}
use Rattle.dev_core.specs.Subject.{SubjectSeen, shown}
use Rattle.events.specs.declared.event.Event.{Event}
use Rattle.events.specs.declared.event.Event.TheVariants.{Editor}
use Rattle.stepped.specs.declared.answer.Answer.{Answer}
use Rattle.stepped.specs.Step.{Core, step}
use Rattle.stepped.specs.Outcome.{OutcomeSeen, start_of, outcome_with, run}
use Rattle.generator.specs.NextOf.{Done, next_of, done_with}
use Rattle.generator.specs.Picture.{number_behind}
use Rattle.generator.specs.Script.{rounds_behind, IsFaultOf}
use Rattle.generator.specs.Subject.{gen_subject, gen_script, gen_steps}
use Rattle.generator.specs.declared.making.Generated.{Generated}
use Rattle.generator.specs.declared.making.GenerateEnd.{GenerateEnd}
use Rattle.generator.specs.declared.making.GenerateEnd.TheVariants.{Refused, Memory}

-- what has happened: the outcome, and the events that led to it
pub record Course : Type 0 where
  pub outcome : OutcomeSeen
  pub events : List Event

-- the course with an event more
abbrev pub course_with : Course → Event → Core × Answer → Course
course_with c e made = record { outcome = outcome_with c.outcome e made; events = c.events ++ e ∷ [] }

-- the course, and what each of two workers has done since its run began
pub record Play : Type 0 where
  pub course : Course
  pub first : List Done
  pub second : List Done

abbrev pub play_start : SubjectSeen → Play
play_start subject = record { course = record { outcome = start_of subject; events = [] }; first = []; second = [] }

-- ---- one event

-- the course behind an event that was made, with its answer; or the same course, where the event may not happen
abbrev pub made_by : Course → Event → Option (Core × Answer) → Course × Option Answer
made_by c e None = (c, None)
made_by c e (Some next) = (course_with c e next, Some next.1)

-- an event, where it may happen
abbrev pub make : Course → Event → Course × Option Answer
make c e = made_by c e (step c.outcome.core e)

-- ---- a worker's turn

-- what a worker has done, with an event more, where that happened
abbrev pub noted : List Done → Event → Option Answer → List Done
noted done e None = done
noted done e (Some a) = done_with done e a

abbrev pub turn_by : Course → List Done → Option Event → Course × List Done
turn_by c done None = (c, done)
turn_by c done (Some e) = ((make c e).0, noted done e (make c e).1)

-- a worker makes its next event, where it has one
abbrev pub turn : ℕ → Course × List Done → Course × List Done
turn w t = turn_by t.0 t.1 (next_of t.0.outcome.core w t.1)

abbrev pub first_turn : Play → Play
first_turn p = let t = turn 1 (p.course, p.first) in record { course = t.0; first = t.1; second = p.second }

abbrev pub second_turn : Play → Play
second_turn p = let t = turn 2 (p.course, p.second) in record { course = t.0; first = p.first; second = t.1 }

-- ---- rounds

-- the first worker's turn, then the second one's
abbrev pub round : Play → Play
round p = second_turn (first_turn p)

-- so many rounds
unfoldable pub rounds : ℕ → Play → Play
rounds zero p = p
rounds (suc n) p = round (rounds n p)

-- no worker has a next event
abbrev pub is_at_rest : Play → Bool
is_at_rest p = is_none (next_of p.course.outcome.core 1 p.first) && is_none (next_of p.course.outcome.core 2 p.second)

-- rounds until no worker has a next event, but at most so many
unfoldable pub rest_within : ℕ → Play → Play
rest_within zero p = p
rest_within (suc n) p = if is_at_rest p then p else rest_within n (round p)

-- Rounds until no worker has a next event. The bound is there so that this ends by its form alone: each round makes an
-- event, and a run has few.
abbrev pub rest : Play → Play
rest p = rest_within 65536 p

-- ---- the editor

-- the editor makes the next step, or closes
abbrev pub edit : Play → Play
edit p = record p { course = (make p.course Editor).0 }

-- ---- the whole

-- A step of the script. A settle comes once no worker has a next event, and behind another step there are some rounds.
abbrev pub step_by : Bool → ℕ → Play → Play
step_by settles n p = if settles then edit (rest p) else rounds n (edit p)

abbrev pub settles_at : List Step → ℕ → Bool
settles_at steps i = option_map_or is_settle (slice_get steps i) false

abbrev pub step_play : ℕ → ℕ → Play → Play
step_play start i p = step_by (settles_at (gen_steps start) i) (rounds_behind (number_behind start) i) p

-- after the first steps
unfoldable pub play_to : ℕ → ℕ → Play
play_to start zero = play_start (gen_subject start)
play_to start (suc i) = step_play start i (play_to start i)

-- after all steps the editor closes, and there are rounds until no worker has a next event
abbrev pub gen_play : ℕ → Play
gen_play start = rest (edit (play_to start 40))

abbrev pub gen_events : ℕ → List Event
gen_events start = (gen_play start).course.events

abbrev pub gen_outcome : ℕ → OutcomeSeen
gen_outcome start = (gen_play start).course.outcome

-- ---- what is said of it

-- the sum of a frame's bytes
abbrev pub frame_sum : FrameSeen → ℕ
frame_sum f = sum (shown f.subject f.name f.moment)

-- the sum of all bytes of the frames of a journal's lines
abbrev pub frames_sum : SubjectSeen → List Entry → ℕ
frames_sum s es = sum (map frame_sum (frames_of s es))

-- What is said is that of the outcome which the events leave: the script's changes, the journal's lines, and the sum of all
-- bytes of the lines' frames.
pub record IsGenerated (start : ℕ) (g : Generated) : Type 0 where
  pub outcome : OutcomeSeen
  pub ran : run (start_of (gen_subject start)) (gen_events start) ≡ Some outcome
  pub changes : g.changes ≡ changes (gen_script start)
  pub lines : g.lines ≡ length (lines (gen_script start) outcome.core.journal)
  pub sum : g.sum ≡ frames_sum (gen_subject start) outcome.core.journal

-- the same end, of a script and of the whole
abbrev pub end_of_script : ScriptEnd → GenerateEnd
end_of_script (Fault f) = Refused f
end_of_script script_end.Memory = Memory

-- a refusal tells a fault of some of the first steps
abbrev pub PlayEnds : {X : Type 0} → ℕ → Result X GenerateEnd → Type 0
PlayEnds start (Ok x) = ⊤
PlayEnds start (Err (Refused f)) = IsFaultOf (number_behind start) f
PlayEnds start (Err Memory) = ⊤

abbrev pub Generates : ℕ → Result Generated GenerateEnd → Type 0
Generates start (Ok g) = IsGenerated start g
Generates start (Err (Refused f)) = IsFaultOf (number_behind start) f
Generates start (Err Memory) = ⊤
