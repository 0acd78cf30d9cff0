-- What a worker does next.
use Rattle.std.specs.Prelude.{ℕ, ◌-◌, Bool, true, false, if◌then◌else◌, List, [], ◌∷◌, ◌++◌, length, slice_get, Option, Some, None, is_some, is_none}
use Rattle.std.specs.List.{list_any}
use Rattle.outside.specs.declared.job_name.JobName.{JobName}
use Rattle.outside.specs.declared.job_name.JobName.TheVariants as job
use Rattle.journal.specs.Desk.{due}
use Rattle.events.specs.declared.event.Event.{Event}
use Rattle.events.specs.declared.event.Event.TheVariants.{Take, TakeTicket, Look, Restart, Find, Reach, Evict, Demote, Load, Leave, Node, Keep, Finish, Publish, FinishTicket}
use Rattle.stepped.specs.declared.answer.Answer.{Answer}
use Rattle.stepped.specs.declared.answer.Answer.TheVariants as answer
use Rattle.stepped.specs.Step.{Core, run_of, desk_at, step}

-- an event that happened, with its answer
abbrev pub Done : Type 0
Done = Event × Answer

-- ---- the order of one run
--
-- Each list has what a worker would do next, what it would rather do first. The table of events says which of these may
-- happen, and the first that may is done:
--
-- * to look is for the run of a pipe alone, so a ticket's run goes on at once;
-- * to find is for a run without a stage, and to reach for one at another level than the source's;
-- * to leave is for a worker that holds a level;
-- * a node is for a run that has one left, and to finish is for a run that has none left;
-- * to publish is for the run of a pipe, and to finish a ticket for that of a ticket.

-- to go on with a stage, where nothing has to be looked for
abbrev pub apply_or_finish : ℕ → List Event
apply_or_finish w = Node w ∷ Finish w ∷ []

-- to go on with a stage: before each node and before the end, a pipe's run looks
abbrev pub go_on : ℕ → List Event
go_on w = Look w ∷ apply_or_finish w

-- a new run: a pipe's looks; then a stage is looked for
abbrev pub begin : ℕ → List Event
begin w = Look w ∷ Find w ∷ []

-- behind a look: a run that was overtaken begins anew, and another one goes on
abbrev pub behind_look : ℕ → Answer → List Event
behind_look w (answer.Superseded m) = Restart w ∷ []
behind_look w _ = Find w ∷ apply_or_finish w

-- behind a find: without a stage, the level is reached for; at the source's own level the input is loaded
abbrev pub behind_find : ℕ → Answer → List Event
behind_find w answer.NotFound = Reach w ∷ Load w ∷ []
behind_find w _ = go_on w

-- behind a reach: where no slot was free, one is evicted, but only once
abbrev pub behind_reach : ℕ → Bool → Answer → List Event
behind_reach w has_evicted answer.Write = Demote w ∷ []
behind_reach w has_evicted answer.Full = if has_evicted then Load w ∷ [] else Evict w ∷ []
behind_reach w has_evicted _ = Load w ∷ []

-- behind an evict: where a slot came free, the level is reached for once more
abbrev pub behind_evict : ℕ → Answer → List Event
behind_evict w (answer.Evicted level) = Reach w ∷ []
behind_evict w _ = Load w ∷ []

-- what a run goes on with behind its last event, by the answer to it, and by whether the run has evicted a level
abbrev pub behind : ℕ → Bool → Event → Answer → List Event
behind w has_evicted (Look _) a = behind_look w a
behind w has_evicted (Find _) a = behind_find w a
behind w has_evicted (Reach _) a = behind_reach w has_evicted a
behind w has_evicted (Evict _) a = behind_evict w a
behind w has_evicted (Demote _) a = Load w ∷ []
behind w has_evicted (Load _) a = Leave w ∷ go_on w
behind w has_evicted (Leave _) a = go_on w
behind w has_evicted (Node _) a = Keep w ∷ []
behind w has_evicted (Keep _) a = go_on w
behind w has_evicted (Finish _) a = Publish w ∷ FinishTicket w ∷ []
behind w has_evicted _ a = []

abbrev pub is_eviction : Event → Bool
is_eviction (Evict w) = true
is_eviction _ = false

abbrev pub is_evict : Done → Bool
is_evict d = is_eviction d.0

abbrev pub behind_last : ℕ → Bool → Option Done → List Event
behind_last w has_evicted None = begin w
behind_last w has_evicted (Some d) = behind w has_evicted d.0 d.1

-- what a run goes on with that has done this since it began
abbrev pub run_on : ℕ → List Done → List Event
run_on w done = behind_last w (list_any is_evict done) (slice_get done (length done - 1))

-- ---- taking

abbrev pub take_of : ℕ → JobName → Event
take_of w (job.Pipe p) = Take w p
take_of w (job.Ticket t) = TakeTicket w t

-- to take what is due
abbrev pub takes : ℕ → Option JobName → List Event
takes w None = []
takes w (Some name) = take_of w name ∷ []

-- ---- the next event

-- the first event that may happen
abbrev pub first_allowed : Core → List Event → Option Event
first_allowed s [] = None
first_allowed s (e ∷ es) = if is_some (step s e) then Some e else first_allowed s es

-- a worker without a run takes what is due, in the desk's order; one with a run goes on with it
abbrev pub due_or_run : Core → ℕ → List Done → List Event
due_or_run s w done = if is_none (run_of s w) then takes w (due s.subject.script (desk_at s)) else run_on w done

-- What a worker does next, where it does anything. `done` are its events since it took its job or began it anew.
abbrev pub next_of : Core → ℕ → List Done → Option Event
next_of s w done = first_allowed s (due_or_run s w done)

-- ---- what a worker has done since

abbrev pub begins_run : Event → Bool
begins_run (Take w p) = true
begins_run (TakeTicket w t) = true
begins_run (Restart w) = true
begins_run _ = false

-- the worker's events since its run began, with one more
abbrev pub done_with : List Done → Event → Answer → List Done
done_with done e a = if begins_run e then [] else done ++ (e, a) ∷ []
