-- The core as a machine: one table of its events, which says of a plain state whether an event may happen, what it does, and
-- what it answers.
use Rattle.std.specs.Prelude.{ℕ, zero, suc, ◌+◌, ◌==◌, Bool, true, false, not, ◌&&◌, nat_lt, nat_le, if◌then◌else◌, is_none, slice_get, slice_set, slice_index_or, List, [], ◌∷◌, ◌++◌, length, replicate, Option, Some, None, option_map, option_and_then}
use Rattle.outside.specs.declared.job_name.JobName.{JobName}
use Rattle.outside.specs.declared.job_name.JobName.TheVariants as job
use Rattle.edit_steps.specs.declared.step.Step.{Step}
use Rattle.edit_steps.specs.Changes.{is_change}
use Rattle.edit_steps.specs.Script.{Recipe, history_at, concerns_between}
use Rattle.journal.specs.declared.entry.Entry.{Entry}
use Rattle.journal.specs.declared.entry.Entry.TheVariants as entry
use Rattle.journal.specs.Tickets.{is_ask, asked_moment}
use Rattle.journal.specs.Desk.{Desk, start, desk_of, is_due_job, is_settled}
use Rattle.pipe_nodes.specs.declared.active.Active.{Active}
use Rattle.pipe_nodes.specs.Actives.{actives_of}
use Rattle.stage_cache.specs.declared.kept.Kept.{Kept}
use Rattle.stage_cache.specs.declared.kept.Kept.TheVariants.{Stored, TooLarge}
use Rattle.stage_cache.specs.Stages.{Stage, found_index, stages_after_find, keep_answer, stages_after_keep}
use Rattle.stage_run.specs.declared.reached.At.{At}
use Rattle.stage_run.specs.StageRun.{StageRunSeen, stage_at, asked, found_stage, on_stage, entry_of, kept_at}
use Rattle.level_store.specs.Levels.{LevelsSeen, start_levels, hold_of, is_writing, is_reading, reach_got, reached_answer, reach_levels, demote_levels, abandon_levels, leave_levels, evict_levels}
use Rattle.level_store.specs.declared.hold.ReachAnswer.{ReachAnswer}
use Rattle.level_store.specs.declared.hold.ReachAnswer.TheVariants as reach
use Rattle.mip_cache.specs.Mipmaps.{evict_answer}
use Rattle.dev_core.specs.Jobs.{took_entry, done_entry, back_entry}
use Rattle.dev_core.specs.Subject.{SubjectSeen, show_of}
use Rattle.events.specs.declared.event.Event.{Event}
use Rattle.events.specs.declared.event.Event.TheVariants.{Editor, Take, TakeTicket, Look, Restart, Find, Reach, Evict, Demote, Abandon, Load, Leave, Node, Keep, Finish, Publish, FinishTicket, GiveBack}
use Rattle.stepped.specs.declared.answer.Answer.{Answer}
use Rattle.stepped.specs.declared.answer.Answer.TheVariants as answer

-- ---- the state

-- a worker's run: its job and moment, its stage, where it has one, and whether the frame is made
pub record Run : Type 0 where
  pub job : JobName
  pub moment : ℕ
  pub stage : Option At
  pub framed : Bool

-- The journal; for each worker, from number 0 on, its run where it has one; the stages that are kept, the one last used
-- first; and the mipmap levels, with what each worker holds of them.
pub record Core : Type 0 where
  pub subject : SubjectSeen
  pub journal : List Entry
  pub runs : List (Option Run)
  pub stages : List Stage
  pub levels : LevelsSeen

abbrev pub desk_at : Core → Desk
desk_at s = desk_of start s.journal

-- the greatest number of a worker: the editor is 0, and the workers are numbered from 1
abbrev pub last_worker : SubjectSeen → ℕ
last_worker subject = subject.script.settings.workers

-- a worker's run, where it has one
abbrev pub run_of : Core → ℕ → Option Run
run_of s w = slice_index_or s.runs w None

-- the state before the first event
abbrev pub core_of : SubjectSeen → Core
core_of subject = record {
  subject = subject;
  journal = [];
  runs = replicate (last_worker subject + 1) None;
  stages = [];
  levels = start_levels subject.script.settings.mip_slots (last_worker subject);
}

-- what a run goes over
abbrev pub run_over : SubjectSeen → Run → StageRunSeen
run_over s r = record { source = s.source; show = show_of s r.job r.moment; actives = actives_of (history_at s.script r.moment); stage = r.stage }

abbrev pub level_of : SubjectSeen → Run → ℕ
level_of s r = (show_of s r.job r.moment).level

-- how many module instances it applies
abbrev pub count_of : SubjectSeen → Run → ℕ
count_of s r = length (actives_of (history_at s.script r.moment))

-- ---- changes of a state

abbrev pub with_entry : Core → Entry → Core
with_entry s e = record s { journal = s.journal ++ e ∷ [] }

abbrev pub with_run : Core → ℕ → Option Run → Core
with_run s w r = record s { runs = slice_set s.runs w r }

-- a run that has only begun
abbrev pub fresh : JobName → ℕ → Run
fresh name m = record { job = name; moment = m; stage = None; framed = false }

abbrev pub with_stage : Run → Option At → Run
with_stage r stage = record r { stage = stage }

-- the state and the answer, where the event may happen
abbrev pub Next : Type 0
Next = Option (Core × Answer)

-- where the test passes
abbrev pub given : Bool → Core → Answer → Next
given may s a = if may then Some (s, a) else None

-- ---- the editor

-- the entry of the editor's next step, and what it answers: a settle waits until the desk is settled
abbrev pub edit_step : Recipe → Desk → Step → Option (Entry × Answer)
edit_step script d step =
    if is_change step then Some (entry.Changed (d.moment + 1), answer.Moment (d.moment + 1))
    else if is_ask step then Some (entry.Asked (length d.tickets + 1) d.moment, answer.Ticket (length d.tickets + 1))
    else if is_settled script d then Some (entry.Settled, answer.Done)
    else None

-- the next step, or the close where none is left
abbrev pub edit_next : Recipe → Desk → Option Step → Option (Entry × Answer)
edit_next script d (Some step) = edit_step script d step
edit_next script d None = Some (entry.Closed, answer.Done)

abbrev pub edit_of : Recipe → Desk → Option (Entry × Answer)
edit_of script d = if d.closed then None else edit_next script d (slice_get script.steps d.steps)

abbrev pub step_editor : Core → Next
step_editor s = option_map (λ (e : Entry × Answer). (with_entry s e.0, e.1)) (edit_of s.subject.script (desk_at s))

-- ---- taking

abbrev pub step_take : Core → ℕ → JobName → ℕ → Next
step_take s w name m =
    given (nat_le w (last_worker s.subject) && (is_none (run_of s w) && is_due_job s.subject.script (desk_at s) name))
    (with_run (with_entry s (took_entry name w m)) w (Some (fresh name m))) answer.Done

-- ---- what a run does

-- it is the job of a pipe, and one of the changes after the moment concerns that pipe
abbrev pub is_behind : Recipe → Desk → JobName → ℕ → Bool
is_behind script d (job.Pipe p) m = concerns_between script p m d.moment
is_behind script d (job.Ticket t) m = false

abbrev pub is_pipe : JobName → Bool
is_pipe (job.Pipe p) = true
is_pipe (job.Ticket t) = false

abbrev pub is_later : Core → Run → Bool
is_later s r = is_behind s.subject.script (desk_at s) r.job r.moment

-- the worker holds no level
abbrev pub is_free : Core → ℕ → Bool
is_free s w = is_none (hold_of s.levels w)

-- the run has a stage, of which this holds
abbrev pub at_stage : Option At → (At → Bool) → Bool
at_stage None test = false
at_stage (Some a) test = test a

-- a change that concerns the run's pipe has come since, or hasn't
abbrev pub row_look : Core → ℕ → Run → Next
row_look s w r = given (is_pipe r.job) s (if is_later s r then answer.Superseded (desk_at s).moment else answer.Go)

abbrev pub restart_entry : JobName → ℕ → ℕ → List Entry
restart_entry (job.Pipe p) w m = entry.Restarted p w m ∷ []
restart_entry (job.Ticket t) w m = []

abbrev pub row_restart : Core → ℕ → Run → Next
row_restart s w r =
    given (is_later s r && is_free s w)
    (with_run (record s { journal = s.journal ++ restart_entry r.job w (desk_at s).moment }) w (Some (fresh r.job (desk_at s).moment))) answer.Done

abbrev pub found_answer : Option ℕ → Answer
found_answer None = answer.NotFound
found_answer (Some i) = answer.Found (i + 1)

-- the longest prefix of the run whose stage is kept and covers the region that is planned there
abbrev pub row_find : Core → ℕ → Run → Next
row_find s w r =
    let ask = asked (run_over s.subject r) in
    let index = found_index s.stages ask in
    given (is_none r.stage && is_free s w) (record (with_run s w (Some (with_stage r (found_stage index)))) { stages = stages_after_find ask s.stages }) (found_answer index)

abbrev pub reach_answer : ReachAnswer → Answer
reach_answer reach.Read = answer.Read
reach_answer (reach.Pending writer) = answer.Pending writer
reach_answer reach.Write = answer.Write
reach_answer reach.Full = answer.Full

abbrev pub with_levels : Core → LevelsSeen → Core
with_levels s levels = record s { levels = levels }

abbrev pub row_reach : Core → ℕ → Run → Next
row_reach s w r =
    given (is_none r.stage && (is_free s w && nat_le 1 (level_of s.subject r)))
    (with_levels s (reach_levels w (level_of s.subject r) s.levels)) (reach_answer (reached_answer (reach_got w (level_of s.subject r) s.levels)))

abbrev pub evicted_answer : Option ℕ → Answer
evicted_answer None = answer.NoneEvicted
evicted_answer (Some level) = answer.Evicted level

abbrev pub row_evict : Core → ℕ → Run → Next
row_evict s w r = given true (with_levels s (evict_levels s.levels)) (evicted_answer (evict_answer s.levels.mips.entries))

abbrev pub row_demote : Core → ℕ → Run → Next
row_demote s w r = given (is_writing (hold_of s.levels w)) (with_levels s (demote_levels w s.levels)) answer.Done

abbrev pub row_abandon : Core → ℕ → Run → Next
row_abandon s w r = given (is_writing (hold_of s.levels w)) (with_levels s (abandon_levels w s.levels)) answer.Done

abbrev pub row_leave : Core → ℕ → Run → Next
row_leave s w r = given (is_reading (hold_of s.levels w)) (with_levels s (leave_levels w s.levels)) answer.Done

abbrev pub row_load : Core → ℕ → Run → Next
row_load s w r = given (is_none r.stage && not (is_writing (hold_of s.levels w))) (with_run s w (Some (with_stage r (stage_at 0 false)))) answer.Done

abbrev pub row_node : Core → ℕ → Run → Next
row_node s w r = given (at_stage r.stage (λ a. nat_lt a.done (count_of s.subject r)) && not r.framed) (with_run s w (Some (with_stage r (on_stage r.stage)))) answer.Done

abbrev pub kept_answer : Kept → Answer
kept_answer Stored = answer.Stored
kept_answer TooLarge = answer.TooLarge

-- the stage is kept, or is too large
abbrev pub keep_entry : Core → ℕ → Run → Option Stage → Next
keep_entry s w r None = None
keep_entry s w r (Some e) =
    given (at_stage r.stage (λ a. a.unkept))
    (record (with_run s w (Some (with_stage r (kept_at r.stage)))) { stages = stages_after_keep s.subject.script.settings.stage_entries s.subject.script.settings.stage_pixels e s.stages })
    (kept_answer (keep_answer s.subject.script.settings.stage_pixels e))

abbrev pub row_keep : Core → ℕ → Run → Next
row_keep s w r = keep_entry s w r (entry_of (run_over s.subject r))

abbrev pub row_finish : Core → ℕ → Run → Next
row_finish s w r = given (at_stage r.stage (λ a. a.done == count_of s.subject r) && not r.framed) (with_run s w (Some (record r { framed = true }))) answer.Done

-- the job ends, with this entry
abbrev pub ended : Core → ℕ → Entry → Core
ended s w e = with_run (with_entry s e) w None

abbrev pub row_publish : Core → ℕ → Run → Next
row_publish s w r = given (is_pipe r.job && (r.framed && is_free s w)) (ended s w (done_entry r.job w r.moment)) answer.Done

abbrev pub row_finish_ticket : Core → ℕ → Run → Next
row_finish_ticket s w r = given (not (is_pipe r.job) && (r.framed && is_free s w)) (ended s w (done_entry r.job w r.moment)) answer.Done

abbrev pub row_give_back : Core → ℕ → Run → Next
row_give_back s w r = given (is_free s w) (ended s w (back_entry r.job w)) answer.Done

-- ---- the table

-- a row of the table for a worker that has a run
abbrev pub of_run : Core → ℕ → (Core → ℕ → Run → Next) → Next
of_run s w row = option_and_then (row s w) (run_of s w)

-- the state and the answer after an event; nothing where it may not happen
abbrev pub step : Core → Event → Next
step s Editor = step_editor s
step s (Take w p) = step_take s w (job.Pipe p) (desk_at s).moment
step s (TakeTicket w t) = step_take s w (job.Ticket t) (asked_moment s.subject.script t)
step s (Look w) = of_run s w row_look
step s (Restart w) = of_run s w row_restart
step s (Find w) = of_run s w row_find
step s (Reach w) = of_run s w row_reach
step s (Evict w) = of_run s w row_evict
step s (Demote w) = of_run s w row_demote
step s (Abandon w) = of_run s w row_abandon
step s (Load w) = of_run s w row_load
step s (Leave w) = of_run s w row_leave
step s (Node w) = of_run s w row_node
step s (Keep w) = of_run s w row_keep
step s (Finish w) = of_run s w row_finish
step s (Publish w) = of_run s w row_publish
step s (FinishTicket w) = of_run s w row_finish_ticket
step s (GiveBack w) = of_run s w row_give_back
