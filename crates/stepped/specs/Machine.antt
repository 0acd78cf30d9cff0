-- the machine that makes the steps, and what it keeps
use Rattle.std.specs.Prelude.{◌≡◌, ℕ, ◌+◌, ◌<◌, List, map, length, slice_index_or, Bool, true, false, Option, Some, None, option_map, option_and_then, is_some, IfSome, Result, Ok, Err}
use Rattle.std.specs.declared.alloc.AllocError.{AllocError}
use Rattle.edit_steps.specs.Script.{history_at}
use Rattle.journal.specs.Desk.{Desk, Legal}
use Rattle.journal.specs.Lines.{Line}
use Rattle.journal.specs.Own.{Says}
use Rattle.pipe_nodes.specs.Actives.{actives_of}
use Rattle.stage_cache.specs.StageCache.{StageCacheSeen}
use Rattle.stage_run.specs.declared.reached.At.{At}
use Rattle.stage_run.specs.StageRun.{StageRunSeen}
use Rattle.level_store.specs.Levels.{StoreSeen}
use Rattle.dev_core.specs.DeskState.{DeskSeen, now}
use Rattle.dev_core.specs.Jobs.{JobSeen, FrameSeen, frame_of}
use Rattle.dev_core.specs.Subject.{SubjectSeen, show_of}
use Rattle.outside.specs.declared.job_name.JobName.{JobName}
use Rattle.outside.specs.declared.job_name.JobName.TheVariants as job
use Rattle.journal.specs.Tickets.{asked_moment}
use Rattle.events.specs.declared.event.Event.{Event}
use Rattle.events.specs.declared.event.Event.TheVariants.{Take, TakeTicket, Publish, FinishTicket}
use Rattle.stepped.specs.declared.answer.Answer.{Answer}
use Rattle.stepped.specs.Step.{Run, Core, Next, step, last_worker}

-- ---- open runs

-- a job, how far its run is, and whether its frame is made
pub record OpenSeen : Type 0 where
  pub job : JobSeen
  pub stage : Option At
  pub framed : Bool

-- what the run of a job goes over
abbrev pub course : JobSeen → Option At → StageRunSeen
course j stage = record { source = j.subject.source; show = show_of j.subject j.name j.moment; actives = actives_of (history_at j.subject.script j.moment); stage = stage }

-- a frame that was made is of the job
abbrev pub IsFrameOf : JobSeen → Option FrameSeen → Type 0
IsFrameOf j None = Unit {0}
IsFrameOf j (Some f) = f ≡ frame_of j

-- stages that were planned are those of the job
abbrev pub IsCourseOf : JobSeen → Option StageRunSeen → Type 0
IsCourseOf j None = Unit {0}
IsCourseOf j (Some r) = r ≡ course j r.stage

abbrev pub stage_in : Option StageRunSeen → Option At
stage_in stages = option_and_then (λ (r : StageRunSeen). r.stage) stages

pub record IsOpenRun (j : JobSeen) (stages : Option StageRunSeen) (frame : Option FrameSeen) : Type 0 where
  pub frame_of : IsFrameOf j frame
  pub course_of : IsCourseOf j stages

-- ---- the machine

-- a run without its pictures
abbrev pub run_seen : OpenSeen → Run
run_seen o = record { job = o.job.name; moment = o.job.moment; stage = o.stage; framed = o.framed }

abbrev pub core_seen : DeskSeen → List (Option OpenSeen) → StageCacheSeen → StoreSeen → Core
core_seen desk runs cache levels =
    record { subject = desk.subject; journal = desk.journal; runs = map (option_map run_seen) runs; stages = cache.stages; levels = levels.levels }

-- a worker's open run
abbrev pub run_at : List (Option OpenSeen) → ℕ → Option OpenSeen
run_at runs w = slice_index_or runs w None

-- the job that it has
abbrev pub line_at : Option OpenSeen → Option Line
line_at o = option_map (λ (r : OpenSeen). record { job = r.job.name; moment = r.job.moment }) o

-- the run is of a job of this subject and this worker
pub record IsSeated (subject : SubjectSeen) (w : ℕ) (o : OpenSeen) : Type 0 where
  pub subject_is : o.job.subject ≡ subject
  pub worker_is : o.job.worker ≡ w

-- each worker has at the desk just the job of its run, where it has one
pub record AreSeated (desk : DeskSeen) (runs : List (Option OpenSeen)) : Type 0 where
  pub seats : length runs ≡ last_worker desk.subject + 1
  pub slots : length (now desk).slots ≡ 3
  pub says : (n : ℕ) → Says desk.subject.script (now desk) n (line_at (run_at runs n))
  pub jobs : (n : ℕ) (o : OpenSeen) → run_at runs n ≡ Some o → IsSeated desk.subject n o

-- both caches are of the subject's source, with the numbers of its settings
pub record CachesOf (subject : SubjectSeen) (cache : StageCacheSeen) (levels : StoreSeen) : Type 0 where
  pub source : cache.source ≡ subject.source
  pub limit : cache.limit ≡ subject.script.settings.stage_entries
  pub budget : cache.budget ≡ subject.script.settings.stage_pixels
  pub levels_source : levels.source ≡ subject.source
  pub holds : length levels.levels.holds ≡ last_worker subject + 1

pub record IsMachine (desk : DeskSeen) (runs : List (Option OpenSeen)) (cache : StageCacheSeen) (levels : StoreSeen) : Type 0 where
  pub seated : AreSeated desk runs
  pub caches : CachesOf desk.subject cache levels

-- an event happened, with this answer; or may not happen, and left all as it was; where memory ran out all is as before
abbrev pub Makes : Core → Event → Core → Result (Option Answer) AllocError → Type 0
Makes s e new (Ok (Some a)) = step s e ≡ Some (new, a)
Makes s e new (Ok None) = (step s e ≡ None) × (new ≡ s)
Makes s e new (Err x) = new ≡ s

-- ---- taking

-- the moment that a job shows which is taken now
abbrev pub moment_for : DeskSeen → JobName → ℕ
moment_for s (job.Pipe p) = (now s).moment
moment_for s (job.Ticket t) = asked_moment s.subject.script t

-- the event that takes a job
abbrev pub take_event : JobName → ℕ → Event
take_event (job.Pipe p) w = Take w p
take_event (job.Ticket t) w = TakeTicket w t

-- ---- ending

-- the event that delivers a frame
abbrev pub deliver_event : Bool → ℕ → Event
deliver_event true w = Publish w
deliver_event false w = FinishTicket w

-- how many module instances a job applies
abbrev pub active_count_of : JobSeen → ℕ
active_count_of j = length (actives_of (history_at j.subject.script j.moment))

-- each run is of a job that its worker has at the desk
pub record AreHeld (desk : DeskSeen) (runs : List (Option OpenSeen)) : Type 0 where
  pub slots : length (now desk).slots ≡ 3
  pub says : (n : ℕ) → n < length runs → Says desk.subject.script (now desk) n (line_at (run_at runs n))
  pub jobs : (n : ℕ) (o : OpenSeen) → run_at runs n ≡ Some o → IsSeated desk.subject n o
