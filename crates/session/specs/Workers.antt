-- the workers of a session
use Rattle.std.specs.Prelude.{◌≡◌, ℕ, ◌+◌, ◌≤◌, true, List, [], map, Option, Some, None, Result, Ok, Err}
use Rattle.std.specs.declared.alloc.AllocError.{AllocError}
use Rattle.std.specs.List.{All, range_with_len}
use Rattle.turn_lock.specs.Known.{fresh, IsIdle}
use Rattle.dev_core.specs.Subject.{SubjectSeen}
use Rattle.dev_core.specs.Jobs.{JobSeen}
use Rattle.shared_mips.specs.Story.{hold_of}
use Rattle.desk.specs.declared.next_job.NextJob.{NextJob}
use Rattle.desk.specs.declared.next_job.NextJob.TheVariants as given
use Rattle.desk.specs.Passes.{HasJob, HasNoJob}
use Rattle.pipe_worker.specs.declared.node_set.NodeSet.{NodeSet}
use Rattle.pipe_worker.specs.Job.{IsUpTo, is_pipe_job}
use Rattle.pipe_worker.specs.Jobs.{IsSet, AreUpTo, last_at}
use Rattle.session.specs.declared.shared.Shared.{Shared}
use Rattle.session.specs.declared.worker.Worker.{Worker}
use Rattle.session.specs.declared.beginning.AllPasses.{AllPasses}
use Rattle.session.specs.Finished.{IsFinished, down_from}

-- the number of a worker's pass of the desk
abbrev pub number_of : Worker → ℕ
number_of w = w.passes.desk.number

-- the caches are of the source of the desk's subject
pub record IsOfOne (s : Shared) : Type 0 where
  pub stage : s.desk.name.source ≡ s.stage.name.source
  pub mips : s.desk.name.source ≡ s.mips.name.source

-- The worker has no turn out and holds no level, and its nodes are those of moments up to the greatest mark that it has seen
pub record Rests (s : Shared) (w : Worker) : Type 0 where
  pub of_one : IsOfOne s
  pub desk : IsIdle s.desk w.passes.desk
  pub stage : IsIdle s.stage w.passes.stage
  pub mips : IsIdle s.mips w.passes.mips
  pub bare : hold_of w.passes.mips.own ≡ None
  pub nodes : IsSet s.desk.name w.nodes
  pub marks : AreUpTo w.nodes w.passes.desk.mark

-- between two jobs
pub record Ready (s : Shared) (w : Worker) : Type 0 where
  pub rests : Rests s w
  pub free : HasNoJob s.desk w.passes.desk

-- the worker has just taken the job
pub record MayRun (s : Shared) (w : Worker) (j : JobSeen) : Type 0 where
  pub rests : Rests s w
  pub holds : HasJob s.desk w.passes.desk j
  pub upto : IsUpTo (last_at j.name w.nodes) j.moment
  pub moment : is_pipe_job j.name ≡ true → j.moment ≤ w.passes.desk.mark

-- with the job that a worker got, if any
abbrev pub IsTried : Shared → Worker → Result (Option JobSeen) AllocError → Type 0
IsTried s w (Ok (Some j)) = MayRun s w j
IsTried s w (Ok None) = Ready s w
IsTried s w (Err e) = Ready s w

abbrev pub IsNext : Shared → Worker → Result NextJob AllocError → Type 0
IsNext s w (Ok (given.Job j)) = MayRun s w j
IsNext s w (Ok given.Closed) = Ready s w × IsFinished s.desk w.passes.desk
IsNext s w (Ok given.Stopped) = Ready s w
IsNext s w (Err e) = Ready s w

abbrev pub AreReady : Shared → List Worker → Type 0
AreReady s ws = All (Ready s) ws

-- ---- the beginning

-- nodes of no moment
abbrev pub no_nodes : NodeSet
no_nodes = record { full = []; preview = []; second = []; full_at = None; preview_at = None; second_at = None }

-- a worker that did nothing yet
abbrev pub fresh_worker : Shared → ℕ → Worker
fresh_worker s n = record {
  passes = record { desk = fresh s.desk 0 n; stage = fresh s.stage 0 n; mips = fresh s.mips 0 n };
  nodes = no_nodes;
}

-- the passes of the first n seats, before they did anything
pub record AreFresh (s : Shared) (n : ℕ) (ps : AllPasses) : Type 0 where
  pub desk : ps.desk.items ≡ map (fresh s.desk 0) (range_with_len 0 n)
  pub stage : ps.stage.items ≡ map (fresh s.stage 0) (range_with_len 0 n)
  pub mips : ps.mips.items ≡ map (fresh s.mips 0) (range_with_len 0 n)

-- what is shared is of this subject, and has so many seats
pub record IsOf (subject : SubjectSeen) (seats : ℕ) (s : Shared) : Type 0 where
  pub subject_is : s.desk.name ≡ subject
  pub seats_are : s.desk.id.seats ≡ seats
  pub of_one : IsOfOne s

-- the workers beside the editor and the editor, one for each seat, before they did anything
pub record HasBegun (subject : SubjectSeen) (s : Shared) (others : List Worker) (editor : Worker) : Type 0 where
  pub count : ℕ
  pub is_of : IsOf subject (count + 1) s
  pub others_are : others ≡ map (fresh_worker s) (down_from count)
  pub editor_is : editor ≡ fresh_worker s 0
