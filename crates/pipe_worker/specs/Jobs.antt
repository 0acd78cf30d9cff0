-- What the run of a job does, from the take to its last entry.
use Rattle.std.specs.Prelude.{◌≡◌, ℕ, ◌+◌, ◌<◌, ◌≤◌, List, [], ◌∷◌, ◌++◌, map, Option, Some, None}
use Rattle.outside.specs.declared.job_name.JobName.{JobName}
use Rattle.outside.specs.declared.job_name.JobName.TheVariants as job
use Rattle.outside.specs.declared.job_name.Pipe.{Pipe}
use Rattle.outside.specs.declared.job_name.Pipe.TheVariants as pipe
use Rattle.journal.specs.declared.entry.Entry.{Entry}
use Rattle.journal.specs.declared.entry.Entry.TheVariants as entry
use Rattle.pipe_nodes.specs.declared.active.Active.{Active}
use Rattle.pipe_sync.specs.Changed.{changed_places}
use Rattle.dev_core.specs.Subject.{SubjectSeen}
use Rattle.dev_core.specs.Jobs.{JobSeen}
use Rattle.shared_stage.specs.declared.event.StageEvent.{StageEvent}
use Rattle.shared_mips.specs.declared.event.MipEvent.{MipEvent}
use Rattle.pipe_worker.specs.declared.ends.JobEnd.{JobEnd}
use Rattle.pipe_worker.specs.declared.ends.JobEnd.TheVariants as ends
use Rattle.pipe_worker.specs.declared.node_set.NodeSet.{NodeSet}
use Rattle.pipe_worker.specs.declared.passes.Passes.{Passes}
use Rattle.pipe_worker.specs.Job.{actives_at, actives_for, nodes_at, IsUpTo}
use Rattle.pipe_worker.specs.Grew.{Grew}
use Rattle.pipe_worker.specs.Runs.{keeps}
use Rattle.pipe_worker.specs.Attempts.{MadeBy}

-- ---- nodes

-- the nodes of the job's pipe; a ticket's run has fresh ones
abbrev pub nodes_of : JobName → NodeSet → List Active
nodes_of (job.Pipe pipe.Full) set = set.full
nodes_of (job.Pipe pipe.Preview) set = set.preview
nodes_of (job.Pipe pipe.Second) set = set.second
nodes_of (job.Ticket t) set = []

-- and their last moment
abbrev pub last_at : JobName → NodeSet → Option ℕ
last_at (job.Pipe pipe.Full) set = set.full_at
last_at (job.Pipe pipe.Preview) set = set.preview_at
last_at (job.Pipe pipe.Second) set = set.second_at
last_at (job.Ticket t) set = None

-- each pipe's nodes are those of its last moment, and empty where it has none
pub record IsSet (s : SubjectSeen) (set : NodeSet) : Type 0 where
  pub full : set.full ≡ nodes_at s set.full_at
  pub preview : set.preview ≡ nodes_at s set.preview_at
  pub second : set.second ≡ nodes_at s set.second_at

-- no pipe's last moment is above this
pub record AreUpTo (set : NodeSet) (m : ℕ) : Type 0 where
  pub full : IsUpTo set.full_at m
  pub preview : IsUpTo set.preview_at m
  pub second : IsUpTo set.second_at m

-- ---- restarts

-- the moments rise from the first, and this is the last of all
abbrev pub RisesTo : ℕ → List ℕ → ℕ → Type 0
RisesTo m [] last = m ≡ last
RisesTo m (k ∷ ks) last = (m < k) × RisesTo k ks last

-- the entries by which a worker begins a pipe's job anew at these moments
abbrev pub restarts : Pipe → ℕ → List ℕ → List Entry
restarts p w ms = map (λ m. entry.Restarted p w m) ms

-- how many commits are allowed from these actives along those of the moments, in order
abbrev pub commits_along : SubjectSeen → List Active → List ℕ → ℕ
commits_along s actives [] = 0
commits_along s actives (m ∷ ms) = changed_places actives (actives_at s m) + commits_along s (actives_at s m) ms

-- ---- the run

-- the last elements that were gained are those of an attempt that was made for the job
pub record EndsMade (j : JobSeen) (old new : Passes) (gain : List StageEvent) (mip_gain : List MipEvent) : Type 0 where
  pub mid : Passes
  pub before : List StageEvent
  pub last : List StageEvent
  pub mips_before : List MipEvent
  pub mips_last : List MipEvent
  pub stage : gain ≡ before ++ last
  pub mips : mip_gain ≡ mips_before ++ mips_last
  pub loads : old.desk.loads ≤ mid.desk.loads
  pub stage_bears : mid.stage.number ≡ old.stage.number
  pub mips_bears : mid.mips.number ≡ old.mips.number
  pub made : MadeBy j 2 mid new last mips_last

-- The run of a job whose nodes were `a`, begun anew at these moments: what its desk pass gained, and the steps, which are those of the
-- Keeps with at most the commits that the moments allow
pub record Ran (j : JobSeen) (a : List Active) (moments : List ℕ) (entries : List Entry) (spare before after : ℕ) (old new : Passes) : Type 0 where
  pub gain : List StageEvent
  pub mip_gain : List MipEvent
  pub stage : Grew old.stage new.stage gain
  pub mips : Grew old.mips new.mips mip_gain
  pub desk : Grew old.desk new.desk entries
  pub loads : old.desk.loads ≤ new.desk.loads
  pub least : before + keeps gain ≤ after
  pub most : after ≤ before + keeps gain + commits_along j.subject a (j.moment ∷ moments) + spare

-- a run that ended with an attempt that was made for the job at this moment
pub record RanMade (j : JobSeen) (last : ℕ) (a : List Active) (moments : List ℕ) (entries : List Entry) (before after : ℕ) (old new : Passes) : Type 0 where
  pub ran : Ran j a moments entries 0 before after old new
  pub ends : EndsMade (record j { moment = last }) old new ran.gain ran.mip_gain

-- the run of a pipe's job, by its end
abbrev pub RanPipe : JobSeen → Pipe → List Active → ℕ → ℕ → Passes → Passes → JobEnd → Type 0
RanPipe j p a before after old new (ends.Published m) = (moments : List ℕ) × RisesTo j.moment moments m
    × RanMade j m a moments (restarts p old.desk.number moments ++ entry.Published p old.desk.number m ∷ []) before after old new
RanPipe j p a before after old new (ends.Done t) = ⊥
RanPipe j p a before after old new ends.Memory = (moments : List ℕ) × (m : ℕ) × RisesTo j.moment moments m
    × Ran j a moments (restarts p old.desk.number moments ++ entry.GaveBack p old.desk.number ∷ []) 1 before after old new

-- the run of a ticket's job, by its end
abbrev pub RanTicket : JobSeen → ℕ → ℕ → ℕ → Passes → Passes → JobEnd → Type 0
RanTicket j t before after old new (ends.Published m) = ⊥
RanTicket j t before after old new (ends.Done u) = (u ≡ t) × RanMade j j.moment [] [] (entry.TicketDone t old.desk.number ∷ []) before after old new
RanTicket j t before after old new ends.Memory = Ran j [] [] (entry.TicketBack t old.desk.number ∷ []) 1 before after old new

-- the run of a job, by its name
abbrev pub RanJob : JobSeen → JobName → List Active → ℕ → ℕ → Passes → Passes → JobEnd → Type 0
RanJob j (job.Pipe p) a before after old new result = RanPipe j p a before after old new result
RanJob j (job.Ticket t) a before after old new result = RanTicket j t before after old new result
