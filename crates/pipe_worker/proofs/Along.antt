-- A job's run between two attempts.
use Rattle.std.specs.Prelude.{◌≡◌, ℕ, ◌+◌, ◌≤◌, List, ◌∷◌}
use Rattle.outside.specs.declared.job_name.Pipe.{Pipe}
use Rattle.pipe_nodes.specs.declared.active.Active.{Active}
use Rattle.pipe_sync.specs.Changed.{changed_places}
use Rattle.dev_core.specs.Jobs.{JobSeen}
use Rattle.shared_stage.specs.declared.event.StageEvent.{StageEvent}
use Rattle.shared_mips.specs.declared.event.MipEvent.{MipEvent}
use Rattle.pipe_worker.specs.declared.passes.Passes.{Passes}
use Rattle.pipe_worker.specs.Job.{actives_at}
use Rattle.pipe_worker.specs.Grew.{Grew}
use Rattle.pipe_worker.specs.Runs.{keeps}
use Rattle.pipe_worker.specs.Jobs.{RisesTo, restarts, commits_along}

-- `spent`: the steps so far, with the commits that the nodes need for the present moment, are within what is allowed up to it
pub record Along (j : JobSeen) (p : Pipe) (a : List Active) (before now : ℕ) (old cur : Passes) (nodes : List Active) (last : ℕ) : Type 0 where
  pub moments : List ℕ
  pub gain : List StageEvent
  pub mip_gain : List MipEvent
  pub rises : RisesTo j.moment moments last
  pub stage : Grew old.stage cur.stage gain
  pub mips : Grew old.mips cur.mips mip_gain
  pub desk : Grew old.desk cur.desk (restarts p old.desk.number moments)
  pub loads : old.desk.loads ≤ cur.desk.loads
  pub least : before + keeps gain ≤ now
  pub spent : now + changed_places nodes (actives_at j.subject last) ≤ before + keeps gain + commits_along j.subject a (j.moment ∷ moments)
