use Rattle.turn_lock.specs.Known.{IsIdle}
use Rattle.pipe_worker.specs.Runs.{IsAt, Went}
use Rattle.pipe_worker.proofs.nodes.run_nodes.Given as goal

abbrev pub invariant-loop-k : goal.invariant-loop-k
invariant-loop-k g l = record {
  desk : IsIdle l.desk l.desk_pass;
  stage : IsIdle l.stage l.stage_pass;
  went : Went l.job l.first l.k 0 l.fn.steps l.steps l.fn.desk_pass l.desk_pass l.fn.stage_pass l.stage_pass;
  at : IsAt l.job l.k l.staged;
}
