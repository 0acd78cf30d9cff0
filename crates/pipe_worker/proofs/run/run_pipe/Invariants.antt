use Rattle.std.proofs.Common.{◌≡◌, ◌≤◌, None}
use Rattle.turn_lock.specs.Known.{IsIdle}
use Rattle.shared_mips.specs.Story.{hold_of}
use Rattle.desk.specs.Passes.{HasJob}
use Rattle.pipe_worker.specs.Job.{IsUpTo}
use Rattle.pipe_worker.specs.Jobs.{IsSet, AreUpTo, last_at, nodes_of}
use Rattle.pipe_worker.proofs.Along.{Along}
use Rattle.pipe_worker.proofs.run.run_pipe.Given as goal

abbrev pub invariant-loop : goal.invariant-loop
invariant-loop g l = record {
  desk : IsIdle l.desk l.passes.desk;
  stage : IsIdle l.stage l.passes.stage;
  mips : IsIdle l.mips l.passes.mips;
  bare : hold_of l.passes.mips.own ≡ None;
  holds : HasJob l.desk l.passes.desk l.job;
  job : l.job ≡ record l.fn.job { moment = l.job.moment };
  nodes : IsSet l.job.subject l.nodes;
  upto : IsUpTo (last_at l.job.name l.nodes) l.job.moment;
  marks : AreUpTo l.nodes l.passes.desk.mark;
  moment : l.job.moment ≤ l.passes.desk.mark;
  along : Along l.fn.job l.fn.pipe (nodes_of l.fn.job.name l.fn.nodes) l.fn.steps l.steps l.fn.passes l.passes (nodes_of l.job.name l.nodes) l.job.moment;
}
