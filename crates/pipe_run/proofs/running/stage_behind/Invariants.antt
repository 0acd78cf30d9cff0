use Rattle.std.proofs.Common.{◌≡◌, ◌+◌}
use Rattle.std.specs.Arc.{arc_value}
use Rattle.pipe_nodes.specs.Staged.{IsRight}
use Rattle.pipe_run.specs.Running.{RunsAt}
use Rattle.pipe_run.proofs.running.stage_behind.Given as goal

-- the run stands behind the pieces so far, each of which was a step
abbrev pub invariant-loop-i : goal.invariant-loop-i
invariant-loop-i g l = record {
  runs : RunsAt (arc_value l.source) l.level l.pieces l.regions l.i l.staged;
  right : IsRight l.staged;
  count : l.steps ≡ l.initial.steps + l.i;
}
