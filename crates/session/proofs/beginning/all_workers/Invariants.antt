use Rattle.std.proofs.Common.{◌≡◌, ◌+◌, ◌++◌, map}
use Rattle.session.specs.Workers.{AreFresh, fresh_worker}
use Rattle.session.specs.Finished.{down_from}
use Rattle.session.proofs.beginning.all_workers.Given as goal

abbrev pub invariant-loop-left : goal.invariant-loop-left
invariant-loop-left l = record {
  passes : AreFresh l.shared (l.left + 1) l.passes;
  made : l.workers.items ++ map (fresh_worker l.shared) (down_from l.left) ≡ map (fresh_worker l.shared) (down_from l.fn.count);
}

abbrev pub decreases-loop-left : goal.decreases-loop-left
decreases-loop-left l = l.left
