use Rattle.std.proofs.Common.{rules}
use Rattle.pipe_worker.proofs.Noding.{went_more}
use Rattle.pipe_worker.proofs.nodes.run_nodes.Goals as goal

pub loop-k-preserved : goal.loop-k-preserved
loop-k-preserved g c = record {
  desk = search rules;
  stage = search rules;
  went = went_more _ _ _ _ _ _ _ _ _ _ _ _ c.loop-k.invariant.went c.look_once.ensures.saw c.in-Ok.ensures.kept c.in-Ok.ensures.one;
  at = c.in-Ok.ensures.at;
}
