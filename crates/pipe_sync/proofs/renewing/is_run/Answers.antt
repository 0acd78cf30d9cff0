use Rattle.std.proofs.Common.{subst}
use Rattle.module_order.specs.Order.{IsOrder}
use Rattle.pipe_nodes.proofs.KindLemmas.{actives-run}
use Rattle.pipe_sync.proofs.renewing.is_run.Goals as goal

pub returns : goal.returns
returns c = λ k. actives-run c.args.history.now (subst IsOrder c.order.ensures c.len.ensures.order) k
