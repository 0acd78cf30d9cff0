use Rattle.std.proofs.Common.{length, take, ap, ◌∙◌, length-append, arith}
use Rattle.std.specs.List.{filter_map}
use Rattle.std.specs.Option.{option_to_list}
use Rattle.pipe_nodes.specs.Actives.{active_at}
use Rattle.pipe_nodes.proofs.ActivesLemmas.{gathered_more}
use Rattle.pipe_nodes.proofs.counting.active_count.Goals as goal

pub loop-i-preserved : goal.loop-i-preserved
loop-i-preserved c =
    let items = take c.end.result c.items.result.now in
    let order = c.order-order.result.now in
    let more = ap length (gathered_more items order c.loop-i.i c.at.result c.at.ensures)
    ∙ length-append (filter_map (active_at items) (take c.loop-i.i order)) (option_to_list (active_at items c.at.result)) in
    record {
      count = omega (arith, c.loop-i.invariant.count, c.active_in-count.ensures.count, more);
      few = omega arith;
    }
