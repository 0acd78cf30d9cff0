use Rattle.std.proofs.Common.{take, sym, ap, ◌∙◌, ◌++◌, arith}
use Rattle.std.specs.List.{filter_map}
use Rattle.std.specs.Option.{option_to_list}
use Rattle.pipe_nodes.specs.Actives.{active_at}
use Rattle.pipe_nodes.proofs.ActivesLemmas.{gathered_more, gathered-fit}
use Rattle.pipe_nodes.proofs.KindLemmas.{gathered-run}
use Rattle.pipe_nodes.proofs.gather.actives.Goals as goal

pub loop-i-preserved : goal.loop-i-preserved
loop-i-preserved c =
    let items = take c.end.result c.items.result.now in
    let more = gathered_more items c.order-order.result.now c.loop-i.i c.at.result c.at.ensures in
    record {
      items = c.keep.ensures.items ∙ ap (λ list. list ++ option_to_list c.in_ok-active_at.field-0) c.loop-i.invariant.items
          ∙ ap (λ o. filter_map (active_at items) (take c.loop-i.i c.order-order.result.now) ++ option_to_list o) c.in_ok-active_at.ensures ∙ sym more;
      few = omega arith;
      room = omega arith;
    }

pub returns-clause-fit : goal.returns-clause-fit
returns-clause-fit c =
    gathered-fit c.args.history.now c.loop-i.actives.items c.items.result.now c.order-order.result.now c.end.result c.loop-i.i
    c.items.ensures.history c.items.ensures.value c.order-order.ensures c.end.ensures (omega arith) c.loop-i.invariant.items

pub returns-clause-run : goal.returns-clause-run
returns-clause-run c =
    gathered-run c.args.history.now c.loop-i.actives.items c.items.result.now c.order-order.result.now c.end.result c.loop-i.i
    c.len.ensures.order c.items.ensures.value c.order-order.ensures c.end.ensures (omega arith) c.loop-i.invariant.items
