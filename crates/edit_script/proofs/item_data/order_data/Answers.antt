use Rattle.std.proofs.Common.{◌≤◌, arith}
use Rattle.std.proofs.lemmas.Grind.{common_steps}
use Rattle.edit_script.specs.Written.{slot_data}
use Rattle.edit_script.proofs.WriteLemmas.{mapped_more, within_more}
use Rattle.edit_script.proofs.item_data.order_data.Goals as goal

pub loop-place-preserved : goal.loop-place-preserved
loop-place-preserved c =
    let more = mapped_more slot_data c.args.order.now c.loop-place.place c.at.result c.at.ensures in
    record {
      order = c.loop-place.invariant.order;
      same = grind (arith, common_steps);
      instances = within_more (λ s. s.instance ≤ 255) c.args.order.now c.loop-place.place c.at.result c.loop-place.invariant.instances c.at.ensures c.slot_data.ensures.instance;
    }
