use Rattle.std.proofs.Common.{◌≡◌, ◌<◌, length, Some, refl, arith}
use Rattle.std.specs.Prelude.{slice_get}
use Rattle.std.proofs.lemmas.Grind.{common_steps}
use Rattle.std.proofs.lemmas.Option.{slice_get_read}
use Rattle.edit_script.specs.Written.{item_data}
use Rattle.edit_script.specs.Typed.{IsItemTyped}
use Rattle.edit_script.proofs.WriteLemmas.{mapped_more, within_more}
use Rattle.edit_script.proofs.item_data.items_data.Goals as goal

pub loop-item-preserved : goal.loop-item-preserved
loop-item-preserved c =
    let below : c.loop-item.item-index < length c.args.items.now = grind (arith, common_steps) in
    let stands : slice_get c.args.items.now c.loop-item.item-index ≡ Some c.item-item.result = slice_get_read c.args.items.now (length c.args.items.now) c.loop-item.item-index c.item-item.result refl below c.item-item.is in
    let more = mapped_more item_data c.args.items.now c.loop-item.item-index c.item-item.result stands in
    record {
      same = grind (arith, common_steps);
      typed = within_more IsItemTyped c.args.items.now c.loop-item.item-index c.item-item.result c.loop-item.invariant.typed stands c.in_ok-item_data.ensures.typed;
    }
