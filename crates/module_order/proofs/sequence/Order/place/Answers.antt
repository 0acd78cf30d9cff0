use Rattle.std.proofs.Common.{ap, ◌∙◌, arith}
use Rattle.std.specs.Prelude.{is_some}
use Rattle.module_order.proofs.SlotLemmas.{is_some-position}
use Rattle.module_order.proofs.sequence.Order.place.Goals as goal

pub returns-clause-known : goal.returns-clause-known
returns-clause-known c =
    let at = ap is_some c.place_of.ensures.value ∙ is_some-position c.args.slot c.deref.result.now in
    grind (arith)
