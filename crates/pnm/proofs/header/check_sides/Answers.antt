use Rattle.std.proofs.Common.{nat_lt, Some, sym, ap, ◌∙◌}
use Rattle.std.proofs.lemmas.Bool.{ltb-false, or_parts}
use Rattle.px.specs.Kind.{least_side}
use Rattle.pnm.specs.declared.fault.PnmFault.{PnmFault}
use Rattle.pnm.proofs.FaultLemmas.{sides_large, sides_small, sides_none}
use Rattle.pnm.proofs.header.check_sides.Goals as goal

pub returns-then-width-height-gt-MOST_PIXELS : goal.returns-then-width-height-gt-MOST_PIXELS
returns-then-width-height-gt-MOST_PIXELS c =
    sides_large c.args.total c.args.kind c.args.width.value c.args.height.value c.args.width.left c.args.height.left c.if-width-height-gt-MOST_PIXELS.true
    ∙ ap (λ (f : PnmFault). Some f) (sym c.fault_at.ensures)

pub returns-then-is_small : goal.returns-then-is_small
returns-then-is_small c =
    sides_small c.args.total c.args.kind c.args.width.value c.args.height.value c.args.width.left c.args.height.left c.if-width-height-gt-MOST_PIXELS.false (sym c.is_small.ensures ∙ c.if-is_small.true)
    ∙ ap (λ (f : PnmFault). Some f) (sym c.fault_at-then-is_small.ensures)

pub returns : goal.returns
returns c =
    let none = sym c.is_small.ensures ∙ c.if-is_small.false in
    let parts = or_parts (nat_lt c.args.width.value (least_side c.args.kind)) (nat_lt c.args.height.value (least_side c.args.kind)) none in
    record {
      none = sides_none c.args.total c.args.kind c.args.width.value c.args.height.value c.args.width.left c.args.height.left c.if-width-height-gt-MOST_PIXELS.false none;
      pixels = c.if-width-height-gt-MOST_PIXELS.false;
      wide_enough = ltb-false c.args.width.value (least_side c.args.kind) parts.0;
      high_enough = ltb-false c.args.height.value (least_side c.args.kind) parts.1;
    }
