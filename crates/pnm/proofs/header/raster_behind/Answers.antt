use Rattle.std.proofs.Common.{◌≡◌, ◌≤◌, Some, true, length, drop, take, sym, ap, ◌∙◌, arith}
use Rattle.std.proofs.lemmas.List.{length-take}
use Rattle.pnm.specs.declared.fault.PnmFault.{PnmFault}
use Rattle.pnm.specs.Fault.{begins}
use Rattle.pnm.specs.Grammar.{is_white}
use Rattle.pnm.proofs.FaultLemmas.{raster_none, raster_short, raster_white}
use Rattle.pnm.proofs.header.raster_behind.Goals as goal

pub returns-then-not-begins_white : goal.returns-then-not-begins_white
returns-then-not-begins_white c =
    raster_white c.args.total c.args.text.now c.args.need (sym c.begins_white.ensures ∙ c.if-not-begins_white.true)
    ∙ ap (λ (f : PnmFault). Some f) (sym c.fault_at.ensures)

pub returns-then-rest-need : goal.returns-then-rest-need
returns-then-rest-need c =
    let len = ap length c.skip-rest.ensures in
    raster_short c.args.total c.args.text.now c.args.need (sym c.begins_white.ensures ∙ c.if-not-begins_white.false) (omega arith)
    ∙ ap (λ (f : PnmFault). Some f) (sym c.fault_at-then-rest-need.ensures)

pub returns : goal.returns
returns c =
    let len = ap length c.skip-rest.ensures in
    let white : begins is_white c.args.text.now ≡ true = sym c.begins_white.ensures ∙ c.if-not-begins_white.false in
    let enough : c.args.need ≤ length (drop 1 c.args.text.now) = omega arith in
    record {
      none = raster_none c.args.total c.args.text.now c.args.need white enough;
      white = white;
      enough = enough;
      raster_is = c.front.ensures ∙ ap (take c.args.need) c.skip-rest.ensures;
      len = ap length c.front.ensures ∙ (length-take c.args.need c.skip-rest.result.now ∙ (omega arith));
    }
