use Rattle.std.proofs.Common.{refl, ap, arith}
use Rattle.px.specs.Area.{Area}
use Rattle.px.proofs.PaintedLemmas.{painted_of_rows}
use Rattle.local_modules.proofs.boxes.painted.Goals as goal

pub returns : goal.returns
returns c =
    rw c.from_rows.ensures (painted_of_rows _ _ _ _ _ _ _ _ _ c.args.region _ c.fill_rows.new.values _
    (ap (λ (a : Area). a.x) c.region.view_is) (ap (λ (a : Area). a.y) c.region.view_is) (ap (λ (a : Area). a.w) c.region.view_is) (ap (λ (a : Area). a.h) c.region.view_is) refl
    (omega (arith, c.fill_rows.auto.values, c.deref_mut-2.ensures.len)) c.fill_rows.ensures)
