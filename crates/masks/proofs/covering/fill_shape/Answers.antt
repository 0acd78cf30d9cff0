use Rattle.std.proofs.Common.{◌≡◌, refl, sym, subst, ap, ◌∙◌, arith}
use Rattle.std.proofs.lemmas.Int.{ints}
use mir.Syntax.{w32}
use mir.Val.{of_z, to_z}
use Rattle.params.specs.declared.blending.Shape.{Shape}
use Rattle.params.specs.Ranges.{IsShapeWithin}
use Rattle.masks.specs.declared.edge.Edge.{Edge}
use Rattle.masks.specs.Coverage.{coverage_at}
use Rattle.masks.proofs.CoveringLemmas.{ellipse_covers}
use Rattle.masks.proofs.RangeLemmas.{ellipse_within}
use Rattle.masks.proofs.covering.fill_shape.Goals as goal

pub returns-in-Ellipse : goal.returns-in-Ellipse
returns-in-Ellipse c k u v below traces =
    let e = c.in-Ellipse in
    let t = c.args.trace.now in
    let within = ellipse_within e.cx e.cy e.ux e.uy e.a e.b e.feather (subst IsShapeWithin e.is c.requires.within) in
    let ux : to_z w32 (of_z w32 e.ux) ≡ e.ux = omega (arith, ints, within.direction.across) in
    let uy : to_z w32 (of_z w32 e.uy) ≡ e.uy = omega (arith, ints, within.direction.down) in
    let line = rw (ux, uy) at c.line_of-in-Ellipse.ensures.line in
    let rim_is = rw (ux, uy) at c.rim-rim.ensures.value in
    let edge : Edge = record { a = e.a; b = e.b; feather = e.feather; rim = c.rim-rim.result; guess = c.guess_of.result } in
    c.fill_ellipse.ensures.same k below
    ∙ (ellipse_covers t c.args.w c.args.h e.cx e.cy e.ux e.uy e.a e.b e.feather c.args.x c.args.y k u v c.line_of-in-Ellipse.result edge line refl refl refl rim_is traces
    ∙ ap (λ (s : Shape). coverage_at s c.args.w c.args.h t.level u v) (sym e.is))
