use Rattle.std.proofs.Common.{subst, sym}
use Rattle.px.specs.Area.{IsIn, HasPixel}
use Rattle.px.specs.Cut.{Cut}
use Rattle.pipe_nodes.specs.Whole.{covered_at}
use Rattle.pipe_nodes.proofs.BlendLemmas.{covered_some, inside_as}
use Rattle.pipe_nodes.proofs.blending.lay_over.Goals as goal

pub returns-in_ok-cover-in-Some-clause-cut : goal.returns-in_ok-cover-in-Some-clause-cut
returns-in_ok-cover-in-Some-clause-cut c = λ source i m level before tracing part_i part_m.
    let mask = c.args.blend.now.mask in
    let inside = inside_as c.args.output c.args.input.now c.requires.wide c.requires.high (subst (λ (p : Cut). IsIn p.area p.w p.h) c.output.view_is c.output.invariant.inside) in
    c.blend-in-Some.ensures.cut (covered_at source level before mask) i m
    (covered_some source level before mask c.in-Some.shape c.args.output.area (c.args.input.now.w, c.args.input.now.h) c.args.tracing.now c.in_ok-cover-in-Some.cover c.in-Some.is inside tracing
    (λ x y u v pixel traces. c.in_ok-cover-in-Some.ensures.covered x y u v (subst (λ r. HasPixel r x y) (sym c.region.ensures.region) pixel) traces)) part_i part_m
