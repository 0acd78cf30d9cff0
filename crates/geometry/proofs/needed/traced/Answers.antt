use Rattle.std.proofs.Common.{◌≡◌, ℕ, ◌+◌, ◌-◌, sym, subst, ◌∙◌, ap}
use Rattle.px.specs.Area.{Area, IsIn}
use Rattle.geometry.specs.Sides.{sides_after}
use Rattle.geometry.specs.Needed.{needed, Suffices}
use Rattle.geometry.proofs.TraceLemmas.{traced-below}
use Rattle.geometry.proofs.NeededLemmas.{corner-within, first-pixel, last-pixel, needed-between, traced_area, traced-suffices}
use Rattle.geometry.proofs.needed.traced.Goals as goal

pub of-first-requires : goal.of-first-requires
of-first-requires c =
    let sides : ℕ × ℕ = (c.args.w, c.args.h) in
    let out : Area = record { x = c.out.inside.x; y = c.out.inside.y; w = c.out.inside.w; h = c.out.inside.h } in
    let inside = subst (λ a. IsIn a (sides_after c.args.params.now sides).0 (sides_after c.args.params.now sides).1) (sym c.out.view_is) c.requires.inside in
    record { within = corner-within c.args.params.now sides out c.trace_of-trace.result out.x out.y c.requires.within c.requires.sides inside c.trace_of-trace.ensures (first-pixel out c.out.invariant) }

pub of-last-requires : goal.of-last-requires
of-last-requires c =
    let sides : ℕ × ℕ = (c.args.w, c.args.h) in
    let out : Area = record { x = c.out.inside.x; y = c.out.inside.y; w = c.out.inside.w; h = c.out.inside.h } in
    let inside = subst (λ a. IsIn a (sides_after c.args.params.now sides).0 (sides_after c.args.params.now sides).1) (sym c.out.view_is) c.requires.inside in
    record { within = corner-within c.args.params.now sides out c.trace_of-trace.result (out.x + out.w - 1) (out.y + out.h - 1) c.requires.within c.requires.sides inside c.trace_of-trace.ensures (last-pixel out c.out.invariant) }

pub between-requires-clause-first : goal.between-requires-clause-first
between-requires-clause-first c =
    let sides : ℕ × ℕ = (c.args.w, c.args.h) in
    let out : Area = record { x = c.out.inside.x; y = c.out.inside.y; w = c.out.inside.w; h = c.out.inside.h } in
    let inside = subst (λ a. IsIn a (sides_after c.args.params.now sides).0 (sides_after c.args.params.now sides).1) (sym c.out.view_is) c.requires.inside in
    traced-below c.trace_of-trace.result out.x out.y c.of-first.result.0 c.of-first.result.1 16384 16384 c.of-first.ensures
    (corner-within c.args.params.now sides out c.trace_of-trace.result out.x out.y c.requires.within c.requires.sides inside c.trace_of-trace.ensures (first-pixel out c.out.invariant))

pub between-requires-clause-last : goal.between-requires-clause-last
between-requires-clause-last c =
    let sides : ℕ × ℕ = (c.args.w, c.args.h) in
    let out : Area = record { x = c.out.inside.x; y = c.out.inside.y; w = c.out.inside.w; h = c.out.inside.h } in
    let inside = subst (λ a. IsIn a (sides_after c.args.params.now sides).0 (sides_after c.args.params.now sides).1) (sym c.out.view_is) c.requires.inside in
    traced-below c.trace_of-trace.result (out.x + out.w - 1) (out.y + out.h - 1) c.of-last.result.0 c.of-last.result.1 16384 16384 c.of-last.ensures
    (corner-within c.args.params.now sides out c.trace_of-trace.result (out.x + out.w - 1) (out.y + out.h - 1) c.requires.within c.requires.sides inside c.trace_of-trace.ensures (last-pixel out c.out.invariant))

pub returns : goal.returns
returns c =
    let p = c.args.params.now in
    let sides : ℕ × ℕ = (c.args.w, c.args.h) in
    let out : Area = record { x = c.out.inside.x; y = c.out.inside.y; w = c.out.inside.w; h = c.out.inside.h } in
    let inside = subst (λ a. IsIn a (sides_after p sides).0 (sides_after p sides).1) (sym c.out.view_is) c.requires.inside in
    let area = traced_area p sides out c.requires.within c.requires.sides c.out.invariant.wide c.out.invariant.high inside c.requires.one in
    let made : c.between.result ≡ needed p sides out = c.between.ensures ∙ needed-between p sides out c.trace_of-trace.result c.of-first.result c.of-last.result c.out.invariant inside c.trace_of-trace.ensures c.of-first.ensures c.of-last.ensures area in
    record {
      region = made ∙ ap (needed p sides) c.out.view_is;
      suffices = subst (λ a. Suffices p sides a c.between.result) c.out.view_is (subst (λ a. Suffices p sides out a) (sym made) (traced-suffices p sides out c.requires.one area));
      inside = subst (λ a. IsIn a c.args.w c.args.h) (sym made) area.inside;
    }
