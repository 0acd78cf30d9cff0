use Rattle.std.proofs.Common.{sym, subst}
use Rattle.geometry.specs.Behind.{GeometrySeen, IsBehind}
use Rattle.geometry.proofs.TraceLemmas.{push-inside, push-behind, near-within, far-within}
use Rattle.geometry.proofs.placing.Geometry.push.Goals as goal

pub through-self-inside-requires-clause-near : goal.through-self-inside-requires-clause-near
through-self-inside-requires-clause-near c =
    let old : GeometrySeen = record { input = c.self.inside.input; out = c.self.inside.out; trace = c.self.inside.trace } in
    near-within c.args.params.now old c.roi_out-self-inside.result c.trace_of.result c.requires.within c.self.invariant c.roi_out-self-inside.ensures.sides c.roi_out-self-inside.ensures.valid c.trace_of.ensures

pub through-self-inside-requires-clause-far : goal.through-self-inside-requires-clause-far
through-self-inside-requires-clause-far c =
    let old : GeometrySeen = record { input = c.self.inside.input; out = c.self.inside.out; trace = c.self.inside.trace } in
    far-within c.args.params.now old c.roi_out-self-inside.result c.trace_of.result c.requires.within c.self.invariant c.roi_out-self-inside.ensures.sides c.roi_out-self-inside.ensures.valid c.trace_of.ensures

pub invariant_of-self : goal.invariant_of-self
invariant_of-self c =
    let old : GeometrySeen = record { input = c.self.inside.input; out = c.self.inside.out; trace = c.self.inside.trace } in
    record {
      input = c.self.invariant.input;
      out = c.roi_out-self-inside.ensures.valid;
      inside = push-inside c.args.params.now old c.roi_out-self-inside.result c.trace_of.result c.through-self-inside.result c.requires.within c.self.invariant c.roi_out-self-inside.ensures.sides c.trace_of.ensures c.through-self-inside.ensures;
    }

pub returns-clause-behind : goal.returns-clause-behind
returns-clause-behind c = λ level sides modules behind.
    let old : GeometrySeen = record { input = c.self.inside.input; out = c.self.inside.out; trace = c.self.inside.trace } in
    push-behind level sides modules c.args.params.now old c.roi_out-self-inside.result c.trace_of.result c.through-self-inside.result c.requires.within c.self.invariant c.roi_out-self-inside.ensures.sides c.trace_of.ensures c.through-self-inside.ensures
    (subst (λ g. IsBehind level sides modules g) (sym c.self.view_is) behind)
