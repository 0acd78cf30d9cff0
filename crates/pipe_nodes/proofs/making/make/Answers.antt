use Rattle.std.proofs.Common.{subst, sym, Some}
use Rattle.pipe_nodes.specs.declared.active.Active.{Active}
use Rattle.pipe_nodes.specs.Active.{IsFit}
use Rattle.pipe_nodes.specs.Applied.{CanApply, IsMade}
use Rattle.pipe_nodes.proofs.ApplyLemmas.{within_of}
use Rattle.pipe_nodes.proofs.MakeLemmas.{blend_fit, layable, made-plain, made-laid}
use Rattle.pipe_nodes.proofs.making.make.Goals as goal

pub apply-requires-clause-within : goal.apply-requires-clause-within
apply-requires-clause-within c =
    let fit = subst IsFit (sym c.active-active.ensures.active) c.active-active.ensures.fit in
    within_of c.active-active.result.now.params c.check.result fit.params c.check.ensures.value c.check.ensures.within

pub lay_over-requires-clause-within : goal.lay_over-requires-clause-within
lay_over-requires-clause-within c = (blend_fit c.active-active.result.now c.in-Some.blend (subst IsFit (sym c.active-active.ensures.active) c.active-active.ensures.fit) c.in-Some.is).1

pub lay_over-requires-clause-input_rgb : goal.lay_over-requires-clause-input_rgb
lay_over-requires-clause-input_rgb c = (layable c.active-active.result.now c.in-Some.blend c.args.level c.args.input.now c.args.region c.in_ok-made.made c.in_ok-output-in-Some.output (subst IsFit (sym c.active-active.ensures.active) c.active-active.ensures.fit) c.in-Some.is
    (subst (λ (a : Active). CanApply a.params c.args.input.now c.args.region) (sym c.active-active.ensures.active) c.requires.can) c.in_ok-made.ensures c.in_ok-output-in-Some.ensures.cut).input_rgb

pub lay_over-requires-clause-output_rgb : goal.lay_over-requires-clause-output_rgb
lay_over-requires-clause-output_rgb c = (layable c.active-active.result.now c.in-Some.blend c.args.level c.args.input.now c.args.region c.in_ok-made.made c.in_ok-output-in-Some.output (subst IsFit (sym c.active-active.ensures.active) c.active-active.ensures.fit) c.in-Some.is
    (subst (λ (a : Active). CanApply a.params c.args.input.now c.args.region) (sym c.active-active.ensures.active) c.requires.can) c.in_ok-made.ensures c.in_ok-output-in-Some.ensures.cut).output_rgb

pub lay_over-requires-clause-wide : goal.lay_over-requires-clause-wide
lay_over-requires-clause-wide c = (layable c.active-active.result.now c.in-Some.blend c.args.level c.args.input.now c.args.region c.in_ok-made.made c.in_ok-output-in-Some.output (subst IsFit (sym c.active-active.ensures.active) c.active-active.ensures.fit) c.in-Some.is
    (subst (λ (a : Active). CanApply a.params c.args.input.now c.args.region) (sym c.active-active.ensures.active) c.requires.can) c.in_ok-made.ensures c.in_ok-output-in-Some.ensures.cut).wide

pub lay_over-requires-clause-high : goal.lay_over-requires-clause-high
lay_over-requires-clause-high c = (layable c.active-active.result.now c.in-Some.blend c.args.level c.args.input.now c.args.region c.in_ok-made.made c.in_ok-output-in-Some.output (subst IsFit (sym c.active-active.ensures.active) c.active-active.ensures.fit) c.in-Some.is
    (subst (λ (a : Active). CanApply a.params c.args.input.now c.args.region) (sym c.active-active.ensures.active) c.requires.can) c.in_ok-made.ensures c.in_ok-output-in-Some.ensures.cut).high

pub returns-in-None : goal.returns-in-None
returns-in-None c =
    subst (λ (a : Active). IsMade a c.args.level c.args.tracing.now c.args.input.now c.args.region c.in_ok-made.made) c.active-active.ensures.active
    (made-plain c.active-active.result.now c.args.level c.args.tracing.now c.args.input.now c.args.region c.in_ok-made.made c.in-None.is c.in_ok-made.ensures)

pub returns-in_ok-lay_over-in-Some : goal.returns-in_ok-lay_over-in-Some
returns-in_ok-lay_over-in-Some c =
    subst (λ (a : Active). IsMade a c.args.level c.args.tracing.now c.args.input.now c.args.region (Some c.in_ok-lay_over-in-Some.field-0)) c.active-active.ensures.active
    (made-laid c.active-active.result.now c.in-Some.blend c.args.level c.args.tracing.now c.args.input.now c.args.region c.in_ok-made.made c.in_ok-output-in-Some.output c.in_ok-lay_over-in-Some.field-0 c.in-Some.is c.in_ok-made.ensures
    c.in_ok-output-in-Some.ensures.cut c.in_ok-output-in-Some.ensures.area c.in_ok-lay_over-in-Some.ensures.shape c.in_ok-lay_over-in-Some.ensures.cut)
