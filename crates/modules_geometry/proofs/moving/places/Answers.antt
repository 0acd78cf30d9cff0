use Rattle.std.proofs.Common.{ℕ, [], ◌∷◌, sym, subst, ◌∙◌}
use Rattle.px.specs.declared.trace.Trace.{Trace}
use Rattle.geometry.specs.Behind.{IsBehind, IsTraceOf}
use Rattle.modules_geometry.proofs.MovedLemmas.{trace-of-one}
use Rattle.modules_geometry.proofs.moving.places.Goals as goal

pub returns-clause-sides : goal.returns-clause-sides
returns-clause-sides c =
    let sides : ℕ × ℕ = (c.args.input.now.w, c.args.input.now.h) in
    let behind = subst (λ (s : ℕ × ℕ). IsBehind 0 s (c.args.params.now ∷ []) c.push.new.self) c.sides-w.ensures.sides (c.push.ensures.behind 0 c.sides-w.result [] c.start-behind.ensures) in
    c.out_size-columns.ensures.out ∙ behind.out

pub returns-clause-trace : goal.returns-clause-trace
returns-clause-trace c =
    let sides : ℕ × ℕ = (c.args.input.now.w, c.args.input.now.h) in
    let behind = subst (λ (s : ℕ × ℕ). IsBehind 0 s (c.args.params.now ∷ []) c.push.new.self) c.sides-w.ensures.sides (c.push.ensures.behind 0 c.sides-w.result [] c.start-behind.ensures) in
    subst (λ (t : Trace). IsTraceOf c.args.params.now sides t) (sym c.trace.ensures.trace) (trace-of-one 0 c.args.params.now sides c.push.new.self behind)
