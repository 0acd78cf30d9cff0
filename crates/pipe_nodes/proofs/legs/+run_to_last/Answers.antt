use Rattle.std.proofs.Common.{sym, subst}
use Rattle.std.specs.Prelude.{unwrap_or}
use Rattle.std.proofs.lemmas.Result.{IfOk-weaker}
use Rattle.pipe_nodes.specs.Kinds.{AllTake}
use Rattle.pipe_nodes.proofs.CourseLemmas.{all_take-front, all_take-back, last-more}
use Rattle.pipe_nodes.proofs.legs.+run_to_last.Goals as goal

pub run_leg-requires-clause-takes : goal.run_leg-requires-clause-takes
run_leg-requires-clause-takes g t c κs within =
    let p = unwrap_or c.args.made (g.I.Input.seen c.args.input.now) in
    let takes = subst (AllTake p.kind) c.split_at.ensures.by_index.0 c.requires.takes in
    all_take-front p.kind c.split_at.result.0.now c.split_at.result.1.now takes

pub run_to_last-requires-clause-takes : goal.run_to_last-requires-clause-takes
run_to_last-requires-clause-takes g t c κs within =
    let p = unwrap_or c.args.made (g.I.Input.seen c.args.input.now) in
    let takes = subst (AllTake p.kind) c.split_at.ensures.by_index.0 c.requires.takes in
    subst (λ k. AllTake k c.split_at.result.1.now) (sym c.in_ok-next.ensures.kind) (all_take-back p.kind c.split_at.result.0.now c.split_at.result.1.now takes)

pub returns : goal.returns
returns g t c =
    let p = unwrap_or c.args.made (g.I.Input.seen c.args.input.now) in
    IfOk-weaker c.run_to_last.result _ _ (λ l last.
    last-more c.args.pieces.now c.split_at.result.0.now c.split_at.result.1.now l.pieces.now c.args.course c.course_behind.result l.course p c.in_ok-next.next _ c.split_at.ensures.by_index.0
    c.in_ok-next.ensures.made c.in_ok-next.ensures.kind c.in_ok-next.ensures.sides c.course_behind.ensures.come last) c.run_to_last.ensures
