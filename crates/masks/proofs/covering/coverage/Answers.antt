use Rattle.std.proofs.Common.{slice_index, sym, ap, ◌∙◌, arith}
use Rattle.std.proofs.lemmas.Result.{IfOk-weaker}
use Rattle.masks.proofs.CoveringLemmas.{covering_small}
use Rattle.masks.proofs.covering.coverage.Goals as goal

pub paint_cover-requires-clause-gives : goal.paint_cover-requires-clause-gives
paint_cover-requires-clause-gives c x y r inside given i =
    covering_small c.args.shape.now c.args.trace.now c.args.w c.args.h x y 16384 16384 r (c.requires.inside x y inside) given i

pub returns-clause-covered : goal.returns-clause-covered
returns-clause-covered c =
    IfOk-weaker c.paint_cover.result _ _ (λ cover painted x y u v inside traces.
    let pixel = painted.pixels x y inside in
    sym (pixel.same 0 (omega arith)) ∙ ap (λ r. slice_index r 0) (pixel.given.value u v traces)) c.paint_cover.ensures
