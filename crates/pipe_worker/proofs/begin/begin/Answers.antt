use Rattle.std.proofs.Common.{◌∙◌, arith}
use Rattle.pipe_worker.proofs.Working.{asks_rising, found_in, loaded_at}
use Rattle.pipe_worker.proofs.begin.begin.Goals as goal

pub find-requires-clause-rising : goal.find-requires-clause-rising
find-requires-clause-rising g c = asks_rising c.args.job.now c.deref-2.result.now (c.deref-2.ensures.value ∙ c.in_ok-asked.ensures)

pub overflow_add-result : goal.overflow_add-result
overflow_add-result g c =
    let at = found_in c.args.job.now c.args.pieces.now c.in_ok-regions.regions.items c.args.stage.now.name _ c.deref-2.result.now c.in_ok-index.field-0 c.in-Some.index c.in-Some.staged c.in_ok-regions.ensures c.requires.stage_source
    (c.deref-2.ensures.value ∙ c.in_ok-asked.ensures) c.in_ok-index.ensures.stage c.in-Some.is in
    omega (arith, at.0, c.active_count.ensures.count, c.if-prove.false)

pub returns-in-Some-clause-at : goal.returns-in-Some-clause-at
returns-in-Some-clause-at g c =
    found_in c.args.job.now c.args.pieces.now c.in_ok-regions.regions.items c.args.stage.now.name _ c.deref-2.result.now c.in_ok-index.field-0 c.in-Some.index c.in-Some.staged c.in_ok-regions.ensures c.requires.stage_source
    (c.deref-2.ensures.value ∙ c.in_ok-asked.ensures) c.in_ok-index.ensures.stage c.in-Some.is

pub returns-clause-at : goal.returns-clause-at
returns-clause-at g c =
    let staged = c.in_ok-staged-in-None.ensures.staged in
    (omega arith, loaded_at c.args.job.now c.args.pieces.now c.in_ok-regions.regions.items c.in_ok-staged-in-None.staged c.index-region.result.now c.in_ok-regions.ensures staged.prefix_is staged.source_is staged.area_is c.index-region.ensures)
