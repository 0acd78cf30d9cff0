use Rattle.std.proofs.Common.{arith, sym, ap, ◌∙◌, ◌≡◌, ◌+◌, slice_get, Some, subst}
use Rattle.pipe_nodes.specs.Staged.{StagedSeen}
use Rattle.shared_stage.specs.Story.{worker_of}
use Rattle.pipe_worker.specs.Job.{stages_for}
use Rattle.pipe_worker.specs.Runs.{IsAt}
use Rattle.pipe_worker.proofs.Growing.{grew_turned}
use Rattle.pipe_worker.proofs.Working.{can_make, made_at, made_there}
use Rattle.pipe_worker.proofs.nodes.one_node.Goals as goal

pub overflow_cast-k : goal.overflow_cast-k
overflow_cast-k g c = omega (arith, c.requires.within, c.active_count.ensures.count, c.if-prove.false)

pub overflow_add-k : goal.overflow_add-k
overflow_add-k g c = omega (arith, c.requires.within, c.active_count.ensures.count, c.if-prove.false)

pub process-requires-after_bounds : goal.process-requires-after_bounds
process-requires-after_bounds g c κs within =
    can_make c.args.job.now c.args.pieces.now c.args.regions.now c.args.k c.args.staged.now c.index-pieces-k.result c.index-regions-k.result c.requires.work c.requires.at c.know_right.ensures c.requires.within c.index-pieces-k.is c.index-regions-k.is

pub returns-clause-at : goal.returns-clause-at
returns-clause-at g c =
    let made = c.in_ok-next.ensures in
    made_at c.args.job.now c.args.pieces.now c.args.regions.now c.args.k c.args.staged.now c.in_ok-next.next c.index-pieces-k.result c.index-regions-k.result c.requires.work c.requires.at c.requires.within c.index-pieces-k.is c.index-regions-k.is made.prefix made.source made.area

pub returns-clause-kept : goal.returns-clause-kept
returns-clause-kept g c =
    let made = c.in_ok-next.ensures in
    let at : IsAt c.args.job.now (c.args.k + 1) c.in_ok-next.next = returns-clause-at g c in
    let there = made_there c.args.job.now c.args.pieces.now c.args.regions.now c.args.k c.in_ok-next.next c.index-regions-k.result c.requires.work at c.requires.within c.index-regions-k.is made.area in
    record {
      prefix = c.in_ok-share.field-0.prefix;
      region = c.in_ok-share.field-0.plane.area;
      answer = c.in_ok-keep.field-0;
      there = subst (λ (s : StagedSeen). slice_get (stages_for c.args.job.now) c.args.k ≡ Some (s.prefix, s.plane.area)) (sym c.in_ok-share.ensures) there;
      grew = grew_turned worker_of c.in_ok-keep.ensures.turn;
    }
