use Rattle.std.proofs.Common.{arith}
use Rattle.std.specs.Arc.{arc_value}
use Rattle.pipe_run.specs.Running.{IsPlan}
use Rattle.pipe_run.proofs.StageLemmas.{begins, can-next, ends, runs-next}
use Rattle.pipe_run.proofs.running.stage_behind.Goals as goal

pub loop-i-init : goal.loop-i-init
loop-i-init g c =
    let s = c.in_ok-staged.staged in
    record {
      runs = begins (arc_value c.args.source.now) c.args.level c.args.pieces.now c.args.regions.now s c.index-regions-0.result (omega arith)
          c.in_ok-staged.ensures.prefix c.in_ok-staged.ensures.source c.in_ok-staged.ensures.area c.index-regions-0.is;
      right = c.in_ok-staged.ensures.right;
      count = omega arith;
    }

pub process-requires-after_bounds : goal.process-requires-after_bounds
process-requires-after_bounds g c = λ κs within.
    let plan : IsPlan (arc_value c.args.source.now) c.args.level c.args.pieces.now c.args.window.now c.args.regions.now =
    record { regions_are = c.requires.planned; count = c.requires.count; inside = c.requires.inside; run = c.requires.run } in
    can-next (arc_value c.args.source.now) c.args.level c.args.pieces.now c.args.window.now c.args.regions.now c.loop-i.i c.loop-i.staged c.index-pieces-i.result c.index-regions-i.result
    plan c.loop-i.invariant.runs c.loop-i.invariant.right c.loop-i-test.true c.index-pieces-i.is c.index-regions-i.is

pub loop-i-preserved : goal.loop-i-preserved
loop-i-preserved g c =
    let made = c.in_ok-staged-2.ensures in
    record {
      runs = runs-next (arc_value c.args.source.now) c.args.level c.args.pieces.now c.args.regions.now c.loop-i.i c.loop-i.staged c.in_ok-staged-2.staged c.index-pieces-i.result c.index-regions-i.result
          c.loop-i.invariant.runs c.loop-i-test.true (omega arith) c.index-pieces-i.is c.index-regions-i.is made.prefix made.source made.area;
      right = made.right;
      count = omega (arith, made.one, c.loop-i.invariant.count);
    }

pub returns-clause-ends : goal.returns-clause-ends
returns-clause-ends g c =
    let plan : IsPlan (arc_value c.args.source.now) c.args.level c.args.pieces.now c.args.window.now c.args.regions.now =
    record { regions_are = c.requires.planned; count = c.requires.count; inside = c.requires.inside; run = c.requires.run } in
    ends (arc_value c.args.source.now) c.args.level c.args.pieces.now c.args.window.now c.args.regions.now c.loop-i.i c.loop-i.staged plan c.loop-i.invariant.runs c.loop-i.invariant.right (omega arith)
