use Rattle.std.proofs.Common.{refl}
use Rattle.stepped.proofs.OutcomeLemmas.{run_further, run_refused, run_stopped, run_done}
use Rattle.events.specs.declared.event.Event.TheVariants.{Editor}
use Rattle.stepped.proofs.outcome.stepped.Goals as goal

pub loop-i-init : goal.loop-i-init
loop-i-init g c = refl

pub returns-in-Err-Memory : goal.returns-in-Err-Memory
returns-in-Err-Memory g c = run_stopped c.args.outcome.now c.loop-i.outcome _ c.args.events.now c.loop-i.i c.loop-i.invariant (rw c.in-Err-Memory.field-0-is at c.in-Err-Memory.ensures)

pub returns-in-Err-NotAllowed : goal.returns-in-Err-NotAllowed
returns-in-Err-NotAllowed g c =
    let refused = rw c.in-Err-NotAllowed.field-0-is at c.in-Err-NotAllowed.ensures in
    run_refused c.args.outcome.now c.loop-i.outcome _ c.args.events.now c.loop-i.i Editor c.loop-i.invariant c.loop-i-test.true refused.0 refused.2

pub loop-i-preserved : goal.loop-i-preserved
loop-i-preserved g c =
    run_further c.args.outcome.now c.loop-i.outcome _ c.args.events.now c.loop-i.i Editor c.loop-i.invariant c.loop-i-test.true c.in-Ok.ensures

pub returns : goal.returns
returns g c = run_done c.args.outcome.now c.loop-i.outcome c.args.events.now c.loop-i.i c.loop-i.invariant c.loop-i-test.false
