use Rattle.stepped.proofs.StartLemmas.{may_give_back, held_back, held_front}
use Rattle.stepped.proofs.machine.give_back_all.Goals as goal

pub give_back-requires-clause-subject : goal.give_back-requires-clause-subject
give_back-requires-clause-subject c =
    (may_give_back c.loop-seat.desk c.loop-seat.runs.items _ _ c.in-Some-seat.run' c.end-job.result.0 c.in-Some.ensures.items c.in-Some-seat.is c.end-job.ensures.job c.loop-seat.invariant).0

pub give_back-requires-clause-row : goal.give_back-requires-clause-row
give_back-requires-clause-row c =
    (may_give_back c.loop-seat.desk c.loop-seat.runs.items _ _ c.in-Some-seat.run' c.end-job.result.0 c.in-Some.ensures.items c.in-Some-seat.is c.end-job.ensures.job c.loop-seat.invariant).1

pub loop-seat-preserved-in-Some-seat : goal.loop-seat-preserved-in-Some-seat
loop-seat-preserved-in-Some-seat c =
    held_back c.loop-seat.desk _ c.loop-seat.runs.items _ _ c.in-Some-seat.run' c.end-job.result.0 c.in-Some.ensures.items c.in-Some-seat.is c.end-job.ensures.job c.loop-seat.invariant c.give_back.ensures

pub loop-seat-preserved-in-Some-seat-2 : goal.loop-seat-preserved-in-Some-seat-2
loop-seat-preserved-in-Some-seat-2 c =
    held_back c.loop-seat.desk _ c.loop-seat.runs.items _ _ c.in-Some-seat.run' c.end-job.result.0 c.in-Some.ensures.items c.in-Some-seat.is c.end-job.ensures.job c.loop-seat.invariant c.give_back.ensures

pub loop-seat-preserved : goal.loop-seat-preserved
loop-seat-preserved c = held_front c.loop-seat.desk c.loop-seat.runs.items _ _ c.in-Some.ensures.items c.loop-seat.invariant
