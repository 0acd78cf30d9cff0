use Rattle.std.proofs.Common.{◌≡◌, drop}
use Rattle.generator.specs.Tried.{tried}
use Rattle.generator.proofs.course.Course.make_first.Given as goal

-- what comes of the events that are left is what comes of all
abbrev pub invariant-loop-event : goal.invariant-loop-event
invariant-loop-event g l = tried l.self (drop l.event-index l.events) ≡ tried l.fn.self l.events
