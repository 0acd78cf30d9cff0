use Rattle.std.proofs.Common.{take}
use Rattle.px.specs.Cut.{picture_of}
use Rattle.pipe_nodes.specs.Course.{HasCome}
use Rattle.pipe_nodes.proofs.render.stage_course.Given as goal

-- the run has come behind the instances so far
abbrev pub invariant-loop-i : goal.invariant-loop-i
invariant-loop-i l = HasCome (picture_of l.from.source) l.from.prefix.level (take l.i l.from.prefix.actives) l.course
