use Rattle.std.proofs.Common.{◌+◌, ◌-◌, ◌*◌, arith}
use Rattle.modules_colour.proofs.LineLemmas.{stays_up, one_step}
use Rattle.modules_colour.proofs.steps.advance.Goals as goal

pub overflow_sub-result : goal.overflow_sub-result
overflow_sub-result c = stays_up c.args.s.down (c.args.y + c.args.s.up + 1) (c.args.left + c.args.s.rest - c.args.s.size) c.args.s.size (omega arith) (omega arith)

pub overflow_sub-result-else-over-s : goal.overflow_sub-result-else-over-s
overflow_sub-result-else-over-s c = stays_up c.args.s.down (c.args.y + c.args.s.up) (c.args.left + c.args.s.rest) c.args.s.size (omega arith) (omega arith)

pub returns-then-over-s-clause-whole : goal.returns-then-over-s-clause-whole
returns-then-over-s-clause-whole c =
    one_step (c.args.y + c.args.s.up + 1) c.args.s.down c.args.s.size (c.args.left + c.args.s.rest - c.args.s.size) (c.args.y * c.args.s.size + c.args.left + c.args.s.up * c.args.s.size + c.args.s.rest)
    (stays_up c.args.s.down (c.args.y + c.args.s.up + 1) (c.args.left + c.args.s.rest - c.args.s.size) c.args.s.size (omega arith) (omega arith)) (omega arith)

pub returns-else-over-s-clause-whole : goal.returns-else-over-s-clause-whole
returns-else-over-s-clause-whole c =
    one_step (c.args.y + c.args.s.up) c.args.s.down c.args.s.size (c.args.left + c.args.s.rest) (c.args.y * c.args.s.size + c.args.left + c.args.s.up * c.args.s.size + c.args.s.rest)
    (stays_up c.args.s.down (c.args.y + c.args.s.up) (c.args.left + c.args.s.rest) c.args.s.size (omega arith) (omega arith)) (omega arith)
