use Rattle.std.proofs.Common.{arith}
use Rattle.pipe_nodes.proofs.ScaleLemmas.{least-fit}
use Rattle.pipe_nodes.proofs.windowing.least_factor.Goals as goal

pub returns-clause-least : goal.returns-clause-least
returns-clause-least c = least-fit c.args.w c.args.h c.args.size c.max.result c.requires.can.wide c.requires.can.high (omega arith) (omega arith)
