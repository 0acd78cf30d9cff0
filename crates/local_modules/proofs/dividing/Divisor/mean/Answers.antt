use Rattle.std.proofs.Common.{arith}
use Rattle.local_modules.proofs.DivisorLemmas.{mean_is, mean_top}
use Rattle.local_modules.proofs.dividing.Divisor.mean.Goals as goal

pub overflow_cast-result : goal.overflow_cast-result
overflow_cast-result c =
    let n = c.args.self.n in
    let is = mean_is c.args.sum n c.args.self.inverse c.from.result c.from-2.result c.requires.divisor.some c.requires.divisor.few c.requires.divisor.inverse_is c.requires.small c.from.ensures c.from-2.ensures in
    let top = mean_top c.args.sum n c.requires.divisor.some c.requires.small in
    omega (arith, is, top)

pub returns-clause-mean : goal.returns-clause-mean
returns-clause-mean c =
    mean_is c.args.sum c.args.self.n c.args.self.inverse c.from.result c.from-2.result c.requires.divisor.some c.requires.divisor.few c.requires.divisor.inverse_is c.requires.small c.from.ensures c.from-2.ensures

pub returns-clause-top : goal.returns-clause-top
returns-clause-top c =
    let n = c.args.self.n in
    let is = mean_is c.args.sum n c.args.self.inverse c.from.result c.from-2.result c.requires.divisor.some c.requires.divisor.few c.requires.divisor.inverse_is c.requires.small c.from.ensures c.from-2.ensures in
    let top = mean_top c.args.sum n c.requires.divisor.some c.requires.small in
    rw is top
