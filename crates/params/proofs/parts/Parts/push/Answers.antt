use Rattle.std.proofs.Common.{◌<◌, length, arith}
use Rattle.std.proofs.lemmas.List.{take_more_set}
use Rattle.params.proofs.parts.Parts.push.Goals as goal

pub returns-clause-value : goal.returns-clause-value
returns-clause-value c =
    let room : c.args.self.now.count < length c.args.self.now.parts = omega (arith, c.args.self.now.seven, c.requires.room) in
    take_more_set c.args.self.now.parts c.args.self.now.count c.args.part room
