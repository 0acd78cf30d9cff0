use Rattle.std.proofs.KnownBytes.{Keeps-trans}
use Rattle.outside.proofs.Writing.{Keeps-none}
use Rattle.outside.proofs.write_whole.write_some.Goals as goal

pub returns-in-Ok-eq0-clause-err : goal.returns-in-Ok-eq0-clause-err
returns-in-Ok-eq0-clause-err g c =
    let held = g.W.Write.contents in
    Keeps-trans (held c.args.writer.now) (held c.loop.writer) (held c.write.new.self) c.loop.invariant
    (Keeps-none (held c.loop.writer) (held c.write.new.self) c.write.result c.args.bytes.now c.in-Ok-eq0.field-0 c.in-Ok-eq0.is c.in-Ok-eq0.field-0-test c.write.ensures.bytes)
