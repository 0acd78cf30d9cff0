use Rattle.std.proofs.Common.{◌-◌, length, drop, arith, length-take}
use Rattle.outside.proofs.Writing.{Appends-turn}
use Rattle.outside.proofs.write_whole.write_whole.Goals as goal

pub loop-written-preserved : goal.loop-written-preserved
loop-written-preserved g c =
    let held = g.W.Write.contents in
    let done = c.loop-written.written in
    let xs = c.args.bytes.now in
    let most = length-take (length xs - done) (drop done xs) in
    record {
      fits = omega (arith, c.in_ok-written.ensures.bound);
      front = Appends-turn (held c.args.writer.now) (held c.loop-written.writer) (held c.write_some.new.writer) xs done c.in_ok-written.field-0 (length xs - done) (omega (arith, c.in_ok-written.ensures.bound)) c.loop-written.invariant.front c.in_ok-written.ensures.ok;
    }
