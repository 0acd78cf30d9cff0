use Rattle.outside.proofs.Writing.{all_or_part}
use Rattle.outside.proofs.host_said.write_out.Goals as goal

pub returns-clause-err : goal.returns-clause-err
returns-clause-err g c =
    let held = g.W.Write.contents in
    all_or_part c.flush.result (held c.args.output.now) (held c.write_whole.new.writer) (held c.flush.new.self) c.args.bytes.now c.in_ok-write_whole.ensures.ok c.flush.ensures.bytes
