use Rattle.outside.proofs.FaultLaws.{NoneFalls-then}
use Rattle.std.proofs.lemmas.Result.{err_from_is_err_and}
use Rattle.publish.proofs.PutLemmas.{frames_further, frames_cut}
use Rattle.publish.proofs.putting.put_frames.Goals as goal

pub returns-in_err-put_frame-clause-cause : goal.returns-in_err-put_frame-clause-cause
returns-in_err-put_frame-clause-cause g c =
    let p = err_from_is_err_and c.from_residual.result c.from_residual.ensures.1 in
    rw (p.1, p.2) (frames_cut c.args.script.now c.args.frames.now c.loop-frame.frame-index c.frame-item.result _ _ _ _ _ _ _ c.loop-frame-test.true c.frame-item.is c.loop-frame.invariant.puts
    c.loop-frame.invariant.front c.in_err-put_frame.ensures.cause)

pub loop-frame-preserved : goal.loop-frame-preserved
loop-frame-preserved g c = record {
  front = frames_further c.args.script.now c.args.frames.now c.loop-frame.frame-index c.frame-item.result _ _ _ c.loop-frame-test.true c.frame-item.is c.loop-frame.invariant.front c.in_ok-put_frame.ensures.ok;
  reads = NoneFalls-then _ _ _ c.loop-frame.invariant.reads c.put_frame.ensures.reads;
  puts = NoneFalls-then _ _ _ c.loop-frame.invariant.puts c.put_frame.ensures.puts;
}
