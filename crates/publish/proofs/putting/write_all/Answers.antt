use Rattle.std.proofs.lemmas.Result.{err_from_is_err_and, on_ok_weaker, IfErr-weaker}
use Rattle.publish.proofs.PutLemmas.{AreOf, are_of, desk_put, desk_cut, desk_cut_at_last, desk_jobs, desk_done}
use Rattle.publish.proofs.putting.write_all.Goals as goal

pub put_frames-requires : goal.put_frames-requires
put_frames-requires g c =
    let are : AreOf c.args.desk.now c.script-script.result.now c.journal-journal.result.now c.frames.result.now =
    are_of c.args.desk.now c.script-script.result.now c.journal-journal.result.now c.frames.result.now _ _
    c.script-script.ensures c.deref.ensures c.subject.ensures c.journal-journal.ensures.journal c.frames.ensures in
    desk_jobs c.args.desk.now c.script-script.result.now c.journal-journal.result.now c.frames.result.now are c.journal-journal.ensures.legal

pub put_manifest-requires : goal.put_manifest-requires
put_manifest-requires g c =
    let are : AreOf c.args.desk.now c.script-script.result.now c.journal-journal.result.now c.frames.result.now =
    are_of c.args.desk.now c.script-script.result.now c.journal-journal.result.now c.frames.result.now _ _
    c.script-script.ensures c.deref.ensures c.subject.ensures c.journal-journal.ensures.journal c.frames.ensures in
    desk_done c.args.desk.now c.script-script.result.now c.journal-journal.result.now c.frames.result.now are c.journal-journal.ensures.legal

pub returns-in_err-put_frames-clause-cause : goal.returns-in_err-put_frames-clause-cause
returns-in_err-put_frames-clause-cause g c =
    let are : AreOf c.args.desk.now c.script-script.result.now c.journal-journal.result.now c.frames.result.now =
    are_of c.args.desk.now c.script-script.result.now c.journal-journal.result.now c.frames.result.now _ _
    c.script-script.ensures c.deref.ensures c.subject.ensures c.journal-journal.ensures.journal c.frames.ensures in
    let p = err_from_is_err_and c.from_residual.result c.from_residual.ensures.1 in
    rw (p.1, p.2) (desk_cut c.args.desk.now c.script-script.result.now c.journal-journal.result.now c.frames.result.now _ _ _ _ are c.in_err-put_frames.ensures.cause)

pub returns-clause-ok : goal.returns-clause-ok
returns-clause-ok g c =
    let are : AreOf c.args.desk.now c.script-script.result.now c.journal-journal.result.now c.frames.result.now =
    are_of c.args.desk.now c.script-script.result.now c.journal-journal.result.now c.frames.result.now _ _
    c.script-script.ensures c.deref.ensures c.subject.ensures c.journal-journal.ensures.journal c.frames.ensures in
    on_ok_weaker c.put_manifest.result
    (desk_put c.args.desk.now c.script-script.result.now c.journal-journal.result.now c.frames.result.now
    (g.S.Shelf.files c.args.shelf.now) (g.S.Shelf.files c.put_frames.new.shelf) (g.S.Shelf.files c.put_manifest.new.shelf) are c.in_ok-put_frames.ensures.ok)
    c.put_manifest.ensures.ok

pub returns-clause-cause : goal.returns-clause-cause
returns-clause-cause g c =
    let are : AreOf c.args.desk.now c.script-script.result.now c.journal-journal.result.now c.frames.result.now =
    are_of c.args.desk.now c.script-script.result.now c.journal-journal.result.now c.frames.result.now _ _
    c.script-script.ensures c.deref.ensures c.subject.ensures c.journal-journal.ensures.journal c.frames.ensures in
    IfErr-weaker c.put_manifest.result _ _
    (λ why. desk_cut_at_last c.args.desk.now c.script-script.result.now c.journal-journal.result.now c.frames.result.now
    (g.S.Shelf.put_faults c.args.shelf.now) (g.S.Shelf.put_faults c.put_frames.new.shelf) (g.S.Shelf.put_faults c.put_manifest.new.shelf)
    (g.S.Shelf.files c.args.shelf.now) (g.S.Shelf.files c.put_frames.new.shelf) (g.S.Shelf.files c.put_manifest.new.shelf) why
    are c.put_frames.ensures.puts c.in_ok-put_frames.ensures.ok)
    c.put_manifest.ensures.cause
