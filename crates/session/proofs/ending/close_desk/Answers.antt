use Rattle.std.proofs.Common.{subst, sym}
use Rattle.dev_core.specs.Subject.{SubjectSeen}
use Rattle.journal.specs.Desk.{Legal, IsComplete}
use Rattle.session.proofs.Concluding.{concluded}
use Rattle.session.proofs.ending.close_desk.Goals as goal

pub close-requires-clause-idle : goal.close-requires-clause-idle
close-requires-clause-idle c =
    (concluded c.args.desk c.args.served.items c.args.edited _ _ c.requires.workers c.requires.editor c.in_ok-push.ensures.items c.in_ok-passes.ensures.passes c.in_ok-passes.ensures.done).idle

pub close-requires-clause-all : goal.close-requires-clause-all
close-requires-clause-all c =
    (concluded c.args.desk c.args.served.items c.args.edited _ _ c.requires.workers c.requires.editor c.in_ok-push.ensures.items c.in_ok-passes.ensures.passes c.in_ok-passes.ensures.done).seats

pub returns-clause-complete : goal.returns-clause-complete
returns-clause-complete c =
    let all = concluded c.args.desk c.args.served.items c.args.edited _ _ c.requires.workers c.requires.editor c.in_ok-push.ensures.items c.in_ok-passes.ensures.passes c.in_ok-passes.ensures.done in
    let e = c.close.ensures in
    let legal : Legal c.args.desk.name.script c.close.result.journal = subst (λ (s : SubjectSeen). Legal s.script c.close.result.journal) e.subject e.legal in
    subst (λ (s : SubjectSeen). IsComplete s.script c.close.result.journal) (sym e.subject) (all.complete c.close.result.journal e.passes e.others legal)
