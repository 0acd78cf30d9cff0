use Rattle.std.proofs.Common.{◌≡◌, Some, None, true, sym, ap, ◌∙◌}
use Rattle.std.specs.Prelude.{is_some}
use Rattle.outside.specs.declared.job_name.JobName.{JobName}
use Rattle.dev_core.specs.Jobs.{JobSeen}
use Rattle.level_store.specs.Levels.{hold_of}
use Rattle.stepped.specs.Machine.{OpenSeen, run_at}
use Rattle.stepped.specs.Step.{is_pipe}
use Rattle.stepped.proofs.StageRowLemmas.{run_same, none_of}
use Rattle.stepped.proofs.DeskRowLemmas.{of_subject, done_may, done_left, delivered, not_differ}
use Rattle.stepped.proofs.machine.Machine.deliver.Goals as goal

pub publish-requires-clause-subject : goal.publish-requires-clause-subject
publish-requires-clause-subject c =
    let s = c.self.inside in
    of_subject s.desk s.runs.items c.args.worker c.take_run.result c.end-job.result.0 c.self.invariant.seated c.take_run.ensures.run c.end-job.ensures.job

pub publish-requires-clause-row : goal.publish-requires-clause-row
publish-requires-clause-row c =
    let s = c.self.inside in
    done_may s.desk s.runs.items c.args.worker c.take_run.result c.end-job.result.0 c.self.invariant.seated c.take_run.ensures.run c.end-job.ensures.job

pub invariant_of-self : goal.invariant_of-self
invariant_of-self c =
    let s = c.self.inside in
    done_left s.desk c.publish.new.self s.runs.items c.take_run.new.runs.items s.cache s.levels c.args.worker c.take_run.result c.end-job.result.0 c.self.invariant c.take_run.ensures.run c.end-job.ensures.job
    c.publish.ensures c.take_run.ensures.items

pub returns-in-Pipe : goal.returns-in-Pipe
returns-in-Pipe c =
    let s = c.self.inside in
    let o = c.take_run.result in
    let same : c.in_ok-run.run'.now ≡ o = run_same s.runs.items c.deref.result.now c.args.worker c.in_ok-run.run'.now o c.in_ok-run.ensures c.deref.ensures.value c.take_run.ensures.run in
    let pipe : is_pipe o.job.name ≡ c.args.of_pipe =
    ap (λ (r : OpenSeen). is_pipe r.job.name) (sym same) ∙ ap (λ (j : JobSeen). is_pipe j.name) (sym c.job.ensures) ∙ ap (λ (n : JobName). is_pipe n) (sym c.name.ensures) ∙ sym c.is_pipe.ensures ∙ not_differ c.is_pipe.result c.args.of_pipe c.if-is_pipe-of_pipe.false in
    let framed : o.framed ≡ true = ap (λ (r : OpenSeen). r.framed) (sym same) ∙ sym c.is_framed.ensures ∙ c.if-not-is_framed.false in
    let free : hold_of s.levels.levels c.args.worker ≡ None = none_of (hold_of s.levels.levels c.args.worker) (ap (λ h. is_some h) (sym c.hold.ensures) ∙ sym c.is_some.ensures ∙ c.if-is_some.false) in
    delivered s.desk c.publish.new.self s.runs.items c.take_run.new.runs.items s.cache s.levels c.args.self.now c.args.of_pipe c.args.worker o c.end-job.result.0 c.self.invariant c.self.view_is c.take_run.ensures.run
    pipe framed free c.end-job.ensures.job c.publish.ensures c.take_run.ensures.items

pub finish_ticket-requires-clause-subject : goal.finish_ticket-requires-clause-subject
finish_ticket-requires-clause-subject c =
    let s = c.self.inside in
    of_subject s.desk s.runs.items c.args.worker c.take_run.result c.end-job.result.0 c.self.invariant.seated c.take_run.ensures.run c.end-job.ensures.job

pub finish_ticket-requires-clause-row : goal.finish_ticket-requires-clause-row
finish_ticket-requires-clause-row c =
    let s = c.self.inside in
    done_may s.desk s.runs.items c.args.worker c.take_run.result c.end-job.result.0 c.self.invariant.seated c.take_run.ensures.run c.end-job.ensures.job

pub invariant_of-self-in-Ticket : goal.invariant_of-self-in-Ticket
invariant_of-self-in-Ticket c =
    let s = c.self.inside in
    done_left s.desk c.finish_ticket.new.self s.runs.items c.take_run.new.runs.items s.cache s.levels c.args.worker c.take_run.result c.end-job.result.0 c.self.invariant c.take_run.ensures.run c.end-job.ensures.job
    c.finish_ticket.ensures c.take_run.ensures.items

pub returns-in-Ticket : goal.returns-in-Ticket
returns-in-Ticket c =
    let s = c.self.inside in
    let o = c.take_run.result in
    let same : c.in_ok-run.run'.now ≡ o = run_same s.runs.items c.deref.result.now c.args.worker c.in_ok-run.run'.now o c.in_ok-run.ensures c.deref.ensures.value c.take_run.ensures.run in
    let pipe : is_pipe o.job.name ≡ c.args.of_pipe =
    ap (λ (r : OpenSeen). is_pipe r.job.name) (sym same) ∙ ap (λ (j : JobSeen). is_pipe j.name) (sym c.job.ensures) ∙ ap (λ (n : JobName). is_pipe n) (sym c.name.ensures) ∙ sym c.is_pipe.ensures ∙ not_differ c.is_pipe.result c.args.of_pipe c.if-is_pipe-of_pipe.false in
    let framed : o.framed ≡ true = ap (λ (r : OpenSeen). r.framed) (sym same) ∙ sym c.is_framed.ensures ∙ c.if-not-is_framed.false in
    let free : hold_of s.levels.levels c.args.worker ≡ None = none_of (hold_of s.levels.levels c.args.worker) (ap (λ h. is_some h) (sym c.hold.ensures) ∙ sym c.is_some.ensures ∙ c.if-is_some.false) in
    delivered s.desk c.finish_ticket.new.self s.runs.items c.take_run.new.runs.items s.cache s.levels c.args.self.now c.args.of_pipe c.args.worker o c.end-job.result.0 c.self.invariant c.self.view_is c.take_run.ensures.run
    pipe framed free c.end-job.ensures.job c.finish_ticket.ensures c.take_run.ensures.items
