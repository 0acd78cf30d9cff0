use Rattle.std.proofs.Common.{◌≡◌, ◌<◌, length, None, true, refl, sym, ap, ◌∙◌, arith}
use Rattle.journal.specs.Desk.{is_due_job}
use Rattle.dev_core.specs.DeskState.{now}
use Rattle.stepped.specs.Machine.{run_at}
use Rattle.stepped.proofs.SeatLemmas.{idle_free, may_take}
use Rattle.stepped.proofs.DeskRowLemmas.{seat_free, taken}
use Rattle.stepped.proofs.machine.Machine.take.Goals as goal

pub take_job-requires : goal.take_job-requires
take_job-requires c =
    let s = c.self.inside in
    let free : run_at s.runs.items c.args.worker ≡ None = seat_free c.run_at.result s.runs.items c.deref.result.now c.args.worker c.run_at.ensures c.deref.ensures.value (sym c.is_some.ensures ∙ c.if-is_some.false) in
    may_take s.desk.subject.script (now s.desk) c.args.name c.args.worker (sym c.is_due.ensures ∙ c.if-not-is_due.false) (idle_free s.desk s.runs.items c.args.worker c.self.invariant.seated free)

pub invariant_of-self-2 : goal.invariant_of-self-2
invariant_of-self-2 c =
    let s = c.self.inside in
    let free : run_at s.runs.items c.args.worker ≡ None = seat_free c.run_at.result s.runs.items c.deref.result.now c.args.worker c.run_at.ensures c.deref.ensures.value (sym c.is_some.ensures ∙ c.if-is_some.false) in
    let within : c.args.worker < length s.runs.items = omega arith in
    (taken s.desk c.take_job.new.desk s.runs.items c.put_run.new.runs.items s.cache s.levels c.args.self.now c.args.name c.args.worker c.in_ok-job.job c.begin.result c.self.invariant c.self.view_is within free
    (sym c.is_due.ensures ∙ c.if-not-is_due.false) c.in_ok-job.ensures.ok c.in_ok-job.ensures.job c.begin.ensures c.put_run.ensures).keeps

pub returns : goal.returns
returns c =
    let s = c.self.inside in
    let free : run_at s.runs.items c.args.worker ≡ None = seat_free c.run_at.result s.runs.items c.deref.result.now c.args.worker c.run_at.ensures c.deref.ensures.value (sym c.is_some.ensures ∙ c.if-is_some.false) in
    let within : c.args.worker < length s.runs.items = omega arith in
    (taken s.desk c.take_job.new.desk s.runs.items c.put_run.new.runs.items s.cache s.levels c.args.self.now c.args.name c.args.worker c.in_ok-job.job c.begin.result c.self.invariant c.self.view_is within free
    (sym c.is_due.ensures ∙ c.if-not-is_due.false) c.in_ok-job.ensures.ok c.in_ok-job.ensures.job c.begin.ensures c.put_run.ensures).made
