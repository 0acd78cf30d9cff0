use Rattle.std.proofs.Common.{◌≡◌, None, true, refl, sym, ap, subst, ◌∙◌}
use Rattle.std.specs.Prelude.{is_some}
use Rattle.events.specs.declared.event.Event.TheVariants as event
use Rattle.level_store.specs.Levels.{hold_of}
use Rattle.dev_core.specs.DeskState.{now}
use Rattle.dev_core.specs.Jobs.{JobSeen}
use Rattle.stepped.specs.Machine.{OpenSeen, IsMachine, core_seen}
use Rattle.stepped.specs.Step.{is_behind}
use Rattle.stepped.proofs.StageRowLemmas.{run_same, none_of, unchanged, makes_err}
use Rattle.stepped.proofs.DeskRowLemmas.{anew_may, anew_subject, began_anew}
use Rattle.stepped.proofs.machine.Machine.restart.Goals as goal

pub restart-done-requires-clause-row : goal.restart-done-requires-clause-row
restart-done-requires-clause-row c =
    let s = c.self.inside in
    let o = c.take_run-run.result in
    let same : c.in-Some.run'.now ≡ o = run_same s.runs.items c.deref.result.now c.args.worker c.in-Some.run'.now o c.in-Some.ensures c.deref.ensures.value c.take_run-run.ensures.run in
    let behind : is_behind s.desk.subject.script (now s.desk) o.job.name o.job.moment ≡ true =
    ap (λ (r : OpenSeen). is_behind s.desk.subject.script (now s.desk) r.job.name r.job.moment) (sym same) ∙ ap (λ (j : JobSeen). is_behind s.desk.subject.script (now s.desk) j.name j.moment) (sym c.job.ensures)
    ∙ sym c.is_behind.ensures ∙ c.if-not-is_behind.false in
    anew_may s.desk s.runs.items c.args.worker o c.self.invariant.seated c.take_run-run.ensures.run behind

pub invariant_of-self : goal.invariant_of-self
invariant_of-self c =
    let s = c.self.inside in
    subst (λ d. IsMachine d c.put_run.new.runs.items s.cache s.levels) (sym c.in_err-done.ensures.err.0)
    (unchanged s.desk s.runs.items c.take_run-run.new.runs.items c.put_run.new.runs.items s.cache s.cache s.levels c.args.worker c.take_run-run.result c.restart-done.new.self c.self.invariant
    c.take_run-run.ensures.run c.take_run-run.ensures.items c.put_run.ensures c.in_err-done.ensures.err.1 refl).keeps

pub returns-in_err-done : goal.returns-in_err-done
returns-in_err-done c =
    let s = c.self.inside in
    makes_err c.args.self.now _ (event.Restart c.args.worker) c.from_residual.result c.from_residual.ensures.0
    (ap (λ d. core_seen d c.put_run.new.runs.items s.cache s.levels) c.in_err-done.ensures.err.0
    ∙ (unchanged s.desk s.runs.items c.take_run-run.new.runs.items c.put_run.new.runs.items s.cache s.cache s.levels c.args.worker c.take_run-run.result c.restart-done.new.self c.self.invariant
    c.take_run-run.ensures.run c.take_run-run.ensures.items c.put_run.ensures c.in_err-done.ensures.err.1 refl).seen ∙ c.self.view_is)

pub invariant_of-self-2 : goal.invariant_of-self-2
invariant_of-self-2 c =
    let s = c.self.inside in
    let o = c.take_run-run.result in
    let same : c.in-Some.run'.now ≡ o = run_same s.runs.items c.deref.result.now c.args.worker c.in-Some.run'.now o c.in-Some.ensures c.deref.ensures.value c.take_run-run.ensures.run in
    let behind : is_behind s.desk.subject.script (now s.desk) o.job.name o.job.moment ≡ true =
    ap (λ (r : OpenSeen). is_behind s.desk.subject.script (now s.desk) r.job.name r.job.moment) (sym same) ∙ ap (λ (j : JobSeen). is_behind s.desk.subject.script (now s.desk) j.name j.moment) (sym c.job.ensures)
    ∙ sym c.is_behind.ensures ∙ c.if-not-is_behind.false in
    let free : hold_of s.levels.levels c.args.worker ≡ None = none_of (hold_of s.levels.levels c.args.worker) (ap (λ h. is_some h) (sym c.hold.ensures) ∙ sym c.is_some.ensures ∙ c.if-is_some.false) in
    (began_anew s.desk c.restart-done.new.desk s.runs.items c.take_run-run.new.runs.items c.put_run.new.runs.items s.cache s.levels c.args.self.now c.args.worker o c.restart-done.new.self c.self.invariant c.self.view_is
    c.take_run-run.ensures.run behind free c.in_ok-done.ensures.desk c.in_ok-done.ensures.run c.take_run-run.ensures.items c.put_run.ensures
    (anew_subject o.job.name s.desk c.restart-done.new.desk o.job.worker (now s.desk).moment c.in_ok-done.ensures.desk)).keeps

pub returns : goal.returns
returns c =
    let s = c.self.inside in
    let o = c.take_run-run.result in
    let same : c.in-Some.run'.now ≡ o = run_same s.runs.items c.deref.result.now c.args.worker c.in-Some.run'.now o c.in-Some.ensures c.deref.ensures.value c.take_run-run.ensures.run in
    let behind : is_behind s.desk.subject.script (now s.desk) o.job.name o.job.moment ≡ true =
    ap (λ (r : OpenSeen). is_behind s.desk.subject.script (now s.desk) r.job.name r.job.moment) (sym same) ∙ ap (λ (j : JobSeen). is_behind s.desk.subject.script (now s.desk) j.name j.moment) (sym c.job.ensures)
    ∙ sym c.is_behind.ensures ∙ c.if-not-is_behind.false in
    let free : hold_of s.levels.levels c.args.worker ≡ None = none_of (hold_of s.levels.levels c.args.worker) (ap (λ h. is_some h) (sym c.hold.ensures) ∙ sym c.is_some.ensures ∙ c.if-is_some.false) in
    (began_anew s.desk c.restart-done.new.desk s.runs.items c.take_run-run.new.runs.items c.put_run.new.runs.items s.cache s.levels c.args.self.now c.args.worker o c.restart-done.new.self c.self.invariant c.self.view_is
    c.take_run-run.ensures.run behind free c.in_ok-done.ensures.desk c.in_ok-done.ensures.run c.take_run-run.ensures.items c.put_run.ensures
    (anew_subject o.job.name s.desk c.restart-done.new.desk o.job.worker (now s.desk).moment c.in_ok-done.ensures.desk)).made
