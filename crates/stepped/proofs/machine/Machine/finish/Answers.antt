use Rattle.std.proofs.Common.{◌≡◌, Some, true, refl, sym, ap, subst, ◌∙◌}
use Rattle.std.specs.Prelude.{not, ◌&&◌, ◌==◌}
use Rattle.events.specs.declared.event.Event.TheVariants as event
use Rattle.stepped.specs.Machine.{OpenSeen, active_count_of}
use Rattle.stepped.specs.Step.{at_stage}
use Rattle.stepped.proofs.StageRowLemmas.{changed, unchanged, makes_err, run_same, finish_made}
use Rattle.stepped.proofs.machine.Machine.finish.Goals as goal

pub invariant_of-self : goal.invariant_of-self
invariant_of-self g c =
    let s = c.self.inside in
    (unchanged s.desk s.runs.items c.take_run-run.new.runs.items c.put_run.new.runs.items s.cache s.cache s.levels c.args.worker c.take_run-run.result c.finish-done.new.self c.self.invariant
    c.take_run-run.ensures.run c.take_run-run.ensures.items c.put_run.ensures c.in_err-done.ensures.err refl).keeps

pub returns-in_err-done : goal.returns-in_err-done
returns-in_err-done g c =
    let s = c.self.inside in
    makes_err c.args.self.now _ (event.Finish c.args.worker) c.from_residual.result c.from_residual.ensures.0
    ((unchanged s.desk s.runs.items c.take_run-run.new.runs.items c.put_run.new.runs.items s.cache s.cache s.levels c.args.worker c.take_run-run.result c.finish-done.new.self c.self.invariant
    c.take_run-run.ensures.run c.take_run-run.ensures.items c.put_run.ensures c.in_err-done.ensures.err refl).seen ∙ c.self.view_is)

pub invariant_of-self-2 : goal.invariant_of-self-2
invariant_of-self-2 g c =
    let s = c.self.inside in
    (changed s.desk s.runs.items c.take_run-run.new.runs.items c.put_run.new.runs.items s.cache s.cache s.levels c.args.worker c.take_run-run.result c.finish-done.new.self (s.cache.stages) c.self.invariant
    c.take_run-run.ensures.run c.take_run-run.ensures.items c.put_run.ensures (ap (λ (x : OpenSeen). x.job) c.in_ok-done.ensures.ok) refl).keeps

pub returns : goal.returns
returns g c =
    let s = c.self.inside in
    let o = c.take_run-run.result in
    let same : c.in-Some.run'.now ≡ o = run_same s.runs.items c.deref.result.now c.args.worker c.in-Some.run'.now o c.in-Some.ensures c.deref.ensures.value c.take_run-run.ensures.run in
    let may : (at_stage o.stage (λ a. a.done == active_count_of o.job) && not o.framed) ≡ true =
    subst (λ (r : OpenSeen). (at_stage r.stage (λ a. a.done == active_count_of r.job) && not r.framed) ≡ true) same (sym c.may_finish.ensures ∙ c.if-not-may_finish.false) in
    finish_made s.desk s.runs.items c.put_run.new.runs.items s.cache s.levels c.args.worker o c.finish-done.new.self c.args.self.now c.self.view_is c.take_run-run.ensures.run c.self.invariant.seated may c.in_ok-done.ensures.ok
    (changed s.desk s.runs.items c.take_run-run.new.runs.items c.put_run.new.runs.items s.cache s.cache s.levels c.args.worker c.take_run-run.result c.finish-done.new.self (s.cache.stages) c.self.invariant
    c.take_run-run.ensures.run c.take_run-run.ensures.items c.put_run.ensures (ap (λ (x : OpenSeen). x.job) c.in_ok-done.ensures.ok) refl)
