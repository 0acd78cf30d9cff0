use Rattle.std.proofs.Common.{◌≡◌, Some, true, refl, sym, ap, subst, ◌∙◌}
use Rattle.events.specs.declared.event.Event.TheVariants as event
use Rattle.stage_cache.specs.Stages.{stages_after_keep}
use Rattle.stepped.specs.Machine.{OpenSeen}
use Rattle.stepped.specs.Step.{at_stage}
use Rattle.stepped.proofs.StageRowLemmas.{changed, unchanged, makes_err, run_same, keep_made}
use Rattle.stepped.proofs.machine.Machine.keep.Goals as goal

pub invariant_of-self : goal.invariant_of-self
invariant_of-self c =
    let s = c.self.inside in
    (unchanged s.desk s.runs.items c.take_run-run.new.runs.items c.put_run.new.runs.items s.cache c.keep-kept.new.cache s.levels c.args.worker c.take_run-run.result c.keep-kept.new.self c.self.invariant
    c.take_run-run.ensures.run c.take_run-run.ensures.items c.put_run.ensures c.in_err-kept.ensures.err c.in_err-kept.ensures.cache_err).keeps

pub returns-in_err-kept : goal.returns-in_err-kept
returns-in_err-kept c =
    let s = c.self.inside in
    makes_err c.args.self.now _ (event.Keep c.args.worker) c.from_residual.result c.from_residual.ensures.0
    ((unchanged s.desk s.runs.items c.take_run-run.new.runs.items c.put_run.new.runs.items s.cache c.keep-kept.new.cache s.levels c.args.worker c.take_run-run.result c.keep-kept.new.self c.self.invariant
    c.take_run-run.ensures.run c.take_run-run.ensures.items c.put_run.ensures c.in_err-kept.ensures.err c.in_err-kept.ensures.cache_err).seen ∙ c.self.view_is)

pub invariant_of-self-2 : goal.invariant_of-self-2
invariant_of-self-2 c =
    let s = c.self.inside in
    (changed s.desk s.runs.items c.take_run-run.new.runs.items c.put_run.new.runs.items s.cache c.keep-kept.new.cache s.levels c.args.worker c.take_run-run.result c.keep-kept.new.self (stages_after_keep s.cache.limit s.cache.budget c.in_ok-kept.ensures.kept.entry s.cache.stages) c.self.invariant
    c.take_run-run.ensures.run c.take_run-run.ensures.items c.put_run.ensures (ap (λ (x : OpenSeen). x.job) c.in_ok-kept.ensures.ok) c.in_ok-kept.ensures.kept.stages).keeps

pub returns : goal.returns
returns c =
    let s = c.self.inside in
    let o = c.take_run-run.result in
    let same : c.in-Some.run'.now ≡ o = run_same s.runs.items c.deref.result.now c.args.worker c.in-Some.run'.now o c.in-Some.ensures c.deref.ensures.value c.take_run-run.ensures.run in
    let may : at_stage o.stage (λ a. a.unkept) ≡ true =
    subst (λ (r : OpenSeen). at_stage r.stage (λ a. a.unkept) ≡ true) same (sym c.is_unkept.ensures ∙ c.if-not-is_unkept.false) in
    keep_made s.desk s.runs.items c.put_run.new.runs.items s.cache c.keep-kept.new.cache s.levels c.args.worker o c.keep-kept.new.self c.args.self.now c.in_ok-kept.ensures.kept.entry c.in_ok-kept.field-0 c.answer_of_kept.result c.self.view_is c.take_run-run.ensures.run c.self.invariant may c.in_ok-kept.ensures.ok
    c.in_ok-kept.ensures.kept.entry_is c.in_ok-kept.ensures.kept.answer c.answer_of_kept.ensures
    (changed s.desk s.runs.items c.take_run-run.new.runs.items c.put_run.new.runs.items s.cache c.keep-kept.new.cache s.levels c.args.worker c.take_run-run.result c.keep-kept.new.self (stages_after_keep s.cache.limit s.cache.budget c.in_ok-kept.ensures.kept.entry s.cache.stages) c.self.invariant
    c.take_run-run.ensures.run c.take_run-run.ensures.items c.put_run.ensures (ap (λ (x : OpenSeen). x.job) c.in_ok-kept.ensures.ok) c.in_ok-kept.ensures.kept.stages)
