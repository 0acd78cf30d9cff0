use Rattle.std.proofs.Common.{◌≡◌, Some, None, true, false, refl, sym, ap, subst, ◌∙◌}
use Rattle.std.specs.Prelude.{◌&&◌, is_none, is_some}
use Rattle.events.specs.declared.event.Event.TheVariants as event
use Rattle.level_store.specs.Levels.{hold_of}
use Rattle.stage_cache.specs.Stages.{stages_after_find}
use Rattle.stage_run.specs.StageRun.{asked}
use Rattle.stepped.specs.Machine.{OpenSeen, course}
use Rattle.stepped.proofs.StageRowLemmas.{changed, unchanged, makes_err, run_same, none_of, find_made}
use Rattle.stepped.proofs.machine.Machine.find.Goals as goal

pub invariant_of-self : goal.invariant_of-self
invariant_of-self c =
    let s = c.self.inside in
    (unchanged s.desk s.runs.items c.take_run-run.new.runs.items c.put_run.new.runs.items s.cache c.find-found.new.cache s.levels c.args.worker c.take_run-run.result c.find-found.new.self c.self.invariant
    c.take_run-run.ensures.run c.take_run-run.ensures.items c.put_run.ensures c.in_err-found.ensures.err c.in_err-found.ensures.cache_err).keeps

pub returns-in_err-found : goal.returns-in_err-found
returns-in_err-found c =
    let s = c.self.inside in
    makes_err c.args.self.now _ (event.Find c.args.worker) c.from_residual.result c.from_residual.ensures.0
    ((unchanged s.desk s.runs.items c.take_run-run.new.runs.items c.put_run.new.runs.items s.cache c.find-found.new.cache s.levels c.args.worker c.take_run-run.result c.find-found.new.self c.self.invariant
    c.take_run-run.ensures.run c.take_run-run.ensures.items c.put_run.ensures c.in_err-found.ensures.err c.in_err-found.ensures.cache_err).seen ∙ c.self.view_is)

pub invariant_of-self-2 : goal.invariant_of-self-2
invariant_of-self-2 c =
    let s = c.self.inside in
    (changed s.desk s.runs.items c.take_run-run.new.runs.items c.put_run.new.runs.items s.cache c.find-found.new.cache s.levels c.args.worker c.take_run-run.result c.find-found.new.self (stages_after_find (asked (course c.take_run-run.result.job None)) s.cache.stages) c.self.invariant
    c.take_run-run.ensures.run c.take_run-run.ensures.items c.put_run.ensures (ap (λ (x : OpenSeen). x.job) c.in_ok-found.ensures.run) c.in_ok-found.ensures.cache).keeps

pub returns : goal.returns
returns c =
    let s = c.self.inside in
    let o = c.take_run-run.result in
    let same : c.in-Some.run'.now ≡ o = run_same s.runs.items c.deref.result.now c.args.worker c.in-Some.run'.now o c.in-Some.ensures c.deref.ensures.value c.take_run-run.ensures.run in
    let bare : o.stage ≡ None = ap (λ (r : OpenSeen). r.stage) (sym same) ∙ none_of c.in-Some.run'.now.stage (ap (λ stage. is_some stage) (sym c.stage.ensures) ∙ sym c.is_some.ensures ∙ c.if-is_some.false) in
    let free : hold_of s.levels.levels c.args.worker ≡ None = none_of (hold_of s.levels.levels c.args.worker) (ap (λ h. is_some h) (sym c.hold.ensures) ∙ sym c.is_some-2.ensures ∙ c.if-is_some-2.false) in
    let may : (is_none o.stage && is_none (hold_of s.levels.levels c.args.worker)) ≡ true =
    ap (λ stage. is_none stage && is_none (hold_of s.levels.levels c.args.worker)) bare ∙ ap (λ h. is_none h) free in
    find_made s.desk s.runs.items c.put_run.new.runs.items s.cache c.find-found.new.cache s.levels c.args.worker o c.find-found.new.self c.args.self.now c.in_ok-found.field-0 c.answer_of_found.result c.self.view_is c.take_run-run.ensures.run c.self.invariant.seated may c.in_ok-found.ensures.run
    c.in_ok-found.ensures.done c.answer_of_found.ensures.none c.answer_of_found.ensures.some
    (changed s.desk s.runs.items c.take_run-run.new.runs.items c.put_run.new.runs.items s.cache c.find-found.new.cache s.levels c.args.worker c.take_run-run.result c.find-found.new.self (stages_after_find (asked (course c.take_run-run.result.job None)) s.cache.stages) c.self.invariant
    c.take_run-run.ensures.run c.take_run-run.ensures.items c.put_run.ensures (ap (λ (x : OpenSeen). x.job) c.in_ok-found.ensures.run) c.in_ok-found.ensures.cache)
