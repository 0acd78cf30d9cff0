use Rattle.std.proofs.Common.{◌≡◌, Some, None, true, false, refl, sym, ap, subst, ◌∙◌}
use Rattle.std.specs.Prelude.{not, ◌&&◌, is_none, is_some}
use Rattle.events.specs.declared.event.Event.TheVariants as event
use Rattle.level_store.specs.Levels.{hold_of, is_writing}
use Rattle.stepped.specs.Machine.{OpenSeen}
use Rattle.stepped.proofs.StageRowLemmas.{changed, unchanged, makes_err, run_same, none_of, load_made}
use Rattle.stepped.proofs.machine.Machine.load.Goals as goal

pub invariant_of-self : goal.invariant_of-self
invariant_of-self g c =
    let s = c.self.inside in
    (unchanged s.desk s.runs.items c.take_run-run.new.runs.items c.put_run.new.runs.items s.cache s.cache s.levels c.args.worker c.take_run-run.result c.load-done.new.self c.self.invariant
    c.take_run-run.ensures.run c.take_run-run.ensures.items c.put_run.ensures c.in_err-done.ensures.err refl).keeps

pub returns-in_err-done : goal.returns-in_err-done
returns-in_err-done g c =
    let s = c.self.inside in
    makes_err c.args.self.now _ (event.Load c.args.worker) c.from_residual.result c.from_residual.ensures.0
    ((unchanged s.desk s.runs.items c.take_run-run.new.runs.items c.put_run.new.runs.items s.cache s.cache s.levels c.args.worker c.take_run-run.result c.load-done.new.self c.self.invariant
    c.take_run-run.ensures.run c.take_run-run.ensures.items c.put_run.ensures c.in_err-done.ensures.err refl).seen ∙ c.self.view_is)

pub invariant_of-self-2 : goal.invariant_of-self-2
invariant_of-self-2 g c =
    let s = c.self.inside in
    (changed s.desk s.runs.items c.take_run-run.new.runs.items c.put_run.new.runs.items s.cache s.cache s.levels c.args.worker c.take_run-run.result c.load-done.new.self (s.cache.stages) c.self.invariant
    c.take_run-run.ensures.run c.take_run-run.ensures.items c.put_run.ensures (ap (λ (x : OpenSeen). x.job) c.in_ok-done.ensures.ok) refl).keeps

pub returns : goal.returns
returns g c =
    let s = c.self.inside in
    let o = c.take_run-run.result in
    let same : c.in-Some.run'.now ≡ o = run_same s.runs.items c.deref.result.now c.args.worker c.in-Some.run'.now o c.in-Some.ensures c.deref.ensures.value c.take_run-run.ensures.run in
    let bare : o.stage ≡ None = ap (λ (r : OpenSeen). r.stage) (sym same) ∙ none_of c.in-Some.run'.now.stage (ap (λ stage. is_some stage) (sym c.stage.ensures) ∙ sym c.is_some.ensures ∙ c.if-is_some.false) in
    let off : is_writing (hold_of s.levels.levels c.args.worker) ≡ false = ap (λ h. is_writing h) (sym c.hold.ensures) ∙ sym c.is_writing.ensures ∙ c.if-is_writing.false in
    let may : (is_none o.stage && not (is_writing (hold_of s.levels.levels c.args.worker))) ≡ true =
    ap (λ stage. is_none stage && not (is_writing (hold_of s.levels.levels c.args.worker))) bare ∙ ap (λ b. not b) off in
    load_made s.desk s.runs.items c.put_run.new.runs.items s.cache s.levels c.args.worker o c.load-done.new.self c.args.self.now c.self.view_is c.take_run-run.ensures.run may c.in_ok-done.ensures.ok
    (changed s.desk s.runs.items c.take_run-run.new.runs.items c.put_run.new.runs.items s.cache s.cache s.levels c.args.worker c.take_run-run.result c.load-done.new.self (s.cache.stages) c.self.invariant
    c.take_run-run.ensures.run c.take_run-run.ensures.items c.put_run.ensures (ap (λ (x : OpenSeen). x.job) c.in_ok-done.ensures.ok) refl)
