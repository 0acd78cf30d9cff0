use Rattle.std.proofs.Common.{◌≡◌, None, sym, ap, ◌∙◌}
use Rattle.std.specs.Prelude.{is_some}
use Rattle.level_store.specs.Levels.{hold_of}
use Rattle.stepped.proofs.StageRowLemmas.{none_of}
use Rattle.stepped.proofs.DeskRowLemmas.{back_may, back_left, given_back}
use Rattle.stepped.proofs.machine.Machine.give_back.Goals as goal

pub give_back-requires-clause-row : goal.give_back-requires-clause-row
give_back-requires-clause-row c =
    let s = c.self.inside in
    back_may s.desk s.runs.items c.args.worker c.take_run.result c.end-job.result.0 c.self.invariant.seated c.take_run.ensures.run c.end-job.ensures.job

pub invariant_of-self : goal.invariant_of-self
invariant_of-self c =
    let s = c.self.inside in
    back_left s.desk c.give_back.new.self s.runs.items c.take_run.new.runs.items s.cache s.levels c.args.worker c.take_run.result c.end-job.result.0 c.self.invariant c.take_run.ensures.run c.end-job.ensures.job
    c.give_back.ensures c.take_run.ensures.items

pub returns : goal.returns
returns c =
    let s = c.self.inside in
    let free : hold_of s.levels.levels c.args.worker ≡ None = none_of (hold_of s.levels.levels c.args.worker) (ap (λ h. is_some h) (sym c.hold.ensures) ∙ sym c.is_some.ensures ∙ c.if-is_some.false) in
    given_back s.desk c.give_back.new.self s.runs.items c.take_run.new.runs.items s.cache s.levels c.args.self.now c.args.worker c.take_run.result c.end-job.result.0 c.self.invariant c.self.view_is c.take_run.ensures.run
    free c.end-job.ensures.job c.give_back.ensures c.take_run.ensures.items
