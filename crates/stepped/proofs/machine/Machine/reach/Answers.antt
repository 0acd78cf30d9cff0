use Rattle.std.proofs.Common.{◌≡◌, ◌≤◌, Some, false, refl, ap, ◌∙◌, arith}
use Rattle.std.specs.Prelude.{is_some}
use Rattle.pipe_nodes.specs.declared.show.Show.{Show}
use Rattle.level_store.specs.Levels.{hold_of}
use Rattle.dev_core.specs.Jobs.{JobSeen}
use Rattle.dev_core.specs.Subject.{show_of}
use Rattle.stepped.specs.Machine.{run_at}
use Rattle.stepped.proofs.LevelRowLemmas.{reach_refused, reach_made}
use Rattle.stepped.proofs.machine.Machine.reach.Goals as goal

pub returns-then-level-eq0 : goal.returns-then-level-eq0
returns-then-level-eq0 c =
    let s = c.self.inside in
    let o = c.in_ok-run.run'.now in
    let at : run_at s.runs.items c.args.worker ≡ Some o = cc (c.in_ok-run.ensures, c.deref.ensures.value) in
    let shows : c.show.result.now.level ≡ (show_of o.job.subject o.job.name o.job.moment).level =
    ap (λ (x : Show). x.level) c.show.ensures.show ∙ ap (λ (j : JobSeen). (show_of j.subject j.name j.moment).level) c.job.ensures in
    (reach_refused s.desk s.runs.items s.cache s.levels c.args.worker o c.args.self.now c.show.result.now.level c.self.invariant c.self.view_is at shows c.if-level-eq0.true, refl)

pub returns : goal.returns
returns c =
    let s = c.self.inside in
    let o = c.in_ok-run.run'.now in
    let at : run_at s.runs.items c.args.worker ≡ Some o = cc (c.in_ok-run.ensures, c.deref.ensures.value) in
    let shows : c.show.result.now.level ≡ (show_of o.job.subject o.job.name o.job.moment).level =
    ap (λ (x : Show). x.level) c.show.ensures.show ∙ ap (λ (j : JobSeen). (show_of j.subject j.name j.moment).level) c.job.ensures in
    let some : 1 ≤ c.show.result.now.level = omega arith in
    let bare : is_some o.stage ≡ false = cc (c.stage.ensures, c.is_some.ensures, c.if-is_some.false) in
    let free : is_some (hold_of s.levels.levels c.args.worker) ≡ false = cc (c.hold.ensures, c.is_some-2.ensures, c.if-is_some-2.false) in
    reach_made s.desk s.runs.items s.cache s.levels c.reach.new.self c.args.worker o c.args.self.now c.show.result.now.level c.reach.result c.answer_of_reach.result
    c.self.invariant c.self.view_is at shows some bare free c.reach.ensures.levels c.reach.ensures.answer c.answer_of_reach.ensures
