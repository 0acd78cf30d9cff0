use Rattle.std.proofs.Common.{[], ◌∷◌, rules, refl, arith, ap, ◌∙◌, sym, subst, ◌≡◌, ◌<◌, ◌≤◌}
use Rattle.journal.specs.declared.entry.Entry.TheVariants as entry
use Rattle.dev_core.specs.Jobs.{JobSeen}
use Rattle.pipe_worker.specs.Job.{is_pipe_job, IsUpTo, nodes_at}
use Rattle.pipe_worker.specs.Jobs.{last_at, nodes_of, IsSet}
use Rattle.pipe_worker.specs.Grew.{Grew}
use Rattle.pipe_worker.proofs.Growing.{grew_turned, grew_more}
use Rattle.pipe_worker.proofs.Holding.{holds_saw, of_pipe, later_of, gained_done, gained_back, gained_anew}
use Rattle.pipe_worker.proofs.Running.{along_start, along_restarted, published, given_back, set_at, upto_more, marks_more, loads_turned}
use Rattle.pipe_worker.proofs.run.run_pipe.Goals as goal

pub loop-init : goal.loop-init
loop-init g c = record {
  desk = search rules;
  stage = search rules;
  mips = search rules;
  bare = search rules;
  holds = search rules;
  job = refl;
  nodes = c.requires.nodes;
  upto = c.requires.upto;
  marks = c.requires.marks;
  moment = c.requires.moment;
  along = along_start _ _ _ _ _;
}

pub returns-in-Made-clause-ran : goal.returns-in-Made-clause-ran
returns-in-Made-clause-ran g c =
    let j : JobSeen = c.loop.job in
    let named = ap (λ (y : JobSeen). y.name) c.loop.invariant.job ∙ c.requires.name in
    let t = c.in-Made.ensures.tried in
    let held = holds_saw c.args.desk.now j c.loop.passes.desk c.attempt.new.passes.desk 0 t.desk c.loop.invariant.holds in
    let turn = gained_done j c.args.pipe c.attempt.new.passes.desk c.publish.new.pass named held.worker_is c.publish.ensures.turn in
    published c.args.job j c.args.pipe _ _ _ _ c.args.passes.now _ _ _ _ _ _ _ c.loop.invariant.job c.moment-moment.ensures.moment c.loop.invariant.along t turn

pub returns-in-Memory-clause-ran : goal.returns-in-Memory-clause-ran
returns-in-Memory-clause-ran g c =
    let j : JobSeen = c.loop.job in
    let named = ap (λ (y : JobSeen). y.name) c.loop.invariant.job ∙ c.requires.name in
    let t = c.in-Memory.ensures.tried in
    let held = holds_saw c.args.desk.now j c.loop.passes.desk c.attempt.new.passes.desk 0 t.desk c.loop.invariant.holds in
    let turn = gained_back j c.args.pipe c.attempt.new.passes.desk c.give_back-in-Memory.new.pass named held.worker_is c.give_back-in-Memory.ensures.turn in
    given_back c.args.job j c.args.pipe _ _ _ _ c.args.passes.now _ _ _ _ _ _ c.loop.invariant.job c.loop.invariant.along t (omega arith) (grew_turned _ turn) (omega (arith, (loads_turned turn).0))

pub returns-in-Err-clause-ran : goal.returns-in-Err-clause-ran
returns-in-Err-clause-ran g c =
    let j : JobSeen = c.loop.job in
    let k : JobSeen = c.restart.new.job in
    let named = ap (λ (y : JobSeen). y.name) c.loop.invariant.job ∙ c.requires.name in
    let t = c.in-Superseded.ensures.tried in
    let mid = c.attempt.new.passes.desk in
    let held = holds_saw c.args.desk.now j c.loop.passes.desk mid 0 t.desk c.loop.invariant.holds in
    let first = grew_turned _ c.in-Err.ensures.turn in
    let name : k.name ≡ j.name = ap (λ (y : JobSeen). y.name) c.in-Err.ensures.same in
    let worker : k.worker ≡ j.worker = ap (λ (y : JobSeen). y.worker) c.in-Err.ensures.same in
    let turn = gained_back k c.args.pipe c.restart.new.pass c.give_back.new.pass (name ∙ named) (worker ∙ held.worker_is ∙ sym first.bears) c.give_back.ensures.turn in
    let both = grew_more first (grew_turned _ turn) in
    given_back c.args.job j c.args.pipe _ _ _ _ c.args.passes.now _ c.attempt.new.passes c.give_back.new.pass _ _ _ c.loop.invariant.job c.loop.invariant.along t (omega arith)
    (subst (λ n. Grew mid c.give_back.new.pass (entry.GaveBack c.args.pipe n ∷ [])) first.bears both) (omega (arith, (loads_turned c.in-Err.ensures.turn).0, (loads_turned turn).0))

pub loop-preserved : goal.loop-preserved
loop-preserved g c =
    let i : JobSeen = c.loop.job in
    let k : JobSeen = c.restart.new.job in
    let named = ap (λ (y : JobSeen). y.name) c.loop.invariant.job ∙ c.requires.name in
    let subject : k.subject ≡ i.subject = ap (λ (y : JobSeen). y.subject) c.in-Ok.ensures.job in
    let same_name : k.name ≡ i.name = ap (λ (y : JobSeen). y.name) c.in-Ok.ensures.job in
    let worker : k.worker ≡ i.worker = ap (λ (y : JobSeen). y.worker) c.in-Ok.ensures.job in
    let mine : i.subject ≡ c.args.job.subject = ap (λ (y : JobSeen). y.subject) c.loop.invariant.job in
    let rises : i.moment < k.moment = c.in-Ok.ensures.rises in
    let t = c.in-Superseded.ensures.tried in
    let mid = c.attempt.new.passes.desk in
    let held = holds_saw c.args.desk.now i c.loop.passes.desk mid 0 t.desk c.loop.invariant.holds in
    let turn = gained_anew k c.args.pipe mid c.restart.new.pass (same_name ∙ named) (worker ∙ held.worker_is) c.in-Ok.ensures.turn in
    let was = set_at i.name i.subject c.loop.nodes c.loop.invariant.nodes in
    let is = set_at i.name i.subject c.attempt.new.nodes c.in-Superseded.ensures.nodes in
    let later = c.attempt.new.nodes in
    record {
      desk = search rules;
      stage = search rules;
      mips = search rules;
      bare = c.in-Superseded.ensures.bare;
      holds = c.in-Ok.ensures.holds;
      job = c.in-Ok.ensures.job ∙ ap (λ (y : JobSeen). record y { moment = k.moment }) c.loop.invariant.job;
      nodes = subst (λ s. IsSet s later) (sym subject) c.in-Superseded.ensures.nodes;
      upto = subst (λ n. IsUpTo (last_at n later) k.moment) (sym same_name) (upto_more (last_at i.name later) i.moment k.moment (omega (arith, rises)) c.in-Superseded.ensures.upto);
      marks = marks_more later c.loop.passes.desk.mark _ (omega (arith, t.desk.rises, turn.rises)) (c.in-Superseded.ensures.marks c.loop.passes.desk.mark c.loop.invariant.marks c.loop.invariant.moment);
      moment = omega (arith, c.in-Ok.ensures.moment);
      along = along_restarted c.args.job i c.args.pipe _ _ _ _ c.args.passes.now _ _ _ (nodes_of i.name c.loop.nodes) _ (last_at i.name c.loop.nodes) (last_at i.name later) i.moment k.moment _
          c.loop.invariant.job c.loop.invariant.along t
          (subst (λ s. nodes_of i.name c.loop.nodes ≡ nodes_at s (last_at i.name c.loop.nodes)) mine was)
          (ap (λ n. nodes_of n later) same_name ∙ subst (λ s. nodes_of i.name later ≡ nodes_at s (last_at i.name later)) mine is)
          (c.in-Superseded.ensures.moved (ap is_pipe_job named)) (grew_turned _ turn) (omega (arith, (loads_turned turn).0)) rises;
    }
