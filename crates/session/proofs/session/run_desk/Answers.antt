use Rattle.std.proofs.Common.{◌≡◌, ℕ, List, map, subst, sym, ap, ◌∙◌}
use Rattle.std.specs.List.{All}
use Rattle.session.specs.declared.worker.Worker.{Worker}
use Rattle.session.specs.Workers.{Ready, number_of}
use Rattle.session.specs.Finished.{Served, AreServed, down_from}
use Rattle.session.proofs.Starting.{all_ready, numbers}
use Rattle.session.proofs.session.run_desk.Goals as goal

pub run_threads-served-requires-clause-workers : goal.run_threads-served-requires-clause-workers
run_threads-served-requires-clause-workers g c κs within =
    let b = c.in_ok-shared.ensures in
    subst (λ (ws : List Worker). All (Ready c.in_ok-shared.shared) ws) (sym b.others_are) (all_ready c.in_ok-shared.shared (down_from b.count) b.is_of.of_one)

pub close_desk-requires-clause-workers : goal.close_desk-requires-clause-workers
close_desk-requires-clause-workers g c =
    let b = c.in_ok-shared.ensures in
    let desk = c.in_ok-shared.shared.desk in
    let each : map number_of c.in_ok-shared.workers.items ≡ down_from b.count = ap (map number_of) b.others_are ∙ numbers c.in_ok-shared.shared (down_from b.count) in
    let given = rw c.in-Some.is at c.run_threads-served.ensures.workers in
    record { count = b.count; seats = b.is_of.seats_are; served = subst (λ (ns : List ℕ). AreServed desk ns c.in-Some.served.items) each given }

pub close_desk-requires-clause-editor : goal.close_desk-requires-clause-editor
close_desk-requires-clause-editor g c =
    subst (λ (n : ℕ). Served c.in_ok-shared.shared.desk n c.run_threads-served.result.1) (ap number_of c.in_ok-shared.ensures.editor_is) c.run_threads-served.ensures.editor
