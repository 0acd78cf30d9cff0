use Rattle.std.proofs.Common.{◌<◌, List, OnOk, subst, arith}
use Rattle.pipe_nodes.specs.declared.show.Show.{Show}
use Rattle.shared_mips.specs.declared.event.MipEvent.{MipEvent}
use Rattle.pipe_worker.specs.Grew.{Grew}
use Rattle.pipe_worker.specs.Routes.{IsInput}
use Rattle.pipe_worker.proofs.Routing.{used}
use Rattle.pipe_worker.proofs.input.input.Goals as goal

pub returns-clause-ok : goal.returns-clause-ok
returns-clause-ok g c =
    let old = c.args.pass.now in
    let new = c.use_level.new.pass in
    let some : 0 < c.show.result.now.level = omega (arith, c.if-l-eq0.false) in
    subst (λ (x : Show). OnOk c.use_level.result ((gain : List MipEvent) × Grew old new gain × IsInput old.number x.level gain)) c.show.ensures.show
    (used c.use_level.result old c.reach_level.new.pass new c.show.result.now.level c.in_ok-reached.reached some c.in_ok-reached.ensures.ok c.use_level.ensures.ok)
