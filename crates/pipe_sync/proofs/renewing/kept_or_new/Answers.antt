use Rattle.std.proofs.Common.{sym, ◌∙◌}
use Rattle.pipe_nodes.proofs.SameLemmas.{active-Decides}
use Rattle.pipe_sync.proofs.renewing.kept_or_new.Goals as goal

pub returns-then-eq-clause-piece : goal.returns-then-eq-clause-piece
returns-then-eq-clause-piece g c =
    sym c.active.ensures.active ∙ (active-Decides c.active.result.now c.args.active.now).0 (sym c.eq.ensures ∙ c.if-eq.true)
