use Rattle.std.proofs.Common.{rules, sym, ◌∙◌, Some, ◌≡◌}
use Rattle.std.specs.Map.{lookup}
use Rattle.pipe_nodes.specs.SamePrefix.{same_prefix}
use Rattle.stage_cache.proofs.FindLemmas.{has_cover_told}
use Rattle.stage_cache.proofs.entries.covering.Goals as goal

pub returns-then-covers-clause-covers : goal.returns-then-covers-clause-covers
returns-then-covers-clause-covers c =
    let there : lookup (same_prefix c.args.asked.now.0) c.args.entries.now.entries ≡ Some c.in_ok-stage.stage.now = search rules in
    sym c.if-covers.true ∙ has_cover_told c.args.entries.now.entries c.args.asked.now c.in_ok-stage.stage.now c.region.result c.covers.result there c.region.ensures c.covers.ensures

pub returns-else-covers-clause-covers : goal.returns-else-covers-clause-covers
returns-else-covers-clause-covers c =
    let there : lookup (same_prefix c.args.asked.now.0) c.args.entries.now.entries ≡ Some c.in_ok-stage.stage.now = search rules in
    sym c.if-covers.false ∙ has_cover_told c.args.entries.now.entries c.args.asked.now c.in_ok-stage.stage.now c.region.result c.covers.result there c.region.ensures c.covers.ensures
