use Rattle.params.specs.Seen.{all_seen}
use Rattle.params.proofs.KeptLemmas.{pairs_kept, few_kept}
use Rattle.params.proofs.from_parts.nodes_at.Goals as goal

pub nodes_in-requires-clause-inputs : goal.nodes_in-requires-clause-inputs
nodes_in-requires-clause-inputs c = rw c.part_at.ensures (pairs_kept (all_seen c.args.parts.now) c.args.row.now (all_seen c.args.parts.now) c.args.at c.requires.fits c.requires.kept)

pub nodes_in-requires-clause-few : goal.nodes_in-requires-clause-few
nodes_in-requires-clause-few c = rw c.part_at.ensures (few_kept (all_seen c.args.parts.now) c.args.row.now (all_seen c.args.parts.now) c.args.at c.requires.fits c.requires.kept)
