use Rattle.std.proofs.Common.{pos, sym}
use Rattle.params.specs.Seen.{all_seen}
use Rattle.params.proofs.KeptLemmas.{three_kept}
use Rattle.params.proofs.from_parts.naturals_at.Goals as goal

pub naturals-requires : goal.naturals-requires
naturals-requires c = three_kept (pos 0) (pos 4294967295) (all_seen c.args.parts.now) c.args.row.now (all_seen c.args.parts.now) c.args.at c.in-Three.values c.requires.cell c.requires.kept.kept (sym c.in-Three.ensures)
