use Rattle.std.proofs.Common.{pos, negsuc, sym}
use Rattle.params.specs.Seen.{all_seen}
use Rattle.params.proofs.KeptLemmas.{nine_kept}
use Rattle.params.proofs.from_parts.matrix_at.Goals as goal

pub matrix-requires : goal.matrix-requires
matrix-requires c = nine_kept (negsuc 2147483647) (pos 2147483647) (all_seen c.args.parts.now) c.args.row.now (all_seen c.args.parts.now) c.args.at c.in-Nine.rows c.requires.cell c.requires.kept.kept (sym c.in-Nine.ensures)
