use Rattle.std.proofs.Common.{pos, sym, arith}
use Rattle.std.proofs.lemmas.Int.{to_z-of_z}
use Rattle.params.specs.Ranges.{IsIn}
use Rattle.params.specs.Seen.{all_seen}
use Rattle.params.proofs.KeptLemmas.{one_kept}
use Rattle.params.proofs.from_parts.natural_at.Goals as goal

pub natural-requires : goal.natural-requires
natural-requires c =
    let k : IsIn (pos 0) (pos 4294967295) c.in-One.value =
    one_kept (pos 0) (pos 4294967295) (all_seen c.args.parts.now) c.args.row.now (all_seen c.args.parts.now) c.args.at c.in-One.value c.requires.cell c.requires.kept.kept (sym c.in-One.ensures) in
    (grind (arith, to_z-of_z, k.0), grind (arith, to_z-of_z, k.1))
