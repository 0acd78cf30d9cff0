use Rattle.std.proofs.Common.{◌*◌, ◌<◌, refl}
use Rattle.std.specs.Prelude.{IsTrue}
use Rattle.masks.proofs.EdgeLemmas.{inside_between}
use Rattle.masks.proofs.edge.stays_inside.Goals as goal

pub returns-then-is_inside : goal.returns-then-is_inside
returns-then-is_inside c t k low high =
    let e = c.args.edge in
    let first_true : IsTrue c.is_inside.result = rw c.if-is_inside.true refl in
    let first : c.far_at.result * 65536 < e.rim * 65537 = c.is_inside.ensures.0 first_true in
    let last : c.far_at-then-is_inside.result * 65536 < e.rim * 65537 = c.is_inside-then-is_inside.ensures.0 t in
    inside_between c.args.line e c.args.from c.args.to c.requires.edge (rw c.far_at.ensures.value at first) (rw c.far_at-then-is_inside.ensures.value at last) k low high
