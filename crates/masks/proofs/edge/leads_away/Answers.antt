use Rattle.std.proofs.Common.{◌*◌, ◌+◌, ◌≤◌, refl}
use Rattle.std.specs.Prelude.{IsTrue}
use borrow.Author.Tests.{leb-true}
use Rattle.masks.proofs.EdgeLemmas.{outside_after}
use Rattle.masks.proofs.edge.leads_away.Goals as goal

pub returns-then-is_outside : goal.returns-then-is_outside
returns-then-is_outside c t k low =
    let e = c.args.edge in
    let out_true : IsTrue c.is_outside.result = rw c.if-is_outside.true refl in
    let out : e.rim * (65536 + e.feather) ≤ c.far_at-far.result * 65536 = c.is_outside.ensures.0 out_true in
    let order : c.far_at-far.result ≤ c.far_at.result = leb-true c.far_at-far.result c.far_at.result t in
    outside_after c.args.line e c.args.from c.requires.edge (rw c.far_at-far.ensures.value at out) (rw (c.far_at-far.ensures.value, c.far_at.ensures.value) at order) k low
