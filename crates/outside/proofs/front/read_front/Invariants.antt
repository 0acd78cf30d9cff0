use Rattle.std.proofs.Common.{◌≡◌, ◌<◌, ◌≤◌, IfSome, vec_len, ◌-◌}
use Rattle.outside.specs.Faults.{NoneFalls}
use Rattle.outside.specs.Shelf.{held}
use Rattle.outside.specs.Front.{IsFront}
use Rattle.outside.proofs.front.read_front.Given as goal

abbrev pub invariant-loop-front : goal.invariant-loop-front
invariant-loop-front g l = record {
  wanted : 0 < l.wanted;
  fits : vec_len l.front ≤ l.limit;
  unchanged : g.S.Shelf.files l.shelf ≡ g.S.Shelf.files l.fn.shelf;
  front : IfSome (g.S.Shelf.files l.fn.shelf) (λ fs. IsFront (held fs l.name) l.front.items);
  quiet : g.S.Shelf.read_faults l.shelf l.name ≡ g.S.Shelf.read_faults l.fn.shelf l.name;
  reads : NoneFalls (g.S.Shelf.read_faults l.fn.shelf) (g.S.Shelf.read_faults l.shelf);
  puts : NoneFalls (g.S.Shelf.put_faults l.fn.shelf) (g.S.Shelf.put_faults l.shelf);
}

abbrev pub decreases-loop-front : goal.decreases-loop-front
decreases-loop-front g l = l.limit - vec_len l.front
