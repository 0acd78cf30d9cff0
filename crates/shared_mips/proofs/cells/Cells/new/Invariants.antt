use Rattle.std.proofs.Common.{◌≡◌, ◌≤◌, vec_len}
use Rattle.std.specs.Vec.{vec_capacity}
use Rattle.std.specs.Arc.{arc_value}
use Rattle.shared_mips.specs.Cells.{IsRow}
use Rattle.shared_mips.proofs.cells.Cells.new.Given as goal

abbrev pub invariant-loop-k : goal.invariant-loop-k
invariant-loop-k l = IsRow (arc_value l.source) l.cells.items l.k × (8 ≤ vec_capacity l.cells) × (vec_len l.cells ≡ l.k)
