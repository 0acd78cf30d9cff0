use Rattle.std.proofs.Common.{slice_index}
use Rattle.blend.specs.Rows.{AreParts}
use Rattle.blend.proofs.laying.parts_of.Given as goal

abbrev pub invariant-loop-k : goal.invariant-loop-k
invariant-loop-k l = AreParts l.opacity (slice_index l.cover) l.k l.parts
