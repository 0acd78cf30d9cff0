use Rattle.std.proofs.Common.{◌≡◌, take}
use Rattle.params.proofs.parts.Parts.of.Given as goal

abbrev pub invariant-loop-part : goal.invariant-loop-part
invariant-loop-part l = record {
  count : l.kept.count ≡ l.part-index;
  same : take l.kept.count l.kept.parts ≡ take l.part-index l.parts;
}
