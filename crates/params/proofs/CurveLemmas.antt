-- What the ranges of a tone curve say of its nodes.
use Rattle.std.proofs.Common.{◌≡◌, ℕ, zero, suc, ◌+◌, ℤ, pos, negsuc, ◌<ℤ◌, List, [], ◌∷◌, map, arith}
use Rattle.std.specs.List.{AllByRecursion}
use Rattle.std.specs.List.Sorted.{IsStrictlyIncreasing}
use Rattle.std.proofs.lemmas.Int.{ints}
use Rattle.std.proofs.lemmas.List.{length-map}
use Rattle.params.specs.Rules.{IsKept}
use Rattle.params.specs.Seen.{wide_node, wide_nodes}
use Rattle.params.specs.Stated.{nodes_entries, curve_entries}
use Rattle.params.specs.Curve.{IsCurve, IsValue}
use Rattle.params.specs.declared.fault.Field.{Field}

values : (field : Field) (at : ℕ) (before : ℤ) (nodes : List (ℕ × ℕ)) → AllByRecursion IsKept (nodes_entries field at before (wide_nodes nodes)) → AllByRecursion IsValue nodes
values field at before [] h = tt
values field at before (node ∷ nodes) h =
    (record { input = omega (arith, ints, h.0.1); output = omega (arith, ints, h.1.0.1) }, values field (at + 1) (pos node.0) nodes h.1.1.1)

rises : (field : Field) (at : ℕ) (before : ℤ) (nodes : List (ℕ × ℕ)) → AllByRecursion IsKept (nodes_entries field at before (wide_nodes nodes)) → IsStrictlyIncreasing (map (λ n. n.0) nodes)
rises field at before [] h k small = absurd (omega arith)
rises field at before (a ∷ []) h k small = absurd (omega arith)
rises field at before (a ∷ b ∷ nodes) h zero small = let above : pos a.0 <ℤ pos b.0 = h.1.1.1.1.1.0 in omega (arith, ints)
rises field at before (a ∷ b ∷ nodes) h (suc k) small =
    let next : suc k + 1 ≡ suc (k + 1) = omega arith in
    rw next (rises field (at + 1) (pos a.0) (b ∷ nodes) h.1.1.1 k (omega arith))

-- nodes whose entries are kept, whichever field they stand under, are 2 to 20, have values up to TOP, and inputs that rise
pub curve_is : (field : Field) (nodes : List (ℕ × ℕ)) → AllByRecursion IsKept (curve_entries field (wide_nodes nodes)) → IsCurve nodes
curve_is field nodes h = record {
  least = omega (arith, ints, h.0.0, length-map nodes wide_node);
  most = omega (arith, ints, h.0.1, length-map nodes wide_node);
  values = values field 0 (negsuc 0) nodes h.1;
  rises = rises field 0 (negsuc 0) nodes h.1;
}
