use Rattle.std.proofs.Common.{ℕ, ◌≤◌, List, length, ap, ◌∙◌, sym, subst, arith}
use Rattle.std.specs.Prelude.{slice_index}
use Rattle.px.specs.Area.{Area}
use Rattle.px.specs.Cut.{IsPlane}
use Rattle.px.specs.declared.kind.Cfa.TheVariants.{Rggb}
use Rattle.px.specs.declared.kind.PlaneKind.TheVariants.{Mosaic}
use Rattle.generator.proofs.DrawLemmas.{samples_count, samples_low}
use Rattle.generator.proofs.picture.picture.Goals as goal

pub from_rows-plane-requires : goal.from_rows-plane-requires
from_rows-plane-requires c =
    let values = c.in_ok-values.values.items in
    let n = c.args.draws.now.number in
    let e = c.in_ok-values.ensures.samples in
    subst (λ (a : Area). IsPlane (record { kind = Mosaic Rggb; w = 1024; h = 768; area = a; values = values })) (sym c.whole.ensures) (record {
      area = record { wide = omega arith; high = omega arith; right = omega arith; bottom = omega arith };
      inside = record { across = omega arith; down = omega arith };
      wide = omega arith;
      high = omega arith;
      wide_enough = omega arith;
      high_enough = omega arith;
      len = ap length e ∙ samples_count n 786432;
      top = λ i. subst (λ (xs : List ℕ). slice_index xs i ≤ 1048575) (sym e) (samples_low n 786432 i);
    })
