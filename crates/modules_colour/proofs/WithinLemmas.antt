-- tone curves within their ranges
use Rattle.std.proofs.Common.{List, [], ◌∷◌, ◌++◌}
use Rattle.std.specs.List.{AllByRecursion}
use Rattle.params.specs.Curve.{IsCurve}
use Rattle.params.specs.Ranges.{IsWithin}
use Rattle.params.specs.Rules.{IsKept}
use Rattle.params.specs.Seen.{wide_nodes}
use Rattle.params.specs.Stated.{curve_entries}
use Rattle.params.specs.declared.fault.Field.TheVariants.{Red, Green, Blue}
use Rattle.params.specs.declared.settings.Params.TheVariants.{ToneCurve as curve_params}
use Rattle.params.specs.declared.settings.ToneCurve.{ToneCurve}
use Rattle.params.proofs.CurveLemmas.{curve_is}

front_kept : {A : Type 0} (P : A → Type 0) (xs ys : List A) → AllByRecursion P (xs ++ ys) → AllByRecursion P xs
front_kept P [] ys h = tt
front_kept P (x ∷ xs) ys h = (h.0, front_kept P xs ys h.1)

back_kept : {A : Type 0} (P : A → Type 0) (xs ys : List A) → AllByRecursion P (xs ++ ys) → AllByRecursion P ys
back_kept P [] ys h = h
back_kept P (x ∷ xs) ys h = back_kept P xs ys h.1

-- the curve of each channel
pub record AreCurves (t : ToneCurve) : Type 0 where
  pub red : IsCurve t.red
  pub green : IsCurve t.green
  pub blue : IsCurve t.blue

pub curves_within : (t : ToneCurve) → IsWithin (curve_params t) → AreCurves t
curves_within t within =
    let red = curve_entries Red (wide_nodes t.red) in
    let green = curve_entries Green (wide_nodes t.green) in
    let blue = curve_entries Blue (wide_nodes t.blue) in
    let later = back_kept IsKept red (green ++ (blue ++ [])) within.kept in
    record {
      red = curve_is Red t.red (front_kept IsKept red (green ++ (blue ++ [])) within.kept);
      green = curve_is Green t.green (front_kept IsKept green (blue ++ []) later);
      blue = curve_is Blue t.blue (front_kept IsKept blue [] (back_kept IsKept green (blue ++ []) later));
    }
