-- Lemmas on single modules at work.
use Rattle.std.proofs.Common.{◌≡◌, ℕ, ◌+◌, ◌/◌, ◌%◌, ◌^◌, ◌≤◌, ◌↔◌, min, refl, sym, ap, ◌∙◌, subst, arith, Option, Some, None, Ok}
use Rattle.std.specs.Prelude.{⊤, Result, IsOk, IfSome, IfNone}
use Rattle.params.specs.declared.fault.ParamFault.{ParamFault}
use Rattle.params.specs.declared.settings.Params.{Params}
use Rattle.params.specs.declared.settings.Params.TheVariants as params
use Rattle.params.specs.Ranges.{check_of, IsWithin}
use Rattle.px.specs.declared.kind.PlaneKind.TheVariants.{Rgb}
use Rattle.px.specs.Area.{Area, Covers, IsIn, grown}
use Rattle.px.specs.Cut.{Cut, IsCutOf}
use Rattle.px.specs.Picture.{Picture}
use Rattle.modules_raw.specs.Demosaic.{demosaiced_picture}
use Rattle.local_modules.specs.Radius.{radius_of}
use Rattle.local_modules.proofs.RadiusLemmas.{ceil_is, most_is, two_some}
use Rattle.pipe_nodes.specs.Applied.{CanApply, IsApplied}
use Rattle.pipe_nodes.specs.Whole.{means}
use Rattle.pipe_nodes.proofs.MeansLemmas.{demosaiced-rgb}

-- settings without a fault are within their ranges
pub within_of : (p : Params) (r : Result ⊤ ParamFault) → check_of p ≡ Ok tt → r ≡ check_of p → (IsOk r ↔ IsWithin p) → IsWithin p
within_of p r fit is tells = tells.0 (subst IsOk (sym (is ∙ fit)) refl)

-- a plane was made by the kernel of a module
pub applied : (p q : Params) (level : ℕ) (input : Cut) (region : Area) (o : Cut) → p ≡ q → o.area ≡ region → ((i : Picture) → IsCutOf i input → IsCutOf (means q level i) o) → IsApplied p level input region (Some o)
applied p q level input region o e area cut = record { area = area; cut = λ i part. subst (λ s. IsCutOf (means s level i) o) (sym e) (cut i part); covers = tt; same = tt }

-- what covers a rectangle grown by more covers it grown by less
pub covers-less : (a region : Area) (less more w h : ℕ) → less ≤ more → Covers a (grown region more w h) → IsIn region w h → Covers a (grown region less w h)
covers-less a region less more w h le covers inside =
    record { left = omega (arith, covers.left); right = omega (arith, covers.right, covers.left); top = omega (arith, covers.top); bottom = omega (arith, covers.bottom, covers.top) }

-- and the rectangle itself
pub covers-itself : (a region : Area) (by w h : ℕ) → Covers a (grown region by w h) → IsIn region w h → Covers a region
covers-itself a region by w h covers inside =
    record { left = omega (arith, covers.left); right = omega (arith, covers.right, inside.across); top = omega (arith, covers.top); bottom = omega (arith, covers.bottom, inside.down) }

-- a radius at a level is no greater than the radius
pub radius-less : (radius level : ℕ) → level ≤ 8 → radius_of radius level ≤ radius
radius-less radius level low =
    let some = two_some level low in
    subst (λ r. r ≤ radius) (ceil_is radius (2 ^ level) some) (most_is radius (2 ^ level) (radius / 2 ^ level + min 1 (radius % 2 ^ level)) some refl)

-- demosaic made a plane, or left an RGB picture as it is
pub applied-demosaic : (p : Params) (level : ℕ) (input : Cut) (region : Area) (made : Option Cut) → p ≡ params.Demosaic → CanApply p input region
    → IfSome made (λ o. o.area ≡ region) → IfSome made (λ o. (i : Picture) → IsCutOf i input → IsCutOf (demosaiced_picture i) o) → IfNone made (input.kind ≡ Rgb)
    → IsApplied p level input region made
applied-demosaic p level input region None e can area cut rgb = record {
  area = tt;
  cut = tt;
  covers =
      let at = subst (λ q. CanApply q input region) e can in
      covers-itself input.area region 1 input.w input.h at.covers at.inside;
  same = λ i part. ap (λ q. means q level i) e ∙ demosaiced-rgb i (sym part.kind ∙ rgb);
}
applied-demosaic p level input region (Some o) e can area cut rgb = applied p params.Demosaic level input region o e area cut
