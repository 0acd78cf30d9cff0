-- boxes of a plane
use Rattle.std.proofs.Common.{◌≡◌, ℕ, ◌*◌, ◌/◌, ◌<◌, List, refl, sym, ap, ◌∙◌, arith}
use Rattle.px.specs.declared.kind.PlaneKind.TheVariants.{Rgb}
use Rattle.px.specs.Area.{Area, HasPixel, Covers, IsIn, grown}
use Rattle.px.specs.Cut.{Cut, IsCutOf, value_at}
use Rattle.px.specs.declared.kind.PlaneKind.{PlaneKind}
use Rattle.px.specs.Kind.{channels}
use Rattle.px.specs.Painted.{IsPainted}
use Rattle.px.specs.Bands.{IsShaped}
use Rattle.px.specs.Picture.{Picture, rgb_of}
use Rattle.local_modules.specs.Blurring.{window, mean_over, blurred, blurred_picture}
use Rattle.local_modules.specs.Running.{IsBlurred}
use Rattle.px.proofs.SumLemmas.{area_same}

window_covered : (r : ℕ) (outer region : Area) (w h x y : ℕ) → IsIn region w h → Covers outer (grown region r w h) → HasPixel region x y → Covers outer (window r w h x y)
window_covered r outer region w h x y inside covers here = record { left = omega arith; right = omega arith; top = omega arith; bottom = omega arith }

-- a pixel made of a cut is that of the whole picture
pub pixel_of_whole : (r : ℕ) (q : Picture) (p : Cut) (w h x y : ℕ) (region : Area) (made : List ℕ) → w ≡ p.w → h ≡ p.h → IsCutOf q p → q.kind ≡ Rgb
    → Covers p.area (grown region r p.w p.h) → IsIn region p.w p.h → HasPixel region x y → IsBlurred r w h (value_at p) x y made → made ≡ rgb_of (blurred_picture r q) x y
pixel_of_whole r q p w h x y region made wide high part rgb covers inside here is =
    let size : 3 ≡ channels q.kind = sym (ap channels rgb) in
    let box = window_covered r p.area region p.w p.h x y inside covers here in
    let same : (c : ℕ) → c < 3 → blurred r w h (value_at p) x y c ≡ blurred r q.w q.h q.at x y c = λ c below.
    let channel : c < channels q.kind = rw (← size) below in
    let sides : window r w h x y ≡ window r p.w p.h x y = rw (wide, high) refl in
    let whole : window r p.w p.h x y ≡ window r q.w q.h x y = rw (part.wide, part.high) refl in
    ap (mean_over (value_at p) c) sides
    ∙ (ap (λ n. n / ((window r p.w p.h x y).w * (window r p.w p.h x y).h)) (area_same (λ u v. value_at p u v c) (λ u v. q.at u v c) (window r p.w p.h x y)
    (λ u v within. part.same u v c (record { left = omega arith; right = omega arith; top = omega arith; bottom = omega arith }) channel))
    ∙ ap (mean_over q.at c) whole) in
    is.pixel ∙ rw (same 0 (omega arith), same 1 (omega arith), same 2 (omega arith)) refl

-- a painted plane has the shape that was asked for
pub painted_shape : (kind : PlaneKind) (w h w' h' : ℕ) (a : Area) (post : ℕ → ℕ → List ℕ → Type 0) (p : Cut) → w ≡ w' → h ≡ h' → IsPainted kind w h a post p → IsShaped kind w' h' a p
painted_shape kind w h w' h' a post p w_is h_is painted = rw (← painted.kind_is, ← w_is, ← h_is, ← painted.wide, ← painted.high, ← painted.area) refl

-- a band within a region needs no more than the region does
pub band_inside : (w h : ℕ) (region band : Area) → IsIn region w h → Covers region band → IsIn band w h
band_inside w h region band inside covers = record { across = omega arith; down = omega arith }

pub band_grown : (r w h : ℕ) (outer region band : Area) → IsIn region w h → Covers region band → Covers outer (grown region r w h) → Covers outer (grown band r w h)
band_grown r w h outer region band inside within covers = record { left = omega arith; right = omega arith; top = omega arith; bottom = omega arith }
