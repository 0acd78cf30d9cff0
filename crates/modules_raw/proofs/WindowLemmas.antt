-- windows of a plane
use Rattle.std.proofs.Common.{◌≡◌, ℕ, ◌+◌, ◌-◌, ◌<◌, ◌≤◌, ◌==◌, if◌then◌else◌, List, [], ◌∷◌, slice_index, refl, sym, ap, ◌∙◌, subst, arith}
use Rattle.px.specs.declared.kind.Cfa.{Cfa}
use Rattle.px.specs.declared.kind.PlaneKind.TheVariants.{Mosaic}
use Rattle.px.specs.Area.{Area, HasPixel, Covers, IsIn, grown}
use Rattle.px.specs.Cut.{Cut, IsCutOf, value_at}
use Rattle.px.specs.Kind.{channels}
use Rattle.px.specs.Picture.{Picture, rgb_of}
use Rattle.px.specs.Means.{mean_in}
use Rattle.px.specs.Mosaic.{channel_at}
use Rattle.px.proofs.SumLemmas.{alternate_even, mean_same}
use Rattle.modules_raw.specs.Demosaic.{window, demosaiced, demosaiced_by}
use Rattle.modules_raw.specs.Rowwise.{inner, IsRowOf, IsPixel}
use Rattle.modules_raw.proofs.NineLemmas.{inner_is}

-- a value of a row is that of the plane
cell : (p : Cut) (lo y m : ℕ) (row : List ℕ) (j u v : ℕ) → IsRowOf p lo y m row → j < m → lo + j ≡ u → y ≡ v → slice_index row j ≡ value_at p u v 0
cell p lo y m row j u v is below column line = is.same j below ∙ (ap (λ n. value_at p n y 0) column ∙ ap (λ n. value_at p u n 0) line)

pub inner_here : (p : Cut) (cfa : Cfa) (w h lo y i m X Y own side : ℕ) (above here below : List ℕ)
    → IsRowOf p lo (y - 1) m above → IsRowOf p lo y m here → IsRowOf p lo (y + 1) m below
    → lo + i ≡ X + 1 → y ≡ Y + 1 → 0 < i → i + 1 < m → lo + m ≤ w → y + 1 < h
    → own ≡ channel_at cfa (lo + i) y → side ≡ channel_at cfa (lo + i + 1) y
    → inner own side (slice_index here i) (slice_index here (i - 1) + slice_index here (i + 1)) (slice_index above i + slice_index below i)
    (slice_index above (i - 1) + slice_index above (i + 1) + (slice_index below (i - 1) + slice_index below (i + 1)))
    ≡ demosaiced cfa w h (value_at p) (X + 1) (Y + 1) 0 ∷ demosaiced cfa w h (value_at p) (X + 1) (Y + 1) 1 ∷ demosaiced cfa w h (value_at p) (X + 1) (Y + 1) 2 ∷ []
inner_here p cfa w h lo y i m X Y own side above here below a b d column line some within right low o s =
    let own_is : own ≡ channel_at cfa (X + 1) (Y + 1) = o ∙ (ap (λ n. channel_at cfa n y) column ∙ ap (λ n. channel_at cfa (X + 1) n) line) in
    let next : lo + i + 1 ≡ X + 2 = omega arith in
    let side_is : side ≡ channel_at cfa X (Y + 1) = s ∙ (ap (λ n. channel_at cfa n y) next ∙ (ap (λ n. channel_at cfa (X + 2) n) line ∙ alternate_even cfa X (Y + 1) 2 refl)) in
    let v = cell p lo y m here i (X + 1) (Y + 1) b (omega arith) (omega arith) line in
    let b1 = cell p lo y m here (i - 1) X (Y + 1) b (omega arith) (omega arith) line in
    let b2 = cell p lo y m here (i + 1) (X + 2) (Y + 1) b (omega arith) (omega arith) line in
    let a0 = cell p lo (y - 1) m above i (X + 1) Y a (omega arith) (omega arith) (omega arith) in
    let a1 = cell p lo (y - 1) m above (i - 1) X Y a (omega arith) (omega arith) (omega arith) in
    let a2 = cell p lo (y - 1) m above (i + 1) (X + 2) Y a (omega arith) (omega arith) (omega arith) in
    let d0 = cell p lo (y + 1) m below i (X + 1) (Y + 2) d (omega arith) (omega arith) (omega arith) in
    let d1 = cell p lo (y + 1) m below (i - 1) X (Y + 2) d (omega arith) (omega arith) (omega arith) in
    let d2 = cell p lo (y + 1) m below (i + 1) (X + 2) (Y + 2) d (omega arith) (omega arith) (omega arith) in
    rw (own_is, side_is, v, b1, b2, a0, a1, a2, d0, d1, d2) (inner_is cfa w h (value_at p) X Y (omega arith) (omega arith))

-- a pixel is made of its window alone
pub demosaiced_same : (cfa : Cfa) (w h : ℕ) (at at' : ℕ → ℕ → ℕ → ℕ) (x y c : ℕ) → x < w → y < h → c < 3
    → ((u v : ℕ) → HasPixel (window w h x y) u v → at u v 0 ≡ at' u v 0)
    → demosaiced cfa w h at x y c ≡ demosaiced cfa w h at' x y c
demosaiced_same cfa w h at at' x y c right below few same =
    let own = same x y (record { left = omega arith; right = omega arith; top = omega arith; bottom = omega arith }) in
    let mean = mean_same (Mosaic cfa) at at' c (window w h x y) few
    (λ u v d inside one. let d0 : d ≡ 0 = omega arith in rw d0 (same u v inside)) in
    ap (λ n. if channel_at cfa x y == c then n else mean_in (Mosaic cfa) at c (window w h x y)) own
    ∙ ap (λ n. if channel_at cfa x y == c then at' x y 0 else n) mean

pub moved : (p : Cut) (cfa : Cfa) (w h x y x' y' : ℕ) (r : List ℕ) → x ≡ x' → y ≡ y'
    → r ≡ demosaiced cfa w h (value_at p) x y 0 ∷ demosaiced cfa w h (value_at p) x y 1 ∷ demosaiced cfa w h (value_at p) x y 2 ∷ []
    → r ≡ demosaiced cfa w h (value_at p) x' y' 0 ∷ demosaiced cfa w h (value_at p) x' y' 1 ∷ demosaiced cfa w h (value_at p) x' y' 2 ∷ []
moved p cfa w h x y x' y' r column line e =
    subst (λ n. r ≡ demosaiced cfa w h (value_at p) n y' 0 ∷ demosaiced cfa w h (value_at p) n y' 1 ∷ demosaiced cfa w h (value_at p) n y' 2 ∷ []) column
    (subst (λ n. r ≡ demosaiced cfa w h (value_at p) x n 0 ∷ demosaiced cfa w h (value_at p) x n 1 ∷ demosaiced cfa w h (value_at p) x n 2 ∷ []) line e)

pub window_covered : (outer region : Area) (w h x y : ℕ) → IsIn region w h → Covers outer (grown region 1 w h) → HasPixel region x y → Covers outer (window w h x y)
window_covered outer region w h x y inside covers here = record { left = omega arith; right = omega arith; top = omega arith; bottom = omega arith }

-- a pixel made of a cut is that of the whole picture
pub pixel_of_whole : (cfa : Cfa) (q : Picture) (p : Cut) (w h x y : ℕ) (r : List ℕ) → w ≡ q.w → h ≡ q.h → IsCutOf q p → p.kind ≡ Mosaic cfa
    → x < w → y < h → Covers p.area (window w h x y) → IsPixel cfa w h (value_at p) x y r → r ≡ rgb_of (demosaiced_by (Mosaic cfa) q) x y
pixel_of_whole cfa q p w h x y r wide high part mosaic right below covers is =
    let size : 1 ≡ channels q.kind = sym (ap channels (sym part.kind ∙ mosaic)) in
    let first : 0 < channels q.kind = rw (← size) (omega arith) in
    let same : (c : ℕ) → c < 3 → demosaiced cfa w h (value_at p) x y c ≡ demosaiced cfa w h q.at x y c =
    λ c few. demosaiced_same cfa w h (value_at p) q.at x y c right below few (λ u v inside.
    part.same u v 0 (record { left = omega arith; right = omega arith; top = omega arith; bottom = omega arith }) first) in
    let made : r ≡ demosaiced cfa w h q.at x y 0 ∷ demosaiced cfa w h q.at x y 1 ∷ demosaiced cfa w h q.at x y 2 ∷ [] = is.pixel ∙ rw (same 0 (omega arith), same 1 (omega arith), same 2 (omega arith)) refl in
    subst (λ n. r ≡ demosaiced cfa n q.h q.at x y 0 ∷ demosaiced cfa n q.h q.at x y 1 ∷ demosaiced cfa n q.h q.at x y 2 ∷ []) wide
    (subst (λ n. r ≡ demosaiced cfa w n q.at x y 0 ∷ demosaiced cfa w n q.at x y 1 ∷ demosaiced cfa w n q.at x y 2 ∷ []) high made)
