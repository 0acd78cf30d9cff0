-- the values of single pixels
use Rattle.std.proofs.Common.{◌≡◌, ℕ, zero, suc, ◌+◌, ◌-◌, ◌*◌, ◌<◌, ◌≤◌, List, slice_index, refl, sym, ap, ◌∙◌, subst, arith}
use Rattle.px.specs.declared.kind.PlaneKind.{PlaneKind}
use Rattle.px.specs.declared.kind.PlaneKind.TheVariants.{Mosaic, Rgb}
use Rattle.px.specs.Area.{HasPixel}
use Rattle.px.specs.Copied.{IsCopied}
use Rattle.px.specs.Cut.{Cut, IsCutOf, place, value_at}
use Rattle.px.specs.Kind.{channels}
use Rattle.px.specs.Painted.{IsRow}
use Rattle.px.specs.Picture.{Picture, pixel_by, pixel_of}
use Rattle.px.proofs.PaintedLemmas.{channel_of_pixel}
use Rattle.px.proofs.RowLemmas.{value_fits}

pub pixel_by_same : (kind : PlaneKind) (f g : ℕ → ℕ) → ((c : ℕ) → c < channels kind → f c ≡ g c) → pixel_by kind f ≡ pixel_by kind g
pixel_by_same (Mosaic cfa) f g same = rw (same 0 (omega arith)) refl
pixel_by_same Rgb f g same = rw (same 0 (omega arith), same 1 (omega arith), same 2 (omega arith)) refl

pub pixel_top : (kind : PlaneKind) (f : ℕ → ℕ) → ((c : ℕ) → c < channels kind → f c ≤ 1048575) → (i : ℕ) → slice_index (pixel_by kind f) i ≤ 1048575
pixel_top (Mosaic cfa) f top zero = top 0 (omega arith)
pixel_top (Mosaic cfa) f top (suc i) = omega arith
pixel_top Rgb f top zero = top 0 (omega arith)
pixel_top Rgb f top (suc zero) = top 1 (omega arith)
pixel_top Rgb f top (suc (suc zero)) = top 2 (omega arith)
pixel_top Rgb f top (suc (suc (suc i))) = omega arith

-- the pixel of a plane is that of each picture that it is a cut of
pub pixel_of_cut : (p : Cut) (q : Picture) (x y : ℕ) → IsCutOf q p → HasPixel p.area x y → pixel_by p.kind (value_at p x y) ≡ pixel_of q x y
pixel_of_cut p q x y part inside =
    subst (λ k. pixel_by k (value_at p x y) ≡ pixel_by q.kind (q.at x y)) (sym part.kind)
    (pixel_by_same q.kind (value_at p x y) (q.at x y) (λ c below. part.same x y c inside below))

-- a value k pixels further on in a row
pub value_in_row : (p : Cut) (x y k c : ℕ) → p.area.x ≤ x → slice_index p.values (place p x y + (k * channels p.kind + c)) ≡ value_at p (x + k) y c
value_in_row p x y k c left =
    let column : x + k - p.area.x ≡ (x - p.area.x) + k = omega arith in
    let e : ((y - p.area.y) * p.area.w + (x - p.area.x)) * channels p.kind + (k * channels p.kind + c) ≡ ((y - p.area.y) * p.area.w + ((x - p.area.x) + k)) * channels p.kind + c = omega arith in
    ap (slice_index p.values) (e ∙ ap (λ n. ((y - p.area.y) * p.area.w + n) * channels p.kind + c) (sym column))

-- n values from the plane's own row
pub record IsOwnRow (p : Cut) (x y n : ℕ) (row : List ℕ) : Type 0 where
  pub values : (i : ℕ) → i < n * channels p.kind → slice_index row i ≡ slice_index p.values (place p x y + i)
  pub top : (i : ℕ) → slice_index row i ≤ 1048575

pub own_value : (p : Cut) (x y n k c : ℕ) (row : List ℕ) → IsOwnRow p x y n row → p.area.x ≤ x → k < n → c < channels p.kind → slice_index row (k * channels p.kind + c) ≡ value_at p (x + k) y c
own_value p x y n k c row own left below few = own.values (k * channels p.kind + c) (value_fits k n (channels p.kind) c below few) ∙ value_in_row p x y k c left

pub own_top : (p : Cut) (x y n k c : ℕ) (row : List ℕ) → IsOwnRow p x y n row → p.area.x ≤ x → k < n → c < channels p.kind → value_at p (x + k) y c ≤ 1048575
own_top p x y n k c row own left below few = rw (← own_value p x y n k c row own left below few) (own.top (k * channels p.kind + c))

pub copied_row : (p : Cut) (x y n : ℕ) (row : List ℕ) → IsOwnRow p x y n row → p.area.x ≤ x → IsRow (IsCopied p) x y (channels p.kind) n row
copied_row p x y n row own left = record {
  pixels = λ k below. record {
    answer = pixel_by p.kind (value_at p (x + k) y);
    given = record { pixel = refl; top = pixel_top p.kind (value_at p (x + k) y) (λ c few. own_top p x y n k c row own left below few) };
    same = λ c few. channel_of_pixel p.kind (value_at p (x + k) y) c few ∙ sym (own_value p x y n k c row own left below few);
  };
  top = own.top;
}
