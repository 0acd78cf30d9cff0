-- Lemmas on pictures scaled down by a factor of 1.
use Rattle.std.proofs.Common.{◌≡◌, ℕ, ◌+◌, ◌-◌, ◌*◌, ◌<◌, min, List, slice_index, refl, sym, ap, ◌∙◌, subst, zero-add, arith}
use Rattle.std.proofs.Math.Nat.{div-one}
use Rattle.px.specs.declared.kind.PlaneKind.TheVariants.{Rgb}
use Rattle.px.specs.Area.{Area, HasPixel, IsArea, IsIn, whole_of}
use Rattle.px.specs.Cut.{Cut, IsCutOf, IsPlane, value_at}
use Rattle.px.specs.Kind.{channels}
use Rattle.px.specs.Means.{mean_in}
use Rattle.px.specs.Picture.{Picture}
use Rattle.modules_raw.specs.Levels.{blocks}
use Rattle.pipe_nodes.specs.Windows.{one_pixel, part_of, scaled, unscaled}

-- as many blocks of one pixel as there are pixels
pub blocks-one : (n : ℕ) → blocks 1 n ≡ n
blocks-one n = div-one (n + 0) ∙ (let e : n + 0 ≡ n = omega arith in e)

-- a region covers as many blocks as it has pixels
pub unscaled-one : (a : Area) (w h : ℕ) → IsIn a w h → a ≡ unscaled 1 a w h
unscaled-one a w h inside =
    let x : a.x ≡ a.x * 1 = omega arith in
    let y : a.y ≡ a.y * 1 = omega arith in
    let across : a.w ≡ min ((a.x + a.w) * 1) w - a.x * 1 = omega (arith, inside.across) in
    let down : a.h ≡ min ((a.y + a.h) * 1) h - a.y * 1 = omega (arith, inside.down) in
    λ k. record { x = x k; y = y k; w = across k; h = down k }

-- the mean of one pixel is its value
mean-of-one : (at : ℕ → ℕ → ℕ → ℕ) (c x y : ℕ) → at x y c ≡ mean_in Rgb at c (one_pixel x y)
mean-of-one at c x y =
    let column : x ≡ x + 0 = omega arith in
    let row : y ≡ y + 0 = omega arith in
    let v = at (x + 0) (y + 0) c in
    ap (λ n. at n y c) column ∙ (ap (λ n. at (x + 0) n c) row ∙ sym (div-one (0 + (0 + v)) ∙ (zero-add (0 + v) ∙ zero-add v)))

-- so a picture scaled down by a factor of 1 has the same pixels
scaled-one : (q : Picture) (c x y : ℕ) → q.kind ≡ Rgb → x < q.w → y < q.h → q.at x y c ≡ (scaled 1 q).at x y c
scaled-one q c x y rgb wide high =
    mean-of-one q.at c x y
    ∙ (ap (λ a. mean_in Rgb q.at c a) (unscaled-one (one_pixel x y) q.w q.h (record { across = omega (arith, wide); down = omega (arith, high) }))
    ∙ ap (λ k. mean_in k q.at c (unscaled 1 (one_pixel x y) q.w q.h)) (sym rgb))

-- where a pixel's values begin doesn't change when the region is a picture of its own
same-place : (part : Cut) (left top w h x y c : ℕ) → part.kind ≡ Rgb → part.area ≡ record { x = left; y = top; w = w; h = h }
    → value_at part (left + x) (top + y) c ≡ slice_index part.values (((y - 0) * w + (x - 0)) * 3 + c)
same-place part left top w h x y c rgb area =
    let column : (left + x) - left ≡ x - 0 = omega arith in
    let row : (top + y) - top ≡ y - 0 = omega arith in
    ap (λ a. slice_index part.values ((((top + y) - a.y) * a.w + ((left + x) - a.x)) * channels part.kind + c)) area
    ∙ (ap (λ k. slice_index part.values ((((top + y) - top) * w + ((left + x) - left)) * channels k + c)) rgb
    ∙ (ap (λ n. slice_index part.values ((n * w + ((left + x) - left)) * 3 + c)) row
    ∙ ap (λ n. slice_index part.values (((y - 0) * w + n) * 3 + c)) column))

pub part-unscaled : (p part : Cut) (q : Picture) (left top w h : ℕ) → p.kind ≡ Rgb → IsIn (record { x = left; y = top; w = w; h = h }) p.w p.h → part.area ≡ record { x = left; y = top; w = w; h = h }
    → IsCutOf q p → IsCutOf q part → IsCutOf (part_of (record { x = left; y = top; w = w; h = h }) (scaled 1 q)) (record { kind = Rgb; w = w; h = h; area = whole_of w h; values = part.values })
part-unscaled p part q left top w h rgb inside area of_p of_part =
    let q_rgb : q.kind ≡ Rgb = sym of_p.kind ∙ rgb in
    record {
      kind = refl;
      wide = refl;
      high = refl;
      same = λ x y c here channel.
          let held : HasPixel part.area (left + x) (top + y) = subst (λ a. HasPixel a (left + x) (top + y)) (sym area) (record { left = omega arith; right = omega (arith, here.right); top = omega arith; bottom = omega (arith, here.bottom) }) in
          sym (same-place part left top w h x y c (of_part.kind ∙ q_rgb) area)
          ∙ (of_part.same (left + x) (top + y) c held (subst (λ k. c < channels k) (sym q_rgb) channel)
          ∙ scaled-one q c (left + x) (top + y) q_rgb (omega (arith, here.right, inside.across, of_p.wide)) (omega (arith, here.bottom, inside.down, of_p.high)));
    }

-- a region's values are those of a picture of its own
pub part-is-plane : (part : Cut) (left top w h : ℕ) → part.kind ≡ Rgb → part.area ≡ record { x = left; y = top; w = w; h = h } → IsPlane part
    → IsPlane (record { kind = Rgb; w = w; h = h; area = whole_of w h; values = part.values })
part-is-plane part left top w h rgb area valid =
    let fits : IsArea (record { x = left; y = top; w = w; h = h }) = subst IsArea area valid.area in
    record {
      area = record { wide = fits.wide; high = fits.high; right = omega (arith, fits.right); bottom = omega (arith, fits.bottom) };
      inside = record { across = omega arith; down = omega arith };
      wide = omega (arith, fits.right);
      high = omega (arith, fits.bottom);
      wide_enough = fits.wide;
      high_enough = fits.high;
      len = valid.len ∙ (ap (λ a. (a.h * a.w) * channels part.kind) area ∙ ap (λ k. (h * w) * channels k) rgb);
      top = valid.top;
    }

-- the same plane, told by its parts
pub as-own : (part : Cut) (w h : ℕ) (a : Area) (values : List ℕ) → a ≡ whole_of w h → values ≡ part.values
    → ◌≡◌ {A = Cut} (record { kind = Rgb; w = w; h = h; area = whole_of w h; values = part.values }) (record { kind = Rgb; w = w; h = h; area = a; values = values })
as-own part w h a values area same = sym (λ k. record { kind = Rgb; w = w; h = h; area = area k; values = same k })
