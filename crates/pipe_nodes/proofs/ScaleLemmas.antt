-- Lemmas on pictures scaled down.
use Rattle.std.proofs.Common.{◌≡◌, ℕ, zero, suc, ◌+◌, ◌-◌, ◌*◌, ◌/◌, ◌<◌, ◌≤◌, min, List, [], ◌∷◌, slice_index, refl, sym, ap, ◌∙◌, subst, arith}
use Rattle.std.proofs.Math.Nat.{mul-le-mul_right}
use Rattle.std.proofs.lemmas.Nat.{div-add-mod', div_below, mod_below}
use Rattle.px.specs.declared.kind.PlaneKind.{PlaneKind}
use Rattle.px.specs.declared.kind.PlaneKind.TheVariants.{Rgb}
use Rattle.px.specs.declared.view.BoxSize.{BoxSize}
use Rattle.px.specs.Area.{Area, Covers, HasPixel, IsIn, whole_of}
use Rattle.px.specs.Cut.{Cut, IsCutOf, IsWhole, value_at}
use Rattle.px.specs.Means.{part, sum_in, count_in, mean_in}
use Rattle.px.specs.Painted.{AsksIn, IsPainted}
use Rattle.px.specs.Picture.{Picture, rgb_of}
use Rattle.px.specs.Sums.{total}
use Rattle.px.proofs.PaintedLemmas.{cut_of_rgb}
use Rattle.px.proofs.SumLemmas.{mean_same, total_ones, total_same}
use Rattle.modules_raw.specs.Levels.{blocks}
use Rattle.pipe_nodes.specs.Windows.{CanScale, IsLeastFit, IsScaled, fit_factor, one_pixel, part_of, scaled, unscaled}
use Rattle.modules_raw.proofs.BlockLemmas.{block_below}

-- ---- counts of blocks

pub blocks_within : (f n b : ℕ) → 0 < f → n ≤ b * f → blocks f n ≤ b
blocks_within f n b some reaches =
    let below : blocks f n < b + 1 = div_below (n + (f - 1)) f (b + 1) some (omega (arith, reaches)) in
    omega arith

pub within_blocks : (f n b : ℕ) → 0 < f → blocks f n ≤ b → n ≤ b * f
within_blocks f n b some few =
    let whole = div-add-mod' (n + (f - 1)) f in
    let rest = mod_below (n + (f - 1)) f some in
    let more : blocks f n * f ≤ b * f = mul-le-mul_right f few in
    omega (arith, whole, rest, more)

-- as many blocks of b as it takes are the least factor by which a side has at most b blocks
fits-side : (n b f : ℕ) → 0 < b → 0 < f → blocks b n ≤ f → blocks f n ≤ b
fits-side n b f some_b some_f enough =
    let reaches = within_blocks b n f some_b enough in
    blocks_within f n b some_f (omega (arith, reaches))

least-side : (n b g : ℕ) → 0 < b → 0 < g → blocks g n ≤ b → blocks b n ≤ g
least-side n b g some_b some_g few = fits-side n g b some_g some_b few

pub least-fit : (w h : ℕ) (b : BoxSize) (f : ℕ) → 0 < b.w → 0 < b.h → 0 < f → f ≡ fit_factor w h b → IsLeastFit w h b f
least-fit w h b f wide high some is = record {
  some = some;
  fits = record { wide = fits-side w b.w f wide some (omega (arith, is)); high = fits-side h b.h f high some (omega (arith, is)) };
  least = λ g some_g below fits.
      let columns = least-side w b.w g wide some_g fits.wide in
      let rows = least-side h b.h g high some_g fits.high in
      omega (arith, is, columns, rows, below);
}

-- ---- blocks

-- a block, from its place and length on both axes
pub block-is : (f w h i j u n v m : ℕ) → u ≡ i * f → n ≡ min ((i + 1) * f) w - i * f → v ≡ j * f → m ≡ min ((j + 1) * f) h - j * f
    → ◌≡◌ {A = Area} (record { x = u; y = v; w = n; h = m }) (unscaled f (one_pixel i j) w h)
block-is f w h i j u n v m a b c d = λ k. record { x = a k; y = c k; w = b k; h = d k }

-- the block of a pixel lies among the blocks of a region that has the pixel
pub block-covered : (a : Area) (f w h i j : ℕ) (held : Area) → 0 < f → HasPixel a i j → i < blocks f w → j < blocks f h → Covers held (unscaled f a w h) → Covers held (unscaled f (one_pixel i j) w h)
block-covered a f w h i j held some inside column row covers =
    let left : a.x * f ≤ i * f = mul-le-mul_right f inside.left in
    let top : a.y * f ≤ j * f = mul-le-mul_right f inside.top in
    let right : (i + 1) * f ≤ (a.x + a.w) * f = mul-le-mul_right f (omega arith) in
    let bottom : (j + 1) * f ≤ (a.y + a.h) * f = mul-le-mul_right f (omega arith) in
    let in_w = block_below f w i some column in
    let in_h = block_below f h j some row in
    record {
      left = omega (arith, covers.left, left);
      right = omega (arith, covers.right, right, left, in_w);
      top = omega (arith, covers.top, top);
      bottom = omega (arith, covers.bottom, bottom, top, in_h);
    }

-- ---- means

total-const : (c a n : ℕ) → total (λ i. c) a n ≡ n * c
total-const c a zero = omega arith
total-const c a (suc n) = let before = total-const c a n in omega (arith, before)

-- all pixels of an RGB rectangle count
pub block-count : (kind : PlaneKind) (c : ℕ) (a : Area) → kind ≡ Rgb → a.h * a.w ≡ count_in kind c a
block-count kind c a rgb =
    let rows : count_in Rgb c a ≡ total (λ x. a.h) a.x a.w = total_same (λ x. total (λ y. 1) a.y a.h) (λ x. a.h) a.x a.w (λ x left right. total_ones a.y a.h) in
    let all = rows ∙ total-const a.h a.x a.w in
    subst (λ k. a.h * a.w ≡ count_in k c a) (sym rgb) (omega (arith, all))

pub mean-is : (kind : PlaneKind) (at : ℕ → ℕ → ℕ → ℕ) (c : ℕ) (a : Area) (sum count : ℕ) → kind ≡ Rgb → sum ≡ sum_in kind at c a → count ≡ a.h * a.w → sum / count ≡ mean_in kind at c a
mean-is kind at c a sum count rgb sum_is count_is = ap (λ s. s / count) sum_is ∙ ap (λ n. sum_in kind at c a / n) (count_is ∙ block-count kind c a rgb)

pub mean-small : (sum count : ℕ) → 0 < count → sum ≤ count * 1048575 → sum / count ≤ 1048575
mean-small sum count some small =
    let below : sum / count < 1048576 = div_below sum count 1048576 some (omega (arith, small)) in
    omega arith

-- a block isn't empty
pub block-some : (h w : ℕ) → 0 < h → 0 < w → 0 < h * w
block-some h w high wide =
    let more : 1 * w ≤ h * w = mul-le-mul_right w high in
    omega (arith, more)

pub three-same : (a b c a' b' c' : ℕ) → a ≡ a' → b ≡ b' → c ≡ c' → a ∷ b ∷ c ∷ [] ≡ a' ∷ b' ∷ c' ∷ []
three-same a b c a' b' c' d e f = rw (d, e, f) refl

pub three-top : (a b c : ℕ) → a ≤ 1048575 → b ≤ 1048575 → c ≤ 1048575 → (i : ℕ) → slice_index (a ∷ b ∷ c ∷ []) i ≤ 1048575
three-top a b c x y z zero = x
three-top a b c x y z (suc zero) = y
three-top a b c x y z (suc (suc zero)) = z
three-top a b c x y z (suc (suc (suc i))) = omega arith

-- the mean of a rectangle that the plane covers is that of each picture that it is a cut of
mean-of-cut : (p : Cut) (q : Picture) (f i j c : ℕ) → IsCutOf q p → Covers p.area (unscaled f (one_pixel i j) p.w p.h) → c < 3
    → mean_in p.kind (value_at p) c (unscaled f (one_pixel i j) p.w p.h) ≡ mean_in q.kind q.at c (unscaled f (one_pixel i j) q.w q.h)
mean-of-cut p q f i j c part covers few =
    let block = unscaled f (one_pixel i j) p.w p.h in
    mean_same p.kind (value_at p) q.at c block few
    (λ u v d (here : HasPixel block u v) below. part.same u v d (record { left = omega (arith, covers.left, here.left); right = omega (arith, covers.right, here.right); top = omega (arith, covers.top, here.top); bottom = omega (arith, covers.bottom, here.bottom) })
    (rw (← part.kind) below))
    ∙ (ap (λ k. mean_in k q.at c block) part.kind
    ∙ (ap (λ n. mean_in q.kind q.at c (unscaled f (one_pixel i j) n p.h)) part.wide
    ∙ ap (λ n. mean_in q.kind q.at c (unscaled f (one_pixel i j) q.w n)) part.high))

-- a pixel made of a plane is that of the picture scaled down
pub scaled-of-cut : (p : Cut) (q : Picture) (f left top w h x y : ℕ) (r : List ℕ) → IsCutOf q p → CanScale p f left top x y → IsScaled p f left top x y r
    → r ≡ rgb_of (part_of (record { x = left; y = top; w = w; h = h }) (scaled f q)) x y
scaled-of-cut p q f left top w h x y r part can is =
    is.pixel ∙ three-same _ _ _ _ _ _ (mean-of-cut p q f (left + x) (top + y) 0 part can.covers (omega arith)) (mean-of-cut p q f (left + x) (top + y) 1 part can.covers (omega arith)) (mean-of-cut p q f (left + x) (top + y) 2 part can.covers (omega arith))

-- ---- parts

pub asks-scaled : (p : Cut) (f left top w h : ℕ) (region : Area) → p.kind ≡ Rgb → 1 ≤ f → f ≤ 16384 → region ≡ whole_of w h
    → IsIn (record { x = left; y = top; w = w; h = h }) (blocks f p.w) (blocks f p.h)
    → Covers p.area (unscaled f (record { x = left; y = top; w = w; h = h }) p.w p.h)
    → AsksIn region (CanScale p f left top)
asks-scaled p f left top w h region rgb some small region_is inside covers x y pixel =
    let here : HasPixel (whole_of w h) x y = subst (λ a. HasPixel a x y) region_is pixel in
    let column : left + x < blocks f p.w = omega (arith, here.right, inside.across) in
    let row : top + y < blocks f p.h = omega (arith, here.bottom, inside.down) in
    record {
      rgb = rgb;
      some = some;
      small = small;
      column = column;
      row = row;
      covers = block-covered (record { x = left; y = top; w = w; h = h }) f p.w p.h (left + x) (top + y) p.area some
          (record { left = omega arith; right = omega (arith, here.right); top = omega arith; bottom = omega (arith, here.bottom) }) column row covers;
    }

pub part-of-painted : (p : Cut) (q : Picture) (f left top w h : ℕ) (region : Area) (o : Cut) → IsPainted Rgb w h region (IsScaled p f left top) o → AsksIn region (CanScale p f left top) → IsCutOf q p
    → IsCutOf (part_of (record { x = left; y = top; w = w; h = h }) (scaled f q)) o
part-of-painted p q f left top w h region o painted asks part =
    cut_of_rgb (part_of (record { x = left; y = top; w = w; h = h }) (scaled f q)) w h region (IsScaled p f left top) o painted refl refl refl
    (λ x y r inside is. scaled-of-cut p q f left top w h x y r part (asks x y inside) is)

pub whole-of-painted : (w h : ℕ) (region : Area) (post : ℕ → ℕ → List ℕ → Type 0) (o : Cut) → region ≡ whole_of w h → IsPainted Rgb w h region post o → IsWhole o
whole-of-painted w h region post o region_is painted =
    painted.area ∙ region_is ∙ ap (λ n. whole_of n h) (sym painted.wide) ∙ ap (λ n. whole_of o.w n) (sym painted.high)
