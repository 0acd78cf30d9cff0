-- sharpened rows
use Rattle.std.proofs.Common.{◌≡◌, ℕ, ◌+◌, ◌*◌, ◌<◌, ◌≤◌, List, [], ◌∷◌, length, slice_index, refl, sym, ap, ◌∙◌, ⊎_elim, arith}
use Rattle.std.specs.Prelude.{ℤ, pos, negsuc}
use Rattle.std.proofs.lemmas.Bool.{cases_lt}
use Rattle.std.proofs.lemmas.List.{get_or_past}
use Rattle.px.specs.declared.kind.PlaneKind.TheVariants.{Rgb}
use Rattle.px.specs.Area.{Area, HasPixel, Covers, IsIn, grown}
use Rattle.px.specs.Number.{clamp}
use Rattle.px.specs.Cut.{Cut, IsCutOf, place, value_at}
use Rattle.px.specs.Picture.{Picture}
use Rattle.px.specs.Painted.{IsRow, IsPainted}
use Rattle.px.proofs.RowLemmas.{value_fits}
use Rattle.px.proofs.MadeLemmas.{row_of_values, along_row}
use Rattle.px.proofs.PaintedLemmas.{cut_of_rgb, pixel_of_part}
use Rattle.local_modules.specs.Blurring.{blurred_picture}
use Rattle.local_modules.specs.Sharpening.{sharpened, sharpened_pixel, sharpened_picture}
use Rattle.local_modules.proofs.RunningLemmas.{three_small}

pub clamp_top : (z : ℤ) → clamp z ≤ 1048575
clamp_top (pos a) = omega arith
clamp_top (negsuc a) = omega arith

-- a row sharpened against a blurred row has the sharpened pixels of the two planes
pub sharpened_row : (amount : ℕ) (p b : Cut) (x y n : ℕ) (from blurred row : List ℕ) → p.kind ≡ Rgb → p.area.x ≤ x → b.kind ≡ Rgb → b.area.x ≤ x
    → ((i : ℕ) → i < n * 3 → slice_index from i ≡ slice_index p.values (place p x y + i))
    → ((i : ℕ) → i < n * 3 → slice_index blurred i ≡ slice_index b.values (place b x y + i)) → length row ≡ n * 3
    → ((i : ℕ) → i < n * 3 → slice_index row i ≡ sharpened amount (slice_index from i) (slice_index blurred i))
    → IsRow (λ u v r. r ≡ sharpened_pixel amount (value_at p u v) (value_at b u v)) x y 3 n row
sharpened_row amount p b x y n from blurred row rgb left rgb_b left_b read read_b len done =
    row_of_values (λ u v c. sharpened amount (value_at p u v c) (value_at b u v c)) x y n row
    (λ k c below d. done (k * 3 + c) (value_fits k n 3 c below d)
    ∙ rw (along_row p x y n k c from rgb left read below d, along_row b x y n k c blurred rgb_b left_b read_b below d) refl)
    (λ i. ⊎_elim
    (λ (within : i < n * 3). rw (done i within) (clamp_top _))
    (λ (past : n * 3 ≤ i). rw (get_or_past row i 0 (rw len past)) (omega arith))
    (cases_lt i (n * 3)))

pub sharpened_small : (amount : ℕ) (v b : ℕ → ℕ) (i : ℕ) → slice_index (sharpened_pixel amount v b) i ≤ 1048575
sharpened_small amount v b i = three_small _ _ _ (clamp_top _) (clamp_top _) (clamp_top _) i

-- a region lies in what it grows to
pub grown_covers : (r w h : ℕ) (outer region : Area) → IsIn region w h → Covers outer (grown region r w h) → Covers outer region
grown_covers r w h outer region inside covers = record { left = omega arith; right = omega arith; top = omega arith; bottom = omega arith }

pub sharpened_cut : (r amount : ℕ) (q : Picture) (w h : ℕ) (a : Area) (input blurred p : Cut) → w ≡ input.w → h ≡ input.h → input.kind ≡ Rgb → Covers input.area a
    → blurred.area ≡ a → IsCutOf (blurred_picture r q) blurred → IsCutOf q input
    → IsPainted Rgb w h a (λ x y made. made ≡ sharpened_pixel amount (value_at input x y) (value_at blurred x y)) p
    → IsCutOf (sharpened_picture r amount q) p
sharpened_cut r amount q w h a input blurred p w_is h_is rgb covers area soft part painted =
    let q_rgb : q.kind ≡ Rgb = sym part.kind ∙ rgb in
    cut_of_rgb (sharpened_picture r amount q) w h a _ p painted q_rgb (sym part.wide ∙ sym w_is) (sym part.high ∙ sym h_is)
    (λ x y made inside is.
    let covered : HasPixel input.area x y = record { left = omega arith; right = omega arith; top = omega arith; bottom = omega arith } in
    let here : HasPixel blurred.area x y = rw area inside in
    let sharp = pixel_of_part input q x y part q_rgb covered in
    let mean = pixel_of_part blurred (blurred_picture r q) x y soft q_rgb here in
    let v : (c : ℕ) → slice_index (value_at input x y 0 ∷ value_at input x y 1 ∷ value_at input x y 2 ∷ []) c ≡ slice_index (q.at x y 0 ∷ q.at x y 1 ∷ q.at x y 2 ∷ []) c = λ c. ap (λ t. slice_index t c) sharp in
    let b = λ (c : ℕ). ap (λ t. slice_index t c) mean in
    is ∙ rw (v 0, v 1, v 2, b 0, b 1, b 2) refl)
