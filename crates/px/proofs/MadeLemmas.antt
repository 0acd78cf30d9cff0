-- pictures made pixel by pixel, by rows
use Rattle.std.proofs.Common.{◌≡◌, ℕ, ◌+◌, ◌-◌, ◌*◌, ◌<◌, ◌≤◌, List, [], ◌∷◌, slice_index, refl, sym, ap, ◌∙◌, subst, ⊎_elim, arith}
use Rattle.std.proofs.lemmas.Nat.{mul-add-lt}
use Rattle.std.proofs.lemmas.Bool.{cases_lt}
use Rattle.px.specs.declared.kind.PlaneKind.TheVariants.{Rgb}
use Rattle.px.specs.Area.{Area, HasPixel, Covers}
use Rattle.px.specs.Kind.{channels}
use Rattle.px.specs.Cut.{Cut, IsCutOf, place, value_at, rgb_at}
use Rattle.px.specs.Picture.{Picture, rgb_of}
use Rattle.px.specs.Painted.{IsGiven, IsRow, IsPainted}
use Rattle.px.specs.Pixelwise.{made_of, IsMadeRow}
use Rattle.px.proofs.RowLemmas.{AddsPixel, three, top_within, value_fits}
use Rattle.px.proofs.PaintedLemmas.{cut_of_rgb, pixel_of_part}

-- one pixel more
pub made_more : (f : ℕ → ℕ → ℕ → ℕ → ℕ) (k : ℕ) (from row answer row' : List ℕ) → IsMadeRow f k from row
    → ((c : ℕ) → c < 3 → slice_index answer c ≡ f c (slice_index from (k * 3)) (slice_index from (k * 3 + 1)) (slice_index from (k * 3 + 2)))
    → ((i : ℕ) → slice_index answer i ≤ 1048575) → AddsPixel 3 k row answer row'
    → IsMadeRow f (k + 1) from row'
made_more f k from row answer row' was is top adds = record {
  made = λ j c h d. ⊎_elim
      (λ (below : j < k). adds.before (j * 3 + c) (omega (arith, mul-add-lt j 3 c k below d)) ∙ was.made j c below d)
      (λ (past : k ≤ j). let j_is : j ≡ k = omega arith in rw j_is (adds.here c d ∙ is c d))
      (cases_lt j k);
  top = λ i. ⊎_elim
      (λ (below : i < k * 3). rw (adds.before i below) (was.top i))
      (λ (past : k * 3 ≤ i). ⊎_elim
      (λ (within : i < k * 3 + 3). top_within row' answer i (k * 3) (i - k * 3) (omega arith) (adds.here (i - k * 3) (omega arith)) (top (i - k * 3)))
      (λ (beyond : k * 3 + 3 ≤ i). rw (adds.after i beyond) (was.top i))
      (cases_lt i (k * 3 + 3)))
      (cases_lt i (k * 3));
}

-- a channel of a pixel among the values of a row that begins in column x
along : (p : Cut) (x y k c : ℕ) → p.kind ≡ Rgb → p.area.x ≤ x → place p x y + (k * 3 + c) ≡ place p (x + k) y + c
along p x y k c rgb left =
    let column : x + k - p.area.x ≡ (x - p.area.x) + k = omega arith in
    let size : channels p.kind ≡ 3 = ap channels rgb in
    rw (size, column) (omega arith)

-- a row of these values, three a pixel
pub row_of_values : (value : ℕ → ℕ → ℕ → ℕ) (x y n : ℕ) (row : List ℕ) → ((k c : ℕ) → k < n → c < 3 → slice_index row (k * 3 + c) ≡ value (x + k) y c)
    → ((i : ℕ) → slice_index row i ≤ 1048575) → IsRow (λ u v r. r ≡ value u v 0 ∷ value u v 1 ∷ value u v 2 ∷ []) x y 3 n row
row_of_values value x y n row same top = record {
  pixels = λ k below. record {
    answer = value (x + k) y 0 ∷ value (x + k) y 1 ∷ value (x + k) y 2 ∷ [];
    given = refl;
    same = three (λ c. slice_index (value (x + k) y 0 ∷ value (x + k) y 1 ∷ value (x + k) y 2 ∷ []) c ≡ slice_index row (k * 3 + c))
        (sym (same k 0 below (omega arith))) (sym (same k 1 below (omega arith))) (sym (same k 2 below (omega arith)));
  };
  top = top;
}

-- a value of a plane's row
pub along_row : (p : Cut) (x y n k c : ℕ) (from : List ℕ) → p.kind ≡ Rgb → p.area.x ≤ x → ((i : ℕ) → i < n * 3 → slice_index from i ≡ slice_index p.values (place p x y + i))
    → k < n → c < 3 → slice_index from (k * 3 + c) ≡ value_at p (x + k) y c
along_row p x y n k c from rgb left read below d = read (k * 3 + c) (value_fits k n 3 c below d) ∙ ap (slice_index p.values) (along p x y k c rgb left)

-- a row made of a plane's row is painted by pixels made of the plane's
pub row_of_made : (f : ℕ → ℕ → ℕ → ℕ → ℕ) (p : Cut) (x y n : ℕ) (from row : List ℕ) → p.kind ≡ Rgb → p.area.x ≤ x
    → ((i : ℕ) → i < n * 3 → slice_index from i ≡ slice_index p.values (place p x y + i)) → IsMadeRow f n from row
    → IsRow (λ u v r. r ≡ made_of f (value_at p u v)) x y 3 n row
row_of_made f p x y n from row rgb left read done =
    row_of_values (λ u v c. f c (value_at p u v 0) (value_at p u v 1) (value_at p u v 2)) x y n row (λ k c below d.
    let at : (c : ℕ) → c < 3 → slice_index from (k * 3 + c) ≡ value_at p (x + k) y c = λ c d. along_row p x y n k c from rgb left read below d in
    let zero_in : k * 3 + 0 ≡ k * 3 = omega arith in
    let first : slice_index from (k * 3) ≡ value_at p (x + k) y 0 = ap (slice_index from) (sym zero_in) ∙ at 0 (omega arith) in
    done.made k c below d ∙ rw (first, at 1 (omega arith), at 2 (omega arith)) refl) done.top

-- a plane made of another's pixels is the cut of the picture made of that picture's pixels
pub cut_of_made : (f : ℕ → ℕ → ℕ → ℕ → ℕ) (m q : Picture) (w h : ℕ) (input p : Cut) (a : Area) → w ≡ input.w → h ≡ input.h → input.kind ≡ Rgb → Covers input.area a
    → IsPainted Rgb w h a (λ x y r. r ≡ made_of f (value_at input x y)) p → IsCutOf q input
    → m.kind ≡ q.kind → m.w ≡ q.w → m.h ≡ q.h → ((x y : ℕ) → made_of f (q.at x y) ≡ rgb_of m x y) → IsCutOf m p
cut_of_made f m q w h input p a w_is h_is rgb covers painted part kind wide high same =
    let q_rgb : q.kind ≡ Rgb = sym part.kind ∙ rgb in
    cut_of_rgb m w h a _ p painted (kind ∙ q_rgb) (wide ∙ sym part.wide ∙ sym w_is) (high ∙ sym part.high ∙ sym h_is)
    (λ x y r inside is.
    let covered : HasPixel input.area x y = record { left = omega arith; right = omega arith; top = omega arith; bottom = omega arith } in
    let pixel = pixel_of_part input q x y part q_rgb covered in
    let channel : (c : ℕ) → slice_index (rgb_at input x y) c ≡ slice_index (rgb_of q x y) c = λ c. ap (λ r. slice_index r c) pixel in
    is ∙ (rw (channel 0, channel 1, channel 2) refl ∙ same x y))
