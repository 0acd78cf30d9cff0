-- rows of pixels, as far as they are changed in place
use Rattle.std.proofs.Common.{◌≡◌, ℕ, ◌+◌, ◌-◌, ◌*◌, ◌<◌, ◌≤◌, List, ◌++◌, length, take, drop, slice_index, refl, sym, ap, ◌∙◌, subst, ⊎_elim, arith}
use Rattle.std.proofs.lemmas.Bool.{cases_lt}
use Rattle.std.proofs.lemmas.Nat.{mul-add-lt}
use Rattle.std.proofs.lemmas.List.{get_or_past, length-take, take_at}
use Rattle.px.specs.Painted.{IsGiven}
use Rattle.px.specs.Repainted.{three_at, IsEditedRow, AreEditedRows, IsRepainted}
use Rattle.px.specs.declared.kind.PlaneKind.TheVariants.{Rgb}
use Rattle.px.specs.Area.{HasPixel}
use Rattle.px.specs.Kind.{channels}
use Rattle.px.specs.Cut.{Cut, place, value_at, rgb_at}
use Rattle.px.proofs.RowLemmas.{AddsPixel, given_along, top_within, value_fits, place_in_row, row_fits, mid_before, mid_within, mid_after}
use Rattle.px.proofs.ChunkLemmas.{in_chunk}
use borrow.Rule.Slice.PartMut.{put_mid}

-- the pixel at k is still the old one
pub three_kept : (post : ℕ → ℕ → List ℕ → List ℕ → Type 0) (x y k : ℕ) (old row : List ℕ) → IsEditedRow post x y k old row → three_at row (k * 3) ≡ three_at old (k * 3)
three_kept post x y k old row was = rw (was.rest (k * 3) (omega arith), was.rest (k * 3 + 1) (omega arith), was.rest (k * 3 + 2) (omega arith)) refl

pub edited_more : (post : ℕ → ℕ → List ℕ → List ℕ → Type 0) (x y k : ℕ) (old row answer row' : List ℕ)
    → IsEditedRow post x y k old row → post (x + k) y (three_at old (k * 3)) answer → ((i : ℕ) → slice_index answer i ≤ 1048575) → AddsPixel 3 k row answer row'
    → IsEditedRow post x y (k + 1) old row'
edited_more post x y k old row answer row' was given top adds = record {
  pixels = λ j h. ⊎_elim
      (λ (below : j < k). given_along (post (x + j) y (three_at old (j * 3))) 3 (λ c. slice_index row (j * 3 + c)) (λ c. slice_index row' (j * 3 + c))
      (λ c d. sym (adds.before (j * 3 + c) (omega (arith, mul-add-lt j 3 c k below d)))) (was.pixels j below))
      (λ (past : k ≤ j). let j_is : j ≡ k = omega arith in rw j_is (record { answer = answer; given = given; same = λ c d. sym (adds.here c d) }))
      (cases_lt j k);
  rest = λ i h. adds.after i (omega arith) ∙ was.rest i (omega arith);
  top = λ i. ⊎_elim
      (λ (below : i < k * 3). rw (adds.before i below) (was.top i))
      (λ (past : k * 3 ≤ i). ⊎_elim
      (λ (within : i < k * 3 + 3). top_within row' answer i (k * 3) (i - k * 3) (omega arith) (adds.here (i - k * 3) (omega arith)) (top (i - k * 3)))
      (λ (beyond : k * 3 + 3 ≤ i). rw (adds.after i beyond) (was.top i))
      (cases_lt i (k * 3 + 3)))
      (cases_lt i (k * 3));
}

-- a row that isn't reached yet has the old pixels
pub row_kept : (post : ℕ → ℕ → List ℕ → List ℕ → Type 0) (x y w j at n k : ℕ) (old values : List ℕ) → AreEditedRows post x y w j old values
    → at ≡ j * (w * 3) → n ≡ w * 3 → k < w → three_at (take n (drop at values)) (k * 3) ≡ three_at old ((j * w + k) * 3)
row_kept post x y w j at n k old values was at_is n_is k_lt =
    let one : (c : ℕ) → c < 3 → slice_index (take n (drop at values)) (k * 3 + c) ≡ slice_index old ((j * w + k) * 3 + c) =
    (λ c d.
    in_chunk n at values (k * 3 + c) (rw n_is (value_fits k w 3 c k_lt d))
    ∙ (was.rest (at + (k * 3 + c)) (omega arith)
    ∙ ap (slice_index old) (ap (λ m. m + (k * 3 + c)) at_is ∙ sym (place_in_row j w k 3 c)))) in
    let zero_in : k * 3 + 0 ≡ k * 3 = omega arith in
    let zero_out : (j * w + k) * 3 + 0 ≡ (j * w + k) * 3 = omega arith in
    let first : slice_index (take n (drop at values)) (k * 3) ≡ slice_index old ((j * w + k) * 3) =
    ap (slice_index (take n (drop at values))) (sym zero_in) ∙ (one 0 (omega arith) ∙ ap (slice_index old) zero_out) in
    rw (first, one 1 (omega arith), one 2 (omega arith)) refl

-- a further row is changed
pub edited_rows_more : (post : ℕ → ℕ → List ℕ → List ℕ → Type 0) (x y w j at n : ℕ) (old values row : List ℕ) → AreEditedRows post x y w j old values
    → IsEditedRow post x (y + j) w (take n (drop at values)) row → at ≡ j * (w * 3) → n ≡ w * 3 → length row ≡ w * 3 → at + n ≤ length values
    → AreEditedRows post x y w (j + 1) old (put_mid at n values row)
edited_rows_more post x y w j at n old values row was new at_is n_is len fits =
    let start : at ≤ length values = omega arith in
    let whole : length row ≡ n = omega arith in
    record {
      pixels = λ i p below p_lt. ⊎_elim
          (λ (earlier : i < j). given_along (post (x + p) (y + i) (three_at old ((i * w + p) * 3))) 3
          (λ c. slice_index values ((i * w + p) * 3 + c)) (λ c. slice_index (put_mid at n values row) ((i * w + p) * 3 + c))
          (λ c d. sym (mid_before at n values row ((i * w + p) * 3 + c)
          (rw (place_in_row i w p 3 c, at_is) (omega (arith, value_fits p w 3 c p_lt d, row_fits i j w 3 earlier))) start)) (was.pixels i p earlier p_lt))
          (λ (here : j ≤ i). let i_is : i ≡ j = omega arith in
          let pixel = subst (λ t. IsGiven (post (x + p) (y + j) t) 3 (λ c. slice_index row (p * 3 + c))) (row_kept post x y w j at n p old values was at_is n_is p_lt) (new.pixels p p_lt) in
          rw i_is (given_along (post (x + p) (y + j) (three_at old ((j * w + p) * 3))) 3 (λ c. slice_index row (p * 3 + c)) (λ c. slice_index (put_mid at n values row) ((j * w + p) * 3 + c))
          (λ c d. let e : (j * w + p) * 3 + c ≡ at + (p * 3 + c) = place_in_row j w p 3 c ∙ ap (λ m. m + (p * 3 + c)) (sym at_is) in
          rw e (sym (mid_within at n values row (p * 3 + c) (rw len (value_fits p w 3 c p_lt d)) start))) pixel))
          (cases_lt i j);
      rest = λ i h. mid_after at n values row i (omega (arith, at_is, n_is)) start whole ∙ was.rest i (omega arith);
      top = λ i. ⊎_elim
          (λ (before : i < at). rw (mid_before at n values row i before start) (was.top i))
          (λ (past : at ≤ i). ⊎_elim
          (λ (within : i < at + n). top_within (put_mid at n values row) row i at (i - at) (omega arith) (mid_within at n values row (i - at) (omega arith) start) (new.top (i - at)))
          (λ (after : at + n ≤ i). rw (mid_after at n values row i after start whole) (was.top i))
          (cases_lt i (at + n)))
          (cases_lt i at);
    }

-- each value of a part is a value of the whole
pub part_of_rows_top : (post : ℕ → ℕ → List ℕ → List ℕ → Type 0) (x y w j at n : ℕ) (old values : List ℕ) → AreEditedRows post x y w j old values → (i : ℕ) → slice_index (take n (drop at values)) i ≤ 1048575
part_of_rows_top post x y w j at n old values was i = ⊎_elim
    (λ (within : i < n). rw (in_chunk n at values i within) (was.top (at + i)))
    (λ (past : n ≤ i). rw (get_or_past (take n (drop at values)) i 0 (rw (length-take n (drop at values)) (omega arith))) (omega arith))
    (cases_lt i n)

place_of : (p : Cut) (j k : ℕ) → p.kind ≡ Rgb → place p (p.area.x + k) (p.area.y + j) ≡ (j * p.area.w + k) * 3
place_of p j k rgb =
    let column : p.area.x + k - p.area.x ≡ k = omega arith in
    let row : p.area.y + j - p.area.y ≡ j = omega arith in
    rw (column, row, ap channels rgb) refl

-- the three values of a pixel
pub three_of : (p : Cut) (j k : ℕ) → p.kind ≡ Rgb → three_at p.values ((j * p.area.w + k) * 3) ≡ rgb_at p (p.area.x + k) (p.area.y + j)
three_of p j k rgb =
    let e = place_of p j k rgb in
    let first : (j * p.area.w + k) * 3 ≡ place p (p.area.x + k) (p.area.y + j) + 0 = omega (arith, e) in
    let a : slice_index p.values ((j * p.area.w + k) * 3) ≡ value_at p (p.area.x + k) (p.area.y + j) 0 = ap (slice_index p.values) first in
    let b : slice_index p.values ((j * p.area.w + k) * 3 + 1) ≡ value_at p (p.area.x + k) (p.area.y + j) 1 = ap (λ m. slice_index p.values (m + 1)) (sym e) in
    let c : slice_index p.values ((j * p.area.w + k) * 3 + 2) ≡ value_at p (p.area.x + k) (p.area.y + j) 2 = ap (λ m. slice_index p.values (m + 2)) (sym e) in
    rw (a, b, c) refl

-- the changed values of a plane, by columns and rows of the picture
pub repainted_of_rows : (post : ℕ → ℕ → List ℕ → List ℕ → Type 0) (p : Cut) (new : List ℕ) → p.kind ≡ Rgb
    → AreEditedRows post p.area.x p.area.y p.area.w p.area.h p.values new → IsRepainted post p (record p { values = new })
repainted_of_rows post p new rgb rows = record {
  shape = refl;
  pixels = λ x y inside.
      let j = y - p.area.y in
      let k = x - p.area.x in
      let column : p.area.x + k ≡ x = omega arith in
      let row : p.area.y + j ≡ y = omega arith in
      let pixel = subst (λ t. IsGiven (post (p.area.x + k) (p.area.y + j) t) 3 (λ c. slice_index new ((j * p.area.w + k) * 3 + c))) (three_of p j k rgb) (rows.pixels j k (omega arith) (omega arith)) in
      let moved = subst (λ n. IsGiven (post n y (rgb_at p n y)) 3 (λ c. slice_index new ((j * p.area.w + k) * 3 + c))) column
      (subst (λ n. IsGiven (post (p.area.x + k) n (rgb_at p (p.area.x + k) n)) 3 (λ c. slice_index new ((j * p.area.w + k) * 3 + c))) row pixel) in
      given_along (post x y (rgb_at p x y)) 3 (λ c. slice_index new ((j * p.area.w + k) * 3 + c)) (value_at (record p { values = new }) x y)
      (λ c d. ap (λ n. slice_index new ((j * p.area.w + k) * n + c)) (sym (ap channels rgb))) moved;
}

-- what a closure accepts of each pixel of a plane, it accepts of each of its rows
pub asks_of_rows : (pre : ℕ → ℕ → List ℕ → Type 0) (p : Cut) (x y w h : ℕ) (values : List ℕ) → p.kind ≡ Rgb → x ≡ p.area.x → y ≡ p.area.y → w ≡ p.area.w → h ≡ p.area.h → values ≡ p.values
    → ((x y : ℕ) → HasPixel p.area x y → pre x y (rgb_at p x y))
    → (j k : ℕ) → j < h → k < w → pre (x + k) (y + j) (three_at values ((j * w + k) * 3))
asks_of_rows pre p x y w h values rgb x_is y_is w_is h_is values_is asks j k below k_lt =
    let inside : HasPixel p.area (p.area.x + k) (p.area.y + j) = record { left = omega arith; right = omega arith; top = omega arith; bottom = omega arith } in
    rw (x_is, y_is, w_is, values_is) (subst (pre (p.area.x + k) (p.area.y + j)) (sym (three_of p j k rgb)) (asks (p.area.x + k) (p.area.y + j) inside))

-- a plane made of changed values; `rest` is what the list held before, past the written ones
pub repainted : (post : ℕ → ℕ → List ℕ → List ℕ → Type 0) (p new : Cut) (x y w h len : ℕ) (values changed rest : List ℕ) → p.kind ≡ Rgb → x ≡ p.area.x → y ≡ p.area.y → w ≡ p.area.w → h ≡ p.area.h → values ≡ p.values
    → AreEditedRows post x y w h values changed → len ≡ length changed
    → new.kind ≡ p.kind → new.w ≡ p.w → new.h ≡ p.h → new.area ≡ p.area → new.values ≡ take len (changed ++ rest) → IsRepainted post p new
repainted post p new x y w h len values changed rest rgb x_is y_is w_is h_is values_is rows len_is kind wide high area same =
    let written : new.values ≡ changed = same ∙ take_at changed rest len (sym len_is) in
    let is : record p { values = changed } ≡ new = rw (sym kind, sym wide, sym high, sym area, sym written) refl in
    subst (IsRepainted post p) is (repainted_of_rows post p changed rgb
    (subst (λ n. AreEditedRows post n p.area.y p.area.w p.area.h p.values changed) x_is
    (subst (λ n. AreEditedRows post x n p.area.w p.area.h p.values changed) y_is
    (subst (λ n. AreEditedRows post x y n p.area.h p.values changed) w_is
    (subst (λ n. AreEditedRows post x y w n p.values changed) h_is
    (subst (λ v. AreEditedRows post x y w h v changed) values_is rows))))))
