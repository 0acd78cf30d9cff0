-- rows of an output that are laid over the input's, a part after another
use Rattle.std.proofs.Common.{◌≡◌, ℕ, ◌+◌, ◌-◌, ◌*◌, ◌/◌, ◌%◌, ◌<◌, ◌≤◌, List, [], ◌∷◌, Option, length, take, drop, slice_index, refl, sym, ap, ◌∙◌, subst, ⊎_elim, arith}
use Rattle.std.specs.Prelude.{ℤ, pos, negsuc}
use Rattle.std.proofs.lemmas.Bool.{cases_lt}
use Rattle.std.proofs.lemmas.List.{get_or_past}
use Rattle.std.proofs.lemmas.Nat.{mul-add-lt}
use Rattle.params.specs.declared.blending.Blend.{Blend}
use Rattle.px.specs.declared.kind.PlaneKind.TheVariants.{Rgb}
use Rattle.px.specs.Cover.{CoverSeen}
use Rattle.px.specs.Cut.{Cut, place, value_at}
use Rattle.px.specs.Number.{clamp}
use Rattle.px.specs.Painted.{IsGiven}
use Rattle.px.specs.Repainted.{three_at, IsEditedRow}
use Rattle.px.proofs.ChunkLemmas.{in_chunk}
use Rattle.px.proofs.MadeLemmas.{along_row}
use Rattle.px.proofs.RowLemmas.{AddsPixel, given_along, mid_before, mid_within, mid_after, three, top_within, value_fits}
use Rattle.blend.specs.Blending.{alpha, blended, covered, moved}
use Rattle.blend.specs.Rows.{AreParts, blended_pixel, lays}
use borrow.Rule.Slice.PartMut.{put_mid}

-- one pixel more
pub parts_more : (opacity : ℕ) (f : ℕ → ℕ) (k : ℕ) (row : List ℕ) (part : ℕ) (row' : List ℕ) → AreParts opacity f k row → part ≡ alpha opacity (f k) → part ≤ 65536
    → AddsPixel 3 k row (part ∷ part ∷ part ∷ []) row' → AreParts opacity f (k + 1) row'
parts_more opacity f k row part row' was is small adds =
    let here : (c : ℕ) → c < 3 → slice_index row' (k * 3 + c) ≡ part = λ c d. adds.here c d ∙ three (λ n. slice_index (part ∷ part ∷ part ∷ []) n ≡ part) refl refl refl c d in
    record {
      same = λ j c h d. ⊎_elim
          (λ (below : j < k). adds.before (j * 3 + c) (omega (arith, mul-add-lt j 3 c k below d)) ∙ was.same j c below d)
          (λ (past : k ≤ j). let j_is : j ≡ k = omega arith in rw j_is (here c d ∙ is))
          (cases_lt j k);
      small = λ j c h d. ⊎_elim
          (λ (below : j < k). rw (adds.before (j * 3 + c) (omega (arith, mul-add-lt j 3 c k below d))) (was.small j c below d))
          (λ (past : k ≤ j). let j_is : j ≡ k = omega arith in rw (j_is, here c d) small)
          (cases_lt j k);
    }

-- no value goes further than to what the mode makes
pub parts_small : (opacity : ℕ) (f : ℕ → ℕ) (n : ℕ) (parts : List ℕ) → AreParts opacity f n parts → (i : ℕ) → i < n * 3 → slice_index parts i ≤ 65536
parts_small opacity f n parts are i below =
    let place : i / 3 * 3 + i % 3 ≡ i = omega arith in
    subst (λ k. slice_index parts k ≤ 65536) place (are.small (i / 3) (i % 3) (omega arith) (omega arith))

clamp_top : (z : ℤ) → clamp z ≤ 1048575
clamp_top (pos a) = omega arith
clamp_top (negsuc a) = omega arith

-- values that are laid over the input's, each as far as its pixel is covered, are the pixels of the row
pub edited_of_laid : (b : Blend) (cover : Option CoverSeen) (input : Cut) (x y n : ℕ) (parts from old new : List ℕ) → input.kind ≡ Rgb → input.area.x ≤ x
    → ((i : ℕ) → i < n * 3 → slice_index from i ≡ slice_index input.values (place input x y + i)) → AreParts b.opacity (λ k. covered cover (x + k) y) n parts
    → length old ≡ n * 3 → length new ≡ n * 3
    → ((i : ℕ) → i < length old → slice_index new i ≡ moved b.mode (slice_index parts i) (slice_index from i) (slice_index old i))
    → IsEditedRow (lays b cover input) x y n old new
edited_of_laid b cover input x y n parts from old new rgb left read are len new_len laid = record {
  pixels = λ k below.
      let far = covered cover (x + k) y in
      let one : (c : ℕ) → c < 3 → slice_index new (k * 3 + c) ≡ blended b far (value_at input (x + k) y c) (slice_index old (k * 3 + c)) = λ c d.
      laid (k * 3 + c) (omega (arith, value_fits k n 3 c below d))
      ∙ (ap (λ part. moved b.mode part (slice_index from (k * 3 + c)) (slice_index old (k * 3 + c))) (are.same k c below d)
      ∙ ap (λ i. moved b.mode (alpha b.opacity far) i (slice_index old (k * 3 + c))) (along_row input x y n k c from rgb left read below d)) in
      let zero_in : k * 3 + 0 ≡ k * 3 = omega arith in
      record {
        answer = blended_pixel b far (value_at input (x + k) y) (three_at old (k * 3));
        given = refl;
        same = three (λ c. slice_index (blended_pixel b far (value_at input (x + k) y) (three_at old (k * 3))) c ≡ slice_index new (k * 3 + c))
            (sym (one 0 (omega arith) ∙ ap (λ i. blended b far (value_at input (x + k) y 0) (slice_index old i)) zero_in))
            (sym (one 1 (omega arith))) (sym (one 2 (omega arith)));
      };
  rest = λ i past. get_or_past new i 0 (omega arith) ∙ sym (get_or_past old i 0 (omega arith));
  top = λ i. ⊎_elim
      (λ (within : i < n * 3). rw (laid i (omega arith)) (clamp_top _))
      (λ (past : n * 3 ≤ i). rw (get_or_past new i 0 (omega arith)) (omega arith))
      (cases_lt i (n * 3));
}

-- a pixel of a part that isn't reached yet is the old one
part_kept : (post : ℕ → ℕ → List ℕ → List ℕ → Type 0) (x y k at n j : ℕ) (old row : List ℕ) → IsEditedRow post x y k old row
    → at ≡ k * 3 → j * 3 + 2 < n → three_at (take n (drop at row)) (j * 3) ≡ three_at old ((k + j) * 3)
part_kept post x y k at n j old row was at_is fits =
    let one : (c : ℕ) → c < 3 → slice_index (take n (drop at row)) (j * 3 + c) ≡ slice_index old ((k + j) * 3 + c) = λ c d.
    in_chunk n at row (j * 3 + c) (omega arith)
    ∙ (was.rest (at + (j * 3 + c)) (omega arith) ∙ ap (slice_index old) (omega arith)) in
    let zero_in : j * 3 + 0 ≡ j * 3 = omega arith in
    let zero_out : (k + j) * 3 + 0 ≡ (k + j) * 3 = omega arith in
    let first : slice_index (take n (drop at row)) (j * 3) ≡ slice_index old ((k + j) * 3) =
    ap (slice_index (take n (drop at row))) (sym zero_in) ∙ (one 0 (omega arith) ∙ ap (slice_index old) zero_out) in
    rw (first, one 1 (omega arith), one 2 (omega arith)) refl

-- a further part of a row is changed
pub edited_part_more : (post : ℕ → ℕ → List ℕ → List ℕ → Type 0) (x y k m at n : ℕ) (old row part : List ℕ) → IsEditedRow post x y k old row
    → IsEditedRow post (x + k) y m (take n (drop at row)) part → at ≡ k * 3 → n ≡ m * 3 → length part ≡ m * 3 → at + n ≤ length row
    → IsEditedRow post x y (k + m) old (put_mid at n row part)
edited_part_more post x y k m at n old row part was new at_is n_is len fits =
    let start : at ≤ length row = omega arith in
    let whole : length part ≡ n = omega arith in
    record {
      pixels = λ i below. ⊎_elim
          (λ (earlier : i < k). given_along (post (x + i) y (three_at old (i * 3))) 3 (λ c. slice_index row (i * 3 + c)) (λ c. slice_index (put_mid at n row part) (i * 3 + c))
          (λ c d. sym (mid_before at n row part (i * 3 + c) (omega (arith, mul-add-lt i 3 c k earlier d)) start)) (was.pixels i earlier))
          (λ (here : k ≤ i).
          let j = i - k in
          let column : x + k + j ≡ x + i = omega arith in
          let place : k + j ≡ i = omega arith in
          let pixel = new.pixels j (omega arith) in
          let kept = part_kept post x y k at n j old row was at_is (omega arith) ∙ ap (λ p. three_at old (p * 3)) place in
          let moved_here = subst (λ u. IsGiven (post u y (three_at old (i * 3))) 3 (λ c. slice_index part (j * 3 + c))) column
          (subst (λ t. IsGiven (post (x + k + j) y t) 3 (λ c. slice_index part (j * 3 + c))) kept pixel) in
          given_along (post (x + i) y (three_at old (i * 3))) 3 (λ c. slice_index part (j * 3 + c)) (λ c. slice_index (put_mid at n row part) (i * 3 + c))
          (λ c d. let e : i * 3 + c ≡ at + (j * 3 + c) = omega arith in rw e (sym (mid_within at n row part (j * 3 + c) (omega arith) start))) moved_here)
          (cases_lt i k);
      rest = λ i h. mid_after at n row part i (omega arith) start whole ∙ was.rest i (omega arith);
      top = λ i. ⊎_elim
          (λ (before : i < at). rw (mid_before at n row part i before start) (was.top i))
          (λ (past : at ≤ i). ⊎_elim
          (λ (within : i < at + n). top_within (put_mid at n row part) part i at (i - at) (omega arith) (mid_within at n row part (i - at) (omega arith) start) (new.top (i - at)))
          (λ (after : at + n ≤ i). rw (mid_after at n row part i after start whole) (was.top i))
          (cases_lt i (at + n)))
          (cases_lt i at);
    }
