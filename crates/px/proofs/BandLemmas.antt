-- bands of rows
use Rattle.std.proofs.Common.{◌≡◌, ℕ, ◌+◌, ◌-◌, ◌*◌, ◌/◌, ◌<◌, ◌≤◌, List, ◌++◌, length, take, slice_index, Ok, Err, OnOk, refl, ap, ◌∙◌, subst, sym, ⊎_elim, arith}
use Rattle.std.specs.Prelude.{Result}
use Rattle.std.proofs.Math.Nat.{mul_assoc}
use Rattle.std.proofs.lemmas.Bool.{cases_lt}
use Rattle.std.proofs.lemmas.List.{get_or_append_left, get_or-append-add, take_at}
use Rattle.px.specs.declared.kind.PlaneKind.{PlaneKind}
use Rattle.px.specs.Area.{Area, Covers, HasPixel}
use Rattle.px.specs.Cut.{Cut, IsPlane, IsCutOf}
use Rattle.px.specs.Kind.{channels}
use Rattle.px.specs.Picture.{Picture}
use Rattle.px.specs.Bands.{AsksRows, band_of, cut_by, GivesShaped, IsShaped, GivesCuts, HasRow, AreBands, IsFromBands}
use Rattle.px.proofs.RowLemmas.{place_in_row, row_fits, value_fits}

-- what is left of the rows behind the first ones
pub rest_len : (n low stride all a b : ℕ) → low ≤ n → all ≡ n * stride → all ≡ a + b → a ≡ low * stride → b ≡ (n - low) * stride
rest_len n low stride all a b below all_is parts a_is =
    let sum : n ≡ low + (n - low) = omega arith in
    let high = n - low in
    let e : all ≡ (low + high) * stride = subst (λ k. all ≡ k * stride) sum all_is in
    omega arith

-- two facts that hold where there was memory, put together
pub on_ok_both : {T E P Q S : Type 0} (r : Result T E) → (P → Q → S) → OnOk r P → OnOk r Q → OnOk r S
on_ok_both (Ok x) f p q = f p q
on_ok_both (Err e) f p q = tt

-- what may be asked for among all rows, among the rows behind the first ones
pub rest_asks : (asks : ℕ → Type 0) (y n low : ℕ) → low ≤ n → AsksRows asks y n → AsksRows asks (y + low) (n - low)
rest_asks asks y n low below all j inside =
    let row : y + (low + j) ≡ y + low + j = omega arith in
    subst asks row (all (low + j) (omega arith))

-- a value of the front rows, and one of the rows behind them
pub in_front : (xs ys : List ℕ) (i : ℕ) → i < length xs → slice_index (xs ++ ys) i ≡ slice_index xs i
in_front xs ys i h = get_or_append_left xs ys 0 i h

pub in_back : (xs ys : List ℕ) (i : ℕ) → slice_index (xs ++ ys) (length xs + i) ≡ slice_index ys i
in_back xs ys i = get_or-append-add xs ys i 0

top_joined : (xs ys : List ℕ) → ((i : ℕ) → slice_index xs i ≤ 1048575) → ((i : ℕ) → slice_index ys i ≤ 1048575) → (i : ℕ) → slice_index (xs ++ ys) i ≤ 1048575
top_joined xs ys front back i = ⊎_elim
    (λ (within : i < length xs). rw (in_front xs ys i within) (front i))
    (λ (past : length xs ≤ i). let i_is : i ≡ length xs + (i - length xs) = omega arith in
    subst (λ k. slice_index (xs ++ ys) k ≤ 1048575) (sym i_is) (rw (in_back xs ys (i - length xs)) (back (i - length xs))))
    (cases_lt i (length xs))

-- two bands of a picture, one under the other, are a band of it
pub cut_joined : (q : Picture) (kind : PlaneKind) (w h : ℕ) (a : Area) (y m n : ℕ) (xs ys : List ℕ) → length xs ≡ m * (a.w * channels kind)
    → IsCutOf q (cut_by kind w h (band_of a y m) xs) → IsCutOf q (cut_by kind w h (band_of a (y + m) n) ys)
    → IsCutOf q (cut_by kind w h (band_of a y (m + n)) (xs ++ ys))
cut_joined q kind w h a y m n xs ys len front back = record {
  kind = front.kind;
  wide = front.wide;
  high = front.high;
  same = λ u v c inside below.
      let size : c < channels kind = rw (ap channels front.kind) below in
      let k = u - a.x in
      let k_lt : k < a.w = omega (arith, inside.left, inside.right) in
      ⊎_elim
      (λ (upper : v < y + m).
      let here : HasPixel (band_of a y m) u v = record { left = inside.left; right = inside.right; top = inside.top; bottom = upper } in
      let j = v - y in
      let j_lt : j < m = omega (arith, inside.top) in
      let within : (j * a.w + k) * channels kind + c < length xs =
      rw (place_in_row j a.w k (channels kind) c, len) (omega (arith, value_fits k a.w (channels kind) c k_lt size, row_fits j m a.w (channels kind) j_lt)) in
      in_front xs ys ((j * a.w + k) * channels kind + c) within ∙ front.same u v c here below)
      (λ (lower : y + m ≤ v).
      let here : HasPixel (band_of a (y + m) n) u v = record { left = inside.left; right = inside.right; top = lower; bottom = omega (arith, inside.bottom) } in
      let j = v - (y + m) in
      let j_is : v - y ≡ m + j = omega arith in
      let e : ((m + j) * a.w + k) * channels kind + c ≡ length xs + ((j * a.w + k) * channels kind + c) = rw len (omega arith) in
      ap (λ t. slice_index (xs ++ ys) ((t * a.w + k) * channels kind + c)) j_is
      ∙ (ap (slice_index (xs ++ ys)) e ∙ (in_back xs ys ((j * a.w + k) * channels kind + c) ∙ back.same u v c here below)))
      (cases_lt v (y + m));
}

pub bands_joined : {E : Type 0} (kind : PlaneKind) (w h : ℕ) (a : Area) (post : Area → Result Cut E → Type 0) (y m n : ℕ) (xs ys : List ℕ) → length xs ≡ m * (a.w * channels kind)
    → AreBands kind w h a post y m xs → AreBands kind w h a post (y + m) n ys → AreBands kind w h a post y (m + n) (xs ++ ys)
bands_joined kind w h a post y m n xs ys len front back = record {
  top = top_joined xs ys front.top back.top;
  cut = λ q cuts. cut_joined q kind w h a y m n xs ys len (front.cut q cuts) (back.cut q cuts);
}

-- rows that are asked for lie in the region
pub band_covered : (a : Area) (y n : ℕ) → 0 < n → AsksRows (HasRow a) y n → Covers a (band_of a y n)
band_covered a y n some rows =
    let first = rows 0 some in
    let last = rows (n - 1) (omega arith) in
    record { left = omega arith; right = omega arith; top = omega (arith, first.top); bottom = omega (arith, last.bottom) }

-- a band that was made, copied
pub band_made : {E : Type 0} (kind : PlaneKind) (w h : ℕ) (a : Area) (post : Area → Result Cut E → Type 0) (y n : ℕ) (p : Cut) (values : List ℕ) → Covers a (band_of a y n)
    → GivesShaped kind w h a post → post (band_of a y n) (Ok p) → IsPlane p → values ≡ p.values → AreBands kind w h a post y n values
band_made kind w h a post y n p values covers shaped given valid same =
    let shape = shaped (band_of a y n) p covers given in
    rw same (record {
      top = valid.top;
      cut = λ q cuts. subst (IsCutOf q) shape (cuts (band_of a y n) p covers given);
    })

-- how many values a band has
pub band_len : (kind : PlaneKind) (w h : ℕ) (a : Area) (y n : ℕ) (p : Cut) (values : List ℕ) → IsShaped kind w h (band_of a y n) p → IsPlane p → values ≡ p.values
    → length values ≡ n * (a.w * channels kind)
band_len kind w h a y n p values shape valid same =
    let e : (p.area.h * p.area.w) * channels p.kind ≡ (n * a.w) * channels kind = ap (λ (t : Cut). (t.area.h * t.area.w) * channels t.kind) shape in
    ap length same ∙ (valid.len ∙ (e ∙ mul_assoc n a.w (channels kind)))

-- all rows of a region; `rest` is what the list of values held before, past the written ones
pub plane_of_bands : {E : Type 0} (kind : PlaneKind) (w h : ℕ) (a b : Area) (post : Area → Result Cut E → Type 0) (y n : ℕ) (values rest : List ℕ) (len : ℕ) → b ≡ a → y ≡ a.y → n ≡ a.h
    → len ≡ length values → AreBands kind w h b post y n values → IsFromBands kind w h a post (cut_by kind w h a (take len (values ++ rest)))
plane_of_bands kind w h a b post y n values rest len area_is y_is n_is len_is rows =
    let here = subst (λ k. AreBands kind w h k post y n values) area_is rows in
    rw (take_at values rest len (sym len_is)) (record {
      shape = refl;
      cut = λ q cuts. subst (λ k. IsCutOf q (cut_by kind w h (band_of a k a.h) values)) y_is (subst (λ k. IsCutOf q (cut_by kind w h (band_of a y k) values)) n_is (here.cut q cuts));
    })
