-- lists of values
use Rattle.std.proofs.Common.{◌≡◌, ℕ, ◌+◌, ◌-◌, ◌*◌, ◌/◌, ◌%◌, ◌<◌, ◌≤◌, min, List, [], ◌∷◌, ◌++◌, length, slice_index, refl, sym, ap, ◌∙◌, subst, ⊎_elim, arith}
use Rattle.std.proofs.Math.Seq.{get_or-append_seam}
use Rattle.std.proofs.lemmas.Bool.{cases_lt}
use Rattle.std.proofs.lemmas.List.{get_or_past, get_or_append_left, length-append}
use Rattle.std.proofs.lemmas.Nat.{div_below, mod_below, div-add-mod'}
use Rattle.px.specs.declared.kind.PlaneKind.{PlaneKind}
use Rattle.px.specs.declared.kind.PlaneKind.TheVariants.{Mosaic, Rgb}
use Rattle.px.specs.Kind.{channels}
use Rattle.pnm.specs.Samples.{AreValues, meaning, sample_at, scaled}

-- what holds of each value holds after one more
pub pushed : (P : ℕ → ℕ → Type 0) (xs : List ℕ) (n v : ℕ) → length xs ≡ n → ((k : ℕ) → k < n → P k (slice_index xs k)) → P n v
    → (k : ℕ) → k < n + 1 → P k (slice_index (xs ++ v ∷ []) k)
pushed P xs n v len before last k below = ⊎_elim
    (λ (earlier : k < n). rw (get_or_append_left xs (v ∷ []) 0 k (rw len earlier)) (before k earlier))
    (λ (here : n ≤ k). let k_is : k ≡ length xs = omega arith in
    let n_is : n ≡ length xs = sym len in
    rw (k_is, get_or-append_seam xs v [] 0) (subst (λ m. P m v) n_is last))
    (cases_lt k n)

-- the same where each value is pushed three times
pub pushed_thrice : (P : ℕ → ℕ → Type 0) (xs : List ℕ) (n v : ℕ) → length xs ≡ n * 3 → ((k c : ℕ) → k < n → c < 3 → P k (slice_index xs (k * 3 + c))) → P n v
    → (k c : ℕ) → k < n + 1 → c < 3 → P k (slice_index (((xs ++ v ∷ []) ++ v ∷ []) ++ v ∷ []) (k * 3 + c))
pushed_thrice P xs n v len before last k c below few =
    let Q : ℕ → ℕ → Type 0 = λ i w. (k c : ℕ) → i ≡ k * 3 + c → c < 3 → P k w in
    let old : (i : ℕ) → i < n * 3 → Q i (slice_index xs i) = λ i within k c is d. rw is (before k c (omega arith) d) in
    let here : (i : ℕ) → n * 3 ≤ i → i < n * 3 + 3 → Q i v = λ i low high k c is d. let k_is : k ≡ n = omega arith in rw k_is last in
    let one = pushed Q xs (n * 3) v len old (here (n * 3) (omega arith) (omega arith)) in
    let one_len : length (xs ++ v ∷ []) ≡ n * 3 + 1 = omega (arith, length-append xs (v ∷ []), len) in
    let two = pushed Q (xs ++ v ∷ []) (n * 3 + 1) v one_len one (here (n * 3 + 1) (omega arith) (omega arith)) in
    let two_len : length ((xs ++ v ∷ []) ++ v ∷ []) ≡ n * 3 + 1 + 1 = omega (arith, length-append (xs ++ v ∷ []) (v ∷ []), one_len) in
    let three = pushed Q ((xs ++ v ∷ []) ++ v ∷ []) (n * 3 + 1 + 1) v two_len two (here (n * 3 + 1 + 1) (omega arith) (omega arith)) in
    three (k * 3 + c) (omega arith) k c refl few

-- what a sample means is at most white
pub scaled_top : (top s : ℕ) → 0 < top → scaled top s ≤ 65535
scaled_top top s some =
    let least : min s top ≤ top = omega arith in
    let below = div_below (min s top * 65535) top 65536 some (omega arith) in
    omega arith

pub meaning_top : (kind : PlaneKind) (top s : ℕ) → 0 < top → top ≤ 65535 → meaning kind top s ≤ 65535
meaning_top (Mosaic cfa) top s some small = omega arith
meaning_top Rgb top s some small = scaled_top top s some

pub channels_some : (kind : PlaneKind) → 0 < channels kind
channels_some (Mosaic cfa) = omega arith
channels_some Rgb = omega arith

pub values_top : (kind : PlaneKind) (samples top count : ℕ) (raster values : List ℕ) → AreValues kind samples top count raster values → 0 < top → top ≤ 65535 → (i : ℕ) → slice_index values i ≤ 1048575
values_top kind samples top count raster values made some small i = ⊎_elim
    (λ (within : i < count * channels kind).
    let size = channels_some kind in
    let k = i / channels kind in
    let c = i % channels kind in
    let place : i ≡ k * channels kind + c = sym (div-add-mod' i (channels kind)) in
    let e = made.same k c (div_below i (channels kind) count size within) (mod_below i (channels kind) size) in
    rw (place, e) (omega (arith, meaning_top kind top (sample_at top raster (k * samples + min c (samples - 1))) some small)))
    (λ (past : count * channels kind ≤ i). rw (get_or_past values i 0 (rw made.len past)) (omega arith))
    (cases_lt i (count * channels kind))

-- values by pixel and channel, from values in a row
pub raw_are : (kind : PlaneKind) (samples top count : ℕ) (raster values : List ℕ) → channels kind ≡ 1 → samples ≡ 1 → length values ≡ count
    → ((i : ℕ) → i < count → slice_index values i ≡ meaning kind top (sample_at top raster i)) → AreValues kind samples top count raster values
raw_are kind samples top count raster values size one len same = record {
  len = len ∙ (let e : count * 1 ≡ count = omega arith in sym (ap (λ s. count * s) size ∙ e));
  same = λ i c below few.
      let times : i * channels kind ≡ i * 1 = ap (λ s. i * s) size in
      let place : i * channels kind + c ≡ i = omega (arith, times, size, few) in
      let from : i * samples + min c (samples - 1) ≡ i = rw one (omega arith) in
      rw (place, from) (same i below);
}

pub rgb_are : (kind : PlaneKind) (samples top count : ℕ) (raster values : List ℕ) → kind ≡ Rgb → samples ≡ 3 → length values ≡ count * 3
    → ((i : ℕ) → i < count * 3 → slice_index values i ≡ scaled top (sample_at top raster i)) → AreValues kind samples top count raster values
rgb_are kind samples top count raster values rgb three len same = rw (rgb, three) (record {
  len = len;
  same = λ i c below few.
      let from : i * 3 + min c 2 ≡ i * 3 + c = omega arith in
      rw from (same (i * 3 + c) (omega arith));
})

pub grey_are : (kind : PlaneKind) (samples top count : ℕ) (raster values : List ℕ) → kind ≡ Rgb → samples ≡ 1 → length values ≡ count * 3
    → ((i c : ℕ) → i < count → c < 3 → slice_index values (i * 3 + c) ≡ scaled top (sample_at top raster i)) → AreValues kind samples top count raster values
grey_are kind samples top count raster values rgb one len same = rw (rgb, one) (record {
  len = len;
  same = λ i c below few.
      let from : i * 1 + min c 0 ≡ i = omega arith in
      rw from (same i c below few);
})
