-- rows whose values are changed by their colours alone
use Rattle.std.proofs.Common.{◌≡◌, ◌≢◌, ℕ, zero, suc, ◌+◌, ◌*◌, ◌/◌, ◌%◌, ◌<◌, ◌≤◌, List, [], ◌∷◌, length, set, slice_index, get_or-set_other, get_or-set_same, refl, sym, ap, ◌∙◌, subst, ⊎_elim, arith}
use Rattle.std.proofs.Math.ListN.{length-set}
use Rattle.std.proofs.lemmas.Nat.{div-add-mod', div_below, mod_below, mul-add-lt}
use Rattle.std.proofs.lemmas.Bool.{cases_lt}
use Rattle.std.proofs.lemmas.List.{get_or_past}
use Rattle.px.specs.declared.kind.Cfa.{Cfa}
use Rattle.px.specs.declared.kind.PlaneKind.TheVariants.{Mosaic, Rgb}
use Rattle.px.specs.Area.{HasPixel}
use Rattle.px.specs.Cut.{Cut, IsCutOf, value_at}
use Rattle.px.specs.Kind.{channels}
use Rattle.px.specs.Mosaic.{channel_at, channel_by, channel_in}
use Rattle.px.specs.Painted.{IsRow}
use Rattle.px.specs.Picture.{Picture, pixel_by, pixel_of}
use Rattle.px.proofs.PaintedLemmas.{channel_of_pixel}
use Rattle.px.proofs.PixelLemmas.{IsOwnRow, own_value, pixel_top, pixel_by_same}
use Rattle.px.proofs.RowLemmas.{AddsPixel, three, value_fits}
use Rattle.modules_raw.specs.Mapped.{mapped, AreChanged, IsInTurn, IsMapped, second_in, third_in}

two : (P : ℕ → Type 0) → P 0 → P 1 → (c : ℕ) → c < 2 → P c
two P a b zero h = a
two P a b (suc zero) h = b
two P a b (suc (suc n)) h = absurd (omega arith)

-- two writes, one after another, at the places of a group
pub adds_two : (k at : ℕ) (row answer : List ℕ) → at ≡ k * 2 → at + 2 ≤ length row
    → AddsPixel 2 k row answer (set (set row at (slice_index answer 0)) (at + 1) (slice_index answer 1))
adds_two k at row answer e fits =
    let s0 = set row at (slice_index answer 0) in
    let l0 = length-set {A = ℕ} row at (slice_index answer 0) in
    let row' = set s0 (at + 1) (slice_index answer 1) in
    let other : (i : ℕ) → i ≢ at → i ≢ at + 1 → slice_index row' i ≡ slice_index row i = (λ i n0 n1. get_or-set_other s0 (at + 1) i _ 0 n1 ∙ get_or-set_other row at i _ 0 n0) in
    record {
      before = λ i h. other i (omega arith) (omega arith);
      here = two (λ c. slice_index row' (k * 2 + c) ≡ slice_index answer c)
          (let i : k * 2 + 0 ≡ at = omega arith in rw i (get_or-set_other s0 (at + 1) at _ 0 (omega arith) ∙ get_or-set_same row at _ 0 (omega arith)))
          (let i : k * 2 + 1 ≡ at + 1 = omega arith in rw i (get_or-set_same s0 (at + 1) _ 0 (omega arith)));
      after = λ i h. other i (omega arith) (omega arith);
    }

-- a further group is changed
changed_more : (size k : ℕ) (f : ℕ → ℕ → ℕ) (from row answer row' : List ℕ) → AreChanged size k f from row
    → ((c : ℕ) → c < size → slice_index answer c ≡ f c (slice_index from (k * size + c))) → ((c : ℕ) → c < size → slice_index answer c ≤ 1048575)
    → AddsPixel size k row answer row' → AreChanged size (k + 1) f from row'
changed_more size k f from row answer row' was is top adds = record {
  values = λ j c h d. ⊎_elim
      (λ (below : j < k). adds.before (j * size + c) (omega (arith, mul-add-lt j size c k below d)) ∙ was.values j c below d)
      (λ (past : k ≤ j). let j_is : j ≡ k = omega arith in rw j_is (adds.here c d ∙ is c d))
      (cases_lt j k);
  top = λ j c h d. ⊎_elim
      (λ (below : j < k). rw (adds.before (j * size + c) (omega (arith, mul-add-lt j size c k below d))) (was.top j c below d))
      (λ (past : k ≤ j). let j_is : j ≡ k = omega arith in rw (j_is, adds.here c d) (top c d))
      (cases_lt j k);
}

pub pairs_more : (f g : ℕ → ℕ) (k : ℕ) (from row row' : List ℕ) (a b : ℕ) → AreChanged 2 k (second_in f g) from row
    → a ≡ f (slice_index from (k * 2)) → b ≡ g (slice_index from (k * 2 + 1)) → a ≤ 1048575 → b ≤ 1048575
    → AddsPixel 2 k row (a ∷ b ∷ []) row' → AreChanged 2 (k + 1) (second_in f g) from row'
pairs_more f g k from row row' a b was a_is b_is a_top b_top adds =
    let first : k * 2 ≡ k * 2 + 0 = omega arith in
    changed_more 2 k (second_in f g) from row (a ∷ b ∷ []) row' was
    (two (λ c. slice_index (a ∷ b ∷ []) c ≡ second_in f g c (slice_index from (k * 2 + c))) (a_is ∙ ap (λ i. f (slice_index from i)) first) b_is)
    (two (λ c. slice_index (a ∷ b ∷ []) c ≤ 1048575) a_top b_top) adds

pub threes_more : (f g h : ℕ → ℕ) (k : ℕ) (from row row' : List ℕ) (a b d : ℕ) → AreChanged 3 k (third_in f g h) from row
    → a ≡ f (slice_index from (k * 3)) → b ≡ g (slice_index from (k * 3 + 1)) → d ≡ h (slice_index from (k * 3 + 2)) → a ≤ 1048575 → b ≤ 1048575 → d ≤ 1048575
    → AddsPixel 3 k row (a ∷ b ∷ d ∷ []) row' → AreChanged 3 (k + 1) (third_in f g h) from row'
threes_more f g h k from row row' a b d was a_is b_is d_is a_top b_top d_top adds =
    let first : k * 3 ≡ k * 3 + 0 = omega arith in
    changed_more 3 k (third_in f g h) from row (a ∷ b ∷ d ∷ []) row' was
    (three (λ c. slice_index (a ∷ b ∷ d ∷ []) c ≡ third_in f g h c (slice_index from (k * 3 + c))) (a_is ∙ ap (λ i. f (slice_index from i)) first) b_is d_is)
    (three (λ c. slice_index (a ∷ b ∷ d ∷ []) c ≤ 1048575) a_top b_top d_top) adds

-- a value of a row that is changed in groups
changed_at : (size n i : ℕ) (f : ℕ → ℕ → ℕ) (from row : List ℕ) → AreChanged size n f from row → 0 < size → i < n * size → slice_index row i ≡ f (i % size) (slice_index from i)
changed_at size n i f from row are some below =
    let place : i / size * size + i % size ≡ i = div-add-mod' i size in
    subst (λ k. slice_index row k ≡ f (i % size) (slice_index from k)) place (are.values (i / size) (i % size) (div_below i size n some below) (mod_below i size some))

changed_top : (size n i : ℕ) (f : ℕ → ℕ → ℕ) (from row : List ℕ) → AreChanged size n f from row → 0 < size → i < n * size → slice_index row i ≤ 1048575
changed_top size n i f from row are some below =
    let place : i / size * size + i % size ≡ i = div-add-mod' i size in
    subst (λ k. slice_index row k ≤ 1048575) place (are.top (i / size) (i % size) (div_below i size n some below) (mod_below i size some))

-- a row of whole groups
pub turn_of_groups : (size n : ℕ) (f : ℕ → ℕ → ℕ) (from row : List ℕ) → AreChanged size n f from row → 0 < size → length from ≡ n * size → IsInTurn size f from row
turn_of_groups size n f from row are some len = record {
  values = λ i below. changed_at size n i f from row are some (omega (arith, len, below));
  top = λ i below. changed_top size n i f from row are some (omega (arith, len, below));
}

-- a row of pairs and one value more
pub turn_with_last : (n last v : ℕ) (f : ℕ → ℕ → ℕ) (from row : List ℕ) → AreChanged 2 n f from row → length from ≡ n * 2 + 1 → length row ≡ length from → last ≡ n * 2
    → v ≡ f 0 (slice_index from last) → v ≤ 1048575 → IsInTurn 2 f from (set row last v)
turn_with_last n last v f from row are len row_len last_is v_is top = record {
  values = λ i below. ⊎_elim
      (λ (before : i < n * 2). get_or-set_other row last i v 0 (omega (arith, last_is)) ∙ changed_at 2 n i f from row are (omega arith) before)
      (λ (past : n * 2 ≤ i). let here : i ≡ last = omega arith in let even : i % 2 ≡ 0 = omega (arith, last_is) in
      rw (even, here) (get_or-set_same row last v 0 (omega arith) ∙ v_is))
      (cases_lt i (n * 2));
  top = λ i below. ⊎_elim
      (λ (before : i < n * 2). rw (get_or-set_other row last i v 0 (omega (arith, last_is))) (changed_top 2 n i f from row are (omega arith) before))
      (λ (past : n * 2 ≤ i). let here : i ≡ last = omega arith in rw (here, get_or-set_same row last v 0 (omega arith)) top)
      (cases_lt i (n * 2));
}

-- the channels of a mosaic's row are two in turn
pub turn_of_mosaic : (cfa : Cfa) (x y i v : ℕ) (makes : ℕ → ℕ → ℕ) (f g : ℕ → ℕ) → f v ≡ makes (channel_at cfa x y) v → g v ≡ makes (channel_at cfa (x + 1) y) v
    → second_in f g (i % 2) v ≡ makes (channel_at cfa (x + i) y) v
turn_of_mosaic cfa x y i v makes f g first second = ⊎_elim
    (λ (even : i % 2 < 1). let c : i % 2 ≡ 0 = omega arith in let column : x % 2 ≡ (x + i) % 2 = omega arith in
    rw c (first ∙ ap (λ p. makes (channel_by cfa p (y % 2)) v) column))
    (λ (odd : 1 ≤ i % 2). let c : i % 2 ≡ 1 = omega arith in let column : (x + 1) % 2 ≡ (x + i) % 2 = omega arith in
    rw c (second ∙ ap (λ p. makes (channel_by cfa p (y % 2)) v) column))
    (cases_lt (i % 2) 1)

-- those of an RGB row are three
pub turn_of_rgb : (i v : ℕ) (makes : ℕ → ℕ → ℕ) (f g h : ℕ → ℕ) → f v ≡ makes 0 v → g v ≡ makes 1 v → h v ≡ makes 2 v → third_in f g h (i % 3) v ≡ makes (i % 3) v
turn_of_rgb i v makes f g h red green blue = three (λ c. third_in f g h c v ≡ makes c v) red green blue (i % 3) (mod_below i 3 (omega arith))

-- each value of the row is what is made of the old one and its channel
pub record IsMade (p : Cut) (makes : ℕ → ℕ → ℕ) (x y n : ℕ) (from row : List ℕ) : Type 0 where
  pub values : (k c : ℕ) → k < n → c < channels p.kind → slice_index row (k * channels p.kind + c) ≡ makes (channel_in p.kind (x + k) y c) (slice_index from (k * channels p.kind + c))
  pub top : (i : ℕ) → slice_index row i ≤ 1048575

pub mapped_row : (p : Cut) (makes : ℕ → ℕ → ℕ) (x y n : ℕ) (from row : List ℕ) → IsOwnRow p x y n from → p.area.x ≤ x
    → IsMade p makes x y n from row → IsRow (IsMapped p makes) x y (channels p.kind) n row
mapped_row p makes x y n from row own left made = record {
  pixels = λ k below.
      let f : ℕ → ℕ = λ c. makes (channel_in p.kind (x + k) y c) (value_at p (x + k) y c) in
      let one : (c : ℕ) → c < channels p.kind → f c ≡ slice_index row (k * channels p.kind + c) =
      λ c few. sym (made.values k c below few ∙ ap (makes (channel_in p.kind (x + k) y c)) (own_value p x y n k c from own left below few)) in
      record {
        answer = pixel_by p.kind f;
        given = record { pixel = refl; top = pixel_top p.kind f (λ c few. rw (one c few) (made.top (k * channels p.kind + c))) };
        same = λ c few. channel_of_pixel p.kind f c few ∙ one c few;
      };
  top = made.top;
}

pub row_top : (row : List ℕ) (n : ℕ) → length row ≡ n → ((i : ℕ) → i < n → slice_index row i ≤ 1048575) → (i : ℕ) → slice_index row i ≤ 1048575
row_top row n len top i = ⊎_elim
    (λ (within : i < n). top i within)
    (λ (past : n ≤ i). rw (get_or_past row i 0 (rw len past)) (omega arith))
    (cases_lt i n)

pub made_of_mosaic : (p : Cut) (cfa : Cfa) (makes : ℕ → ℕ → ℕ) (x y n : ℕ) (from row : List ℕ) → p.kind ≡ Mosaic cfa → length from ≡ n * channels p.kind → length row ≡ length from
    → ((i : ℕ) → i < length from → slice_index row i ≡ makes (channel_at cfa (x + i) y) (slice_index from i))
    → ((i : ℕ) → i < length from → slice_index row i ≤ 1048575) → IsMade p makes x y n from row
made_of_mosaic p cfa makes x y n from row mosaic len same values top = record {
  values = λ k c below few.
      let size : channels p.kind ≡ 1 = ap channels mosaic in
      let times : k * channels p.kind ≡ k * 1 = ap (λ s. k * s) size in
      let all : n * channels p.kind ≡ n * 1 = ap (λ s. n * s) size in
      let place : k * channels p.kind + c ≡ k = omega (arith, times, size, few) in
      let kind : channel_in p.kind (x + k) y c ≡ channel_at cfa (x + k) y = ap (λ t. channel_in t (x + k) y c) mosaic in
      ap (slice_index row) place ∙ (values k (omega (arith, len, all))
      ∙ (ap (λ t. makes t (slice_index from k)) (sym kind) ∙ ap (λ i. makes (channel_in p.kind (x + k) y c) (slice_index from i)) (sym place)));
  top = row_top row (length from) same top;
}

pub made_of_rgb : (p : Cut) (makes : ℕ → ℕ → ℕ) (x y n : ℕ) (from row : List ℕ) → p.kind ≡ Rgb → length from ≡ n * channels p.kind → length row ≡ length from
    → ((i : ℕ) → i < length from → slice_index row i ≡ makes (i % 3) (slice_index from i))
    → ((i : ℕ) → i < length from → slice_index row i ≤ 1048575) → IsMade p makes x y n from row
made_of_rgb p makes x y n from row rgb len same values top = record {
  values = λ k c below few.
      let size : channels p.kind ≡ 3 = ap channels rgb in
      let times : k * channels p.kind ≡ k * 3 = ap (λ s. k * s) size in
      let i = k * channels p.kind + c in
      let channel : i % 3 ≡ c = omega (arith, times, size, few) in
      let kind : channel_in p.kind (x + k) y c ≡ c = ap (λ t. channel_in t (x + k) y c) rgb in
      values i (rw len (value_fits k n (channels p.kind) c below few)) ∙ ap (λ t. makes t (slice_index from i)) (channel ∙ sym kind);
  top = row_top row (length from) same top;
}

-- a changed pixel of a plane is that of each picture that it is a cut of
pub mapped_of_cut : (p : Cut) (q : Picture) (makes : ℕ → ℕ → ℕ) (x y : ℕ) (r : List ℕ) → IsCutOf q p → HasPixel p.area x y → IsMapped p makes x y r → r ≡ pixel_of (mapped makes q) x y
mapped_of_cut p q makes x y r part inside is =
    is.pixel ∙ (ap (λ k. pixel_by k (λ c. makes (channel_in k x y c) (value_at p x y c))) part.kind
    ∙ pixel_by_same q.kind (λ c. makes (channel_in q.kind x y c) (value_at p x y c)) (λ c. makes (channel_in q.kind x y c) (q.at x y c))
    (λ c few. ap (makes (channel_in q.kind x y c)) (part.same x y c inside few)))
