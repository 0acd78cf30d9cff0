-- sums over windows that move
use Rattle.std.proofs.Common.{◌≡◌, ℕ, zero, suc, ◌+◌, ◌-◌, ◌*◌, ◌/◌, ◌<◌, ◌≤◌, min, List, [], ◌∷◌, length, slice_index, refl, sym, ap, ◌∙◌, arith}
use Rattle.px.specs.Cut.{Cut, value_at}
use Rattle.px.specs.declared.kind.PlaneKind.TheVariants.{Rgb}
use Rattle.px.specs.Kind.{channels}
use Rattle.px.specs.Sums.{total}
use Rattle.px.proofs.SumLemmas.{total_same}
use Rattle.std.proofs.lemmas.Nat.{mul-le}
use Rattle.local_modules.specs.Blurring.{blurred}
use Rattle.local_modules.specs.Running.{flat, between, AreColumns, channel}

-- the first term apart
pub total_first : (f : ℕ → ℕ) (a n : ℕ) → total f a (suc n) ≡ f a + total f (a + 1) n
total_first f a zero = let e : a + 0 ≡ a = omega arith in rw e (omega arith)
total_first f a (suc n) =
    let before = total_first f a n in
    let e : a + 1 + n ≡ a + suc n = omega arith in
    rw (before, e) (omega arith)

-- a window without its first place
pub between_less : (f : ℕ → ℕ) (a b : ℕ) → a < b → between f a b ≡ f a + between f (a + 1) b
between_less f a b h =
    let e : b - a ≡ suc (b - (a + 1)) = omega arith in
    rw e (total_first f a (b - (a + 1)))

-- a window with a place more
pub between_more : (f : ℕ → ℕ) (a b : ℕ) → a ≤ b → between f a (b + 1) ≡ between f a b + f b
between_more f a b h =
    let e : b + 1 - a ≡ suc (b - a) = omega arith in
    let place : a + (b - a) ≡ b = omega arith in
    rw e (ap (λ n. total f a (b - a) + f n) place)

pub total_small : (f : ℕ → ℕ) (a n m : ℕ) → ((i : ℕ) → a ≤ i → i < a + n → f i ≤ m) → total f a n ≤ n * m
total_small f a zero m h = omega arith
total_small f a (suc n) m h =
    let before = total_small f a n m (λ i low high. h i low (omega arith)) in
    let last = h (a + n) (omega arith) (omega arith) in
    omega (arith, before, last)

pub total_shift : (f : ℕ → ℕ) (lo a n : ℕ) → total (λ j. f (lo + j)) a n ≡ total f (lo + a) n
total_shift f lo a zero = refl
total_shift f lo a (suc n) =
    let before = total_shift f lo a n in
    let e : lo + (a + n) ≡ lo + a + n = omega arith in
    rw (before, e) refl

pub columns_less : (p : Cut) (lo n a b : ℕ) (sums row new : List ℕ) → AreColumns p lo n a b sums → a < b → length new ≡ length sums
    → ((i : ℕ) → i < n → slice_index row i ≡ flat p lo a i)
    → ((i : ℕ) → i < length sums → slice_index new i + slice_index row i ≡ slice_index sums i)
    → AreColumns p lo n (a + 1) b new
columns_less p lo n a b sums row new was some len is taken = record {
  len = len ∙ was.len;
  same = λ i h.
      let t = taken i (omega (arith, was.len)) in
      let s = was.same i h in
      let r = is i h in
      let m = between_less (λ v. flat p lo v i) a b some in
      omega (arith, t, s, r, m);
}

pub columns_hold : (p : Cut) (lo n a b : ℕ) (sums row : List ℕ) → AreColumns p lo n a b sums → a < b
    → ((i : ℕ) → i < n → slice_index row i ≡ flat p lo a i) → (i : ℕ) → i < length sums → slice_index row i ≤ slice_index sums i
columns_hold p lo n a b sums row was some is i h =
    let below : i < n = omega (arith, was.len) in
    let s = was.same i below in
    let r = is i below in
    let m = between_less (λ v. flat p lo v i) a b some in
    omega (arith, s, r, m)

pub columns_more : (p : Cut) (lo n a b : ℕ) (sums row new : List ℕ) → AreColumns p lo n a b sums → a ≤ b → length new ≡ length sums
    → ((i : ℕ) → i < n → slice_index row i ≡ flat p lo b i)
    → ((i : ℕ) → i < length sums → slice_index new i ≡ slice_index sums i + slice_index row i)
    → AreColumns p lo n a (b + 1) new
columns_more p lo n a b sums row new was some len is added = record {
  len = len ∙ was.len;
  same = λ i h.
      let t = added i (omega (arith, was.len)) in
      let s = was.same i h in
      let r = is i h in
      let m = between_more (λ v. flat p lo v i) a b some in
      omega (arith, t, s, r, m);
}

-- each sum is small
pub columns_small : (p : Cut) (lo n a b : ℕ) (sums : List ℕ) → ((i : ℕ) → slice_index p.values i ≤ 1048575) → AreColumns p lo n a b sums
    → (i : ℕ) → i < n → slice_index sums i ≤ (b - a) * 1048575
columns_small p lo n a b sums top was i h =
    let s = was.same i h in
    let m = total_small (λ v. flat p lo v i) a (b - a) 1048575 (λ v low high. top _) in
    omega (arith, s, m)

pub between_small : (sums : List ℕ) (k a b m : ℕ) → ((i : ℕ) → slice_index sums i ≤ m) → between (channel sums k) a b ≤ (b - a) * m
between_small sums k a b m h = total_small (channel sums k) a (b - a) m (λ j low high. h (j * 3 + k))

place_is : (p : Cut) (lo v j c : ℕ) → p.kind ≡ Rgb → p.area.x ≤ lo → flat p lo v (j * 3 + c) ≡ value_at p (lo + j) v c
place_is p lo v j c rgb left =
    let size : channels p.kind ≡ 3 = ap channels rgb in
    let e : ((v - p.area.y) * p.area.w + (lo - p.area.x)) * 3 + (j * 3 + c) ≡ ((v - p.area.y) * p.area.w + (lo + j - p.area.x)) * 3 + c =
    let s : lo + j - p.area.x ≡ lo - p.area.x + j = omega arith in rw s (omega arith) in
    ap (slice_index p.values) (e ∙ ap (λ n. ((v - p.area.y) * p.area.w + (lo + j - p.area.x)) * n + c) (sym size))

-- the sums of three channels along a row, in places counted from column lo, are those of the picture
pub box_sum : (p : Cut) (lo n a b x e c : ℕ) (sums : List ℕ) → p.kind ≡ Rgb → p.area.x ≤ lo → c < 3 → AreColumns p lo n a b sums → lo ≤ x → x ≤ e → (e - lo) * 3 ≤ n
    → between (channel sums c) (x - lo) (e - lo) ≡ total (λ u. total (λ v. value_at p u v c) a (b - a)) x (e - x)
box_sum p lo n a b x e c sums rgb left small was low order fits =
    let count : e - lo - (x - lo) ≡ e - x = omega arith in
    let start : lo + (x - lo) ≡ x = omega arith in
    let g = λ (u : ℕ). total (λ v. value_at p u v c) a (b - a) in
    rw count (total_same (channel sums c) (λ j. g (lo + j)) (x - lo) (e - x) (λ j from to.
    was.same (j * 3 + c) (omega arith) ∙ total_same (λ v. flat p lo v (j * 3 + c)) (λ v. value_at p (lo + j) v c) a (b - a) (λ v top bottom. place_is p lo v j c rgb left))
    ∙ (total_shift g lo (x - lo) (e - x) ∙ ap (λ s. total g s (e - x)) start))

-- a box has a value at least
pub some_in_box : (a b : ℕ) → 0 < a → 0 < b → 0 < a * b
some_in_box a b h k = omega (arith, mul-le 1 1 a b h k)

-- and not more than a divisor may be
pub few_in_box : (a b : ℕ) → a ≤ 129 → b ≤ 129 → a * b ≤ 4194304
few_in_box a b h k = omega (arith, mul-le a b 129 129 h k)

pub box_small : (p : Cut) (lo n a b f t c : ℕ) (sums : List ℕ) → ((i : ℕ) → slice_index p.values i ≤ 1048575) → c < 3 → AreColumns p lo n a b sums → f ≤ t → t * 3 ≤ n
    → between (channel sums c) f t ≤ (t - f) * (b - a) * 1048575
box_small p lo n a b f t c sums top small was order fits =
    let m = total_small (channel sums c) f (t - f) ((b - a) * 1048575) (λ j from to. columns_small p lo n a b sums top was (j * 3 + c) (omega arith)) in
    omega (arith, m)

-- the running mean is the mean of the box
pub blurred_is : (p : Cut) (r w h lo n a b x y c from to : ℕ) (sums : List ℕ) → p.kind ≡ Rgb → p.area.x ≤ lo → c < 3 → AreColumns p lo n a b sums
    → a ≡ y - r → b ≡ min (y + r + 1) h → lo ≤ x - r → x < w → lo + from ≡ x - r → lo + to ≡ min (x + r + 1) w → to * 3 ≤ n
    → between (channel sums c) from to / ((to - from) * (b - a)) ≡ blurred r w h (value_at p) x y c
blurred_is p r w h lo n a b x y c from to sums rgb left small was a_is b_is low right from_is to_is fits =
    let f : from ≡ (x - r) - lo = omega arith in
    let t : to ≡ min (x + r + 1) w - lo = omega arith in
    let count : to - from ≡ min (x + r + 1) w - (x - r) = omega arith in
    let s : between (channel sums c) from to ≡ total (λ u. total (λ v. value_at p u v c) a (b - a)) (x - r) (min (x + r + 1) w - (x - r)) =
    rw (f, t) (box_sum p lo n a b (x - r) (min (x + r + 1) w) c sums rgb left small was low (omega arith) (omega arith)) in
    ap (λ n. n / ((to - from) * (b - a))) s ∙ rw (count, b_is, a_is) refl

pub three_small : (a b c : ℕ) → a ≤ 1048575 → b ≤ 1048575 → c ≤ 1048575 → (i : ℕ) → slice_index (a ∷ b ∷ c ∷ []) i ≤ 1048575
three_small a b c ha hb hc zero = ha
three_small a b c ha hb hc (suc zero) = hb
three_small a b c ha hb hc (suc (suc zero)) = hc
three_small a b c ha hb hc (suc (suc (suc i))) = omega arith

pub of_three : (a b c a' b' c' : ℕ) → a ≡ a' → b ≡ b' → c ≡ c' → a ∷ b ∷ c ∷ [] ≡ a' ∷ b' ∷ c' ∷ []
of_three a b c a' b' c' e f g = rw (e, f, g) refl

-- what `mean` gives is the mean of the box
pub mean_is : (p : Cut) (r w h lo n a b x y c from to sum cols rows result : ℕ) (sums : List ℕ) → p.kind ≡ Rgb → p.area.x ≤ lo → c < 3 → AreColumns p lo n a b sums
    → a ≡ y - r → b ≡ min (y + r + 1) h → lo ≤ x - r → x < w → lo + from ≡ x - r → lo + to ≡ min (x + r + 1) w → to * 3 ≤ n
    → sum ≡ between (channel sums c) from to → cols ≡ to - from → rows ≡ b - a → result ≡ sum / (cols * rows)
    → result ≡ blurred r w h (value_at p) x y c
mean_is p r w h lo n a b x y c from to sum cols rows result sums rgb left small was a_is b_is low right from_is to_is fits s k l e =
    let made = blurred_is p r w h lo n a b x y c from to sums rgb left small was a_is b_is low right from_is to_is fits in
    rw (e, s, k, l) made

pub mean_small : (p : Cut) (lo n a b f t c sum cols rows : ℕ) (sums : List ℕ) → ((i : ℕ) → slice_index p.values i ≤ 1048575) → c < 3 → AreColumns p lo n a b sums → f ≤ t → t * 3 ≤ n
    → sum ≡ between (channel sums c) f t → cols ≡ t - f → rows ≡ b - a → sum ≤ cols * rows * 1048575
mean_small p lo n a b f t c sum cols rows sums top small was order fits s k l = rw (s, k, l) (box_small p lo n a b f t c sums top small was order fits)
