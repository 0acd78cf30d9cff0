-- sums over places and rectangles
use Rattle.std.proofs.Common.{◌≡◌, ℕ, zero, suc, ◌+◌, ◌-◌, ◌*◌, ◌/◌, ◌%◌, ◌<◌, ◌≤◌, ◌==◌, ◌⊎◌, inl, inr, Bool, true, false, List, slice_index, if◌then◌else◌, refl, sym, ap, ◌∙◌, subst, ⊎_elim, arith}
use Rattle.std.proofs.lemmas.Bool.{cases_lt}
use Rattle.px.specs.declared.kind.Cfa.{Cfa}
use Rattle.px.specs.declared.kind.PlaneKind.{PlaneKind}
use Rattle.px.specs.declared.kind.PlaneKind.TheVariants.{Mosaic, Rgb}
use Rattle.px.specs.Area.{Area, HasPixel}
use Rattle.px.specs.Kind.{channels}
use Rattle.px.specs.Means.{only, part, count_in, mean_in}
use Rattle.px.specs.Mosaic.{channel_at}
use Rattle.px.specs.Sums.{total, area_total}

pub total_same : (f g : ℕ → ℕ) (a n : ℕ) → ((i : ℕ) → a ≤ i → i < a + n → f i ≡ g i) → total f a n ≡ total g a n
total_same f g a zero same = refl
total_same f g a (suc n) same =
    let before = total_same f g a n (λ i low high. same i low (omega arith)) in
    let last = same (a + n) (omega arith) (omega arith) in
    rw (before, last) refl

pub area_same : (f g : ℕ → ℕ → ℕ) (a : Area) → ((x y : ℕ) → HasPixel a x y → f x y ≡ g x y) → area_total f a ≡ area_total g a
area_same f g a same = total_same _ _ a.x a.w (λ x left right. total_same _ _ a.y a.h (λ y top bottom.
    same x y (record { left = left; right = right; top = top; bottom = bottom })))

pub total_add : (f g : ℕ → ℕ) (a n : ℕ) → total f a n + total g a n ≡ total (λ i. f i + g i) a n
total_add f g a zero = refl
total_add f g a (suc n) = let before = total_add f g a n in omega arith

total_none : (a n : ℕ) → total (λ i. 0) a n ≡ 0
total_none a zero = refl
total_none a (suc n) = let before = total_none a n in omega arith

pub total_ones : (a n : ℕ) → total (λ i. 1) a n ≡ n
total_ones a zero = refl
total_ones a (suc n) = let before = total_ones a n in omega arith

-- a rectangle's sum row by row is its sum column by column
pub total_swap : (f : ℕ → ℕ → ℕ) (a n b m : ℕ) → total (λ x. total (f x) b m) a n ≡ total (λ y. total (λ x. f x y) a n) b m
total_swap f a zero b m = sym (total_none b m)
total_swap f a (suc n) b m =
    ap (λ s. s + total (f (a + n)) b m) (total_swap f a n b m) ∙ total_add (λ y. total (λ x. f x y) a n) (f (a + n)) b m

-- the sum along a row, its pixels two by two
pub total_pairs : (g : ℕ → ℕ) (a m : ℕ) → total g a (m * 2) ≡ total (λ k. g (a + k * 2)) 0 m + total (λ k. g (a + 1 + k * 2)) 0 m
total_pairs g a zero = refl
total_pairs g a (suc m) =
    let before = total_pairs g a m in
    let two : suc m * 2 ≡ suc (suc (m * 2)) = omega arith in
    let place : a + suc (m * 2) ≡ a + 1 + m * 2 = omega arith in
    let m0 : 0 + m ≡ m = omega arith in
    rw (two, place, m0) (omega arith)

-- the same where the pixels are an odd number: the last one is of the first kind
total_odd : (g : ℕ → ℕ) (a m : ℕ) → total g a (suc (m * 2)) ≡ total (λ k. g (a + k * 2)) 0 (suc m) + total (λ k. g (a + 1 + k * 2)) 0 m
total_odd g a m =
    let pairs = total_pairs g a m in
    let m0 : 0 + m ≡ m = omega arith in
    rw m0 (omega arith)

-- the sum along a row of n pixels, of which k are in even places and m in odd ones
pub total_halves : (g : ℕ → ℕ) (a n k m : ℕ) → n ≡ k + m → (k ≡ m) ⊎ (k ≡ suc m) → total g a n ≡ total (λ k. g (a + k * 2)) 0 k + total (λ k. g (a + 1 + k * 2)) 0 m
total_halves g a n k m whole which = ⊎_elim
    (λ (even : k ≡ m). let n_is : n ≡ m * 2 = omega arith in
    subst (λ j. total g a n ≡ total (λ k. g (a + k * 2)) 0 j + total (λ k. g (a + 1 + k * 2)) 0 m) (sym even) (ap (total g a) n_is ∙ total_pairs g a m))
    (λ (odd : k ≡ suc m). let n_is : n ≡ suc (m * 2) = omega arith in
    subst (λ j. total g a n ≡ total (λ k. g (a + k * 2)) 0 j + total (λ k. g (a + 1 + k * 2)) 0 m) (sym odd) (ap (total g a) n_is ∙ total_odd g a m))
    which

pub halves : (n : ℕ) → (n - n / 2 ≡ n / 2) ⊎ (n - n / 2 ≡ suc (n / 2))
halves n = ⊎_elim (λ (even : n % 2 < 1). inl (omega arith)) (λ (odd : 1 ≤ n % 2). inr (omega arith)) (cases_lt (n % 2) 1)

-- the sum from another place on
pub total_shift : (g : ℕ → ℕ) (a n : ℕ) → total (λ k. g (a + k)) 0 n ≡ total g a n
total_shift g a zero = refl
total_shift g a (suc n) = let n0 : 0 + n ≡ n = omega arith in rw (n0, total_shift g a n) refl

-- what counts where a test holds
pub total_pick : (t : Bool) (h : ℕ → ℕ) (a n : ℕ) → total (λ k. if t then h k else 0) a n ≡ (if t then total h a n else 0)
total_pick true h a n = refl
total_pick false h a n = total_none a n

-- along a row the channels alternate
pub alternate_even : (cfa : Cfa) (x y k : ℕ) → k % 2 ≡ 0 → channel_at cfa (x + k) y ≡ channel_at cfa x y
alternate_even cfa x y k even = let e : (x + k) % 2 ≡ x % 2 = omega arith in rw e refl

picked : (cfa : Cfa) (c : ℕ) (f : ℕ → ℕ → ℕ) (x y n : ℕ) (wanted : Bool) → wanted ≡ (channel_at cfa x y == c)
    → total (λ k. only cfa c f (x + k * 2) y) 0 n ≡ (if wanted then total (λ k. f (x + k * 2) y) 0 n else 0)
picked cfa c f x y n wanted is =
    total_same (λ k. only cfa c f (x + k * 2) y) (λ k. if wanted then f (x + k * 2) y else 0) 0 n
    (λ k low high. ap (λ t. if t then f (x + k * 2) y else 0) (ap (λ h. h == c) (alternate_even cfa x y (k * 2) (omega arith)) ∙ sym is))
    ∙ total_pick wanted (λ k. f (x + k * 2) y) 0 n

if_same : (t : Bool) (a b : ℕ) → a ≡ b → (if t then a else 0) ≡ (if t then b else 0)
if_same t a b e = ap (λ n. if t then n else 0) e

-- a channel's sum along a row of a mosaic, by its pixels in even and in odd places
pub row_of_mosaic : (cfa : Cfa) (c : ℕ) (f : ℕ → ℕ → ℕ) (x y n k m : ℕ) (first second : Bool) (row : List ℕ)
    → first ≡ (channel_at cfa x y == c) → second ≡ (channel_at cfa (x + 1) y == c)
    → ((i : ℕ) → i < n → slice_index row i ≡ f (x + i) y) → n ≡ k + m → (k ≡ m) ⊎ (k ≡ suc m)
    → (if first then total (λ k. slice_index row (0 + k * 2)) 0 k else 0) + (if second then total (λ k. slice_index row (1 + k * 2)) 0 m else 0)
    ≡ total (λ u. only cfa c f u y) x n
row_of_mosaic cfa c f x y n k m first second row one two same whole which =
    let even = total_same (λ j. slice_index row (0 + j * 2)) (λ j. f (x + j * 2) y) 0 k
    (λ j low high. let e : 0 + j * 2 ≡ j * 2 = omega arith in rw e (same (j * 2) (omega arith))) in
    let odd = total_same (λ j. slice_index row (1 + j * 2)) (λ j. f (x + 1 + j * 2) y) 0 m
    (λ j low high. let e : x + (1 + j * 2) ≡ x + 1 + j * 2 = omega arith in same (1 + j * 2) (omega arith) ∙ ap (λ u. f u y) e) in
    let a = if_same first _ _ even ∙ sym (picked cfa c f x y k first one) in
    let b = if_same second _ _ odd ∙ sym (picked cfa c f (x + 1) y m second two) in
    let all = total_halves (λ u. only cfa c f u y) x n k m whole which in
    omega (arith, a, b, all)

pub count_of_mosaic : (cfa : Cfa) (c x y n k m : ℕ) (first second : Bool)
    → first ≡ (channel_at cfa x y == c) → second ≡ (channel_at cfa (x + 1) y == c) → n ≡ k + m → (k ≡ m) ⊎ (k ≡ suc m)
    → (if first then k else 0) + (if second then m else 0) ≡ total (λ u. only cfa c (λ x y. 1) u y) x n
count_of_mosaic cfa c x y n k m first second one two whole which =
    let a = if_same first _ _ (sym (total_ones 0 k)) ∙ sym (picked cfa c (λ x y. 1) x y k first one) in
    let b = if_same second _ _ (sym (total_ones 0 m)) ∙ sym (picked cfa c (λ x y. 1) (x + 1) y m second two) in
    let all = total_halves (λ u. only cfa c (λ x y. 1) u y) x n k m whole which in
    omega (arith, a, b, all)

-- what is the same in a rectangle has the same mean there
pub part_same : (kind : PlaneKind) (at at' : ℕ → ℕ → ℕ → ℕ) (c x y : ℕ) → c < 3 → ((c : ℕ) → c < channels kind → at x y c ≡ at' x y c) → part kind at c x y ≡ part kind at' c x y
part_same (Mosaic cfa) at at' c x y few same = ap (λ n. if channel_at cfa x y == c then n else 0) (same 0 (omega arith))
part_same Rgb at at' c x y few same = same c few

pub mean_same : (kind : PlaneKind) (at at' : ℕ → ℕ → ℕ → ℕ) (c : ℕ) (a : Area) → c < 3
    → ((x y c : ℕ) → HasPixel a x y → c < channels kind → at x y c ≡ at' x y c) → mean_in kind at c a ≡ mean_in kind at' c a
mean_same kind at at' c a few same =
    ap (λ n. n / count_in kind c a) (area_same (part kind at c) (part kind at' c) a (λ x y inside. part_same kind at at' c x y few (λ d below. same x y d inside below)))
