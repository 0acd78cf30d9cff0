-- the nine pixels of a window
use Rattle.std.proofs.Common.{◌≡◌, ℕ, zero, suc, ◌+◌, ◌-◌, ◌/◌, ◌%◌, ◌<◌, ◌==◌, min, Bool, true, false, [], ◌∷◌, if◌then◌else◌, refl, sym, ap, ◌∙◌, arith}
use Rattle.std.proofs.lemmas.Bool.{ne_eqb}
use Rattle.px.specs.declared.kind.Cfa.{Cfa}
use Rattle.px.specs.declared.kind.Cfa.TheVariants.{Rggb, Bggr, Grbg, Gbrg}
use Rattle.px.specs.Sums.{area_total}
use Rattle.px.specs.declared.kind.PlaneKind.TheVariants.{Mosaic}
use Rattle.px.specs.Means.{only, sum_in, count_in}
use Rattle.px.specs.Mosaic.{channel_by, channel_at}
use Rattle.modules_raw.specs.Demosaic.{window, demosaiced}
use Rattle.modules_raw.specs.Rowwise.{inner}

-- which channels a pixel, the one beside it, the one below and the one at its corner have
pub shapes : (P : ℕ → ℕ → ℕ → ℕ → Type 0) → P 1 0 2 1 → P 1 2 0 1 → P 0 1 1 2 → P 2 1 1 0 → (cfa : Cfa) (p q : ℕ) → p < 2 → q < 2
    → P (channel_by cfa p q) (channel_by cfa (1 - p) q) (channel_by cfa p (1 - q)) (channel_by cfa (1 - p) (1 - q))
shapes P a b r s Rggb zero zero hp hq = r
shapes P a b r s Rggb (suc zero) zero hp hq = a
shapes P a b r s Rggb zero (suc zero) hp hq = b
shapes P a b r s Rggb (suc zero) (suc zero) hp hq = s
shapes P a b r s Bggr zero zero hp hq = s
shapes P a b r s Bggr (suc zero) zero hp hq = b
shapes P a b r s Bggr zero (suc zero) hp hq = a
shapes P a b r s Bggr (suc zero) (suc zero) hp hq = r
shapes P a b r s Grbg zero zero hp hq = a
shapes P a b r s Grbg (suc zero) zero hp hq = r
shapes P a b r s Grbg zero (suc zero) hp hq = s
shapes P a b r s Grbg (suc zero) (suc zero) hp hq = b
shapes P a b r s Gbrg zero zero hp hq = b
shapes P a b r s Gbrg (suc zero) zero hp hq = s
shapes P a b r s Gbrg zero (suc zero) hp hq = r
shapes P a b r s Gbrg (suc zero) (suc zero) hp hq = a
shapes P a b r s cfa (suc (suc n)) q hp hq = absurd (omega arith)
shapes P a b r s cfa p (suc (suc n)) hp hq = absurd (omega arith)

-- a value that counts where a test holds
abbrev pub pick : Bool → ℕ → ℕ
pick t v = if t then v else 0

pick_add : (t : Bool) (a b : ℕ) → pick t a + pick t b ≡ pick t (a + b)
pick_add true a b = refl
pick_add false a b = refl

-- the sum over nine pixels, by the four kinds of them
pub sum_of_nine : (cfa : Cfa) (c : ℕ) (v : ℕ → ℕ → ℕ) (X Y own side under corner : ℕ)
    → channel_at cfa (X + 1) (Y + 1) ≡ own
    → channel_at cfa X (Y + 1) ≡ side → channel_at cfa (X + 2) (Y + 1) ≡ side
    → channel_at cfa (X + 1) Y ≡ under → channel_at cfa (X + 1) (Y + 2) ≡ under
    → channel_at cfa X Y ≡ corner → channel_at cfa (X + 2) Y ≡ corner → channel_at cfa X (Y + 2) ≡ corner → channel_at cfa (X + 2) (Y + 2) ≡ corner
    → area_total (only cfa c v) (record { x = X; y = Y; w = 3; h = 3 })
    ≡ pick (own == c) (v (X + 1) (Y + 1)) + pick (side == c) (v X (Y + 1) + v (X + 2) (Y + 1)) + pick (under == c) (v (X + 1) Y + v (X + 1) (Y + 2))
    + pick (corner == c) (v X Y + v (X + 2) Y + (v X (Y + 2) + v (X + 2) (Y + 2)))
sum_of_nine cfa c v X Y own side under corner o s1 s2 u1 u2 c1 c2 c3 c4 =
    let x0 : X + 0 ≡ X = omega arith in
    let y0 : Y + 0 ≡ Y = omega arith in
    let a1 = pick_add (side == c) (v X (Y + 1)) (v (X + 2) (Y + 1)) in
    let a2 = pick_add (under == c) (v (X + 1) Y) (v (X + 1) (Y + 2)) in
    let a3 = pick_add (corner == c) (v X Y) (v (X + 2) Y) in
    let a4 = pick_add (corner == c) (v X (Y + 2)) (v (X + 2) (Y + 2)) in
    let a5 = pick_add (corner == c) (v X Y + v (X + 2) Y) (v X (Y + 2) + v (X + 2) (Y + 2)) in
    rw (x0, y0, o, s1, s2, u1, u2, c1, c2, c3, c4) (omega arith)

-- two places on, a pixel has the same parity
two_on : (x : ℕ) → (x + 2) % 2 ≡ x % 2
two_on x = omega arith

one_on : (x : ℕ) → x % 2 ≡ 1 - (x + 1) % 2
one_on x = omega arith

window_inside : (w h X Y : ℕ) → X + 2 < w → Y + 2 < h → window w h (X + 1) (Y + 1) ≡ record { x = X; y = Y; w = 3; h = 3 }
window_inside w h X Y right below =
    let x : X + 1 - 1 ≡ X = omega arith in
    let y : Y + 1 - 1 ≡ Y = omega arith in
    let ww : min (X + 1 + 2) w - X ≡ 3 = omega arith in
    let hh : min (Y + 1 + 2) h - Y ≡ 3 = omega arith in
    rw (x, y, ww, hh) refl

-- all channels of a pixel, by the channels round it
pub record IsAt (own side v beside along corners : ℕ) (sum count : ℕ → ℕ) : Type 0 where
  pub same : inner own side v beside along corners
      ≡ (if own == 0 then v else sum 0 / count 0) ∷ (if own == 1 then v else sum 1 / count 1) ∷ (if own == 2 then v else sum 2 / count 2) ∷ []

abbrev pub by_kind : ℕ → ℕ → ℕ → ℕ → ℕ → ℕ → ℕ → ℕ → ℕ → ℕ
by_kind own side under corner v beside along corners c = pick (own == c) v + pick (side == c) beside + pick (under == c) along + pick (corner == c) corners

at_shape : (v beside along corners : ℕ) (cfa : Cfa) (p q : ℕ) → p < 2 → q < 2 →
    IsAt (channel_by cfa p q) (channel_by cfa (1 - p) q) v beside along corners
    (by_kind (channel_by cfa p q) (channel_by cfa (1 - p) q) (channel_by cfa p (1 - q)) (channel_by cfa (1 - p) (1 - q)) v beside along corners)
    (by_kind (channel_by cfa p q) (channel_by cfa (1 - p) q) (channel_by cfa p (1 - q)) (channel_by cfa (1 - p) (1 - q)) 1 2 2 4)
at_shape v beside along corners = shapes
    (λ own side under corner. IsAt own side v beside along corners (by_kind own side under corner v beside along corners) (by_kind own side under corner 1 2 2 4))
    (record { same = let e0 : 0 + beside + 0 + 0 ≡ beside = omega arith in let e2 : 0 + 0 + along + 0 ≡ along = omega arith in rw (e0, e2) refl })
    (record { same = let e0 : 0 + beside + 0 + 0 ≡ beside = omega arith in let e2 : 0 + 0 + along + 0 ≡ along = omega arith in rw (e0, e2) refl })
    (record { same = let e1 : 0 + beside + along + 0 ≡ beside + along = omega arith in let e2 : 0 + 0 + 0 + corners ≡ corners = omega arith in rw (e1, e2) refl })
    (record { same = let e1 : 0 + beside + along + 0 ≡ beside + along = omega arith in let e2 : 0 + 0 + 0 + corners ≡ corners = omega arith in rw (e1, e2) refl })

of_three : (a b c a' b' c' : ℕ) → a ≡ a' → b ≡ b' → c ≡ c' → a ∷ b ∷ c ∷ [] ≡ a' ∷ b' ∷ c' ∷ []
of_three a b c a' b' c' e f g = rw (e, f, g) refl

-- a pixel with all its neighbours is as defined
pub inner_is : (cfa : Cfa) (w h : ℕ) (at : ℕ → ℕ → ℕ → ℕ) (X Y : ℕ) → X + 2 < w → Y + 2 < h
    → inner (channel_at cfa (X + 1) (Y + 1)) (channel_at cfa X (Y + 1)) (at (X + 1) (Y + 1) 0)
    (at X (Y + 1) 0 + at (X + 2) (Y + 1) 0) (at (X + 1) Y 0 + at (X + 1) (Y + 2) 0)
    (at X Y 0 + at (X + 2) Y 0 + (at X (Y + 2) 0 + at (X + 2) (Y + 2) 0))
    ≡ demosaiced cfa w h at (X + 1) (Y + 1) 0 ∷ demosaiced cfa w h at (X + 1) (Y + 1) 1 ∷ demosaiced cfa w h at (X + 1) (Y + 1) 2 ∷ []
inner_is cfa w h at X Y right below =
    let p = (X + 1) % 2 in
    let q = (Y + 1) % 2 in
    let x : X % 2 ≡ 1 - p = one_on X in
    let y : Y % 2 ≡ 1 - q = one_on Y in
    let x2 : (X + 2) % 2 ≡ 1 - p = two_on X ∙ x in
    let y2 : (Y + 2) % 2 ≡ 1 - q = two_on Y ∙ y in
    let sums : (c : ℕ) (v : ℕ → ℕ → ℕ) → area_total (only cfa c v) (record { x = X; y = Y; w = 3; h = 3 }) ≡ by_kind (channel_by cfa p q) (channel_by cfa (1 - p) q) (channel_by cfa p (1 - q)) (channel_by cfa (1 - p) (1 - q))
    (v (X + 1) (Y + 1)) (v X (Y + 1) + v (X + 2) (Y + 1)) (v (X + 1) Y + v (X + 1) (Y + 2)) (v X Y + v (X + 2) Y + (v X (Y + 2) + v (X + 2) (Y + 2))) c =
    λ c v. sum_of_nine cfa c v X Y _ _ _ _ refl
    (ap (λ n. channel_by cfa n q) x) (ap (λ n. channel_by cfa n q) x2) (ap (λ n. channel_by cfa p n) y) (ap (λ n. channel_by cfa p n) y2)
    (ap (λ n. channel_by cfa n (Y % 2)) x ∙ ap (λ n. channel_by cfa (1 - p) n) y)
    (ap (λ n. channel_by cfa n (Y % 2)) x2 ∙ ap (λ n. channel_by cfa (1 - p) n) y)
    (ap (λ n. channel_by cfa n ((Y + 2) % 2)) x ∙ ap (λ n. channel_by cfa (1 - p) n) y2)
    (ap (λ n. channel_by cfa n ((Y + 2) % 2)) x2 ∙ ap (λ n. channel_by cfa (1 - p) n) y2) in
    let own = channel_by cfa p q in
    let side = channel_by cfa (1 - p) q in
    let under = channel_by cfa p (1 - q) in
    let corner = channel_by cfa (1 - p) (1 - q) in
    let v = at (X + 1) (Y + 1) 0 in
    let beside = at X (Y + 1) 0 + at (X + 2) (Y + 1) 0 in
    let along = at (X + 1) Y 0 + at (X + 1) (Y + 2) 0 in
    let corners = at X Y 0 + at (X + 2) Y 0 + (at X (Y + 2) 0 + at (X + 2) (Y + 2) 0) in
    let is : (c : ℕ) → demosaiced cfa w h at (X + 1) (Y + 1) c
    ≡ (if own == c then v else by_kind own side under corner v beside along corners c / by_kind own side under corner 1 2 2 4 c) =
    λ c. ap (λ a. if own == c then v else sum_in (Mosaic cfa) at c a / count_in (Mosaic cfa) c a) (window_inside w h X Y right below)
    ∙ (ap (λ n. if own == c then v else n / count_in (Mosaic cfa) c (record { x = X; y = Y; w = 3; h = 3 })) (sums c (λ x y. at x y 0))
    ∙ ap (λ n. if own == c then v else by_kind own side under corner v beside along corners c / n) (sums c (λ x y. 1))) in
    ap (λ n. inner own n v beside along corners) (ap (λ n. channel_by cfa n q) x)
    ∙ ((at_shape v beside along corners cfa p q (omega arith) (omega arith)).same ∙ sym (of_three _ _ _ _ _ _ (is 0) (is 1) (is 2)))

pub otherwise : (own c x y : ℕ) → (own ≡ c → ⊥) → (if own == c then x else y) ≡ y
otherwise own c x y ne = let t = ne_eqb own c ne in rw t refl
