-- each colour of a mosaic lies in any two of its columns and rows
use Rattle.std.proofs.Common.{◌≡◌, ℕ, zero, suc, ◌+◌, ◌-◌, ◌%◌, ◌<◌, ◌≤◌, ◌==◌, if◌then◌else◌, lit<, lit≤, ap, subst, arith}
use Rattle.px.specs.declared.kind.Cfa.{Cfa}
use Rattle.px.specs.declared.kind.Colour.{Colour}
use Rattle.px.specs.declared.kind.Colour.TheVariants.{R, G, B}
use Rattle.px.specs.declared.kind.PlaneKind.{PlaneKind}
use Rattle.px.specs.declared.kind.PlaneKind.TheVariants.{Mosaic, Rgb}
use Rattle.px.specs.Area.{Area}
use Rattle.px.specs.Kind.{least_side}
use Rattle.px.specs.Means.{only, count_in}
use Rattle.px.specs.Mosaic.{channel, channel_by}
use Rattle.px.specs.Sums.{total}
use Rattle.px.proofs.RowLemmas.{three}
use Rattle.modules_raw.proofs.NineLemmas.{shapes}

pub channel_few : (c : Colour) → channel c < 3
channel_few R = lit< tt
channel_few G = lit< tt
channel_few B = lit< tt

total_more : (f : ℕ → ℕ) (a n k : ℕ) → total f a n ≤ total f a (k + n)
total_more f a n zero = let e : 0 + n ≡ n = omega arith in rw e (omega arith)
total_more f a n (suc k) = let e : suc k + n ≡ suc (k + n) = omega arith in rw e (omega (arith, total_more f a n k))

total_one : (f : ℕ → ℕ) (a n : ℕ) → 1 ≤ n → f a ≤ total f a n
total_one f a n some =
    let e : n - 1 + 1 ≡ n = omega arith in
    let z : a + 0 ≡ a = omega arith in
    let first : f (a + 0) ≡ f a = ap f z in
    let more : 0 + f (a + 0) ≤ total f a n = subst (λ m. total f a 1 ≤ total f a m) e (total_more f a 1 (n - 1)) in
    omega arith

total_two : (f : ℕ → ℕ) (a n : ℕ) → 2 ≤ n → f a + f (a + 1) ≤ total f a n
total_two f a n some =
    let e : n - 2 + 2 ≡ n = omega arith in
    let z : a + 0 ≡ a = omega arith in
    let first : f (a + 0) ≡ f a = ap f z in
    let more : 0 + f (a + 0) + f (a + 1) ≤ total f a n = subst (λ m. total f a 2 ≤ total f a m) e (total_more f a 2 (n - 2)) in
    omega arith

-- one of four channels is c
abbrev pub found : ℕ → ℕ → ℕ → ℕ → ℕ → ℕ
found c own side under corner = (if own == c then 1 else 0) + (if under == c then 1 else 0) + ((if side == c then 1 else 0) + (if corner == c then 1 else 0))

each_found : (c : ℕ) → c < 3 → (cfa : Cfa) (p q : ℕ) → p < 2 → q < 2
    → 0 < found c (channel_by cfa p q) (channel_by cfa (1 - p) q) (channel_by cfa p (1 - q)) (channel_by cfa (1 - p) (1 - q))
each_found c few = shapes (λ own side under corner. 0 < found c own side under corner)
    (three (λ c. 0 < found c 1 0 2 1) (lit< tt) (lit< tt) (lit< tt) c few)
    (three (λ c. 0 < found c 1 2 0 1) (lit< tt) (lit< tt) (lit< tt) c few)
    (three (λ c. 0 < found c 0 1 1 2) (lit< tt) (lit< tt) (lit< tt) c few)
    (three (λ c. 0 < found c 2 1 1 0) (lit< tt) (lit< tt) (lit< tt) c few)

each_near : (cfa : Cfa) (c x y : ℕ) → c < 3
    → 0 < only cfa c (λ x y. 1) x y + only cfa c (λ x y. 1) x (y + 1) + (only cfa c (λ x y. 1) (x + 1) y + only cfa c (λ x y. 1) (x + 1) (y + 1))
each_near cfa c x y few =
    let column : 1 - x % 2 ≡ (x + 1) % 2 = omega arith in
    let row : 1 - y % 2 ≡ (y + 1) % 2 = omega arith in
    subst (λ q. 0 < found c (channel_by cfa (x % 2) (y % 2)) (channel_by cfa ((x + 1) % 2) (y % 2)) (channel_by cfa (x % 2) q) (channel_by cfa ((x + 1) % 2) q)) row
    (subst (λ p. 0 < found c (channel_by cfa (x % 2) (y % 2)) (channel_by cfa p (y % 2)) (channel_by cfa (x % 2) (1 - y % 2)) (channel_by cfa p (1 - y % 2))) column
    (each_found c few cfa (x % 2) (y % 2) (omega arith) (omega arith)))

pub least_two : (kind : PlaneKind) → least_side kind ≤ 2
least_two (Mosaic cfa) = lit≤ tt
least_two Rgb = lit≤ tt

-- a rectangle of two columns and rows has each colour of a mosaic, and any has each channel of what is RGB
pub each_colour : (kind : PlaneKind) (c : ℕ) (a : Area) → c < 3 → least_side kind ≤ a.w → least_side kind ≤ a.h → 0 < count_in kind c a
each_colour (Mosaic cfa) c a few wide high =
    let f = only cfa c (λ x y. 1) in
    let columns = total_two (λ x. total (f x) a.y a.h) a.x a.w wide in
    let left = total_two (f a.x) a.y a.h high in
    let right = total_two (f (a.x + 1)) a.y a.h high in
    let some = each_near cfa c a.x a.y few in
    omega (arith, columns, left, right, some)
each_colour Rgb c a few wide high =
    let columns = total_one (λ x. total (λ y. 1) a.y a.h) a.x a.w wide in
    let rows = total_one (λ y. 1) a.y a.h high in
    omega (arith, columns, rows)
