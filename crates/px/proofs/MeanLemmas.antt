-- sums along rows of planes
use Rattle.std.proofs.Common.{◌≡◌, ℕ, suc, ◌+◌, ◌*◌, ◌<◌, ◌≤◌, List, slice_index, refl, sym, ap, ◌∙◌, subst, arith}
use Rattle.px.specs.declared.kind.PlaneKind.{PlaneKind}
use Rattle.px.specs.declared.kind.PlaneKind.TheVariants.{Rgb}
use Rattle.px.specs.Area.{Area}
use Rattle.px.specs.Cut.{Cut, value_at}
use Rattle.px.specs.Kind.{channels}
use Rattle.px.specs.Means.{part, sum_in}
use Rattle.px.specs.Sums.{total}
use Rattle.px.proofs.PixelLemmas.{IsOwnRow, own_value}
use Rattle.px.proofs.SumLemmas.{total_same, total_shift, total_ones, total_swap}

pub two_sums : (a b a' b' s : ℕ) → a ≡ a' → b ≡ b' → a' + b' ≡ s → a + b ≡ s
two_sums a b a' b' s first second both = omega arith

pub row_of_rgb : (p : Cut) (c x y n : ℕ) (row : List ℕ) → p.kind ≡ Rgb → IsOwnRow p x y n row → p.area.x ≤ x → c < 3
    → total (λ k. slice_index row (c + k * 3)) 0 n ≡ total (λ u. part p.kind (value_at p) c u y) x n
row_of_rgb p c x y n row rgb own left few =
    let size : channels p.kind ≡ 3 = ap channels rgb in
    subst (λ k. total (λ k. slice_index row (c + k * 3)) 0 n ≡ total (λ u. part k (value_at p) c u y) x n) (sym rgb)
    (total_same (λ k. slice_index row (c + k * 3)) (λ k. value_at p (x + k) y c) 0 n
    (λ k low high. let e : c + k * 3 ≡ k * channels p.kind + c = omega (arith, ap (λ s. k * s) size) in
    ap (slice_index row) e ∙ own_value p x y n k c row own left (omega arith) (omega arith))
    ∙ total_shift (λ u. value_at p u y c) x n)

pub count_of_rgb : (kind : PlaneKind) (c x y n : ℕ) → kind ≡ Rgb → n ≡ total (λ u. part kind (λ x y c. 1) c u y) x n
count_of_rgb kind c x y n rgb = subst (λ k. n ≡ total (λ u. part k (λ x y c. 1) c u y) x n) (sym rgb) (sym (total_ones x n))

-- the sum of a rectangle, row by row
pub sum_by_rows : (kind : PlaneKind) (at : ℕ → ℕ → ℕ → ℕ) (c : ℕ) (a : Area) (x y w h sum : ℕ) → x ≡ a.x → y ≡ a.y → w ≡ a.w → h ≡ a.h
    → sum ≡ total (λ v. total (λ u. part kind at c u v) x w) y h → sum ≡ sum_in kind at c a
sum_by_rows kind at c a x y w h sum x_is y_is w_is h_is e =
    e ∙ (ap (λ n. total (λ v. total (λ u. part kind at c u v) n w) y h) x_is
    ∙ (ap (λ n. total (λ v. total (λ u. part kind at c u v) a.x n) y h) w_is
    ∙ (ap (λ n. total (λ v. total (λ u. part kind at c u v) a.x a.w) n h) y_is
    ∙ (ap (λ n. total (λ v. total (λ u. part kind at c u v) a.x a.w) a.y n) h_is
    ∙ sym (total_swap (part kind at c) a.x a.w a.y a.h)))))

pub total_step : (g : ℕ → ℕ) (a j sum part : ℕ) → sum ≡ total g a j → part ≡ g (a + j) → sum + part ≡ total g a (j + 1)
total_step g a j sum part before last = let e : j + 1 ≡ suc j = omega arith in rw (e, before, last) refl
