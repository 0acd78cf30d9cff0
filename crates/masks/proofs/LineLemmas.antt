-- lines of pixels
use Rattle.std.proofs.Common.{◌≡◌, ℕ, ◌+◌, ◌*◌, ◌^◌, Bool, true, false, sym, ap, ◌∙◌, add-one, arith}
use Rattle.std.specs.Prelude.{ℤ, pos, ◌+ℤ◌, ◌-ℤ◌, ◌*ℤ◌, neg_ℤ, if◌then◌else◌}
use Rattle.std.proofs.lemmas.Int.{ints}
use Rattle.std.proofs.Math.IntN.{suc_ℤ-*ℤ, *ℤ_comm, *ℤ-zero}
use Rattle.px.specs.declared.trace.Trace.{Trace}
use Rattle.px.specs.Trace.{counted, Traces}
use Rattle.masks.specs.declared.lines.Line.{Line}
use Rattle.masks.specs.Coverage.{position, offset, along, across, squared}
use Rattle.masks.specs.Lines.{step, step_across, step_down, far_at, IsLineOf}
use Rattle.masks.proofs.ConvexLemmas.{IsConvex}
use Rattle.masks.proofs.NumberLemmas.{times-add, times_steps, square_is, square-add}

-- ---- products spread over sums

times-spread : (u a b : ℤ) → u *ℤ (a +ℤ b) ≡ u *ℤ a +ℤ u *ℤ b
times-spread u a b = *ℤ_comm u (a +ℤ b) ∙ (times-add a b u ∙ (λ i. *ℤ_comm a u i +ℤ *ℤ_comm b u i))

times-less : (u a b : ℤ) → u *ℤ (a -ℤ b) ≡ u *ℤ a -ℤ u *ℤ b
times-less u a b =
    let whole : (a -ℤ b) +ℤ b ≡ a = omega (arith, ints) in
    let spread = times-spread u (a -ℤ b) b in
    let same = ap (λ z. u *ℤ z) whole in
    omega (arith, ints)

times-back : (u m : ℤ) → u *ℤ neg_ℤ m ≡ neg_ℤ (u *ℤ m)
times-back u m =
    let whole : neg_ℤ m +ℤ m ≡ pos 0 = omega (arith, ints) in
    let spread = times-spread u (neg_ℤ m) m in
    let same = ap (λ z. u *ℤ z) whole in
    let none = *ℤ-zero u in
    omega (arith, ints)

-- ---- one pixel further

place_more : (p n k : ℕ) → (2 * (n + k) + 1) * p ≡ (2 * n + 1) * p + k * (2 * p)
place_more p n k = omega arith

further : (flip : Bool) (add : ℤ) (n k u v level : ℕ) → counted add flip n ≡ pos u → counted add flip (n + k) ≡ pos v
    → pos (position level v) ≡ pos (position level u) +ℤ pos k *ℤ (if flip then neg_ℤ (pos (step level)) else pos (step level))
further false add n k u v level a b =
    let more : v ≡ u + k = omega (arith, ints, a, b) in
    rw more (ap pos (place_more (2 ^ level) u k))
further true add n k u v level a b =
    let more : u ≡ v + k = omega (arith, ints, a, b) in
    let place = place_more (2 ^ level) v k in
    let back = times-back (pos k) (pos (step level)) in
    rw more (omega (arith, ints))

beside : (add : ℤ) (flip : Bool) (n u v k level : ℕ) → counted add flip n ≡ pos u → counted add flip n ≡ pos v → pos (position level v) ≡ pos (position level u) +ℤ pos k *ℤ pos 0
beside add flip n u v k level a b =
    let same : v ≡ u = omega (arith, ints, a, b) in
    let none = *ℤ-zero (pos k) in
    rw same (omega (arith, ints))

column_further : (swap flip : Bool) (add : ℤ) (x y k u v level : ℕ) → counted add flip (if swap then y else x) ≡ pos u → counted add flip (if swap then y else x + k) ≡ pos v
    → pos (position level v) ≡ pos (position level u) +ℤ pos k *ℤ (if swap then pos 0 else (if flip then neg_ℤ (pos (step level)) else pos (step level)))
column_further true flip add x y k u v level a b = beside add flip y u v k level a b
column_further false flip add x y k u v level a b = further flip add x k u v level a b

row_further : (swap flip : Bool) (add : ℤ) (x y k u v level : ℕ) → counted add flip (if swap then x else y) ≡ pos u → counted add flip (if swap then x + k else y) ≡ pos v
    → pos (position level v) ≡ pos (position level u) +ℤ pos k *ℤ (if swap then (if flip then neg_ℤ (pos (step level)) else pos (step level)) else pos 0)
row_further true flip add x y k u v level a b = further flip add x k u v level a b
row_further false flip add x y k u v level a b = beside add flip y u v k level a b

offset_further : (side at level u v : ℕ) (steps : ℤ) → pos (position level v) ≡ pos (position level u) +ℤ steps → offset side at level v ≡ offset side at level u +ℤ steps
offset_further side at level u v steps e = omega (arith, ints)

-- ---- distances along and across

along_further : (x y dx dy ux uy : ℤ) (k : ℕ) → along (x +ℤ pos k *ℤ dx) (y +ℤ pos k *ℤ dy) ux uy ≡ along x y ux uy +ℤ pos k *ℤ along dx dy ux uy
along_further x y dx dy ux uy k =
    let a = times-add x (pos k *ℤ dx) ux in
    let b = times_steps k dx ux in
    let c = times-add y (pos k *ℤ dy) uy in
    let d = times_steps k dy uy in
    let e = times-spread (pos k) (dx *ℤ ux) (dy *ℤ uy) in
    omega (arith, ints)

across_further : (x y dx dy ux uy : ℤ) (k : ℕ) → across (x +ℤ pos k *ℤ dx) (y +ℤ pos k *ℤ dy) ux uy ≡ across x y ux uy +ℤ pos k *ℤ across dx dy ux uy
across_further x y dx dy ux uy k =
    let a = times-add y (pos k *ℤ dy) ux in
    let b = times_steps k dy ux in
    let c = times-add x (pos k *ℤ dx) uy in
    let d = times_steps k dx uy in
    let e = times-less (pos k) (dy *ℤ ux) (dx *ℤ uy) in
    omega (arith, ints)

-- a line by its first pixel and its steps
pub line_is : (t : Trace) (w h cx cy : ℕ) (ux uy : ℤ) (x y u v : ℕ) (l : Line) → Traces t x y u v
    → l.along ≡ along (offset w cx t.level u) (offset h cy t.level v) ux uy → l.across ≡ across (offset w cx t.level u) (offset h cy t.level v) ux uy
    → l.along_step ≡ along (step_across t) (step_down t) ux uy → l.across_step ≡ across (step_across t) (step_down t) ux uy
    → IsLineOf t w h cx cy ux uy x y l
line_is t w h cx cy ux uy x y u v l here along_is across_is along_step across_step =
    let column : (k u' v' : ℕ) → Traces t (x + k) y u' v' → offset w cx t.level u' ≡ offset w cx t.level u +ℤ pos k *ℤ step_across t =
    (λ k u' v' there. offset_further w cx t.level u u' (pos k *ℤ step_across t) (column_further t.swap t.flip_x t.add_x x y k u u' t.level here.column there.column)) in
    let row : (k u' v' : ℕ) → Traces t (x + k) y u' v' → offset h cy t.level v' ≡ offset h cy t.level v +ℤ pos k *ℤ step_down t =
    (λ k u' v' there. offset_further h cy t.level v v' (pos k *ℤ step_down t) (row_further t.swap t.flip_y t.add_y x y k v v' t.level here.row there.row)) in
    record {
      along_is = λ k u' v' there. sym (
          (λ i. along (column k u' v' there i) (row k u' v' there i) ux uy)
          ∙ (along_further (offset w cx t.level u) (offset h cy t.level v) (step_across t) (step_down t) ux uy k
          ∙ (λ i. sym along_is i +ℤ pos k *ℤ sym along_step i)));
      across_is = λ k u' v' there. sym (
          (λ i. across (column k u' v' there i) (row k u' v' there i) ux uy)
          ∙ (across_further (offset w cx t.level u) (offset h cy t.level v) (step_across t) (step_down t) ux uy k
          ∙ (λ i. sym across_is i +ℤ pos k *ℤ sym across_step i)));
    }

-- ---- how far out a line's pixels are

second_of : (a0 a1 a2 s x y : ℤ) (n0 n1 n2 m : ℕ) → a0 ≡ pos n0 → a1 ≡ pos n1 → a2 ≡ pos n2 → s ≡ pos m
    → a1 ≡ a0 +ℤ (x +ℤ x) +ℤ s → a2 ≡ a1 +ℤ (y +ℤ y) +ℤ s → y ≡ x +ℤ s → n0 + n2 ≡ 2 * n1 + 2 * m
second_of a0 a1 a2 s x y n0 n1 n2 m e0 e1 e2 es up next more = omega (arith, ints)

step_more : (z s : ℤ) (k : ℕ) → z +ℤ pos (k + 1) *ℤ s ≡ (z +ℤ pos k *ℤ s) +ℤ s
step_more z s k =
    let e : pos (k + 1) *ℤ s ≡ pos k *ℤ s +ℤ s = ap (λ n. pos n *ℤ s) (add-one k) ∙ suc_ℤ-*ℤ (pos k) s in
    omega (arith, ints)

squares_bend : (z s : ℤ) (k : ℕ) → squared (z +ℤ pos k *ℤ s) + squared (z +ℤ pos (k + 2) *ℤ s) ≡ 2 * squared (z +ℤ pos (k + 1) *ℤ s) + 2 * squared s
squares_bend z s k =
    let z0 = z +ℤ pos k *ℤ s in
    let z1 = z +ℤ pos (k + 1) *ℤ s in
    let z2 = z +ℤ pos (k + 2) *ℤ s in
    let e1 : z1 ≡ z0 +ℤ s = step_more z s k in
    let two : k + 2 ≡ k + 1 + 1 = omega arith in
    let e2 : z2 ≡ z1 +ℤ s = ap (λ n. z +ℤ pos n *ℤ s) two ∙ step_more z s (k + 1) in
    second_of (z0 *ℤ z0) (z1 *ℤ z1) (z2 *ℤ z2) (s *ℤ s) (z0 *ℤ s) (z1 *ℤ s) (squared z0) (squared z1) (squared z2) (squared s)
    (square_is z0) (square_is z1) (square_is z2) (square_is s)
    ((λ i. e1 i *ℤ e1 i) ∙ square-add z0 s) ((λ i. e2 i *ℤ e2 i) ∙ square-add z1 s) (ap (λ n. n *ℤ s) e1 ∙ times-add z0 s s)

weighed_bend : (n0 n1 n2 m w : ℕ) → n0 + n2 ≡ 2 * n1 + 2 * m → n0 * w + n2 * w ≡ 2 * (n1 * w) + 2 * (m * w)
weighed_bend n0 n1 n2 m w e = let f : (n0 + n2) * w ≡ (2 * n1 + 2 * m) * w = ap (λ n. n * w) e in omega arith

bends_add : (a0 a1 a2 s b0 b1 b2 t : ℕ) → a0 + a2 ≡ 2 * a1 + 2 * s → b0 + b2 ≡ 2 * b1 + 2 * t → (a0 + b0) + (a2 + b2) ≡ 2 * (a1 + b1) + (2 * s + 2 * t)
bends_add a0 a1 a2 s b0 b1 b2 t e f = omega arith

-- along a line the pixels are first nearer and nearer, then further and further out
pub far_convex : (l : Line) (a b : ℕ) → IsConvex (far_at l a b)
far_convex l a b = record {
  bend = 2 * (squared l.along_step * (b * b)) + 2 * (squared l.across_step * (a * a));
  second = λ k. bends_add _ _ _ (squared l.along_step * (b * b)) _ _ _ (squared l.across_step * (a * a))
      (weighed_bend _ _ _ (squared l.along_step) (b * b) (squares_bend l.along l.along_step k))
      (weighed_bend _ _ _ (squared l.across_step) (a * a) (squares_bend l.across l.across_step k));
}
