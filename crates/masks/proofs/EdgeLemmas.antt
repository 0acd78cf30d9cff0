-- how far an ellipse covers the pixels of a line
use Rattle.std.proofs.Common.{◌≡◌, ℕ, ◌+◌, ◌-◌, ◌*◌, ◌/◌, ◌<◌, ◌≤◌, arith}
use Rattle.std.proofs.lemmas.Bool.Decides.{nat_tests}
use Rattle.std.proofs.Math.Nat.{div-lt_iff_lt-mul, le-div_iff_mul-le}
use Rattle.masks.specs.declared.edge.Edge.{Edge}
use Rattle.masks.specs.declared.lines.Line.{Line}
use Rattle.masks.specs.Coverage.{faded}
use Rattle.masks.specs.Lines.{far_at, ellipse_at, IsEdge}
use Rattle.masks.proofs.ConvexLemmas.{rises, falls, between_ends}
use Rattle.masks.proofs.LineLemmas.{far_convex}

faded_whole : (feather e : ℕ) → e ≤ 65536 → faded feather e ≡ 65536
faded_whole feather e h = grind (arith, nat_tests)

faded_none : (feather e : ℕ) → 0 < feather → 65536 + feather ≤ e → faded feather e ≡ 0
faded_none feather e some h = grind (arith, nat_tests)

-- so far out is inside of the ellipse, and so far is outside of the feather
pub record IsInside (e : Edge) (far : ℕ) : Type 0 where
  pub less : far * 65536 < e.rim * 65537

pub record IsOutside (e : Edge) (far : ℕ) : Type 0 where
  pub most : e.rim * (65536 + e.feather) ≤ far * 65536

inside_whole : (e : Edge) (far : ℕ) → IsEdge e → IsInside e far → faded e.feather (65536 * far / e.rim) ≡ 65536
inside_whole e far small inside =
    let below : 65536 * far / e.rim < 65537 = (div-lt_iff_lt-mul small.rim_some).1 (omega arith) in
    faded_whole e.feather _ (omega arith)

outside_none : (e : Edge) (far : ℕ) → IsEdge e → IsOutside e far → faded e.feather (65536 * far / e.rim) ≡ 0
outside_none e far small outside =
    let above : 65536 + e.feather ≤ 65536 * far / e.rim = (le-div_iff_mul-le small.rim_some).1 (omega arith) in
    faded_none e.feather _ small.feather_some above

-- a line that is inside at both ends is inside in between
pub inside_between : (l : Line) (e : Edge) (from to : ℕ) → IsEdge e → far_at l e.a e.b from * 65536 < e.rim * 65537 → far_at l e.a e.b to * 65536 < e.rim * 65537
    → (k : ℕ) → from ≤ k → k < to → ellipse_at l e k ≡ 65536
inside_between l e from to small first last k low high =
    inside_whole e (far_at l e.a e.b k) small
    (between_ends (far_at l e.a e.b) (far_convex l e.a e.b) (IsInside e) (λ m n le h. record { less = let g = h.less in omega arith }) from k to low high (record { less = first }) (record { less = last }))

-- one that is outside and doesn't come nearer stays outside
pub outside_after : (l : Line) (e : Edge) (from : ℕ) → IsEdge e → e.rim * (65536 + e.feather) ≤ far_at l e.a e.b from * 65536 → far_at l e.a e.b from ≤ far_at l e.a e.b (from + 1)
    → (k : ℕ) → from ≤ k → ellipse_at l e k ≡ 0
outside_after l e from small first up k low =
    let far = rises (far_at l e.a e.b) (far_convex l e.a e.b) from k up low in
    outside_none e (far_at l e.a e.b k) small (record { most = omega arith })

-- and so was one that has come nearer
pub outside_before : (l : Line) (e : Edge) (to : ℕ) → IsEdge e → 0 < to → e.rim * (65536 + e.feather) ≤ far_at l e.a e.b to * 65536 → far_at l e.a e.b to ≤ far_at l e.a e.b (to - 1)
    → (k : ℕ) → k < to → ellipse_at l e k ≡ 0
outside_before l e to small some last down k high =
    let same : to - 1 + 1 ≡ to = omega arith in
    let far : far_at l e.a e.b to ≤ far_at l e.a e.b k = rw same at (falls (far_at l e.a e.b) (far_convex l e.a e.b) k (to - 1) (omega arith) (rw same down)) in
    outside_none e (far_at l e.a e.b k) small (record { most = omega arith })
