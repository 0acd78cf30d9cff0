-- distances from a mask's place along a line of pixels
use Rattle.std.specs.Prelude.{◌≡◌, ℕ, ◌+◌, ◌*◌, ◌/◌, ◌^◌, ◌<◌, ◌≤◌, List, slice_index, ℤ, pos, ◌+ℤ◌, ◌*ℤ◌, neg_ℤ, unsigned_abs, if◌then◌else◌}
use Rattle.px.specs.declared.trace.Trace.{Trace}
use Rattle.px.specs.Trace.{Traces}
use Rattle.masks.specs.declared.edge.Edge.{Edge}
use Rattle.masks.specs.declared.lines.Line.{Line}
use Rattle.masks.specs.Coverage.{offset, along, across, far_out, faded}

-- how far one pixel to the right leads in the source: to which side, and then how many half columns and half rows
abbrev pub step : ℕ → ℕ
step level = 2 * 2 ^ level

abbrev pub step_across : Trace → ℤ
step_across t = if t.swap then pos 0 else (if t.flip_x then neg_ℤ (pos (step t.level)) else pos (step t.level))

abbrev pub step_down : Trace → ℤ
step_down t = if t.swap then (if t.flip_y then neg_ℤ (pos (step t.level)) else pos (step t.level)) else pos 0

-- the distance of pixel k of the line along the mask's direction, and across it
abbrev pub along_at : Line → ℕ → ℤ
along_at l k = l.along +ℤ pos k *ℤ l.along_step

abbrev pub across_at : Line → ℕ → ℤ
across_at l k = l.across +ℤ pos k *ℤ l.across_step

-- so small that no product overflows
pub record IsSmallLine (l : Line) : Type 0 where
  pub along : unsigned_abs l.along ≤ 17179869184
  pub across : unsigned_abs l.across ≤ 17179869184
  pub along_step : unsigned_abs l.along_step ≤ 1048576
  pub across_step : unsigned_abs l.across_step ≤ 1048576

-- the line goes to the right from pixel (x, y), by the distances from the place (cx, cy) along and across the direction (ux, uy)
pub record IsLineOf (t : Trace) (w h cx cy : ℕ) (ux uy : ℤ) (x y : ℕ) (l : Line) : Type 0 where
  pub along_is : (k u v : ℕ) → Traces t (x + k) y u v → along_at l k ≡ along (offset w cx t.level u) (offset h cy t.level v) ux uy
  pub across_is : (k u v : ℕ) → Traces t (x + k) y u v → across_at l k ≡ across (offset w cx t.level u) (offset h cy t.level v) ux uy

-- how far out pixel k of the line is
abbrev pub far_at : Line → ℕ → ℕ → ℕ → ℕ
far_at l a b k = far_out (along_at l k) (across_at l k) a b

-- an ellipse's numbers, so small that no product overflows
pub record IsEdge (e : Edge) : Type 0 where
  pub a : e.a ≤ 65536
  pub b : e.b ≤ 65536
  pub feather_some : 0 < e.feather
  pub feather : e.feather ≤ 65536
  pub rim_some : 0 < e.rim
  pub rim : e.rim ≤ 2 ^ 85
  pub shift : e.guess.shift < 128

-- how far an ellipse covers pixel k of the line
abbrev pub ellipse_at : Line → Edge → ℕ → ℕ
ellipse_at l e k = faded e.feather (65536 * far_at l e.a e.b k / e.rim)

-- the first n values are those of the line's pixels, by f
pub record IsFilled (f : ℕ → ℕ) (n : ℕ) (row : List ℕ) : Type 0 where
  pub same : (k : ℕ) → k < n → slice_index row k ≡ f k

-- the values from one place up to another are those of f, and those before are as they were
pub record IsFilledFrom (f : ℕ → ℕ) (from to : ℕ) (old new : List ℕ) : Type 0 where
  pub here : (k : ℕ) → from ≤ k → k < to → slice_index new k ≡ f k
  pub before : (k : ℕ) → k < from → slice_index new k ≡ slice_index old k
