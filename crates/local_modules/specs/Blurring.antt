-- box blur
use Rattle.std.specs.Prelude.{ℕ, ◌+◌, ◌-◌, ◌*◌, ◌/◌, min}
use Rattle.px.specs.Area.{Area}
use Rattle.px.specs.Picture.{Picture}
use Rattle.px.specs.Sums.{area_total}

-- the columns and rows within r of a pixel, as far as they lie in the whole picture
abbrev pub window : ℕ → ℕ → ℕ → ℕ → ℕ → Area
window r w h x y = record { x = x - r; y = y - r; w = min (x + r + 1) w - (x - r); h = min (y + r + 1) h - (y - r) }

-- the mean of a channel over a rectangle, rounded down
abbrev pub mean_over : (ℕ → ℕ → ℕ → ℕ) → ℕ → Area → ℕ
mean_over at c a = area_total (λ x y. at x y c) a / (a.w * a.h)

-- the mean of the window of a pixel
abbrev pub blurred : ℕ → ℕ → ℕ → (ℕ → ℕ → ℕ → ℕ) → ℕ → ℕ → ℕ → ℕ
blurred r w h at x y c = mean_over at c (window r w h x y)

-- each value of the picture the mean of its window
abbrev pub blurred_picture : ℕ → Picture → Picture
blurred_picture r q = record { kind = q.kind; w = q.w; h = q.h; at = blurred r q.w q.h q.at }
