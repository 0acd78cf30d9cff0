-- sharpen
use Rattle.std.specs.Prelude.{ℕ, pos, ◌+ℤ◌, ◌-ℤ◌, ◌*ℤ◌, List, [], ◌∷◌}
use Rattle.px.specs.Number.{floor_div, clamp}
use Rattle.px.specs.Picture.{Picture}
use Rattle.local_modules.specs.Blurring.{blurred}

-- a value, and what it has above its blurred value once more, in 1/4096 of the amount
abbrev pub sharpened : ℕ → ℕ → ℕ → ℕ
sharpened amount v b = clamp (pos v +ℤ floor_div ((pos v -ℤ pos b) *ℤ pos amount) 4096)

-- red, green and blue of a pixel sharpened against a blurred one
abbrev pub sharpened_pixel : ℕ → (ℕ → ℕ) → (ℕ → ℕ) → List ℕ
sharpened_pixel amount v b = sharpened amount (v 0) (b 0) ∷ sharpened amount (v 1) (b 1) ∷ sharpened amount (v 2) (b 2) ∷ []

-- each value of the picture sharpened against the mean of its window
abbrev pub sharpened_picture : ℕ → ℕ → Picture → Picture
sharpened_picture r amount q = record { kind = q.kind; w = q.w; h = q.h; at = λ x y c. sharpened amount (q.at x y c) (blurred r q.w q.h q.at x y c) }
