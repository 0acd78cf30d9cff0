-- blending a module's output with its input
use Rattle.std.specs.Prelude.{ℕ, ◌+◌, ◌*◌, ◌/◌, ◌<◌, ◌≡◌, ℤ, pos, ◌+ℤ◌, ◌-ℤ◌, ◌*ℤ◌, min, max, unsigned_abs, Option, Some, None}
use Rattle.params.specs.declared.blending.Blend.{Blend}
use Rattle.params.specs.declared.blending.Mode.{Mode}
use Rattle.params.specs.declared.blending.Mode.TheVariants.{Normal, Multiply, Screen, Lighten, Darken, Add, Subtract, Difference, Average}
use Rattle.px.specs.Area.{Area, HasPixel}
use Rattle.px.specs.Cover.{CoverSeen, cover_at}
use Rattle.px.specs.Cut.{Cut, value_at}
use Rattle.px.specs.Number.{floor_div, clamp}
use Rattle.px.specs.Picture.{Picture}

-- the product of two values, where white times white is white
abbrev pub product : ℕ → ℕ → ℕ
product i m = i * m / 65535

-- what a mode makes of the input's value i and the output's value m, before it is mixed with i
abbrev pub laid_over : Mode → ℕ → ℕ → ℤ
laid_over Normal i m = pos m
laid_over Multiply i m = pos (product i m)
laid_over Screen i m = pos i +ℤ pos m -ℤ pos (product i m)
laid_over Lighten i m = pos (max i m)
laid_over Darken i m = pos (min i m)
laid_over Add i m = pos i +ℤ pos m
laid_over Subtract i m = pos i -ℤ pos m
laid_over Difference i m = pos (unsigned_abs (pos i -ℤ pos m))
laid_over Average i m = pos ((i + m) / 2)

-- how much the result goes from the input to what the mode makes, in 1/65536
abbrev pub alpha : ℕ → ℕ → ℕ
alpha opacity coverage = opacity * coverage / 65536

-- the input's value moved by so many 65536ths towards what the mode makes of it and the output's value m
abbrev pub moved : Mode → ℕ → ℕ → ℕ → ℕ
moved mode part i m = clamp (pos i +ℤ floor_div (pos part *ℤ (laid_over mode i m -ℤ pos i)) 65536)

-- the input's value moved towards what the mode makes
abbrev pub blended : Blend → ℕ → ℕ → ℕ → ℕ
blended b coverage i m = moved b.mode (alpha b.opacity coverage) i m

-- how far a pixel is covered: whole where there is no cover
abbrev pub covered : Option CoverSeen → ℕ → ℕ → ℕ
covered None x y = 65536
covered (Some c) x y = cover_at c x y

-- each pixel of the region is covered as f says
pub record IsCoveredBy (f : ℕ → ℕ → ℕ) (cover : Option CoverSeen) (a : Area) : Type 0 where
  pub same : (x y : ℕ) → HasPixel a x y → covered cover x y ≡ f x y

-- the output m of a module laid over its input i, each pixel covered as f says
abbrev pub blended_picture : Blend → (ℕ → ℕ → ℕ) → Picture → Picture → Picture
blended_picture b f i m = record { kind = m.kind; w = m.w; h = m.h; at = λ x y c. blended b (f x y) (i.at x y c) (m.at x y c) }

-- the same over planes: the output's region, and the blended value at each of its pixels
pub record IsBlended (b : Blend) (cover : Option CoverSeen) (input output blend : Cut) : Type 0 where
  pub shape : blend ≡ record output { values = blend.values }
  pub pixels : (x y c : ℕ) → HasPixel output.area x y → c < 3 → value_at blend x y c ≡ blended b (covered cover x y) (value_at input x y c) (value_at output x y c)
