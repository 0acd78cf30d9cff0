-- exposure
use Rattle.std.specs.Prelude.{ℕ, ◌*◌, ◌^◌, ℤ, pos, ◌+ℤ◌, ◌-ℤ◌, ◌*ℤ◌}
use Rattle.params.specs.Form.{natural_of}
use Rattle.params.specs.declared.settings.Exposure.{Exposure}
use Rattle.px.specs.Number.{floor_div, clamp}
use Rattle.px.specs.Picture.{Picture}

-- how much the stops multiply, in 1/16: `2^(stops+4)`
abbrev pub raised : ℤ → ℕ
raised stops = 2 ^ natural_of (stops +ℤ pos 4)

-- black is taken away, and the rest multiplied by the gain in 1/4096 and by two to the power of the stops
abbrev pub exposed : Exposure → ℕ → ℕ
exposed e v = clamp (floor_div ((pos v -ℤ e.black) *ℤ pos (e.gain * raised e.stops)) 65536)

-- a picture each of whose values is changed by itself
abbrev pub changed : (ℕ → ℕ) → Picture → Picture
changed f q = record { kind = q.kind; w = q.w; h = q.h; at = λ x y c. f (q.at x y c) }

-- each value of the picture exposed
abbrev pub exposed_picture : Exposure → Picture → Picture
exposed_picture e q = changed (exposed e) q
