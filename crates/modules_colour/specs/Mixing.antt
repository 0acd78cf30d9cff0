-- the channel mixer
use Rattle.std.specs.Prelude.{◌≡◌, ℕ, ◌+◌, ◌*◌, ◌≤◌, ℤ, pos, ◌+ℤ◌, ◌*ℤ◌, length, slice_index_or, unsigned_abs}
use Rattle.params.specs.declared.settings.ChannelMixer.{ChannelMixer}
use Rattle.px.specs.Number.{floor_div, clamp}
use Rattle.px.specs.Picture.{Picture}

-- an entry of the matrix, row by row
abbrev pub factor : ChannelMixer → ℕ → ℤ
factor m i = slice_index_or m.rows i (pos 0)

-- a channel that comes out: its row of the matrix, in 1/4096, times red, green and blue
abbrev pub mixed : ChannelMixer → ℕ → ℕ → ℕ → ℕ → ℕ
mixed m c r g b = clamp (floor_div (factor m (3 * c) *ℤ pos r +ℤ factor m (3 * c + 1) *ℤ pos g +ℤ factor m (3 * c + 2) *ℤ pos b) 4096)

-- each pixel of the picture mixed
abbrev pub mixed_picture : ChannelMixer → Picture → Picture
mixed_picture m q = record { kind = q.kind; w = q.w; h = q.h; at = λ x y c. mixed m c (q.at x y 0) (q.at x y 1) (q.at x y 2) }

-- nine entries within their range
pub record IsMatrix (m : ChannelMixer) : Type 0 where
  pub size : length m.rows ≡ 9
  pub small : (i : ℕ) → unsigned_abs (factor m i) ≤ 32768
