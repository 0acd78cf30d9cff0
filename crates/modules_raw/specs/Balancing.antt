-- white balance
use Rattle.std.specs.Prelude.{ℕ, ◌*◌, ◌/◌, min, slice_index}
use Rattle.params.specs.declared.settings.Temperature.{Temperature}
use Rattle.px.specs.Picture.{Picture}
use Rattle.modules_raw.specs.Mapped.{mapped}

-- the value times a multiplier in 1/4096
abbrev pub gained : ℕ → ℕ → ℕ
gained mul v = min (v * mul / 4096) 1048575

-- the value times the channel's multiplier
abbrev pub balanced : Temperature → ℕ → ℕ → ℕ
balanced t c v = gained (slice_index t.mul c) v

abbrev pub balanced_picture : Temperature → Picture → Picture
balanced_picture t q = mapped (balanced t) q
