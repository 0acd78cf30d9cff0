-- raw preparation
use Rattle.std.specs.Prelude.{◌≡◌, ℕ, ◌+◌, ◌-◌, ◌*◌, ◌/◌, ◌<◌, ◌≤◌, min, slice_index}
use Rattle.params.specs.declared.settings.RawPrepare.{RawPrepare}
use Rattle.px.specs.Picture.{Picture}
use Rattle.modules_raw.specs.Mapped.{mapped}

-- a distance from black, where white is so far away, on the scale of samples
abbrev pub scaled : ℕ → ℕ → ℕ
scaled range far = min (far * 65535 / range) 1048575

-- the channel's black becomes 0 and white 65,535; what is below black is 0 too
abbrev pub prepared : RawPrepare → ℕ → ℕ → ℕ
prepared r c v = scaled (r.white - slice_index r.black c) (v - slice_index r.black c)

abbrev pub prepared_picture : RawPrepare → Picture → Picture
prepared_picture r q = mapped (prepared r) q

-- how many times 2^36 a distance grows, rounded down, and one more
pub record IsFactor (range factor : ℕ) : Type 0 where
  pub some : 0 < range
  pub small : range ≤ 65535
  pub factor_is : factor ≡ 65535 * 68719476736 / range + 1
