-- What settings of old versions meant, and that the settings which they become mean the same.
use Rattle.std.specs.Prelude.{◌≡◌, ℕ, ℤ, pos, ◌-ℤ◌, ◌*ℤ◌}
use Rattle.params.specs.declared.old.OldParams.{OldParams}
use Rattle.params.specs.declared.old.OldParams.TheVariants as old
use Rattle.params.specs.declared.settings.Params.{Params}
use Rattle.params.specs.declared.settings.Params.TheVariants as params
use Rattle.px.specs.Number.{floor_div, clamp}
use Rattle.px.specs.Picture.{Picture}
use Rattle.modules_colour.specs.Curving.{curved, curved_picture}
use Rattle.modules_colour.specs.Exposing.{changed, exposed_picture}
use Rattle.modules_colour.specs.Mixing.{mixed_picture}

-- exposure of version 1: black is taken away, and the rest multiplied by the gain in 1/4096
abbrev pub exposed_1 : ℤ → ℕ → ℕ → ℕ
exposed_1 black gain v = clamp (floor_div ((pos v -ℤ black) *ℤ pos gain) 4096)

-- what settings of an old version meant, on a picture of a level: an exposure without stops, and one curve for all channels
abbrev pub old_means : OldParams → Picture → ℕ → Picture
old_means (old.Exposure1 black gain) q level = changed (exposed_1 black gain) q
old_means (old.ToneCurve1 nodes) q level = changed (curved nodes) q

-- what settings of the modules of this crate mean, on a picture of a level
abbrev pub colour_means : Params → Picture → ℕ → Picture
colour_means (params.Exposure e) q level = exposed_picture e q
colour_means (params.ChannelMixer m) q level = mixed_picture m q
colour_means (params.ToneCurve t) q level = curved_picture t q
colour_means _ q level = q

-- the settings mean what the old ones meant, for every picture and level
abbrev pub MeansTheSame : OldParams → Params → Type 0
MeansTheSame old_params now = (q : Picture) (level : ℕ) → old_means old_params q level ≡ colour_means now q level
