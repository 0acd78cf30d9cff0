-- What a list of module instances makes of a source: pictures as a whole, without regions and without caches.
use Rattle.std.specs.Prelude.{ℕ, zero, suc, List, [], ◌∷◌, ◌++◌, map, Option, Some, None}
use Rattle.params.specs.declared.blending.Blend.{Blend}
use Rattle.params.specs.declared.blending.Shape.{Shape}
use Rattle.params.specs.declared.settings.Params.{Params}
use Rattle.params.specs.declared.settings.Params.TheVariants as params
use Rattle.px.specs.Picture.{Picture}
use Rattle.geometry.specs.Sides.{place_behind}
use Rattle.masks.specs.Coverage.{coverage_at}
use Rattle.blend.specs.Blending.{blended_picture}
use Rattle.modules_raw.specs.Balancing.{balanced_picture}
use Rattle.modules_raw.specs.Demosaic.{demosaiced_picture}
use Rattle.modules_raw.specs.Levels.{levelled}
use Rattle.modules_raw.specs.Preparing.{prepared_picture}
use Rattle.modules_geometry.specs.Moved.{turned_picture, cropped_picture}
use Rattle.modules_colour.specs.Curving.{curved_picture}
use Rattle.modules_colour.specs.Exposing.{exposed_picture}
use Rattle.modules_colour.specs.Mixing.{mixed_picture}
use Rattle.local_modules.specs.Blurring.{blurred_picture}
use Rattle.local_modules.specs.Radius.{radius_of}
use Rattle.local_modules.specs.Sharpening.{sharpened_picture}
use Rattle.pipe_nodes.specs.declared.active.Active.{Active}

-- the picture that a run over a mipmap level begins with: level 0 is the source
abbrev pub input_of : Picture → ℕ → Picture
input_of source zero = source
input_of source (suc l) = levelled (suc l) source

-- the output of a module by itself, on a picture of that level. Only the modules that look around a pixel look at the level
abbrev pub means : Params → ℕ → Picture → Picture
means (params.RawPrepare p) level i = prepared_picture p i
means (params.Temperature p) level i = balanced_picture p i
means params.Demosaic level i = demosaiced_picture i
means (params.Orientation p) level i = turned_picture p i
means (params.Crop p) level i = cropped_picture p i
means (params.Exposure p) level i = exposed_picture p i
means (params.ChannelMixer p) level i = mixed_picture p i
means (params.ToneCurve p) level i = curved_picture p i
means (params.BoxBlur p) level i = blurred_picture (radius_of p.radius level) i
means (params.Sharpen p) level i = sharpened_picture (radius_of p.radius level) p.amount i

-- columns and rows
abbrev pub sides_of : Picture → ℕ × ℕ
sides_of p = (p.w, p.h)

abbrev pub settings_of : List Active → List Params
settings_of = map (λ (a : Active). a.params)

-- the pixel of a level of the source from which a pixel behind the instances comes
abbrev pub place_in : Picture → ℕ → List Active → ℕ → ℕ → ℕ × ℕ
place_in source level before x y = place_behind (settings_of before) (sides_of (input_of source level)) (x, y)

-- how far a pixel behind the instances is covered: a mask stands at its place in the source, and without one each is covered whole
abbrev pub covered_at : Picture → ℕ → List Active → Option Shape → ℕ → ℕ → ℕ
covered_at source level before None x y = 65536
covered_at source level before (Some shape) x y = coverage_at shape source.w source.h level (place_in source level before x y).0 (place_in source level before x y).1

-- the output m of a module, which stands behind the instances `before`, mixed with its input i
abbrev pub blended : Picture → ℕ → List Active → Option Blend → Picture → Picture → Picture
blended source level before None i m = m
blended source level before (Some b) i m = blended_picture b (covered_at source level before b.mask) i m

-- the picture i, behind these module instances, after one more
abbrev pub after_one : Picture → ℕ → List Active → Active → Picture → Picture
after_one source level before a i = blended source level before a.blend i (means a.params level i)

-- the picture i, behind the instances `before`, after the ones that follow
abbrev pub run_from : Picture → ℕ → List Active → List Active → Picture → Picture
run_from source level before [] i = i
run_from source level before (a ∷ later) i = run_from source level (before ++ a ∷ []) later (after_one source level before a i)

-- the whole picture that the module instances make of a level of a source
abbrev pub whole : Picture → ℕ → List Active → Picture
whole source level actives = run_from source level [] actives (input_of source level)
