-- what `develop` makes of its files
use Rattle.std.specs.Prelude.{◌≡◌, ℕ, List, Option, Some}
use Rattle.px.specs.Picture.{Picture}
use Rattle.pnm.specs.Pnm.{written}
use Rattle.outside.specs.Shelf.{Files, with_file, PutsInPart}
use Rattle.edit_steps.specs.Script.{Recipe, changes}
use Rattle.dev_core.specs.Subject.{picture_at}
use Rattle.develop_session.specs.Files.{HasScript, HasSource}
use Rattle.develop_session.specs.Words.{Command}

-- the picture that stands after the last change
abbrev pub developed : Recipe → Picture → Picture
developed script q = picture_at q script (changes script)

-- the bytes that the command writes, at the depth of the script's settings
abbrev pub out_bytes : Recipe → Picture → List ℕ
out_bytes script q = written (developed script q) script.settings.depth

-- the source stood there, and these are the sides and the bytes of what the script makes of it
pub record IsMade (script : Recipe) (name : List ℕ) (w h : ℕ) (bytes : List ℕ) (fs : Files) : Type 0 where
  pub picture : Picture
  pub source : HasSource name script.settings.cfa fs picture
  pub wide : (developed script picture).w ≡ w
  pub high : (developed script picture).h ≡ h
  pub bytes_are : bytes ≡ out_bytes script picture

-- Script and source stood there, and the new files are the old ones with the written bytes of the developed picture, of these
-- sides, put at OUT, and nothing else.
pub record IsDeveloped (c : Command) (fs : Files) (w h : ℕ) (new : Option Files) : Type 0 where
  pub recipe : Recipe
  pub picture : Picture
  pub script : HasScript c.script fs recipe
  pub source : HasSource c.source recipe.settings.cfa fs picture
  pub wide : (developed recipe picture).w ≡ w
  pub high : (developed recipe picture).h ≡ h
  pub put : new ≡ Some (with_file c.out (out_bytes recipe picture) fs)

-- the same, but that OUT has its old state or a prefix of those bytes
pub record IsPutInPart (c : Command) (fs : Files) (new : Option Files) : Type 0 where
  pub recipe : Recipe
  pub picture : Picture
  pub script : HasScript c.script fs recipe
  pub source : HasSource c.source recipe.settings.cfa fs picture
  pub put : PutsInPart c.out (out_bytes recipe picture) (Some fs) new
