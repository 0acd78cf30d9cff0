-- The pipes: a row for each. Which subjects have a pipe, and which changes concern it, stands beside the scripts.
use Rattle.std.specs.Prelude.{ℕ, List, [], ◌∷◌, codes}
use Rattle.outside.specs.declared.job_name.Pipe.{Pipe}
use Rattle.outside.specs.declared.job_name.Pipe.TheVariants.{Full, Preview, Second}

-- all of them, in the order in which they are taken
abbrev pub pipes : List Pipe
pipes = Full ∷ Preview ∷ Second ∷ []

-- a pipe's place in that order
abbrev pub place_of : Pipe → ℕ
place_of Full = 0
place_of Preview = 1
place_of Second = 2

-- its name in scripts, files and events
abbrev pub word_of : Pipe → List ℕ
word_of Full = codes "full"
word_of Preview = codes "preview"
word_of Second = codes "second"
