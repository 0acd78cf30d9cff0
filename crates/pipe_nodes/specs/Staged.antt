-- Stages of a run: what a prefix makes of a region of a source.
use Rattle.px.specs.Cut.{Cut, IsCutOf, picture_of}
use Rattle.pipe_nodes.specs.Prefix.{PrefixSeen}
use Rattle.pipe_nodes.specs.Whole.{whole}

-- a prefix, a plane that holds a region of a picture, and the source's plane
pub record StagedSeen : Type 0 where
  pub prefix : PrefixSeen
  pub plane : Cut
  pub source : Cut

abbrev pub staged : PrefixSeen → Cut → Cut → StagedSeen
staged prefix plane source = record { prefix = prefix; plane = plane; source = source }

-- the plane is that region of the whole picture that the prefix makes of the source
abbrev pub IsRight : StagedSeen → Type 0
IsRight s = IsCutOf (whole (picture_of s.source) s.prefix.level s.prefix.actives) s.plane
