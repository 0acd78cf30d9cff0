-- The planes of levels, for those who demote one.
use Rattle.std.proofs.Common.{ℕ, refl}
use Rattle.px.specs.Cut.{Cut, IsCutOf, IsWhole, picture_of}
use Rattle.px.specs.Picture.{Picture}
use Rattle.modules_raw.specs.Levels.{levelled}
use Rattle.level_store.specs.Planes.{IsLevelPlane}

-- a whole plane that is the level of each picture of the source is the plane of the level
pub level_plane : (source : Cut) (level : ℕ) (p : Cut) → IsWhole p → ((q : Picture) → IsCutOf q source → IsCutOf (levelled level q) p) → IsLevelPlane source level p
level_plane source level p whole cut = record {
  cut = cut (picture_of source) (record { kind = refl; wide = refl; high = refl; same = λ x y c inside channel. refl });
  whole = whole;
}
