-- the developed picture
use Rattle.std.proofs.Common.{refl}
use Rattle.px.specs.Cut.{Cut, IsCutOf, picture_of}

-- a plane is a cut of the picture that it shows
pub part_of_self : (p : Cut) → IsCutOf (picture_of p) p
part_of_self p = record { kind = refl; wide = refl; high = refl; same = λ x y c inside below. refl }
