-- the fields of a plane, seen as a cut
use Rattle.px.specs.declared.plane.Plane.TheInside.{Inside}
use Rattle.px.specs.Cut.{Cut}

abbrev pub cut_of : Inside → Cut
cut_of p = record { kind = p.kind; w = p.w; h = p.h; area = p.region; values = p.values.items }
