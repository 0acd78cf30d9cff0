-- the rows that a builder fills
use Rattle.px.specs.declared.painting.Rows.{Rows}
use Rattle.px.specs.Area.{Area}

-- the rectangle that they make
abbrev pub area_of : Rows → Area
area_of r = record { x = r.x; y = r.y; w = r.w; h = r.h }
