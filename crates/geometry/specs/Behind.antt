-- Traces of one module and of many.
use Rattle.std.specs.Prelude.{◌≡◌, ℕ, ◌-◌, ℤ, pos, Bool, false, if◌then◌else◌, List}
use Rattle.params.specs.declared.settings.Params.{Params}
use Rattle.px.specs.declared.trace.Trace.{Trace}
use Rattle.px.specs.Area.{Fits}
use Rattle.px.specs.Trace.{Traces, TracesWithin}
use Rattle.geometry.specs.Sides.{IsPixelOf, sides_after, pixel_before, sides_behind, place_behind}

-- the trace that leads each pixel to the one so many columns to the right and rows down
abbrev pub straight : ℕ → ℕ → ℕ → Trace
straight x y level = record { swap = false; flip_x = false; flip_y = false; add_x = pos x; add_y = pos y; level = level }

-- the first column or row of a side, or the last one where the side is flipped
abbrev pub end_of : Bool → ℕ → ℤ
end_of flip side = if flip then pos (side - 1) else pos 0

-- the trace leads from each pixel of the module's output to the pixel of its input, of these sides, from which it comes
abbrev pub IsTraceOf : Params → ℕ × ℕ → Trace → Type 0
IsTraceOf p sides t = (x y : ℕ) → IsPixelOf (sides_after p sides) (x, y) → Traces t x y (pixel_before p sides (x, y)).0 (pixel_before p sides (x, y)).1

-- the trace leads through the inner one, and on through the outer one
pub record IsThrough (outer inner t : Trace) : Type 0 where
  pub level : t.level ≡ outer.level
  pub traces : (x y a b u v : ℕ) → Traces inner x y a b → Traces outer a b u v → Traces t x y u v

-- what is known behind a list of modules: the sides of the input, the sides now, and where a pixel comes from
pub record GeometrySeen : Type 0 where
  pub input : ℕ × ℕ
  pub out : ℕ × ℕ
  pub trace : Trace

-- both are sides of pictures, and each pixel comes from a pixel of the input
pub record IsGeometry (g : GeometrySeen) : Type 0 where
  pub input : Fits 0 0 g.input.0 g.input.1
  pub out : Fits 0 0 g.out.0 g.out.1
  pub inside : (x y : ℕ) → IsPixelOf g.out (x, y) → TracesWithin g.trace x y g.input.0 g.input.1

-- this is what is known behind these modules, over an input of that level and those sides
pub record IsBehind (level : ℕ) (sides : ℕ × ℕ) (modules : List Params) (g : GeometrySeen) : Type 0 where
  pub level_is : g.trace.level ≡ level
  pub input : g.input ≡ sides
  pub out : g.out ≡ sides_behind modules sides
  pub places : (x y : ℕ) → IsPixelOf g.out (x, y) → Traces g.trace x y (place_behind modules sides (x, y)).0 (place_behind modules sides (x, y)).1
