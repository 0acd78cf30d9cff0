-- What a module instance makes of a region of its input.
use Rattle.std.specs.Prelude.{◌≡◌, ℕ, ◌≤◌, List, Option, IfSome, IfNone}
use Rattle.params.specs.declared.settings.Params.{Params}
use Rattle.px.specs.Area.{Area, IsIn, Covers}
use Rattle.px.specs.Cut.{Cut, IsCutOf}
use Rattle.px.specs.Picture.{Picture}
use Rattle.px.specs.Trace.{Traces, TracesWithin}
use Rattle.geometry.specs.Needed.{needed}
use Rattle.geometry.specs.Sides.{IsPixelOf, sides_after}
use Rattle.pipe_nodes.specs.Kinds.{Takes, kind_after}
use Rattle.pipe_nodes.specs.declared.active.Active.{Active}
use Rattle.pipe_nodes.specs.declared.tracing.Tracing.{Tracing}
use Rattle.pipe_nodes.specs.Whole.{means, after_one, place_in}

-- the module takes the plane, which covers what the region needs, and the region lies in the module's output
pub record CanApply (p : Params) (input : Cut) (region : Area) : Type 0 where
  pub takes : Takes p input.kind
  pub inside : IsIn region (sides_after p (input.w, input.h)).0 (sides_after p (input.w, input.h)).1
  pub covers : Covers input.area (needed p (input.w, input.h) region)

-- a plane of the region, which is cut out of the module's own output, of whichever picture the input is cut out; or none, where the
-- output is the input itself
pub record IsApplied (p : Params) (level : ℕ) (input : Cut) (region : Area) (made : Option Cut) : Type 0 where
  pub area : IfSome made (λ o. o.area ≡ region)
  pub cut : IfSome made (λ o. (q : Picture) → IsCutOf q input → IsCutOf (means p level q) o)
  pub covers : IfNone made (Covers input.area region)
  pub same : IfNone made ((q : Picture) → IsCutOf q input → means p level q ≡ q)

-- each pixel of a picture of these sides comes from a pixel of a level of a source
pub record CanTrace (t : Tracing) (sides : ℕ × ℕ) : Type 0 where
  pub wide : t.w ≤ 16384
  pub high : t.h ≤ 16384
  pub level : t.trace.level ≤ 8
  pub inside : (x y : ℕ) → IsPixelOf sides (x, y) → TracesWithin t.trace x y 16384 16384

-- this is where the pixels of a picture of these sides come from, behind the instances `before` over that level of the source
pub record IsTracing (source : Picture) (level : ℕ) (before : List Active) (sides : ℕ × ℕ) (t : Tracing) : Type 0 where
  pub wide : t.w ≡ source.w
  pub high : t.h ≡ source.h
  pub level_is : t.trace.level ≡ level
  pub places : (x y : ℕ) → IsPixelOf sides (x, y) → Traces t.trace x y (place_in source level before x y).0 (place_in source level before x y).1

-- the plane has the kind and the sides of the module's output
pub record HasShape (p : Params) (input o : Cut) : Type 0 where
  pub kind : o.kind ≡ kind_after input.kind p
  pub sides : ◌≡◌ {A = ℕ × ℕ} (o.w, o.h) (sides_after p (input.w, input.h))

-- a plane of the region, which is cut out of what the instance makes of its input, blended or not, of whichever picture the input is cut
-- out; or none, where that is the input itself
pub record IsMade (a : Active) (level : ℕ) (t : Tracing) (input : Cut) (region : Area) (made : Option Cut) : Type 0 where
  pub area : IfSome made (λ o. o.area ≡ region)
  pub shape : IfSome made (HasShape a.params input)
  pub cut : IfSome made (λ o. (source i : Picture) (before : List Active) → IsTracing source level before (input.w, input.h) t → IsCutOf i input → IsCutOf (after_one source level before a i) o)
  pub covers : IfNone made (Covers input.area region)
  pub same : IfNone made ((source i : Picture) (before : List Active) → IsCutOf i input → after_one source level before a i ≡ i)
