-- What one module instance does in a pipe.
use Rattle.std.specs.Prelude.{◌≡◌, Ok}
use Rattle.params.specs.Ranges.{module_of, check_of, check_blend_of}
use Rattle.pipe_nodes.specs.declared.active.Active.{Active}

-- the numbers are within their ranges, and a blend stands only where the module blends
pub record IsFit (a : Active) : Type 0 where
  pub params : check_of a.params ≡ Ok tt
  pub blend : check_blend_of (module_of a.params) a.blend ≡ Ok tt
