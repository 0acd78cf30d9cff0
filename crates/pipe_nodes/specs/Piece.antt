-- Module instances made ready to work.
use Rattle.std.specs.Prelude.{◌≡◌, Option, Some, IsSome}
use Rattle.params.specs.declared.settings.ToneCurve.{ToneCurve}
use Rattle.params.specs.declared.settings.Params.TheVariants as params
use Rattle.modules_colour.specs.Curving.{Tables, IsTableOf}
use Rattle.pipe_nodes.specs.declared.active.Active.{Active}
use Rattle.pipe_nodes.specs.Active.{IsFit}

-- the instance is within its ranges; where it is of a tone curve, its tables are there, and they are those of its settings
pub record IsReady (a : Active) (tables : Option Tables) : Type 0 where
  pub fit : IsFit a
  pub some : (curve : ToneCurve) → a.params ≡ params.ToneCurve curve → IsSome tables
  pub are : (curve : ToneCurve) (t : Tables) → a.params ≡ params.ToneCurve curve → tables ≡ Some t → IsTableOf curve t
