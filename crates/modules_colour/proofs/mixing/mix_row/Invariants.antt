use Rattle.px.specs.Pixelwise.{IsMadeRow}
use Rattle.modules_colour.specs.Mixing.{mixed}
use Rattle.modules_colour.proofs.mixing.mix_row.Given as goal

abbrev pub invariant-loop-k : goal.invariant-loop-k
invariant-loop-k l = IsMadeRow (mixed l.mixer) l.k l.from l.row
