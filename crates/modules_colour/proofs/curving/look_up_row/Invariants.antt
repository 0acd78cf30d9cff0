use Rattle.px.specs.Pixelwise.{IsMadeRow}
use Rattle.modules_colour.specs.Curving.{looked_up}
use Rattle.modules_colour.proofs.curving.look_up_row.Given as goal

abbrev pub invariant-loop-k : goal.invariant-loop-k
invariant-loop-k l = IsMadeRow (looked_up (record { red = l.red; green = l.green; blue = l.blue })) l.k l.from l.row
