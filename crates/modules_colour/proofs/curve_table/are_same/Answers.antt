use Rattle.modules_colour.proofs.CurveLemmas.{same_if}
use Rattle.modules_colour.proofs.curve_table.are_same.Goals as goal

pub returns : goal.returns
returns c h = same_if c.args.a.now c.args.b.now c.eq.result c.eq.ensures h
