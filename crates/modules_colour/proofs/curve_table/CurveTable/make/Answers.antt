use Rattle.std.proofs.Common.{subst, sym}
use Rattle.std.proofs.lemmas.Result.{IfOk-weaker}
use Rattle.params.specs.Curve.{IsCurve}
use Rattle.modules_colour.specs.Curving.{AreEntriesOf}
use Rattle.modules_colour.proofs.WithinLemmas.{curves_within}
use Rattle.modules_colour.proofs.curve_table.CurveTable.make.Goals as goal

pub of_nodes-requires-clause-red : goal.of_nodes-requires-clause-red
of_nodes-requires-clause-red c = subst IsCurve (sym c.as_slice-red.ensures.value) (curves_within c.args.params.now c.requires).red

pub of_nodes-requires-clause-green : goal.of_nodes-requires-clause-green
of_nodes-requires-clause-green c = subst IsCurve (sym c.as_slice-green.ensures.value) (curves_within c.args.params.now c.requires).green

pub of_nodes-requires-clause-blue : goal.of_nodes-requires-clause-blue
of_nodes-requires-clause-blue c = subst IsCurve (sym c.as_slice-blue.ensures.value) (curves_within c.args.params.now c.requires).blue

pub returns : goal.returns
returns c =
    IfOk-weaker c.of_nodes.result _ _ (λ t is. record {
      red = subst (λ nodes. AreEntriesOf nodes t.red) c.as_slice-red.ensures.value is.red;
      green = subst (λ nodes. AreEntriesOf nodes t.green) c.as_slice-green.ensures.value is.green;
      blue = subst (λ nodes. AreEntriesOf nodes t.blue) c.as_slice-blue.ensures.value is.blue;
    }) c.of_nodes.ensures
