use Rattle.std.proofs.Common.{sym, subst, arith}
use Rattle.std.proofs.lemmas.Result.{IfOk-weaker}
use Rattle.px.specs.Cut.{IsCutOf, picture_of}
use Rattle.modules_raw.specs.Levels.{levelled}
use Rattle.pipe_nodes.specs.Whole.{input_of}
use Rattle.pipe_nodes.proofs.RunLemmas.{itself}
use Rattle.pipe_run.specs.Planned.{sides_at}
use Rattle.pipe_run.proofs.StageLemmas.{covers-whole, cut-sides, input-above}
use Rattle.pipe_run.proofs.making.input.Goals as goal

pub returns-in-Some-clause-cut : goal.returns-in-Some-clause-cut
returns-in-Some-clause-cut g c =
    let ready = rw c.in-Some.is at c.requires.ready in
    IfOk-weaker c.cut.result _ _ (λ p copy. copy (input_of (picture_of c.args.source.now) c.args.level) ready.cut) c.cut.ensures.cut

pub returns-then-level-eq0-clause-cut : goal.returns-then-level-eq0-clause-cut
returns-then-level-eq0-clause-cut g c =
    let q = picture_of c.args.source.now in
    IfOk-weaker c.cut-then-level-eq0.result _ _ (λ p copy.
    subst (λ l. IsCutOf (input_of q l) p) (sym c.if-level-eq0.true) (copy q (subst (IsCutOf q) (sym c.plane.ensures.plane) (itself c.args.source.now)))) c.cut-then-level-eq0.ensures.cut

pub cut-requires-2 : goal.cut-requires-2
cut-requires-2 g c =
    let q = picture_of c.args.source.now in
    covers-whole c.in_ok-whole.whole (sides_at c.args.source.now c.args.level) c.args.region c.in_ok-whole.ensures.whole
    (cut-sides (levelled c.args.level q) c.in_ok-whole.whole (c.in_ok-whole.ensures.cut q (itself c.args.source.now))) c.requires.inside

pub returns-clause-cut : goal.returns-clause-cut
returns-clause-cut g c =
    let q = picture_of c.args.source.now in
    IfOk-weaker c.cut-2.result _ _ (λ p copy.
    copy (input_of q c.args.level) (subst (λ i. IsCutOf i c.in_ok-whole.whole) (sym (input-above q c.args.level (omega (arith, c.if-level-eq0.false)))) (c.in_ok-whole.ensures.cut q (itself c.args.source.now)))) c.cut-2.ensures.cut
