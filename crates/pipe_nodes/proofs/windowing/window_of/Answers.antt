use Rattle.std.proofs.Common.{◌∙◌, ap, sym, subst}
use Rattle.std.proofs.lemmas.Result.{IfOk-weaker}
use Rattle.px.specs.Area.{whole_of}
use Rattle.px.specs.Cut.{IsCutOf, picture_of}
use Rattle.pipe_nodes.specs.Windows.{windowed}
use Rattle.pipe_nodes.proofs.WindowLemmas.{all-whole, itself, ok_both}
use Rattle.pipe_nodes.proofs.windowing.window_of.Goals as goal

pub returns-in-Whole-clause-whole : goal.returns-in-Whole-clause-whole
returns-in-Whole-clause-whole g c =
    ok_both c.cut.result _ _ _ (λ o area copy.
    all-whole c.args.plane.now o (area ∙ c.whole.ensures ∙ ap (λ s. whole_of s.0 s.1) c.sides-w.ensures.sides) (copy (picture_of c.args.plane.now) (itself c.args.plane.now))) c.cut.ensures.area c.cut.ensures.cut

pub returns-in-Whole-clause-rgb : goal.returns-in-Whole-clause-rgb
returns-in-Whole-clause-rgb g c =
    IfOk-weaker c.cut.result _ _ (λ o copy. (copy (picture_of c.args.plane.now) (itself c.args.plane.now)).kind ∙ c.requires.rgb) c.cut.ensures.cut

pub returns-in-Whole-clause-cut : goal.returns-in-Whole-clause-cut
returns-in-Whole-clause-cut g c =
    IfOk-weaker c.cut.result _ _ (λ o copy q part. subst (λ w. IsCutOf (windowed q w) o) (sym c.in-Whole.is) (copy q part)) c.cut.ensures.cut
