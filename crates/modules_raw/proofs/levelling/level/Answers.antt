use Rattle.std.proofs.Common.{◌≡◌, ◌<◌, ◌≤◌, sym, ap, ◌∙◌, subst, refl, arith}
use Rattle.std.proofs.lemmas.Result.{IfOk-weaker}
use Rattle.px.specs.Area.{Area}
use Rattle.px.specs.Cut.{IsCutOf, IsWhole}
use Rattle.px.proofs.PaintedLemmas.{cut_of_rgb}
use Rattle.modules_raw.specs.Levels.{blocks, level_side, levelled}
use Rattle.modules_raw.proofs.BlockLemmas.{size_two}
use Rattle.modules_raw.proofs.LevelLemmas.{level_of_cut}
use Rattle.modules_raw.proofs.levelling.level.Goals as goal

pub paint-requires-clause-asks : goal.paint-requires-clause-asks
paint-requires-clause-asks g c _ _ x y inside =
    let plane = c.plane-plane.result.now in
    let size = c.block_size-size.ensures.size in
    let sides = c.sides-w.ensures.sides in
    let levels = c.level_sides-level_w.ensures in
    let area = c.whole-whole.ensures in
    let two : 2 ≤ c.block_size-size.result = rw size (size_two c.args.l c.requires.low c.requires.high) in
    let left : c.whole-whole.result.x ≡ 0 = ap (λ (a : Area). a.x) area in
    let top : c.whole-whole.result.y ≡ 0 = ap (λ (a : Area). a.y) area in
    let wide : c.whole-whole.result.w ≡ blocks c.block_size-size.result plane.w =
    ap (λ (a : Area). a.w) area ∙ (ap (λ s. s.0) levels ∙ (ap (λ s. level_side s.0 c.args.l) sides ∙ ap (λ s. blocks s plane.w) (sym size))) in
    let high : c.whole-whole.result.h ≡ blocks c.block_size-size.result plane.h =
    ap (λ (a : Area). a.h) area ∙ (ap (λ s. s.1) levels ∙ (ap (λ s. level_side s.1 c.args.l) sides ∙ ap (λ s. blocks s plane.h) (sym size))) in
    let column : x < blocks c.block_size-size.result plane.w = rw (← wide) (omega (arith, inside.right, left)) in
    let row : y < blocks c.block_size-size.result plane.h = rw (← high) (omega (arith, inside.bottom, top)) in
    (subst IsWhole (sym c.plane-plane.ensures.plane) c.plane-plane.ensures.whole, (two, (c.block_size-size.ensures.small, (column, row))))

pub returns-clause-cut : goal.returns-clause-cut
returns-clause-cut g c =
    let plane = c.plane-plane.result.now in
    let size = c.block_size-size.ensures.size in
    let sides = c.sides-w.ensures.sides in
    let levels = c.level_sides-level_w.ensures in
    IfOk-weaker c.paint.result _ _ (λ p painted q part.
    let whole_part = subst (λ s. IsCutOf q s) (sym c.plane-plane.ensures.plane) part in
    let whole = subst IsWhole (sym c.plane-plane.ensures.plane) c.plane-plane.ensures.whole in
    cut_of_rgb (levelled c.args.l q) _ _ c.whole-whole.result _ p painted refl
    (ap (λ n. level_side n c.args.l) (sym whole_part.wide ∙ sym (ap (λ s. s.0) sides)) ∙ sym (ap (λ s. s.0) levels))
    (ap (λ n. level_side n c.args.l) (sym whole_part.high ∙ sym (ap (λ s. s.1) sides)) ∙ sym (ap (λ s. s.1) levels))
    (λ x y r inside is. level_of_cut plane q c.block_size-size.result c.args.l x y r whole_part whole size is.0))
    c.paint.ensures
