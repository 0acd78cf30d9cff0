use Rattle.std.proofs.Common.{ℕ, ap, ◌∙◌, subst, arith}
use Rattle.px.specs.Area.{IsIn, whole_of}
use Rattle.pipe_nodes.specs.Course.{AreSound, needed_before, sides_made}
use Rattle.pipe_nodes.proofs.CourseLemmas.{can-part, can-whole, whole-covers}
use Rattle.pipe_nodes.proofs.bands.run_bytes.Goals as goal

pub write_bands-requires-clause-asks : goal.write_bands-requires-clause-asks
write_bands-requires-clause-asks g c κs within = λ r covers.
    let pieces = c.args.pieces.now in
    let input = g.I.Input.seen c.args.input.now in
    let sides = c.shape-own.ensures.sides in
    let w = c.shape-own.result.1 in
    let h = c.shape-own.result.2 in
    let columns = c.shape_made-columns.result.1 in
    let rows = c.shape_made-columns.result.2 in
    let all = whole_of columns rows in
    let need = subst (λ (s : ℕ × ℕ). IsIn (needed_before pieces s all) s.0 s.1) sides
    (subst (λ a. IsIn (needed_before pieces (w, h) a) w h) c.whole-region.ensures
    (subst (λ a. IsIn a w h) c.region_before.ensures.region c.region_before.ensures.inside)) in
    let can = can-whole pieces input (columns, rows) all c.requires.takes (c.shape_made-columns.ensures.sides ∙ ap (sides_made pieces) sides) (record { across = omega arith; down = omega arith })
    (whole-covers input (needed_before pieces (input.w, input.h) all) c.requires.whole need) in
    (c.requires.out, can-part pieces input all r (subst (AreSound pieces) sides c.shape_made-columns.ensures.sound) c.shape_made-columns.ensures.valid can covers)

pub returns-clause-bytes : goal.returns-clause-bytes
returns-clause-bytes g c = λ q all. c.in_ok-bytes.ensures q (λ r p covers given. all p given.1.1)
