use Rattle.std.proofs.Common.{◌≡◌, ◌≤◌, ◌∙◌, arith}
use Rattle.std.specs.Prelude.{unsigned_abs}
use Rattle.std.proofs.lemmas.Int.{ints}
use mir.Syntax.{w32, w64}
use mir.Val.{of_z, to_z}
use Rattle.masks.specs.Coverage.{across, along, offset}
use Rattle.masks.specs.Lines.{step_across, step_down}
use Rattle.masks.proofs.LineLemmas.{line_is}
use Rattle.masks.proofs.lines.line_of.Goals as goal

pub returns : goal.returns
returns c =
    let t = c.args.trace.now in
    let n = c.args.anchor in
    let u = c.of-u.result.0 in
    let v = c.of-u.result.1 in
    let near_x = c.offset-from_x.ensures.small in
    let near_y = c.offset-from_y.ensures.small in
    let short_x = c.steps-step_x.ensures.small_across in
    let short_y = c.steps-step_x.ensures.small_down in
    let from_x : to_z w64 (of_z w64 c.offset-from_x.result) ≡ c.offset-from_x.result = omega (arith, ints) in
    let from_y : to_z w64 (of_z w64 c.offset-from_y.result) ≡ c.offset-from_y.result = omega (arith, ints) in
    let step_x : to_z w64 (of_z w64 c.steps-step_x.result.0) ≡ c.steps-step_x.result.0 = omega (arith, ints) in
    let step_y : to_z w64 (of_z w64 c.steps-step_x.result.1) ≡ c.steps-step_x.result.1 = omega (arith, ints) in
    let dx : to_z w32 (of_z w32 n.dx) ≡ n.dx = omega (arith, ints) in
    let dy : to_z w32 (of_z w32 n.dy) ≡ n.dy = omega (arith, ints) in
    let x_is = from_x ∙ c.offset-from_x.ensures.value in
    let y_is = from_y ∙ c.offset-from_y.ensures.value in
    let steps_x_is = step_x ∙ c.steps-step_x.ensures.across in
    let steps_y_is = step_y ∙ c.steps-step_x.ensures.down in
    let a_far = rw (from_x, from_y) at c.along.ensures.far in
    let a_small : unsigned_abs c.along.result ≤ 17179869184 = omega arith in
    let a_fits : to_z w64 (of_z w64 c.along.result) ≡ c.along.result = omega (arith, ints) in
    let a : to_z w64 (of_z w64 c.along.result) ≡ along (offset n.w n.x t.level u) (offset n.h n.y t.level v) n.dx n.dy =
    a_fits ∙ (c.along.ensures.value ∙ (λ i. along (x_is i) (y_is i) (dx i) (dy i))) in
    let b_far = rw (from_x, from_y) at c.across.ensures.far in
    let b_small : unsigned_abs c.across.result ≤ 17179869184 = omega arith in
    let b_fits : to_z w64 (of_z w64 c.across.result) ≡ c.across.result = omega (arith, ints) in
    let b : to_z w64 (of_z w64 c.across.result) ≡ across (offset n.w n.x t.level u) (offset n.h n.y t.level v) n.dx n.dy =
    b_fits ∙ (c.across.ensures.value ∙ (λ i. across (x_is i) (y_is i) (dx i) (dy i))) in
    let d_far = rw (step_x, step_y) at c.along-2.ensures.far in
    let d_small : unsigned_abs c.along-2.result ≤ 1048576 = omega arith in
    let d_fits : to_z w64 (of_z w64 c.along-2.result) ≡ c.along-2.result = omega (arith, ints) in
    let d : to_z w64 (of_z w64 c.along-2.result) ≡ along (step_across t) (step_down t) n.dx n.dy =
    d_fits ∙ (c.along-2.ensures.value ∙ (λ i. along (steps_x_is i) (steps_y_is i) (dx i) (dy i))) in
    let e_far = rw (step_x, step_y) at c.across-2.ensures.far in
    let e_small : unsigned_abs c.across-2.result ≤ 1048576 = omega arith in
    let e_fits : to_z w64 (of_z w64 c.across-2.result) ≡ c.across-2.result = omega (arith, ints) in
    let e : to_z w64 (of_z w64 c.across-2.result) ≡ across (step_across t) (step_down t) n.dx n.dy =
    e_fits ∙ (c.across-2.ensures.value ∙ (λ i. across (steps_x_is i) (steps_y_is i) (dx i) (dy i))) in
    record {
      line = line_is t n.w n.h n.x n.y n.dx n.dy c.args.x c.args.y u v _ c.of-u.ensures a b d e;
      small = record { along = rw a_fits a_small; across = rw b_fits b_small; along_step = rw d_fits d_small; across_step = rw e_fits e_small };
    }
