use Rattle.std.proofs.Common.{◌≡◌, ◌*◌, ◌+◌, ◌/◌, ◌<◌, refl, ◌∙◌, length, arith}
use Rattle.std.proofs.Math.Nat.{mul-mod_left, mul-div_cancel, mul-lt-mul_of_pos_right, mul_assoc}
use Rattle.std.proofs.lemmas.Nat.{div_below}
use Rattle.px.specs.Painted.{IsRow}
use Rattle.px.proofs.ChunkLemmas.{part_top, rows_of_chunks}
use Rattle.px.proofs.painting.fill_side_by_side.Goals as goal

pub par_chunks_mut_for_each-requires-clause-accepts : goal.par_chunks_mut_for_each-requires-clause-accepts
par_chunks_mut_for_each-requires-clause-accepts g c κs within start p chunk =
    let len : length c.args.values.now ≡ c.args.rows.h * (c.args.rows.w * c.args.rows.size) = c.requires.len ∙ mul_assoc c.args.rows.h c.args.rows.w c.args.rows.size in (
      c.requires.size,
      (
        c.requires.asks,
        (
          c.requires.gives,
          (
            c.requires.right,
            (
              c.requires.bottom,
              (
                refl,
                (
                  c.requires.wide,
                  (
                    div_below start (c.args.rows.w * c.args.rows.size) c.args.rows.h c.requires.wide (omega (arith, chunk.in_bounds, chunk.nonempty, len)),
                    (chunk.full_size (rw len (mul-mod_left c.args.rows.h (c.args.rows.w * c.args.rows.size))), part_top c.args.values.now p.now start c.requires.top (λ k h. chunk.elements k 0 h)),
                  ),
                ),
              ),
            ),
          ),
        ),
      ),
    )

pub returns : goal.returns
returns g c =
    let stride = c.args.rows.w * c.args.rows.size in
    let len : length c.args.values.now ≡ c.args.rows.h * stride = c.requires.len ∙ mul_assoc c.args.rows.h c.args.rows.w c.args.rows.size in
    record {
      rows = rows_of_chunks _ c.args.rows.x c.args.rows.y c.args.rows.w c.args.rows.size c.args.rows.h stride c.par_chunks_mut_for_each.new.s
          refl c.requires.wide (c.par_chunks_mut_for_each.auto.s ∙ len)
          (λ j below.
          let start : j * stride < length c.args.values.now = rw len (mul-lt-mul_of_pos_right below c.requires.wide) in
          let chunk = c.par_chunks_mut_for_each.ensures.chunks j start in
          let row : j * stride / stride ≡ j = mul-div_cancel j c.requires.wide in
          let painted : IsRow (g.P.RowPainter.gives c.args.painter.now) c.args.rows.x (c.args.rows.y + j * stride / stride) c.args.rows.size c.args.rows.w chunk.after_call.now = chunk.call in
          rw (← chunk.left) (rw row at painted));
    }
