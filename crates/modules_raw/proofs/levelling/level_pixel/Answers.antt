use Rattle.std.proofs.Common.{ap, arith}
use Rattle.modules_raw.proofs.CountLemmas.{each_colour, least_two}
use Rattle.modules_raw.proofs.levelling.level_pixel.Goals as goal

pub box_mean-requires-clause-some : goal.box_mean-requires-clause-some
box_mean-requires-clause-some c =
    let kind = c.args.plane.now.kind in
    let two = least_two kind in
    let w = ap (λ s. s.0) c.sides-w.ensures.sides in
    let h = ap (λ s. s.1) c.sides-w.ensures.sides in
    each_colour kind 0 c.block_of-block.result (omega arith) (omega arith) (omega arith)

pub box_mean-requires-2-clause-some : goal.box_mean-requires-2-clause-some
box_mean-requires-2-clause-some c =
    let kind = c.args.plane.now.kind in
    let two = least_two kind in
    let w = ap (λ s. s.0) c.sides-w.ensures.sides in
    let h = ap (λ s. s.1) c.sides-w.ensures.sides in
    each_colour kind 1 c.block_of-block.result (omega arith) (omega arith) (omega arith)

pub box_mean-requires-3-clause-some : goal.box_mean-requires-3-clause-some
box_mean-requires-3-clause-some c =
    let kind = c.args.plane.now.kind in
    let two = least_two kind in
    let w = ap (λ s. s.0) c.sides-w.ensures.sides in
    let h = ap (λ s. s.1) c.sides-w.ensures.sides in
    each_colour kind 2 c.block_of-block.result (omega arith) (omega arith) (omega arith)
