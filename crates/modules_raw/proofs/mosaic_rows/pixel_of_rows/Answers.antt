use Rattle.std.proofs.Common.{◌+◌, ◌-◌, ◌∙◌, arith}
use Rattle.modules_raw.proofs.WindowLemmas.{inner_here, moved}
use Rattle.modules_raw.proofs.mosaic_rows.pixel_of_rows.Goals as goal

pub returns : goal.returns
returns c =
    let p = c.args.p.now in
    let X = c.args.lo + c.args.i - 1 in
    let Y = c.args.y - 1 in
    record {
      pixel = moved p.input.now p.cfa p.w p.h (X + 1) (Y + 1) (c.args.lo + c.args.i) c.args.y c.inner_pixel.result (omega arith) (omega arith)
          (c.inner_pixel.ensures.pixel ∙ inner_here p.input.now p.cfa p.w p.h c.args.lo c.args.y c.args.i c.args.m X Y c.args.own c.args.side c.args.above.now c.args.here.now c.args.below.now
          c.requires.above c.requires.here c.requires.below (omega arith) (omega arith) (omega arith) (omega arith) c.requires.right c.requires.bottom c.requires.own c.requires.side);
      top = c.inner_pixel.ensures.top;
    }
