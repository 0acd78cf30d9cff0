use Rattle.blend.proofs.BlendLemmas.{blended_of, blended_cut}
use Rattle.blend.proofs.blending.blend.Goals as goal

pub returns-clause-pixels : goal.returns-clause-pixels
returns-clause-pixels c = blended_of c.args.blend.now _ c.args.input.now c.args.output c.repaint_rows.result c.repaint_rows.ensures

pub returns-clause-cut : goal.returns-clause-cut
returns-clause-cut c f i m by below above =
    blended_cut c.args.blend.now f _ c.args.input.now c.args.output c.repaint_rows.result i m
    (blended_of c.args.blend.now _ c.args.input.now c.args.output c.repaint_rows.result c.repaint_rows.ensures)
    c.requires.input_rgb c.requires.output_rgb c.requires.covers by below above
