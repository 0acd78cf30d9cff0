use Rattle.std.proofs.Common.{◌∙◌}
use Rattle.std.proofs.lemmas.Result.{on_ok_weaker}
use Rattle.pnm.proofs.ByteLemmas.{text_of_bands}
use Rattle.pnm.proofs.banding.fill_text.Goals as goal

pub returns : goal.returns
returns g c =
    on_ok_weaker c.fill_bands.result (λ rows. text_of_bands c.args.filler.now.depth c.args.filler.now.w c.args.filler.now.h _ c.copy_from_slice.new.self c.fill_bands.new.rows c.requires.area (c.copy_from_slice.ensures.after ∙ c.requires.head) rows) c.fill_bands.ensures
