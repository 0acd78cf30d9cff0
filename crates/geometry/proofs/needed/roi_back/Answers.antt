use Rattle.geometry.proofs.NeededLemmas.{reach-zero}
use Rattle.geometry.proofs.needed.roi_back.Goals as goal

pub traced-requires-clause-one : goal.traced-requires-clause-one
traced-requires-clause-one c = reach-zero c.args.params.now c.in_default.not-Demosaic c.in_default.not-BoxBlur c.in_default.not-Sharpen
