use Rattle.pnm.proofs.PictureLemmas.{cut_of_read, none_of_fault, picture_from_header}
use Rattle.pnm.proofs.RasterLemmas.{meant_are, readable}
use Rattle.pnm.proofs.raster.raster_of.Goals as goal

pub invariant_of-result : goal.invariant_of-result
invariant_of-result c = readable _ _ _ _ _ _ _ _ c.in-Ok.ensures

pub returns-in-Ok-clause-picture : goal.returns-in-Ok-clause-picture
returns-in-Ok-clause-picture c = picture_from_header _ _ _ _ _ _ _ _ _ c.in-Ok.ensures (meant_are _ _ _ _ _)

pub returns-in-Ok-clause-only : goal.returns-in-Ok-clause-only
returns-in-Ok-clause-only c q shows = cut_of_read _ _ _ _ _ _ _ _ _ c.in-Ok.ensures (meant_are _ _ _ _ _) q shows

pub returns-in-Err-clause-fault : goal.returns-in-Err-clause-fault
returns-in-Err-clause-fault c = (c.in-Err.ensures, none_of_fault c.args.bytes.now c.args.cfa c.in-Err.fault c.in-Err.ensures)
