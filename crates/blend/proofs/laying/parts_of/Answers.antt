use Rattle.std.proofs.Common.{◌*◌, [], ◌∷◌, slice_index, refl, arith}
use Rattle.px.proofs.RowLemmas.{adds_three}
use Rattle.blend.proofs.RowLemmas.{parts_more}
use Rattle.blend.proofs.laying.parts_of.Goals as goal

pub loop-k-preserved : goal.loop-k-preserved
loop-k-preserved c =
    let part = c.alpha-part.result in
    parts_more c.args.opacity (slice_index c.args.cover.now) c.loop-k.k c.loop-k.parts part _ c.loop-k.invariant c.alpha-part.ensures.value c.alpha-part.ensures.small
    (adds_three c.loop-k.k (c.loop-k.k * 3) c.loop-k.parts (part ∷ part ∷ part ∷ []) refl (omega arith))
