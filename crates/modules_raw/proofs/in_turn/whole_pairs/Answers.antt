use Rattle.std.proofs.Common.{◌*◌, [], ◌∷◌, refl, arith}
use Rattle.modules_raw.proofs.MappedLemmas.{adds_two, pairs_more}
use Rattle.modules_raw.proofs.in_turn.whole_pairs.Goals as goal

pub loop-k-preserved : goal.loop-k-preserved
loop-k-preserved g c =
    let one = c.change-one in
    let two = c.change-two in
    pairs_more (g.C.ValueMap.makes c.args.first.now) (g.C.ValueMap.makes c.args.second.now) c.loop-k.k c.args.from.now c.loop-k.row _ one.result two.result c.loop-k.invariant
    one.ensures.value two.ensures.value one.ensures.top two.ensures.top
    (adds_two c.loop-k.k (c.loop-k.k * 2) c.loop-k.row (one.result ∷ two.result ∷ []) refl (omega arith))
