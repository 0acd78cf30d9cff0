use Rattle.std.proofs.Common.{◌*◌, [], ◌∷◌, refl, arith}
use Rattle.px.proofs.RowLemmas.{adds_three}
use Rattle.modules_raw.proofs.MappedLemmas.{threes_more}
use Rattle.modules_raw.proofs.in_turn.whole_threes.Goals as goal

pub loop-k-preserved : goal.loop-k-preserved
loop-k-preserved g c =
    let one = c.change-one in
    let two = c.change-two in
    let three = c.change-three in
    threes_more (g.C.ValueMap.makes c.args.first.now) (g.C.ValueMap.makes c.args.second.now) (g.C.ValueMap.makes c.args.third.now) c.loop-k.k c.args.from.now c.loop-k.row _
    one.result two.result three.result c.loop-k.invariant one.ensures.value two.ensures.value three.ensures.value one.ensures.top two.ensures.top three.ensures.top
    (adds_three c.loop-k.k (c.loop-k.k * 3) c.loop-k.row (one.result ∷ two.result ∷ three.result ∷ []) refl (omega arith))
