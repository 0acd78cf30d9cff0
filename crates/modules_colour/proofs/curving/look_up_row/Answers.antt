use Rattle.std.proofs.Common.{◌≡◌, ◌∷◌, [], ◌*◌, ◌+◌, slice_index, refl, arith}
use Rattle.px.proofs.RowLemmas.{adds_three, three}
use Rattle.px.proofs.MadeLemmas.{made_more}
use Rattle.modules_colour.specs.Curving.{Tables, looked_up}
use Rattle.modules_colour.proofs.MixLemmas.{three_tops}
use Rattle.modules_colour.proofs.curving.look_up_row.Goals as goal

pub loop-k-preserved : goal.loop-k-preserved
loop-k-preserved c =
    let at = c.loop-k.k * 3 in
    let from = c.args.from.now in
    let tables : Tables = record { red = c.args.red.now; green = c.args.green.now; blue = c.args.blue.now } in
    let pixel = slice_index c.args.red.now (slice_index from at) ∷ slice_index c.args.green.now (slice_index from (at + 1)) ∷ slice_index c.args.blue.now (slice_index from (at + 2)) ∷ [] in
    made_more (looked_up tables) c.loop-k.k from c.loop-k.row pixel _ c.loop-k.invariant
    (three (λ n. slice_index pixel n ≡ looked_up tables n (slice_index from at) (slice_index from (at + 1)) (slice_index from (at + 2))) refl refl refl)
    (three_tops _ _ _ (c.requires.red.top _) (c.requires.green.top _) (c.requires.blue.top _))
    (adds_three c.loop-k.k at c.loop-k.row pixel refl (omega arith))
