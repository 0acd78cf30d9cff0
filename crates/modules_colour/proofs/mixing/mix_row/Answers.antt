use Rattle.std.proofs.Common.{◌≡◌, ℕ, ◌∷◌, [], ◌*◌, ◌+◌, slice_index, refl, ◌∙◌, arith}
use Rattle.std.specs.Prelude.{pos, ◌+ℤ◌, ◌*ℤ◌}
use Rattle.px.specs.Number.{clamp, floor_div}
use Rattle.px.proofs.RowLemmas.{adds_three, three}
use Rattle.px.proofs.MadeLemmas.{made_more}
use Rattle.modules_colour.specs.Mixing.{factor, mixed}
use Rattle.modules_colour.proofs.MixLemmas.{held, top_of, three_tops}
use Rattle.modules_colour.proofs.mixing.mix_row.Goals as goal

pub loop-k-preserved : goal.loop-k-preserved
loop-k-preserved c =
    let m = c.args.mixer.now in
    let at = c.loop-k.k * 3 in
    let from = c.args.from.now in
    let r = slice_index from at in
    let g = slice_index from (at + 1) in
    let b = slice_index from (at + 2) in
    let e = λ (k : ℕ). held (factor m k) (c.requires.matrix.small k) in
    let red : c.mix-red.result ≡ mixed m 0 r g b = c.mix-red.ensures ∙ (λ i. clamp (floor_div (e 0 i *ℤ pos r +ℤ e 1 i *ℤ pos g +ℤ e 2 i *ℤ pos b) 4096)) in
    let green : c.mix-green.result ≡ mixed m 1 r g b = c.mix-green.ensures ∙ (λ i. clamp (floor_div (e 3 i *ℤ pos r +ℤ e 4 i *ℤ pos g +ℤ e 5 i *ℤ pos b) 4096)) in
    let blue : c.mix-blue.result ≡ mixed m 2 r g b = c.mix-blue.ensures ∙ (λ i. clamp (floor_div (e 6 i *ℤ pos r +ℤ e 7 i *ℤ pos g +ℤ e 8 i *ℤ pos b) 4096)) in
    let pixel = c.mix-red.result ∷ c.mix-green.result ∷ c.mix-blue.result ∷ [] in
    made_more (mixed m) c.loop-k.k from c.loop-k.row pixel _ c.loop-k.invariant
    (three (λ n. slice_index pixel n ≡ mixed m n r g b) red green blue)
    (three_tops _ _ _ (top_of _ _ c.mix-red.ensures) (top_of _ _ c.mix-green.ensures) (top_of _ _ c.mix-blue.ensures))
    (adds_three c.loop-k.k at c.loop-k.row pixel refl (omega arith))
