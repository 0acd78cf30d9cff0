-- the bytes of whole planes
use Rattle.std.proofs.Common.{◌≡◌, ℕ, List, refl, ◌∙◌}
use Rattle.px.specs.declared.kind.PlaneKind.TheVariants.{Rgb}
use Rattle.px.specs.declared.depth.Depth.{Depth}
use Rattle.px.specs.Cut.{Cut, IsPlane, IsCutOf, IsWhole}
use Rattle.px.specs.Picture.{Picture, samples_of}
use Rattle.px.proofs.SampleLemmas.{samples_of_whole}
use Rattle.pnm.specs.Pnm.{written, written_values}

-- the bytes of a whole plane are those of each picture that it is the cut of
pub written_of_whole : (p : Cut) (q : Picture) (w h : ℕ) (values : List ℕ) (d : Depth) → IsPlane p → IsCutOf q p → p.kind ≡ Rgb → IsWhole p
    → w ≡ p.w → h ≡ p.h → values ≡ p.values → written_values w h values d ≡ written q d
written_of_whole p q w h values d valid part rgb whole wide high same =
    let width : w ≡ q.w = wide ∙ part.wide in
    let height : h ≡ q.h = high ∙ part.high in
    let samples : values ≡ samples_of q = same ∙ samples_of_whole p q valid part rgb whole in
    rw (width, height, samples) refl
