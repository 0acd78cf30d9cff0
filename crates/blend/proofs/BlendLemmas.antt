-- planes blended pixel by pixel
use Rattle.std.proofs.Common.{◌≡◌, ℕ, ◌<◌, slice_index, Option, refl, sym, ap, ◌∙◌, subst, arith}
use Rattle.params.specs.declared.blending.Blend.{Blend}
use Rattle.px.specs.declared.kind.PlaneKind.TheVariants.{Rgb}
use Rattle.px.specs.Area.{Area, HasPixel, Covers}
use Rattle.px.specs.Cover.{CoverSeen}
use Rattle.px.specs.Cut.{Cut, IsCutOf, rgb_at, value_at}
use Rattle.px.specs.Kind.{channels}
use Rattle.px.specs.Picture.{Picture}
use Rattle.px.specs.Repainted.{IsRepainted}
use Rattle.px.proofs.RowLemmas.{three}
use Rattle.blend.specs.Blending.{blended, blended_picture, covered, IsBlended, IsCoveredBy}
use Rattle.blend.specs.Rows.{blended_pixel, lays}

-- a plane whose rows were laid over the input's
pub blended_of : (b : Blend) (cover : Option CoverSeen) (input output p : Cut) → IsRepainted (lays b cover input) output p → IsBlended b cover input output p
blended_of b cover input output p painted = record {
  shape = painted.shape;
  pixels = λ x y c inside below.
      let pixel = painted.pixels x y inside in
      let k = covered cover x y in
      sym (pixel.same c below)
      ∙ (ap (λ r. slice_index r c) pixel.given
      ∙ three (λ n. slice_index (blended_pixel b k (value_at input x y) (rgb_at output x y)) n ≡ blended b k (value_at input x y n) (value_at output x y n)) refl refl refl c below);
}

-- a blended plane is the cut of the blended picture
pub blended_cut : (b : Blend) (f : ℕ → ℕ → ℕ) (cover : Option CoverSeen) (input output p : Cut) (i m : Picture) → IsBlended b cover input output p
    → input.kind ≡ Rgb → output.kind ≡ Rgb → Covers input.area output.area → IsCoveredBy f cover output.area → IsCutOf i input → IsCutOf m output
    → IsCutOf (blended_picture b f i m) p
blended_cut b f cover input output p i m done input_rgb output_rgb covers by below above = record {
  kind = ap (λ (q : Cut). q.kind) done.shape ∙ above.kind;
  wide = ap (λ (q : Cut). q.w) done.shape ∙ above.wide;
  high = ap (λ (q : Cut). q.h) done.shape ∙ above.high;
  same = λ x y c inside few.
      let area : p.area ≡ output.area = ap (λ (q : Cut). q.area) done.shape in
      let here : HasPixel output.area x y = subst (λ (a : Area). HasPixel a x y) area inside in
      let there : HasPixel input.area x y = record { left = omega arith; right = omega arith; top = omega arith; bottom = omega arith } in
      let m_three : channels m.kind ≡ 3 = ap channels (sym above.kind ∙ output_rgb) in
      let i_three : channels i.kind ≡ 3 = ap channels (sym below.kind ∙ input_rgb) in
      let few_three : c < 3 = omega arith in
      let value : value_at input x y c ≡ i.at x y c = below.same x y c there (omega arith) in
      let made : value_at output x y c ≡ m.at x y c = above.same x y c here few in
      done.pixels x y c here few_three ∙ (λ j. blended b (by.same x y here j) (value j) (made j));
}
