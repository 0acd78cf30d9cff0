-- rows of an output, laid over the input's
use Rattle.std.specs.Prelude.{◌≡◌, ℕ, ◌+◌, ◌*◌, ◌<◌, ◌≤◌, List, [], ◌∷◌, slice_index, Option, IfSome}
use Rattle.params.specs.declared.blending.Blend.{Blend}
use Rattle.px.specs.declared.kind.PlaneKind.TheVariants.{Rgb}
use Rattle.px.specs.Area.{HasPixel}
use Rattle.px.specs.Cover.{CoverSeen}
use Rattle.px.specs.Cut.{Cut, value_at}
use Rattle.blend.specs.Blending.{alpha, blended, covered}

-- the input and the cover, where there is one, have the pixel
pub record CanLay (b : Blend) (cover : Option CoverSeen) (input : Cut) (x y : ℕ) : Type 0 where
  pub opacity : b.opacity ≤ 65536
  pub rgb : input.kind ≡ Rgb
  pub inside : HasPixel input.area x y
  pub covered : IfSome cover (λ c. HasPixel c.area x y)

-- red, green and blue of a pixel: i is the input's, m the output's
abbrev pub blended_pixel : Blend → ℕ → (ℕ → ℕ) → List ℕ → List ℕ
blended_pixel b k i m = blended b k (i 0) (slice_index m 0) ∷ blended b k (i 1) (slice_index m 1) ∷ blended b k (i 2) (slice_index m 2) ∷ []

-- what a pixel of the output gets
abbrev pub lays : Blend → Option CoverSeen → Cut → ℕ → ℕ → List ℕ → List ℕ → Type 0
lays b cover input x y old r = r ≡ blended_pixel b (covered cover x y) (value_at input x y) old

-- how far each of n pixels goes towards what the mode makes, in 1/65536, three times in a row
pub record AreParts (opacity : ℕ) (f : ℕ → ℕ) (n : ℕ) (parts : List ℕ) : Type 0 where
  pub same : (k c : ℕ) → k < n → c < 3 → slice_index parts (k * 3 + c) ≡ alpha opacity (f k)
  pub small : (k c : ℕ) → k < n → c < 3 → slice_index parts (k * 3 + c) ≤ 65536
