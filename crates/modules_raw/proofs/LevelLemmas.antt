-- pixels of levels
use Rattle.std.proofs.Common.{◌≡◌, ℕ, ◌<◌, ◌^◌, List, [], ◌∷◌, refl, ap, ◌∙◌, arith}
use Rattle.px.specs.Area.{HasPixel}
use Rattle.px.specs.Cut.{Cut, IsCutOf, IsWhole, value_at}
use Rattle.px.specs.Means.{mean_in}
use Rattle.px.specs.Picture.{Picture, rgb_of}
use Rattle.px.proofs.SumLemmas.{mean_same}
use Rattle.modules_raw.specs.Levels.{block, levelled}

-- a block lies in the whole picture
block_inside : (p : Cut) (size x y u v : ℕ) → IsWhole p → HasPixel (block p.w p.h size x y) u v → HasPixel p.area u v
block_inside p size x y u v whole here =
    let wide : p.area.w ≡ p.w = ap (λ a. a.w) whole in
    let high : p.area.h ≡ p.h = ap (λ a. a.h) whole in
    let left : p.area.x ≡ 0 = ap (λ a. a.x) whole in
    let top : p.area.y ≡ 0 = ap (λ a. a.y) whole in
    record { left = omega arith; right = omega arith; top = omega arith; bottom = omega arith }

level_mean : (p : Cut) (q : Picture) (size l x y c : ℕ) → IsCutOf q p → IsWhole p → size ≡ 2 ^ l → c < 3
    → mean_in p.kind (value_at p) c (block p.w p.h size x y) ≡ mean_in q.kind q.at c (block q.w q.h (2 ^ l) x y)
level_mean p q size l x y c part whole size_is few =
    mean_same p.kind (value_at p) q.at c (block p.w p.h size x y) few
    (λ u v d here below. part.same u v d (block_inside p size x y u v whole here) (rw (← part.kind) below))
    ∙ (ap (λ k. mean_in k q.at c (block p.w p.h size x y)) part.kind
    ∙ (ap (λ n. mean_in q.kind q.at c (block n p.h size x y)) part.wide
    ∙ (ap (λ n. mean_in q.kind q.at c (block q.w n size x y)) part.high
    ∙ ap (λ s. mean_in q.kind q.at c (block q.w q.h s x y)) size_is)))

three_means : (a b c a' b' c' : ℕ) → a ≡ a' → b ≡ b' → c ≡ c' → a ∷ b ∷ c ∷ [] ≡ a' ∷ b' ∷ c' ∷ []
three_means a b c a' b' c' d e f = rw (d, e, f) refl

-- a pixel made of a plane is that of the whole picture's level
pub level_of_cut : (p : Cut) (q : Picture) (size l x y : ℕ) (r : List ℕ) → IsCutOf q p → IsWhole p → size ≡ 2 ^ l
    → r ≡ mean_in p.kind (value_at p) 0 (block p.w p.h size x y) ∷ mean_in p.kind (value_at p) 1 (block p.w p.h size x y) ∷ mean_in p.kind (value_at p) 2 (block p.w p.h size x y) ∷ []
    → r ≡ rgb_of (levelled l q) x y
level_of_cut p q size l x y r part whole size_is is =
    is ∙ three_means _ _ _ _ _ _ (level_mean p q size l x y 0 part whole size_is (omega arith)) (level_mean p q size l x y 1 part whole size_is (omega arith)) (level_mean p q size l x y 2 part whole size_is (omega arith))
