-- levels: smaller pictures of a source
use Rattle.std.specs.Prelude.{ℕ, ◌+◌, ◌-◌, ◌*◌, ◌/◌, ◌^◌, ◌<◌, ◌≤◌, min}
use Rattle.px.specs.declared.kind.PlaneKind.TheVariants.{Rgb}
use Rattle.px.specs.Area.{Area}
use Rattle.px.specs.Means.{mean_in}
use Rattle.px.specs.Picture.{Picture}

-- a side, in blocks of so many pixels, of which the last may be cut off
abbrev pub blocks : ℕ → ℕ → ℕ
blocks size n = (n + (size - 1)) / size

-- a side at a level
abbrev pub level_side : ℕ → ℕ → ℕ
level_side n l = blocks (2 ^ l) n

-- where a block begins: a last block of one pixel takes the one before it too, so that it has each colour
abbrev pub block_start : ℕ → ℕ → ℕ → ℕ
block_start size n i = min (i * size) (n - 2)

abbrev pub block_len : ℕ → ℕ → ℕ → ℕ
block_len size n i = min ((i + 1) * size) n - block_start size n i

-- the source's pixels that a pixel of a level is made of
abbrev pub block : ℕ → ℕ → ℕ → ℕ → ℕ → Area
block w h size x y = record { x = block_start size w x; y = block_start size h y; w = block_len size w x; h = block_len size h y }

-- a level: each colour is the mean of its pixels in the block
abbrev pub levelled : ℕ → Picture → Picture
levelled l q = record { kind = Rgb; w = level_side q.w l; h = level_side q.h l; at = λ x y c. mean_in q.kind q.at c (block q.w q.h (2 ^ l) x y) }

-- both sides of the level are at most so long
pub record FitsIn (w h most l : ℕ) : Type 0 where
  pub wide : level_side w l ≤ most
  pub high : level_side h l ≤ most

-- the least level that fits
pub record IsPreviewLevel (w h side l : ℕ) : Type 0 where
  pub fits : FitsIn w h side l
  pub least : (k : ℕ) → k < l → FitsIn w h side k → ⊥

-- both sides of the level are at least those of a box
pub record Fills (w h box_w box_h l : ℕ) : Type 0 where
  pub wide : box_w ≤ level_side w l
  pub high : box_h ≤ level_side h l

-- the greatest level that fills a box, or 0 where none does
pub record IsThumbnailLevel (w h box_w box_h l : ℕ) : Type 0 where
  pub fills : 0 < l → Fills w h box_w box_h l
  pub greatest : (k : ℕ) → l < k → k ≤ 8 → Fills w h box_w box_h k → ⊥
