-- What a window shows of a picture, and what of the picture it needs.
use Rattle.std.specs.Prelude.{◌≡◌, ℕ, ◌+◌, ◌-◌, ◌*◌, ◌/◌, ◌<◌, ◌≤◌, min, max, ⊤, List, [], ◌∷◌, slice_index}
use Rattle.px.specs.declared.view.BoxSize.{BoxSize}
use Rattle.px.specs.declared.view.View.{View}
use Rattle.px.specs.declared.kind.PlaneKind.TheVariants.{Rgb}
use Rattle.px.specs.Area.{Area, Covers, whole_of}
use Rattle.px.specs.Cut.{Cut, value_at}
use Rattle.px.specs.Means.{mean_in}
use Rattle.px.specs.Picture.{Picture}
use Rattle.modules_raw.specs.Levels.{blocks}
use Rattle.pipe_nodes.specs.declared.show.Window.{Window}
use Rattle.pipe_nodes.specs.declared.show.Window.TheVariants.{Whole, View as view_window, Fit as fit_window}

-- ---- scaling

-- the pixels of a picture of sides w and h that lie in the blocks of a region of the picture scaled down by f
abbrev pub unscaled : ℕ → Area → ℕ → ℕ → Area
unscaled f a w h = record { x = a.x * f; y = a.y * f; w = min ((a.x + a.w) * f) w - a.x * f; h = min ((a.y + a.h) * f) h - a.y * f }

-- one pixel
abbrev pub one_pixel : ℕ → ℕ → Area
one_pixel x y = record { x = x; y = y; w = 1; h = 1 }

-- a picture scaled down by f: each pixel is, channel by channel, the mean of the pixels in its block. Blocks have f columns and
-- rows, but for those that the right or lower side cuts off
abbrev pub scaled : ℕ → Picture → Picture
scaled f q = record { kind = Rgb; w = blocks f q.w; h = blocks f q.h; at = λ x y c. mean_in q.kind q.at c (unscaled f (one_pixel x y) q.w q.h) }

-- ---- parts

-- a region of a picture, as a picture of its own
abbrev pub part_of : Area → Picture → Picture
part_of a q = record { kind = q.kind; w = a.w; h = a.h; at = λ x y c. q.at (a.x + x) (a.y + y) c }

-- where a view of so many pixels begins on a side of n: its middle lies at c of 65,536, as far as the side lets it
abbrev pub view_start : ℕ → ℕ → ℕ → ℕ
view_start n c len = min (c * n / 65536 - len / 2) (n - min len n)

-- what a view shows of a scaled picture of sides w and h
abbrev pub view_area : View → ℕ → ℕ → Area
view_area v w h = record { x = view_start w v.cx v.w; y = view_start h v.cy v.h; w = min v.w w; h = min v.h h }

-- the same, where w and h are the sides before scaling
abbrev pub shown_area : View → ℕ → ℕ → Area
shown_area v w h = view_area v (blocks v.factor w) (blocks v.factor h)

-- ---- boxes

-- scaled down by f, both sides are at most the box's
pub record FitsBox (w h : ℕ) (b : BoxSize) (f : ℕ) : Type 0 where
  pub wide : blocks f w ≤ b.w
  pub high : blocks f h ≤ b.h

-- the least factor for which they are
pub record IsLeastFit (w h : ℕ) (b : BoxSize) (f : ℕ) : Type 0 where
  pub some : 1 ≤ f
  pub fits : FitsBox w h b f
  pub least : (g : ℕ) → 1 ≤ g → g < f → FitsBox w h b g → ⊥

-- that factor: as many of the box's sides as it takes to reach along the picture's
abbrev pub fit_factor : ℕ → ℕ → BoxSize → ℕ
fit_factor w h b = max (blocks b.w w) (blocks b.h h)

-- ---- windows

-- what a window shows of a picture: it is scaled, and then cut
abbrev pub windowed : Picture → Window → Picture
windowed q Whole = q
windowed q (view_window v) = part_of (shown_area v q.w q.h) (scaled v.factor q)
windowed q (fit_window b) = scaled (fit_factor q.w q.h b) q

-- the region of a picture of sides w and h whose pixels a window needs
abbrev pub needed_of : ℕ → ℕ → Window → Area
needed_of w h Whole = whole_of w h
needed_of w h (view_window v) = unscaled v.factor (shown_area v w h) w h
needed_of w h (fit_window b) = whole_of w h

-- numbers by which a picture can be shown: a factor of at most 64, a middle in the picture, and sides above 0
pub record CanView (v : View) : Type 0 where
  pub some_factor : 1 ≤ v.factor
  pub small_factor : v.factor ≤ 64
  pub across : v.cx ≤ 65536
  pub down : v.cy ≤ 65536
  pub wide : 1 ≤ v.w
  pub high : 1 ≤ v.h

pub record CanFit (b : BoxSize) : Type 0 where
  pub wide : 1 ≤ b.w
  pub not_too_wide : b.w ≤ 16384
  pub high : 1 ≤ b.h
  pub not_too_high : b.h ≤ 16384

abbrev pub CanShow : Window → Type 0
CanShow Whole = ⊤
CanShow (view_window v) = CanView v
CanShow (fit_window b) = CanFit b

-- ---- planes

-- red, green and blue of the means of a rectangle of a plane
abbrev pub means_at : Cut → Area → List ℕ
means_at p a = mean_in p.kind (value_at p) 0 a ∷ mean_in p.kind (value_at p) 1 a ∷ mean_in p.kind (value_at p) 2 a ∷ []

-- a pixel of the picture scaled down by f, counted on from the pixel in column `left` and row `top`, can be made of the plane
pub record CanScale (p : Cut) (f left top x y : ℕ) : Type 0 where
  pub rgb : p.kind ≡ Rgb
  pub some : 1 ≤ f
  pub small : f ≤ 16384
  pub column : left + x < blocks f p.w
  pub row : top + y < blocks f p.h
  pub covers : Covers p.area (unscaled f (one_pixel (left + x) (top + y)) p.w p.h)

-- red, green and blue of that pixel: the means of its block
pub record IsScaled (p : Cut) (f left top x y : ℕ) (r : List ℕ) : Type 0 where
  pub pixel : r ≡ means_at p (unscaled f (one_pixel (left + x) (top + y)) p.w p.h)
  pub top_is : (i : ℕ) → slice_index r i ≤ 1048575
