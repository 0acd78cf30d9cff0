-- painted planes
use Rattle.std.proofs.Common.{◌≡◌, ℕ, ◌+◌, ◌-◌, ◌<◌, List, [], ◌∷◌, ◌++◌, length, take, slice_index, zero, suc, refl, sym, ap, ◌∙◌, subst, arith}
use Rattle.std.proofs.lemmas.List.{take_at}
use Rattle.px.proofs.RowLemmas.{three}
use Rattle.px.specs.declared.kind.PlaneKind.{PlaneKind}
use Rattle.px.specs.declared.kind.PlaneKind.TheVariants.{Mosaic, Rgb}
use Rattle.px.specs.Area.{Area, HasPixel}
use Rattle.px.specs.Kind.{channels}
use Rattle.px.specs.Cut.{Cut, IsCutOf, value_at, rgb_at}
use Rattle.px.specs.Picture.{Picture, pixel_by, pixel_of, rgb_of}
use Rattle.px.specs.Painted.{IsGiven, AreRows, IsPainted}

-- the value of one channel among those of a pixel
pub channel_of_pixel : (kind : PlaneKind) (f : ℕ → ℕ) (c : ℕ) → c < channels kind → slice_index (pixel_by kind f) c ≡ f c
channel_of_pixel (Mosaic cfa) f zero h = refl
channel_of_pixel (Mosaic cfa) f (suc c) h = absurd (omega arith)
channel_of_pixel Rgb f c h = three (λ n. slice_index (f 0 ∷ f 1 ∷ f 2 ∷ []) n ≡ f n) refl refl refl c h

pub moved_given : (post : ℕ → ℕ → List ℕ → Type 0) (size : ℕ) (f : ℕ → ℕ) (x x' y y' : ℕ) → x ≡ x' → y ≡ y' → IsGiven (post x y) size f → IsGiven (post x' y') size f
moved_given post size f x x' y y' column row r = subst (λ n. IsGiven (post n y') size f) column (subst (λ n. IsGiven (post x n) size f) row r)

-- the pixels of painted rows, by their columns and rows in the picture
pixels_of_rows : (kind : PlaneKind) (w h : ℕ) (a : Area) (post : ℕ → ℕ → List ℕ → Type 0) (values : List ℕ)
    → AreRows post a.x a.y a.w (channels kind) a.h values
    → (x y : ℕ) → HasPixel a x y → IsGiven (post x y) (channels kind) (value_at (record { kind = kind; w = w; h = h; area = a; values = values }) x y)
pixels_of_rows kind w h a post values rows x y inside =
    let column : a.x + (x - a.x) ≡ x = omega arith in
    let row : a.y + (y - a.y) ≡ y = omega arith in
    let pixel = rows.pixels (y - a.y) (x - a.x) (omega arith) (omega arith) in
    moved_given post (channels kind) (value_at (record { kind = kind; w = w; h = h; area = a; values = values }) x y) _ x _ y column row pixel

-- a plane whose rows are painted; `rest` is what the list of values held before, past the written ones
pub painted_of_rows : (kind : PlaneKind) (w h x y cols high size len : ℕ) (a : Area) (post : ℕ → ℕ → List ℕ → Type 0) (values rest : List ℕ)
    → x ≡ a.x → y ≡ a.y → cols ≡ a.w → high ≡ a.h → size ≡ channels kind → len ≡ length values → AreRows post x y cols size high values
    → IsPainted kind w h a post (record { kind = kind; w = w; h = h; area = a; values = take len (values ++ rest) })
painted_of_rows kind w h x y cols high size len a post values rest x_is y_is w_is h_is size_is len_is rows =
    rw (take_at values rest len (sym len_is)) (record {
      kind_is = refl;
      wide = refl;
      high = refl;
      area = refl;
      pixels = pixels_of_rows kind w h a post values
          (subst (λ n. AreRows post n a.y a.w (channels kind) a.h values) x_is
          (subst (λ n. AreRows post x n a.w (channels kind) a.h values) y_is
          (subst (λ n. AreRows post x y n (channels kind) a.h values) w_is
          (subst (λ n. AreRows post x y cols n a.h values) size_is
          (subst (λ n. AreRows post x y cols size n values) h_is rows)))));
    })

-- a painted plane is the cut of each picture that has these values there
pub cut_of_painted : (kind : PlaneKind) (m : Picture) (w h : ℕ) (a : Area) (post : ℕ → ℕ → List ℕ → Type 0) (p : Cut)
    → IsPainted kind w h a post p → m.kind ≡ kind → m.w ≡ w → m.h ≡ h
    → ((x y : ℕ) (r : List ℕ) → HasPixel a x y → post x y r → r ≡ pixel_of m x y)
    → IsCutOf m p
cut_of_painted kind m w h a post p painted kind_is wide high same = record {
  kind = painted.kind_is ∙ sym kind_is;
  wide = painted.wide ∙ sym wide;
  high = painted.high ∙ sym high;
  same = λ x y c inside below.
      let here : HasPixel a x y = rw painted.area at inside in
      let size : c < channels kind = rw kind_is at below in
      let pixel = painted.pixels x y here in
      sym (pixel.same c size) ∙ (ap (λ r. slice_index r c) (same x y pixel.answer here pixel.given) ∙ channel_of_pixel m.kind (m.at x y) c below);
}

-- the pixel of a plane is that of each picture that it is a cut of
pub pixel_of_part : (p : Cut) (q : Picture) (x y : ℕ) → IsCutOf q p → q.kind ≡ Rgb → HasPixel p.area x y → rgb_at p x y ≡ rgb_of q x y
pixel_of_part p q x y part rgb inside =
    let size : 3 ≡ channels q.kind = sym (ap channels rgb) in
    let at : (c : ℕ) → c < 3 → value_at p x y c ≡ q.at x y c = λ c below. part.same x y c inside (rw (← size) below) in
    rw (at 0 (omega arith), at 1 (omega arith), at 2 (omega arith)) refl

-- the same for an RGB picture, by red, green and blue
pub cut_of_rgb : (m : Picture) (w h : ℕ) (a : Area) (post : ℕ → ℕ → List ℕ → Type 0) (p : Cut)
    → IsPainted Rgb w h a post p → m.kind ≡ Rgb → m.w ≡ w → m.h ≡ h
    → ((x y : ℕ) (r : List ℕ) → HasPixel a x y → post x y r → r ≡ rgb_of m x y)
    → IsCutOf m p
cut_of_rgb m w h a post p painted rgb wide high same =
    cut_of_painted Rgb m w h a post p painted rgb wide high (λ x y r inside given. same x y r inside given ∙ rw rgb refl)
