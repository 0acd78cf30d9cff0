-- painted covers
use Rattle.std.proofs.Common.{◌≡◌, ℕ, ◌+◌, ◌-◌, ◌*◌, ◌/◌, ◌%◌, ◌<◌, ◌≤◌, List, ◌++◌, length, take, slice_index, refl, sym, ap, ◌∙◌, subst, ⊎_elim, arith}
use Rattle.std.proofs.lemmas.Bool.{cases_lt}
use Rattle.std.proofs.lemmas.List.{get_or_past, take_at}
use Rattle.std.proofs.lemmas.Nat.{div-add-mod', div_below, mod_below}
use Rattle.px.specs.declared.painting.Rows.{Rows}
use Rattle.px.specs.Area.{Area, IsArea, HasPixel}
use Rattle.px.specs.Cover.{IsCover, cover_at, GivesCover, IsCoverPainted}
use Rattle.px.specs.Painted.{AreRows}
use Rattle.px.proofs.PaintedLemmas.{moved_given}
use Rattle.px.proofs.RowLemmas.{given_along}

-- the value in a column of a row is at most full cover
value_small : (a : Area) (post : ℕ → ℕ → List ℕ → Type 0) (values : List ℕ) → AreRows post a.x a.y a.w 1 a.h values → GivesCover a post
    → (j k i : ℕ) → j < a.h → k < a.w → (j * a.w + k) * 1 + 0 ≡ i → slice_index values i ≤ 65536
value_small a post values rows gives j k i below k_lt e =
    let pixel = rows.pixels j k below k_lt in
    let inside : HasPixel a (a.x + k) (a.y + j) = record { left = omega arith; right = omega arith; top = omega arith; bottom = omega arith } in
    let small = gives (a.x + k) (a.y + j) pixel.answer inside pixel.given 0 in
    rw (← e) (rw (← pixel.same 0 (omega arith)) small)

-- so is each value
values_small : (a : Area) (post : ℕ → ℕ → List ℕ → Type 0) (values : List ℕ) → IsArea a → AreRows post a.x a.y a.w 1 a.h values → GivesCover a post
    → length values ≡ a.h * a.w → (i : ℕ) → slice_index values i ≤ 65536
values_small a post values fits rows gives len i = ⊎_elim
    (λ (below : i < a.h * a.w).
    let place = div-add-mod' i a.w in
    value_small a post values rows gives (i / a.w) (i % a.w) i (div_below i a.w a.h fits.wide below) (mod_below i a.w fits.wide) (omega arith))
    (λ (past : a.h * a.w ≤ i). rw (get_or_past values i 0 (omega arith)) (omega arith))
    (cases_lt i (a.h * a.w))

rows_at : (a : Area) (post : ℕ → ℕ → List ℕ → Type 0) (rows : Rows) (values : List ℕ) → rows ≡ record { x = a.x; y = a.y; w = a.w; h = a.h; size = 1 }
    → AreRows post rows.x rows.y rows.w rows.size rows.h values → AreRows post a.x a.y a.w 1 a.h values
rows_at a post rows values e given = subst (λ (r : Rows). AreRows post r.x r.y r.w r.size r.h values) e given

-- rows that are painted make a cover; `rest` is what the list of values held before, past the written ones
pub cover_of_rows : (a : Area) (post : ℕ → ℕ → List ℕ → Type 0) (rows : Rows) (values rest : List ℕ) (len : ℕ) → IsArea a
    → rows ≡ record { x = a.x; y = a.y; w = a.w; h = a.h; size = 1 } → len ≡ length values → length values ≡ rows.h * rows.w * rows.size
    → AreRows post rows.x rows.y rows.w rows.size rows.h values → GivesCover a post → IsCover (record { area = a; values = take len (values ++ rest) })
cover_of_rows a post rows values rest len fits e len_is count given gives =
    let all : length values ≡ a.h * a.w = count ∙ (ap (λ (r : Rows). r.h * r.w * r.size) e ∙ omega arith) in
    rw (take_at values rest len (sym len_is)) (record { area = fits; len = all; top = values_small a post values fits (rows_at a post rows values e given) gives all })

-- and its pixels are those that the painter gave
pub painted_of_rows : (a : Area) (post : ℕ → ℕ → List ℕ → Type 0) (rows : Rows) (values rest : List ℕ) (len : ℕ)
    → rows ≡ record { x = a.x; y = a.y; w = a.w; h = a.h; size = 1 } → len ≡ length values
    → AreRows post rows.x rows.y rows.w rows.size rows.h values → IsCoverPainted a post (record { area = a; values = take len (values ++ rest) })
painted_of_rows a post rows values rest len e len_is given =
    let here = rows_at a post rows values e given in
    rw (take_at values rest len (sym len_is)) (record {
      area = refl;
      pixels = λ x y inside.
          let column : a.x + (x - a.x) ≡ x = omega arith in
          let row : a.y + (y - a.y) ≡ y = omega arith in
          let pixel = here.pixels (y - a.y) (x - a.x) (omega arith) (omega arith) in
          moved_given post 1 (λ k. cover_at (record { area = a; values = values }) x y) _ x _ y column row
          (given_along (post (a.x + (x - a.x)) (a.y + (y - a.y))) 1 _ _
          (λ k small. ap (slice_index values) (let place : ((y - a.y) * a.w + (x - a.x)) * 1 + k ≡ (y - a.y) * a.w + (x - a.x) = omega arith in place)) pixel);
    })
