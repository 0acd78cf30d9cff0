-- pixels looked up in tables
use Rattle.std.proofs.Common.{◌≡◌, ℕ, ◌≤◌, Bool, true, List, [], ◌∷◌, slice_index, nat_eq, refl, sym, ap, ◌∙◌, subst, arith}
use Rattle.std.specs.Cmp.{unsigned_Decides, first_so, second_so}
use Rattle.std.specs.Cmp.Lexicographic.{pointwise_decides}
use Rattle.std.specs.Bool.{IsTrue}
use Rattle.params.specs.Nodes.{same_node, same_nodes}
use Rattle.params.specs.declared.settings.ToneCurve.{ToneCurve}
use Rattle.px.specs.declared.kind.PlaneKind.TheVariants.{Rgb}
use Rattle.px.specs.Area.{Area, HasPixel, Covers}
use Rattle.px.specs.Cut.{Cut, IsCutOf, value_at, rgb_at}
use Rattle.px.specs.Picture.{Picture, rgb_of}
use Rattle.px.specs.Painted.{IsPainted}
use Rattle.px.specs.Pixelwise.{made_of}
use Rattle.px.proofs.PaintedLemmas.{cut_of_rgb, pixel_of_part}
use Rattle.modules_colour.proofs.MixLemmas.{three_tops}
use Rattle.modules_colour.specs.Curving.{Tables, IsTable, IsTableOf, curved, curved_picture, looked_up}

-- what the tables say of a pixel is what the curves make of it
curved_pixel : (t : ToneCurve) (tables : Tables) (v : ℕ → ℕ) → IsTableOf t tables → ((c : ℕ) → v c ≤ 1048575)
    → made_of (looked_up tables) v ≡ curved t.red (v 0) ∷ curved t.green (v 1) ∷ curved t.blue (v 2) ∷ []
curved_pixel t tables v table top = rw (table.red.same (v 0) (top 0), table.green.same (v 1) (top 1), table.blue.same (v 2) (top 2)) refl

-- a plane of pixels that were looked up is the cut of the picture that went through the curves
pub curved_cut : (t : ToneCurve) (tables : Tables) (q : Picture) (w h : ℕ) (a : Area) (input p : Cut) → w ≡ input.w → h ≡ input.h → input.kind ≡ Rgb → Covers input.area a
    → ((i : ℕ) → slice_index input.values i ≤ 1048575) → IsTableOf t tables → IsCutOf q input
    → IsPainted Rgb w h a (λ x y r. r ≡ made_of (looked_up tables) (value_at input x y)) p → IsCutOf (curved_picture t q) p
curved_cut t tables q w h a input p w_is h_is rgb covers top table part painted =
    let q_rgb : q.kind ≡ Rgb = sym part.kind ∙ rgb in
    cut_of_rgb (curved_picture t q) w h a _ p painted q_rgb (sym part.wide ∙ sym w_is) (sym part.high ∙ sym h_is)
    (λ x y r inside is.
    let covered : HasPixel input.area x y = record { left = omega arith; right = omega arith; top = omega arith; bottom = omega arith } in
    let pixel = pixel_of_part input q x y part q_rgb covered in
    let channel : (c : ℕ) → slice_index (rgb_at input x y) c ≡ slice_index (rgb_of q x y) c = λ c. ap (λ r. slice_index r c) pixel in
    is ∙ (curved_pixel t tables (value_at input x y) table (λ c. top _) ∙ rw (channel 0, channel 1, channel 2) refl))

-- what is looked up are values of samples
pub looked_up_tops : (tables : Tables) (v : ℕ → ℕ) → IsTable tables.red → IsTable tables.green → IsTable tables.blue → (i : ℕ) → slice_index (made_of (looked_up tables) v) i ≤ 1048575
looked_up_tops tables v red green blue i = three_tops _ _ _ (red.top _) (green.top _) (blue.top _) i

same_node_is : (a b : ℕ × ℕ) → (same_node a b ≡ true → a ≡ b) × (a ≡ b → same_node a b ≡ true)
same_node_is a b = (
  (λ e. let first = (unsigned_Decides a.0 b.0).0 (first_so (nat_eq a.0 b.0) (nat_eq a.1 b.1) e) in
      let second = (unsigned_Decides a.1 b.1).0 (second_so (nat_eq a.0 b.0) (nat_eq a.1 b.1) e) in
      λ i. (first i, second i)),
  (λ e. subst (λ (t : ℕ × ℕ). same_node a t ≡ true) e (rw ((unsigned_Decides a.0 a.0).1 refl, (unsigned_Decides a.1 a.1).1 refl) refl)),
)

-- nodes that a test finds equal
pub same_if : (xs ys : List (ℕ × ℕ)) (r : Bool) → r ≡ same_nodes xs ys → IsTrue r → xs ≡ ys
same_if xs ys r e h = (pointwise_decides same_node_is xs ys).0 (sym e ∙ h)
