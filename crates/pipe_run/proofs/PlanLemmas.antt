-- Lemmas on planned regions.
use Rattle.std.proofs.Common.{◌≡◌, ℕ, ◌^◌, ◌<◌, ◌≤◌, List, [], ◌∷◌, ◌++◌, length, reverse, sym, ap, ◌∙◌, subst, arith}
use Rattle.std.proofs.lemmas.List.{append_assoc, reverse-append}
use Rattle.px.specs.Area.{Area, Fits, IsIn}
use Rattle.px.specs.Cut.{Cut, IsPlane}
use Rattle.geometry.specs.Needed.{needed}
use Rattle.geometry.specs.Sides.{sides_after}
use Rattle.modules_raw.proofs.BlockLemmas.{blocks_small, blocks_some, size_some}
use Rattle.pipe_nodes.specs.declared.active.Active.{Active}
use Rattle.pipe_nodes.specs.declared.show.Window.{Window}
use Rattle.pipe_nodes.specs.Windows.{needed_of}
use Rattle.pipe_run.specs.Planned.{sides_at, planned, planned_before, AreInside}

pub none-planned : (pieces : List Active) (sides : ℕ × ℕ) (window : Window) (r : Area) → length pieces ≡ 0 → r ≡ needed_of sides.0 sides.1 window → planned pieces sides window ≡ r ∷ []
none-planned [] sides window r none is = ap (λ x. x ∷ []) (sym is)
none-planned (a ∷ later) sides window r none is = absurd (omega arith)

pub none-inside : (pieces : List Active) (sides : ℕ × ℕ) (window : Window) (r : Area) → length pieces ≡ 0 → r ≡ needed_of sides.0 sides.1 window → IsIn r sides.0 sides.1 → AreInside pieces sides (planned pieces sides window)
none-inside [] sides window r none is inside = subst (λ x. IsIn x sides.0 sides.1) is inside
none-inside (a ∷ later) sides window r none is inside = absurd (omega arith)

-- one instance more, in front
pub more-planned : (pieces later : List Active) (a : Active) (sides : ℕ × ℕ) (window : Window) (r region : Area) (behind : List Area) → pieces ≡ a ∷ later → planned later (sides_after a.params sides) window ≡ r ∷ behind → region ≡ needed a.params sides r
    → planned pieces sides window ≡ region ∷ planned later (sides_after a.params sides) window
more-planned pieces later a sides window r region behind is first region_is =
    ap (λ list. planned list sides window) is ∙ ap (planned_before a.params sides) first ∙ ap (λ x. x ∷ r ∷ behind) (sym region_is) ∙ ap (λ list. region ∷ list) (sym first)

pub more-inside : (pieces later : List Active) (a : Active) (sides : ℕ × ℕ) (window : Window) (r region : Area) (behind : List Area) → pieces ≡ a ∷ later → planned later (sides_after a.params sides) window ≡ r ∷ behind → region ≡ needed a.params sides r
    → IsIn region sides.0 sides.1 → AreInside later (sides_after a.params sides) (planned later (sides_after a.params sides) window) → AreInside pieces sides (planned pieces sides window)
more-inside pieces later a sides window r region behind is first region_is inside others =
    subst (AreInside pieces sides) (sym (more-planned pieces later a sides window r region behind is first region_is))
    (subst (λ list. AreInside list sides (region ∷ planned later (sides_after a.params sides) window)) (sym is) (inside, others))

-- the list of regions, the last one first, with one more
pub reversed-more : (old front : List Area) (region : Area) → (old ++ reverse front) ++ region ∷ [] ≡ old ++ reverse (region ∷ front)
reversed-more old front region = append_assoc old (reverse front) (region ∷ []) ∙ ap (λ list. old ++ list) (sym (reverse-append (region ∷ []) front))

-- the sides of a level of a source are sides
pub level-fits : (source : Cut) (level w h : ℕ) → IsPlane source → level ≤ 8 → ◌≡◌ {A = ℕ × ℕ} (w, h) (sides_at source level) → Fits 0 0 w h
level-fits source level w h plane few is =
    let size : 0 < 2 ^ level = size_some level few in
    let wide_is : w ≡ (sides_at source level).0 = ap (λ s. s.0) is in
    let high_is : h ≡ (sides_at source level).1 = ap (λ s. s.1) is in
    let wide : 0 < source.w = omega (arith, plane.area.wide, plane.inside.across) in
    let high : 0 < source.h = omega (arith, plane.area.high, plane.inside.down) in
    let some_w = blocks_some (2 ^ level) source.w size wide in
    let some_h = blocks_some (2 ^ level) source.h size high in
    let small_w = blocks_small (2 ^ level) source.w size in
    let small_h = blocks_small (2 ^ level) source.h size in
    record { wide = omega (arith, wide_is, some_w); high = omega (arith, high_is, some_h); right = omega (arith, wide_is, small_w, plane.wide); bottom = omega (arith, high_is, small_h, plane.high) }
