-- Lemmas on the stages of a run.
use Rattle.std.proofs.Common.{◌≡◌, ℕ, zero, suc, ◌+◌, ◌<◌, ◌≤◌, List, [], ◌∷◌, ◌++◌, length, get_or, take, drop, slice_get, Some, refl, sym, ap, ◌∙◌, subst, arith}
use Rattle.std.proofs.lemmas.List.{append_assoc, append-nil, take_more, take_all, drop_more}
use Rattle.std.proofs.lemmas.Option.{get_or_from_slice_get, slice_get_read, slice_get_within}
use Rattle.params.specs.declared.settings.Params.{Params}
use Rattle.px.specs.Area.{Area, Covers, IsIn}
use Rattle.px.specs.Cut.{Cut, IsCutOf, IsWhole, picture_of}
use Rattle.px.specs.Picture.{Picture}
use Rattle.geometry.specs.Needed.{needed}
use Rattle.geometry.specs.Sides.{sides_after}
use Rattle.modules_raw.specs.Levels.{level_side, levelled}
use Rattle.pipe_nodes.specs.declared.active.Active.{Active}
use Rattle.pipe_nodes.specs.declared.show.Window.{Window}
use Rattle.pipe_nodes.specs.Applied.{CanApply}
use Rattle.pipe_nodes.specs.Kinds.{IsRun, Takes, kind_after}
use Rattle.pipe_nodes.specs.Prefix.{PrefixSeen, prefix}
use Rattle.pipe_nodes.specs.Staged.{IsRight, StagedSeen, staged}
use Rattle.pipe_nodes.specs.Whole.{after_one, input_of, sides_of, whole}
use Rattle.pipe_nodes.specs.Windows.{needed_of}
use Rattle.pipe_nodes.proofs.RunLemmas.{after_one-kind, after_one-sides, whole-push}
use Rattle.pipe_run.specs.Planned.{sides_at, planned, planned_before, AreInside}
use Rattle.pipe_run.specs.Running.{Ends, IsPlan, RunsAt}

covers-itself : (a b : Area) → a ≡ b → Covers a b
covers-itself a b e = subst (Covers a) e (record { left = omega arith; right = omega arith; top = omega arith; bottom = omega arith })

-- ---- inputs

level-none : (n : ℕ) → n ≡ level_side n 0
level-none n = omega arith

pub input-sides : (q : Picture) (level : ℕ) → ◌≡◌ {A = ℕ × ℕ} ((input_of q level).w, (input_of q level).h) (level_side q.w level, level_side q.h level)
input-sides q zero = λ k. (level-none q.w k, level-none q.h k)
input-sides q (suc l) = refl

pub input-above : (q : Picture) (level : ℕ) → 0 < level → input_of q level ≡ levelled level q
input-above q zero above = absurd (omega arith)
input-above q (suc l) above = refl

pub cut-sides : (q : Picture) (o : Cut) → IsCutOf q o → ◌≡◌ {A = ℕ × ℕ} (o.w, o.h) (q.w, q.h)
cut-sides q o cut = λ k. (cut.wide k, cut.high k)

-- ---- one instance more

pub made-kind : (source : Picture) (level : ℕ) (actives : List Active) (a : Active) (from o : Cut) → IsCutOf (whole source level actives) from → IsCutOf (whole source level (actives ++ a ∷ [])) o → o.kind ≡ kind_after from.kind a.params
made-kind source level actives a from o right cut =
    let i = whole source level actives in
    cut.kind ∙ ap (λ (q : Picture). q.kind) (whole-push source level actives a) ∙ after_one-kind source level actives a i ∙ ap (λ k. kind_after k a.params) (sym right.kind)

pub made-sides : (source : Picture) (level : ℕ) (actives : List Active) (a : Active) (from o : Cut) → IsCutOf (whole source level actives) from → IsCutOf (whole source level (actives ++ a ∷ [])) o
    → ◌≡◌ {A = ℕ × ℕ} (o.w, o.h) (sides_after a.params (from.w, from.h))
made-sides source level actives a from o right cut =
    let i = whole source level actives in
    cut-sides (whole source level (actives ++ a ∷ [])) o cut ∙ ap (λ (q : Picture). (q.w, q.h)) (whole-push source level actives a) ∙ after_one-sides source level actives a i ∙ ap (sides_after a.params) (sym (cut-sides i from right))

-- ---- along a plan

-- the first region behind a module is that for which the one before is needed
record Splits (p : Params) (sides : ℕ × ℕ) (regions : List Area) (x : Area) (behind : List Area) : Type 0 where
  first : Area
  rest : List Area
  regions_are : regions ≡ first ∷ rest
  here : x ≡ needed p sides first
  behind_are : behind ≡ regions

split : (p : Params) (sides : ℕ × ℕ) (regions : List Area) (x : Area) (behind : List Area) → x ∷ behind ≡ planned_before p sides regions → Splits p sides regions x behind
split p sides [] x behind e = absurd (omega (arith, ap length e))
split p sides (r ∷ rest) x behind e = record { first = r; rest = rest; regions_are = refl; here = cc; behind_are = cc }

first-inside : (actives : List Active) (sides : ℕ × ℕ) (r : Area) (rest : List Area) → AreInside actives sides (r ∷ rest) → IsIn r sides.0 sides.1
first-inside [] sides r rest inside = inside
first-inside (a ∷ later) sides r rest inside = inside.0

-- a list from one place further on
dropped : (xs : List Area) (i : ℕ) (x : Area) (rest : List Area) → drop i xs ≡ x ∷ rest → i < length xs → drop (i + 1) xs ≡ rest
dropped xs i x rest e within = let more = drop_more xs i x within in cc

found : (xs : List Area) (i : ℕ) (x r : Area) (rest : List Area) → drop i xs ≡ x ∷ rest → i < length xs → r ≡ get_or xs i r → r ≡ x
found xs i x r rest e within is = let more = drop_more xs i r within in cc

first-dropped : (xs : List Area) (i : ℕ) (x y : Area) (rest : List Area) → drop i xs ≡ x ∷ rest → slice_get xs i ≡ Some y → y ≡ x
first-dropped xs i x y rest e is = found xs i x y rest e (slice_get_within xs i y is) (sym (get_or_from_slice_get xs i y y is))

-- the planned region at a place of a run, those behind it, and what is known of them; this is the picture at that place
record Place (actives : List Active) (window : Window) (regions : List Area) (i : ℕ) (q : Picture) : Type 0 where
  at : Area
  rest : List Area
  first : drop i regions ≡ at ∷ rest
  plan : at ∷ rest ≡ planned (drop i actives) (sides_of q) window
  inside : AreInside (drop i actives) (sides_of q) (at ∷ rest)
  run : IsRun q.kind (drop i actives)

-- each place has one, counted from the instances `before` on
place-from : (source : Picture) (level : ℕ) (before actives : List Active) (window : Window) (regions : List Area) (i : ℕ) → regions ≡ planned actives (sides_of (whole source level before)) window
    → AreInside actives (sides_of (whole source level before)) regions → IsRun (whole source level before).kind actives → i ≤ length actives → Place actives window regions i (whole source level (before ++ take i actives))
place-from source level before [] window [] i plan inside run within = absurd inside
place-from source level before (a ∷ later) window [] i plan inside run within = absurd inside
place-from source level before actives window (r ∷ rest) zero plan inside run within =
    subst (λ list. Place actives window (r ∷ rest) 0 (whole source level list)) (sym (append-nil before)) (record { at = r; rest = rest; first = refl; plan = plan; inside = inside; run = run })
place-from source level before [] window (r ∷ rest) (suc i) plan inside run within = absurd (omega arith)
place-from source level before (a ∷ later) window (r ∷ rest) (suc i) plan inside run within =
    let q = whole source level before in
    let next = whole source level (before ++ a ∷ []) in
    let push : next ≡ after_one source level before a q = whole-push source level before a in
    let sides : sides_after a.params (sides_of q) ≡ sides_of next = sym (ap sides_of push ∙ after_one-sides source level before a q) in
    let kind : kind_after q.kind a.params ≡ next.kind = sym (ap (λ (p : Picture). p.kind) push ∙ after_one-kind source level before a q) in
    let parts = split a.params (sides_of q) (planned later (sides_after a.params (sides_of q)) window) r rest plan in
    let there = place-from source level (before ++ a ∷ []) later window rest i (parts.behind_are ∙ ap (λ n. planned later n window) sides)
    (subst (λ n. AreInside later n rest) sides inside.1) (subst (λ k. IsRun k later) kind (record { takes = run.takes.1; rgb = run.rgb })) (omega arith) in
    subst (λ list. Place (a ∷ later) window (r ∷ rest) (suc i) (whole source level list)) (append_assoc before (a ∷ []) (take i later))
    (record { at = there.at; rest = there.rest; first = there.first; plan = there.plan; inside = there.inside; run = there.run })

place : (source : Cut) (level : ℕ) (actives : List Active) (window : Window) (regions : List Area) (i : ℕ) → IsPlan source level actives window regions → i ≤ length actives
    → Place actives window regions i (whole (picture_of source) level (take i actives))
place source level actives window regions i plan within =
    let q = picture_of source in
    let sides : sides_at source level ≡ sides_of (input_of q level) = sym (input-sides q level) in
    place-from q level [] actives window regions i (plan.regions_are ∙ ap (λ n. planned actives n window) sides) (subst (λ n. AreInside actives n regions) sides plan.inside) (plan.run (input_of q level).kind) within

-- a right stage of a run holds a region of the picture at its place
cut-there : (source : Cut) (level : ℕ) (actives : List Active) (regions : List Area) (i : ℕ) (s : StagedSeen) → RunsAt source level actives regions i s → IsRight s → IsCutOf (whole (picture_of source) level (take i actives)) s.plane
cut-there source level actives regions i s runs right =
    subst (λ (c : Cut). IsCutOf (whole (picture_of c) level (take i actives)) s.plane) runs.source_is
    (subst (λ (p : PrefixSeen). IsCutOf (whole (picture_of s.source) p.level p.actives) s.plane) runs.prefix_is right)

-- the region that is planned behind the next instance: the one before is needed for it, and it lies in the picture there
record IsNext (p : Params) (sides : ℕ × ℕ) (at r : Area) : Type 0 where
  here : at ≡ needed p sides r
  inside : IsIn r (sides_after p sides).0 (sides_after p sides).1

next-of : (a : Active) (later : List Active) (sides : ℕ × ℕ) (window : Window) (regions : List Area) (i : ℕ) (at r : Area) (rest : List Area) → Splits a.params sides (planned later (sides_after a.params sides) window) at rest
    → drop i regions ≡ at ∷ rest → i + 1 < length regions → r ≡ get_or regions (i + 1) r → AreInside later (sides_after a.params sides) rest → IsNext a.params sides at r
next-of a later sides window regions i at r rest parts first within r_is inside =
    let rest_is : rest ≡ parts.first ∷ parts.rest = parts.behind_are ∙ parts.regions_are in
    let next : drop (i + 1) regions ≡ parts.first ∷ parts.rest = dropped regions i at rest first (omega arith) ∙ rest_is in
    let r_first : parts.first ≡ r = sym (found regions (i + 1) parts.first r parts.rest next within r_is) in
    record {
      here = parts.here ∙ ap (needed a.params sides) r_first;
      inside = subst (λ x. IsIn x (sides_after a.params sides).0 (sides_after a.params sides).1) r_first
          (first-inside later (sides_after a.params sides) parts.first parts.rest (subst (AreInside later (sides_after a.params sides)) rest_is inside));
    }

next-there : (actives : List Active) (window : Window) (regions : List Area) (i : ℕ) (q : Picture) (a : Active) (later : List Active) (r : Area) → (p : Place actives window regions i q) → drop i actives ≡ a ∷ later
    → i + 1 < length regions → r ≡ get_or regions (i + 1) r → Takes a.params q.kind × IsNext a.params (sides_of q) p.at r
next-there actives window regions i q a later r p here within r_is =
    let run : IsRun q.kind (a ∷ later) = subst (IsRun q.kind) here p.run in
    let inside : AreInside (a ∷ later) (sides_of q) (p.at ∷ p.rest) = subst (λ list. AreInside list (sides_of q) (p.at ∷ p.rest)) here p.inside in
    let plan : p.at ∷ p.rest ≡ planned (a ∷ later) (sides_of q) window = p.plan ∙ ap (λ list. planned list (sides_of q) window) here in
    (run.takes.0, next-of a later (sides_of q) window regions i p.at r p.rest (split a.params (sides_of q) (planned later (sides_after a.params (sides_of q)) window) p.at p.rest plan) p.first within r_is inside.1)

-- a plane that holds a region of the picture there
can-apply : (a : Active) (q : Picture) (o : Cut) (planned_at at r : Area) → IsCutOf q o → Takes a.params q.kind → IsNext a.params (sides_of q) planned_at r → at ≡ planned_at → Covers o.area at → CanApply a.params o r
can-apply a q o planned_at at r cut takes next same covers =
    let sides : sides_of q ≡ (o.w, o.h) = sym (cut-sides q o cut) in
    record {
      takes = subst (Takes a.params) (sym cut.kind) takes;
      inside = subst (λ (n : ℕ × ℕ). IsIn r (sides_after a.params n).0 (sides_after a.params n).1) sides next.inside;
      covers = subst (λ (n : ℕ × ℕ). Covers o.area (needed a.params n r)) sides (subst (Covers o.area) (same ∙ next.here) covers);
    }

-- the next instance can be applied to a stage of a run, over the region that is planned behind it
pub can-next : (source : Cut) (level : ℕ) (actives : List Active) (window : Window) (regions : List Area) (i : ℕ) (s : StagedSeen) (a : Active) (r : Area) → IsPlan source level actives window regions
    → RunsAt source level actives regions i s → IsRight s → i < length actives → a ≡ get_or actives i a → r ≡ get_or regions (i + 1) r → CanApply a.params s.plane r
can-next source level actives window regions i s a r is_plan runs right within is r_is =
    let q = whole (picture_of source) level (take i actives) in
    let p = place source level actives window regions i is_plan (omega arith) in
    let here : drop i actives ≡ a ∷ drop (i + 1) actives = drop_more actives i a within ∙ ap (λ x. x ∷ drop (i + 1) actives) (sym is) in
    let next = next-there actives window regions i q a (drop (i + 1) actives) r p here (omega (arith, is_plan.count)) r_is in
    can-apply a q s.plane p.at runs.at r (cut-there source level actives regions i s runs right) next.0 next.1 (first-dropped regions i p.at runs.at p.rest p.first runs.place) runs.covers

-- a stage with the next prefix, over the region that is planned there
pub runs-next : (source : Cut) (level : ℕ) (actives : List Active) (regions : List Area) (i : ℕ) (s t : StagedSeen) (a : Active) (r : Area) → RunsAt source level actives regions i s → i < length actives → i + 1 < length regions
    → a ≡ get_or actives i a → r ≡ get_or regions (i + 1) r → t.prefix ≡ prefix s.prefix.level (s.prefix.actives ++ a ∷ []) → t.source ≡ s.source → t.plane.area ≡ r → RunsAt source level actives regions (i + 1) t
runs-next source level actives regions i s t a r runs within planned_too is r_is prefix_is source_is area =
    let more : take (i + 1) actives ≡ take i actives ++ a ∷ [] = take_more actives i a within ∙ ap (λ x. take i actives ++ x ∷ []) (sym is) in
    record {
      prefix_is = prefix_is ∙ ap (λ (p : PrefixSeen). prefix p.level (p.actives ++ a ∷ [])) runs.prefix_is ∙ ap (prefix level) (sym more);
      source_is = source_is ∙ runs.source_is;
      at = r;
      place = slice_get_read regions (length regions) (i + 1) r refl planned_too r_is;
      covers = covers-itself t.plane.area r area;
    }

drop-all : (xs : List Active) (i : ℕ) → length xs ≤ i → drop i xs ≡ []
drop-all [] zero past = refl
drop-all [] (suc i) past = refl
drop-all (x ∷ xs) zero past = absurd (omega arith)
drop-all (x ∷ xs) (suc i) past = drop-all xs i (omega arith)

-- at the end the stage has what the window needs
pub ends : (source : Cut) (level : ℕ) (actives : List Active) (window : Window) (regions : List Area) (i : ℕ) (s : StagedSeen) → IsPlan source level actives window regions → RunsAt source level actives regions i s → IsRight s
    → i ≡ length actives → Ends source level actives window s
ends source level actives window regions i s is_plan runs right all =
    let q = whole (picture_of source) level (take i actives) in
    let p = place source level actives window regions i is_plan (omega arith) in
    let cut = cut-there source level actives regions i s runs right in
    let none : drop i actives ≡ [] = drop-all actives i (omega arith) in
    let plan : p.at ∷ p.rest ≡ needed_of q.w q.h window ∷ [] = p.plan ∙ ap (λ list. planned list (sides_of q) window) none in
    let at : runs.at ≡ needed_of q.w q.h window = first-dropped regions i p.at runs.at p.rest p.first runs.place ∙ cc in
    let run : IsRun q.kind [] = subst (IsRun q.kind) none p.run in
    record {
      prefix_is = runs.prefix_is ∙ ap (prefix level) (take_all i actives (omega arith));
      source_is = runs.source_is;
      rgb = cut.kind ∙ run.rgb;
      covers = subst (λ (n : ℕ × ℕ). Covers s.plane.area (needed_of n.0 n.1 window)) (sym (cut-sides q s.plane cut)) (subst (Covers s.plane.area) at runs.covers);
    }

-- where it begins
pub begins : (source : Cut) (level : ℕ) (actives : List Active) (regions : List Area) (s : StagedSeen) (r : Area) → 0 < length regions → s.prefix ≡ prefix level [] → s.source ≡ source → s.plane.area ≡ r → r ≡ get_or regions 0 r
    → RunsAt source level actives regions 0 s
begins source level actives regions s r some prefix_is source_is area r_is = record {
  prefix_is = prefix_is;
  source_is = source_is;
  at = r;
  place = slice_get_read regions (length regions) 0 r refl some r_is;
  covers = covers-itself s.plane.area r area;
}

-- ---- stages

-- the plane is what the prefix makes of the source
pub right-of : (p : PrefixSeen) (level : ℕ) (actives : List Active) (plane src s : Cut) → p ≡ prefix level actives → src ≡ s → IsCutOf (whole (picture_of s) level actives) plane → IsRight (staged p plane src)
right-of p level actives plane src s p_is src_is cut =
    subst (λ n. IsRight (staged n plane src)) (sym p_is) (subst (λ n. IsCutOf (whole (picture_of n) level actives) plane) (sym src_is) cut)

-- a whole plane covers each region of its picture
pub covers-whole : (p : Cut) (sides : ℕ × ℕ) (r : Area) → IsWhole p → ◌≡◌ {A = ℕ × ℕ} (p.w, p.h) sides → IsIn r sides.0 sides.1 → Covers p.area r
covers-whole p sides r whole is inside =
    let wide : p.w ≡ sides.0 = ap (λ s. s.0) is in
    let high : p.h ≡ sides.1 = ap (λ s. s.1) is in
    subst (λ a. Covers a r) (sym whole) (record { left = omega arith; right = omega (arith, inside.across, wide); top = omega arith; bottom = omega (arith, inside.down, high) })
