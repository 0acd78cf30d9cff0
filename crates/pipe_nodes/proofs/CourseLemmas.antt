-- Lemmas on runs by bands: how far they have come, what is left, and what bands need.
use Rattle.std.proofs.Common.{◌≡◌, ℕ, ◌≤◌, List, [], ◌∷◌, ◌++◌, ◌+◌, length, take, refl, sym, ap, ◌∙◌, subst, arith, Option, Some, None}
use Rattle.std.specs.Prelude.{unwrap_or, slice_get}
use Rattle.std.proofs.lemmas.List.{append_assoc, append-nil, take_all}
use Rattle.std.proofs.lemmas.Option.{slice_get_within, get_or_from_slice_get}
use Rattle.params.specs.declared.settings.Params.{Params}
use Rattle.px.specs.declared.kind.PlaneKind.{PlaneKind}
use Rattle.px.specs.Area.{Area, Covers, IsArea, IsIn}
use Rattle.px.specs.Bands.{IsShaped}
use Rattle.px.specs.Cut.{Cut, IsCutOf, IsWhole, picture_of}
use Rattle.px.specs.Picture.{Picture}
use Rattle.geometry.specs.Behind.{IsBehind}
use Rattle.geometry.specs.Sides.{sides_after, sides_behind}
use Rattle.geometry.proofs.NeededLemmas.{IsPartOf, needed-part, needed-covers}
use Rattle.modules_raw.specs.Levels.{level_side}
use Rattle.pipe_nodes.specs.declared.active.Active.{Active}
use Rattle.pipe_nodes.specs.declared.tracing.Tracing.{Tracing}
use Rattle.pipe_nodes.specs.Applied.{IsMade, IsTracing}
use Rattle.pipe_nodes.specs.Course.{CourseSeen, HasCome, sides_made, needed_before, AreSound, CanRun, IsMadeBy, IsLastLeg}
use Rattle.pipe_nodes.specs.Kinds.{AllTake, kind_after, kind_behind}
use Rattle.pipe_nodes.specs.Whole.{sides_of, settings_of, input_of, after_one, run_from, whole}
use Rattle.pipe_nodes.specs.Staged.{StagedSeen, IsRight}
use Rattle.pipe_nodes.proofs.RunLemmas.{itself, made-cut, made-shape, rendered, settings_of-push, taken, whole-sides}
use Rattle.pipe_nodes.proofs.StageLemmas.{input-sides, stage-sides}

-- ---- instances behind instances

run_from-append : (source : Picture) (level : ℕ) (before leg later : List Active) (i : Picture)
    → run_from source level before (leg ++ later) i ≡ run_from source level (before ++ leg) later (run_from source level before leg i)
run_from-append source level before [] later i = ap (λ b. run_from source level b later i) (sym (append-nil before))
run_from-append source level before (a ∷ leg) later i =
    let next = after_one source level before a i in
    run_from-append source level (before ++ a ∷ []) leg later next ∙ ap (λ b. run_from source level b later (run_from source level (before ++ a ∷ []) leg next)) (append_assoc before (a ∷ []) leg)

pub sides_made-append : (leg later : List Active) (sides : ℕ × ℕ) → sides_made (leg ++ later) sides ≡ sides_made later (sides_made leg sides)
sides_made-append [] later sides = refl
sides_made-append (a ∷ leg) later sides = sides_made-append leg later (sides_after a.params sides)

pub kind_behind-append : (k : PlaneKind) (leg later : List Active) → kind_behind k (leg ++ later) ≡ kind_behind (kind_behind k leg) later
kind_behind-append k [] later = refl
kind_behind-append k (a ∷ leg) later = kind_behind-append (kind_after k a.params) leg later

pub all_take-front : (k : PlaneKind) (leg later : List Active) → AllTake k (leg ++ later) → AllTake k leg
all_take-front k [] later takes = tt
all_take-front k (a ∷ leg) later takes = (takes.0, all_take-front (kind_after k a.params) leg later takes.1)

pub all_take-back : (k : PlaneKind) (leg later : List Active) → AllTake k (leg ++ later) → AllTake (kind_behind k leg) later
all_take-back k [] later takes = takes
all_take-back k (a ∷ leg) later takes = all_take-back (kind_after k a.params) leg later takes.1

-- ---- how far a run has come

pub come-more : (q : Picture) (level : ℕ) (before : List Active) (a : Active) (c d : CourseSeen) → c.w ≡ d.w → c.h ≡ d.h
    → ((l : ℕ) (s : ℕ × ℕ) (modules : List Params) → IsBehind l s modules c.geometry → IsBehind l s (modules ++ a.params ∷ []) d.geometry) → HasCome q level before c → HasCome q level (before ++ a ∷ []) d
come-more q level before a c d wide high push come = record {
  wide = sym wide ∙ come.wide;
  high = sym high ∙ come.high;
  behind = subst (λ list. IsBehind level (sides_of (input_of q level)) list d.geometry) (sym (settings_of-push before a)) (push level (sides_of (input_of q level)) (settings_of before) come.behind);
}

-- ---- what bands need

pub needed_before-part : (actives : List Active) (sides : ℕ × ℕ) (r : Area) → AreSound actives sides → IsPartOf (sides_made actives sides) r → IsPartOf sides (needed_before actives sides r)
needed_before-part [] sides r sound part = part
needed_before-part (a ∷ later) sides r sound part = needed-part a.params sides (needed_before later (sides_after a.params sides) r) sound.0 sound.1 (needed_before-part later (sides_after a.params sides) r sound.2 part)

needed_before-covers : (actives : List Active) (sides : ℕ × ℕ) (r b : Area) → AreSound actives sides → IsPartOf (sides_made actives sides) r → Covers r b → Covers (needed_before actives sides r) (needed_before actives sides b)
needed_before-covers [] sides r b sound part covers = covers
needed_before-covers (a ∷ later) sides r b sound part covers =
    let after = sides_after a.params sides in
    needed-covers a.params sides (needed_before later after r) (needed_before later after b) (needed_before-part later after r sound.2 part) (needed_before-covers later after r b sound.2 part covers)

covers-covers : (a b c : Area) → Covers a b → Covers b c → Covers a c
covers-covers a b c outer inner = record { left = omega (arith, outer.left, inner.left); right = omega (arith, outer.right, inner.right); top = omega (arith, outer.top, inner.top); bottom = omega (arith, outer.bottom, inner.bottom) }

-- what can be run for a region can be run for each part of it
pub can-part : (actives : List Active) (input : Cut) (region r : Area) → AreSound actives (input.w, input.h) → IsArea region → CanRun actives input region → Covers region r → CanRun actives input r
can-part actives input region r sound area can covers =
    let part : IsPartOf (sides_made actives (input.w, input.h)) region = record { wide = area.wide; high = area.high; inside = can.inside } in
    record {
      takes = can.takes;
      inside = record { across = omega (arith, covers.right, can.inside.across); down = omega (arith, covers.bottom, can.inside.down) };
      covers = covers-covers input.area _ _ can.covers (needed_before-covers actives (input.w, input.h) region r sound part covers);
    }

-- ---- one piece

-- the plane that stands after an instance covers the region that was asked of it
made-covers : (a : Active) (level : ℕ) (t : Tracing) (p : Cut) (region : Area) (next : Option Cut) → IsMade a level t p region next → Covers (unwrap_or next p).area region
made-covers a level t p region None made = made.covers
made-covers a level t p region (Some o) made = subst (λ (b : Area). Covers b region) (sym made.area) (record { left = omega arith; right = omega arith; top = omega arith; bottom = omega arith })

-- the others can be run on what it made
pub can-more : (pieces later : List Active) (a : Active) (level : ℕ) (t : Tracing) (p j : Cut) (next : Option Cut) (want region : Area) (sides : ℕ × ℕ) → pieces ≡ a ∷ later → CanRun pieces p region → sides ≡ sides_after a.params (p.w, p.h)
    → want ≡ needed_before later sides region → j ≡ unwrap_or next p → IsMade a level t p want next → CanRun later j region
can-more pieces later a level t p j next want region sides is can sides_is want_is j_is made =
    let at = subst (λ list. CanRun list p region) is can in
    let shape = made-shape a level t p want next made in
    let n = unwrap_or next p in
    subst (λ x. CanRun later x region) (sym j_is) (record {
      takes = subst (λ k. AllTake k later) (sym shape.kind) at.takes.1;
      inside = subst (λ (s : ℕ × ℕ). IsIn region (sides_made later s).0 (sides_made later s).1) (sym shape.sides) at.inside;
      covers = subst (λ (r : Area). Covers n.area r) (want_is ∙ ap (λ s. needed_before later s region) (sides_is ∙ sym shape.sides)) (made-covers a level t p want next made);
    })

-- the sides to which the run has come then
pub out-more : (a : Active) (level : ℕ) (t : Tracing) (p j : Cut) (next : Option Cut) (want : Area) (old new : ℕ × ℕ) → new ≡ sides_after a.params old → old ≡ (p.w, p.h) → j ≡ unwrap_or next p → IsMade a level t p want next → new ≡ (j.w, j.h)
out-more a level t p j next want old new is old_is j_is made = is ∙ ap (sides_after a.params) old_is ∙ sym (made-shape a level t p want next made).sides ∙ ap (λ (x : Cut). (x.w, x.h)) (sym j_is)

-- the shape of what the others make is that of what all make
pub shaped-more : (pieces later : List Active) (a : Active) (level : ℕ) (t : Tracing) (p j o : Cut) (next : Option Cut) (want region : Area) → pieces ≡ a ∷ later → j ≡ unwrap_or next p → IsMade a level t p want next
    → IsShaped (kind_behind j.kind later) (sides_made later (j.w, j.h)).0 (sides_made later (j.w, j.h)).1 region o
    → IsShaped (kind_behind p.kind pieces) (sides_made pieces (p.w, p.h)).0 (sides_made pieces (p.w, p.h)).1 region o
shaped-more pieces later a level t p j o next want region is j_is made shaped =
    let shape = made-shape a level t p want next made in
    let kind : j.kind ≡ kind_after p.kind a.params = ap (λ (x : Cut). x.kind) j_is ∙ shape.kind in
    let sides : ◌≡◌ {A = ℕ × ℕ} (j.w, j.h) (sides_after a.params (p.w, p.h)) = ap (λ (x : Cut). (x.w, x.h)) j_is ∙ shape.sides in
    subst (λ list. IsShaped (kind_behind p.kind list) (sides_made list (p.w, p.h)).0 (sides_made list (p.w, p.h)).1 region o) (sym is)
    (subst (λ k. IsShaped (kind_behind k later) (sides_made later (sides_after a.params (p.w, p.h))).0 (sides_made later (sides_after a.params (p.w, p.h))).1 region o) kind
    (subst (λ (s : ℕ × ℕ). IsShaped (kind_behind j.kind later) (sides_made later s).0 (sides_made later s).1 region o) sides shaped))

-- what the others make of it is what all make
pub made-more : (pieces later : List Active) (a : Active) (c d : CourseSeen) (level : ℕ) (t : Tracing) (p j o : Cut) (next : Option Cut) (want : Area) → pieces ≡ a ∷ later → level ≡ c.geometry.trace.level → c.geometry.out ≡ (p.w, p.h) → j ≡ unwrap_or next p
    → ((q : Picture) (l : ℕ) (before : List Active) → HasCome q l before c → IsTracing q l before c.geometry.out t)
    → ((q : Picture) (l : ℕ) (before : List Active) → HasCome q l before c → HasCome q l (before ++ a ∷ []) d)
    → IsMade a level t p want next → IsMadeBy later d j o → IsMadeBy pieces c p o
made-more pieces later a c d level t p j o next want is level_is out j_is traces push made rest =
    subst (λ list. IsMadeBy list c p o) (sym is) (λ source i l before come part.
    let tracing : IsTracing source l before (p.w, p.h) t = subst (λ s. IsTracing source l before s t) out (traces source l before come) in
    let here : IsMade a l t p want next = subst (λ n. IsMade a n t p want next) (level_is ∙ come.behind.level_is) made in
    let after = after_one source l before a i in
    rest source after l (before ++ a ∷ []) (push source l before come) (subst (IsCutOf after) (sym j_is) (made-cut a l t p want next here source i before tracing part)))

-- no piece: a region of the plane itself
pub none-shaped : (pieces : List Active) (p o : Cut) (region : Area) → pieces ≡ [] → o.area ≡ region → ((q : Picture) → IsCutOf q p → IsCutOf q o)
    → IsShaped (kind_behind p.kind pieces) (sides_made pieces (p.w, p.h)).0 (sides_made pieces (p.w, p.h)).1 region o
none-shaped pieces p o region none area copy =
    let seen = copy (picture_of p) (itself p) in
    subst (λ list. IsShaped (kind_behind p.kind list) (sides_made list (p.w, p.h)).0 (sides_made list (p.w, p.h)).1 region o) (sym none)
    (λ x. record { kind = seen.kind x; w = seen.wide x; h = seen.high x; area = area x; values = o.values })

pub none-made : (pieces : List Active) (c : CourseSeen) (p o : Cut) → pieces ≡ [] → ((q : Picture) → IsCutOf q p → IsCutOf q o) → IsMadeBy pieces c p o
none-made pieces c p o none copy = subst (λ list. IsMadeBy list c p o) (sym none) (λ source i level before come part. copy i part)

-- ---- bands cut out of a run's input

-- a part of the input is a cut of each picture of which the input is one
abbrev pub IsPartOfInput : Cut → Cut → Type 0
IsPartOfInput input band = (q : Picture) → IsCutOf q input → IsCutOf q band

part-kind : (input band : Cut) → IsPartOfInput input band → band.kind ≡ input.kind
part-kind input band cut = (cut (picture_of input) (itself input)).kind

pub part-sides : (input band : Cut) → IsPartOfInput input band → ◌≡◌ {A = ℕ × ℕ} (band.w, band.h) (input.w, input.h)
part-sides input band cut = let seen = cut (picture_of input) (itself input) in λ x. (seen.wide x, seen.high x)

-- what can be run on the input can be run on the part of it that is needed
pub can-band : (actives : List Active) (input band : Cut) (region : Area) → IsPartOfInput input band → band.area ≡ needed_before actives (input.w, input.h) region → CanRun actives input region → CanRun actives band region
can-band actives input band region cut area can =
    let sides = part-sides input band cut in
    record {
      takes = subst (λ k. AllTake k actives) (sym (part-kind input band cut)) can.takes;
      inside = subst (λ (s : ℕ × ℕ). IsIn region (sides_made actives s).0 (sides_made actives s).1) (sym sides) can.inside;
      covers = subst (λ (a : Area). Covers band.area a) (area ∙ ap (λ s. needed_before actives s region) (sym sides)) (record { left = omega arith; right = omega arith; top = omega arith; bottom = omega arith });
    }

-- what pieces make of that part has the shape of what they make of the input
pub shaped-band : (actives : List Active) (input band o : Cut) (region : Area) → IsPartOfInput input band
    → IsShaped (kind_behind band.kind actives) (sides_made actives (band.w, band.h)).0 (sides_made actives (band.w, band.h)).1 region o
    → IsShaped (kind_behind input.kind actives) (sides_made actives (input.w, input.h)).0 (sides_made actives (input.w, input.h)).1 region o
shaped-band actives input band o region cut shaped =
    subst (λ k. IsShaped (kind_behind k actives) (sides_made actives (input.w, input.h)).0 (sides_made actives (input.w, input.h)).1 region o) (part-kind input band cut)
    (subst (λ (s : ℕ × ℕ). IsShaped (kind_behind band.kind actives) (sides_made actives s).0 (sides_made actives s).1 region o) (part-sides input band cut) shaped)

-- and is what they make of the input
pub made-band : (actives : List Active) (c : CourseSeen) (input band o : Cut) → IsPartOfInput input band → IsMadeBy actives c band o → IsMadeBy actives c input o
made-band actives c input band o cut made source i level before come part = made source i level before come (cut i part)

-- ---- legs

-- a whole plane can be run for the whole of what comes out
pub can-whole : (actives : List Active) (input : Cut) (sides : ℕ × ℕ) (region : Area) → AllTake input.kind actives → ◌≡◌ {A = ℕ × ℕ} sides (sides_made actives (input.w, input.h)) → IsIn region sides.0 sides.1
    → Covers input.area (needed_before actives (input.w, input.h) region) → CanRun actives input region
can-whole actives input sides region takes sides_is inside covers = record { takes = takes; inside = subst (λ (s : ℕ × ℕ). IsIn region s.0 s.1) sides_is inside; covers = covers }

-- a whole plane covers each part of its picture
pub whole-covers : (p : Cut) (r : Area) → IsWhole p → IsIn r p.w p.h → Covers p.area r
whole-covers p r whole inside = subst (λ (a : Area). Covers a r) (sym whole) (record { left = omega arith; right = omega (arith, inside.across); top = omega arith; bottom = omega (arith, inside.down) })

-- one leg more in front
pub last-more : (pieces leg later rest : List Active) (c d e : CourseSeen) (p next l : Cut) → pieces ≡ leg ++ later → IsMadeBy leg c p next → next.kind ≡ kind_behind p.kind leg → ◌≡◌ {A = ℕ × ℕ} (next.w, next.h) (sides_made leg (p.w, p.h))
    → ((q : Picture) (level : ℕ) (before : List Active) → HasCome q level before c → HasCome q level (before ++ leg) d) → IsLastLeg later d next rest e l → IsLastLeg pieces c p rest e l
last-more pieces leg later rest c d e p next l is made kind sides push last = record {
  out = last.out;
  whole_is = last.whole_is;
  takes = last.takes;
  kind = last.kind ∙ ap (λ k. kind_behind k later) kind ∙ sym (kind_behind-append p.kind leg later) ∙ ap (kind_behind p.kind) (sym is);
  sides = last.sides ∙ ap (sides_made later) sides ∙ sym (sides_made-append leg later (p.w, p.h)) ∙ ap (λ list. sides_made list (p.w, p.h)) (sym is);
  made = λ o all. subst (λ list. IsMadeBy list c p o) (sym is) (λ source i level before come part.
      subst (λ q. IsCutOf q o) (sym (run_from-append source level before leg later i))
      (last.made o all source (run_from source level before leg i) level (before ++ leg) (push source level before come) (made source i level before come part)));
}

-- ---- what pieces make, one by one

pub nothing : (pieces : List Active) → length pieces ≡ 0 → pieces ≡ []
nothing [] none = refl
nothing (a ∷ later) none = absurd (omega arith)

-- ---- stages

-- the course of one instance more of a prefix
pub come-next : (q : Picture) (level : ℕ) (actives : List Active) (i : ℕ) (a : Active) (old new : CourseSeen) → slice_get actives i ≡ Some a → HasCome q level (take i actives) old
    → ((p : Picture) (l : ℕ) (before : List Active) → HasCome p l before old → HasCome p l (before ++ a ∷ []) new) → HasCome q level (take (i + 1) actives) new
come-next q level actives i a old new at come push =
    let more : take (i + 1) actives ≡ take i actives ++ a ∷ [] = taken actives i a (slice_get_within actives i a at) (sym (get_or_from_slice_get actives i a a at)) in
    subst (λ list. HasCome q level list new) (sym more) (push q level (take i actives) come)

-- behind all instances of a stage the course has the sides of the stage's picture
pub stage-out : (s : StagedSeen) (c : CourseSeen) → IsRight s → HasCome (picture_of s.source) s.prefix.level s.prefix.actives c → c.geometry.out ≡ (s.plane.w, s.plane.h)
stage-out s c right come = come.behind.out ∙ ap (sides_behind (settings_of s.prefix.actives)) (input-sides (picture_of s.source) s.prefix.level) ∙ sym (stage-sides s right)

pub come-all : (q : Picture) (level : ℕ) (actives : List Active) (i : ℕ) (c : CourseSeen) → length actives ≤ i → HasCome q level (take i actives) c → HasCome q level actives c
come-all q level actives i c past come = subst (λ list. HasCome q level list c) (take_all i actives past) come

-- what one piece makes of a stage is a region of the longer run
pub stage-made : (s : StagedSeen) (a : Active) (c : CourseSeen) (o : Cut) → IsRight s → HasCome (picture_of s.source) s.prefix.level s.prefix.actives c → IsMadeBy (a ∷ []) c s.plane o
    → IsCutOf (whole (picture_of s.source) s.prefix.level (s.prefix.actives ++ a ∷ [])) o
stage-made s a c o right come made =
    let source = picture_of s.source in
    rendered source s.prefix.level s.prefix.actives a o (made source (whole source s.prefix.level s.prefix.actives) s.prefix.level s.prefix.actives come right)

-- ---- whole runs

-- the course begins with the sides of the level
pub level-out : (source input : Cut) (level : ℕ) (out : ℕ × ℕ) → out ≡ (level_side source.w level, level_side source.h level) → ((q : Picture) → IsCutOf q source → IsCutOf (input_of q level) input) → out ≡ (input.w, input.h)
level-out source input level out is cut =
    let seen = cut (picture_of source) (itself source) in
    is ∙ sym (input-sides (picture_of source) level) ∙ (λ x. (sym seen.wide x, sym seen.high x))

-- what the last leg makes is cut out of the whole run
pub last-cut : (level : ℕ) (source input plane o : Cut) (pieces later : List Active) (c d : CourseSeen) → IsLastLeg pieces c input later d plane → ((q : Picture) → IsCutOf q source → HasCome q level [] c)
    → ((q : Picture) → IsCutOf q source → IsCutOf (input_of q level) input) → IsMadeBy later d plane o → (q : Picture) → IsCutOf q source → IsCutOf (whole q level pieces) o
last-cut level source input plane o pieces later c d last come cut made q own = last.made o made q (input_of q level) level [] (come q own) (cut q own)

-- what all pieces make of the level is cut out of the whole run
pub all-cut : (level : ℕ) (source input o : Cut) (pieces : List Active) (c : CourseSeen) → ((q : Picture) → IsCutOf q source → HasCome q level [] c) → ((q : Picture) → IsCutOf q source → IsCutOf (input_of q level) input)
    → IsMadeBy pieces c input o → (q : Picture) → IsCutOf q source → IsCutOf (whole q level pieces) o
all-cut level source input o pieces c come cut made q own = made q (input_of q level) level [] (come q own) (cut q own)

-- and has the sides of the whole run
pub all-sides : (level : ℕ) (source input : Cut) (pieces : List Active) → ((q : Picture) → IsCutOf q source → IsCutOf (input_of q level) input)
    → (q : Picture) → IsCutOf q source → sides_made pieces (input.w, input.h) ≡ sides_of (whole q level pieces)
all-sides level source input pieces cut q own =
    let seen = cut q own in
    ap (sides_made pieces) (λ x. (seen.wide x, seen.high x)) ∙ sym (whole-sides q level pieces)
