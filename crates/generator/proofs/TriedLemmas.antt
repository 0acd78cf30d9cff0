-- Trying events, and what a worker does next.
use Rattle.std.proofs.Common.{◌≡◌, ℕ, List, [], ◌∷◌, ◌++◌, Option, Some, None, refl, sym, ap, ◌∙◌}
use Rattle.std.specs.Prelude.{is_some, if◌then◌else◌}
use Rattle.events.specs.declared.event.Event.{Event}
use Rattle.stepped.specs.declared.answer.Answer.{Answer}
use Rattle.stepped.specs.Step.{Next, step}
use Rattle.generator.specs.NextOf.{Done, first_allowed, next_of}
use Rattle.generator.specs.Rounds.{Course, course_with, make, made_by, noted, turn, turn_by}
use Rattle.generator.proofs.IdleLemmas.{next_is}
use Rattle.generator.specs.Tried.{tried, tried_or, next_tried, wishes, with_done}

-- ---- one event

none_by : (c : Course) (e : Event) (n : Next) → (made_by c e n).1 ≡ None → (made_by c e n).0 ≡ c
none_by c e None h = refl
none_by c e (Some x) h = cc

-- an event that may not happen leaves the course
pub make_none : (c : Course) (e : Event) → (make c e).1 ≡ None → (make c e).0 ≡ c
make_none c e h = none_by c e (step c.outcome.core e) h

next_by : (c : Course) (e : Event) (others : Course × Option Done) (n : Next) → (made_by c e n).1 ≡ None → tried_or c e others n ≡ others
next_by c e others None h = refl
next_by c e others (Some x) h = cc

-- and leaves it to the others
pub tried_next : (c : Course) (e : Event) (es : List Event) → (make c e).1 ≡ None → tried c (e ∷ es) ≡ tried c es
tried_next c e es h = next_by c e (tried c es) (step c.outcome.core e) h

here_by : (c : Course) (e : Event) (others : Course × Option Done) (n : Next) (a : Answer) → (made_by c e n).1 ≡ Some a → tried_or c e others n ≡ ((made_by c e n).0, Some (e, a))
here_by c e others None a h = cc
here_by c e others (Some x) a h = let same : x.1 ≡ a = cc in ap (λ (b : Answer). (course_with c e x, Some (e, b))) same

-- an event that happens is the one
pub tried_here : (c : Course) (e : Event) (es : List Event) (a : Answer) → (make c e).1 ≡ Some a → tried c (e ∷ es) ≡ ((make c e).0, Some (e, a))
tried_here c e es a h = here_by c e (tried c es) (step c.outcome.core e) a h

-- ---- lists of events

none_of_or : (c : Course) (e : Event) (others : Course × Option Done) (n : Next) → (tried_or c e others n).1 ≡ None → (n ≡ None) × (others.1 ≡ None)
none_of_or c e others None h = (refl, h)
none_of_or c e others (Some x) h = cc

-- where none of them may happen, the course is left
pub tried_none : (c : Course) (es : List Event) → (tried c es).1 ≡ None → (tried c es).0 ≡ c
tried_none c [] h = refl
tried_none c (e ∷ es) h =
    let both = none_of_or c e (tried c es) (step c.outcome.core e) h in
    ap (λ (n : Next). (tried_or c e (tried c es) n).0) both.0 ∙ tried_none c es both.1

-- and it is left to those behind
pub tried_behind : (c : Course) (es fs : List Event) → (tried c es).1 ≡ None → tried c (es ++ fs) ≡ tried c fs
tried_behind c [] fs h = refl
tried_behind c (e ∷ es) fs h =
    let both = none_of_or c e (tried c es) (step c.outcome.core e) h in
    ap (λ (n : Next). tried_or c e (tried c (es ++ fs)) n) both.0 ∙ tried_behind c es fs both.1

some_of_or : (c : Course) (e : Event) (others more : Course × Option Done) (d : Done) (n : Next) → (tried_or c e others n).1 ≡ Some d → (others.1 ≡ Some d → more ≡ others)
    → tried_or c e more n ≡ tried_or c e others n
some_of_or c e others more d None h same = same h
some_of_or c e others more d (Some x) h same = refl

-- where one of them happens, those behind don't count
pub tried_before : (c : Course) (es fs : List Event) (d : Done) → (tried c es).1 ≡ Some d → tried c (es ++ fs) ≡ tried c es
tried_before c [] fs d h = cc
tried_before c (e ∷ es) fs d h = some_of_or c e (tried c es) (tried c (es ++ fs)) d (step c.outcome.core e) h (tried_before c es fs d)

-- ---- a turn

turn_case : (c : Course) (done : List Done) (e : Event) (es : List Event) (n : Next) → step c.outcome.core e ≡ n
    → turn_by c done (first_allowed c.outcome.core es) ≡ ((tried c es).0, with_done done (tried c es).1)
    → turn_by c done (if is_some n then Some e else first_allowed c.outcome.core es) ≡ ((tried_or c e (tried c es) n).0, with_done done (tried_or c e (tried c es) n).1)
turn_case c done e es None is more = more
turn_case c done e es (Some x) is more = ap (λ (n : Next). ((made_by c e n).0, noted done e (made_by c e n).1)) is

turn_tried : (c : Course) (done : List Done) (es : List Event) → turn_by c done (first_allowed c.outcome.core es) ≡ ((tried c es).0, with_done done (tried c es).1)
turn_tried c done [] = refl
turn_tried c done (e ∷ es) = turn_case c done e es (step c.outcome.core e) refl (turn_tried c done es)

moved_case : (c : Course) (e : Event) (es : List Event) (n : Next) → is_some (first_allowed c.outcome.core es) ≡ is_some (tried c es).1
    → is_some (if is_some n then Some e else first_allowed c.outcome.core es) ≡ is_some (tried_or c e (tried c es) n).1
moved_case c e es None more = more
moved_case c e es (Some x) more = refl

moved_tried : (c : Course) (es : List Event) → is_some (first_allowed c.outcome.core es) ≡ is_some (tried c es).1
moved_tried c [] = refl
moved_tried c (e ∷ es) = moved_case c e es (step c.outcome.core e) (moved_tried c es)

-- the next event is the first of all that the worker would do
turn_next : (w : ℕ) (c : Course) (done : List Done) → turn w (c, done) ≡ ((next_tried c w done).0, with_done done (next_tried c w done).1)
turn_next w c done = ap (turn_by c done) (sym (next_is c.outcome.core w done)) ∙ turn_tried c done (wishes c w done)

pub turn_course : (w : ℕ) (c : Course) (done : List Done) → (turn w (c, done)).0 ≡ (next_tried c w done).0
turn_course w c done = ap (λ (t : Course × List Done). t.0) (turn_next w c done)

pub turn_done : (w : ℕ) (c : Course) (done : List Done) → (turn w (c, done)).1 ≡ with_done done (next_tried c w done).1
turn_done w c done = ap (λ (t : Course × List Done). t.1) (turn_next w c done)

pub turn_moved : (w : ℕ) (c : Course) (done : List Done) → is_some (next_of c.outcome.core w done) ≡ is_some (next_tried c w done).1
turn_moved w c done = ap (λ (o : Option Event). is_some o) (sym (next_is c.outcome.core w done)) ∙ moved_tried c (wishes c w done)
