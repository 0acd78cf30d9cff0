-- lists of events
use Rattle.std.proofs.Common.{◌≡◌, ℕ, ◌+◌, ◌<◌, ◌≤◌, List, [], ◌∷◌, ◌++◌, length, take, take_all, get_or, refl, sym, ap, ◌∙◌, Option, Some, None}
use Rattle.std.specs.Prelude.{option_and_then}
use Rattle.std.proofs.lemmas.List.{take_more}
use Rattle.std.proofs.lemmas.Option.{slice_get-get_or}
use Rattle.events.specs.declared.event.Event.{Event}
use Rattle.stepped.specs.declared.answer.Answer.{Answer}
use Rattle.stepped.specs.Outcome.{OutcomeSeen, outcome_with, run, IsRefused}
use Rattle.stepped.specs.Step.{Core, Next, step}

-- ---- lists of events

push_through : (f g : Core × Answer → Option OutcomeSeen) (h : OutcomeSeen → Option OutcomeSeen) (n : Next) → ((x : Core × Answer) → f x ≡ option_and_then h (g x))
    → option_and_then f n ≡ option_and_then h (option_and_then g n)
push_through f g h None each = refl
push_through f g h (Some x) each = each x

run-push : (o : OutcomeSeen) (es : List Event) (e : Event) → run o (es ++ e ∷ []) ≡ option_and_then (λ m. run m (e ∷ [])) (run o es)
run-push o [] e = refl
run-push o (x ∷ es) e =
    push_through (λ next. run (outcome_with o x next) (es ++ e ∷ [])) (λ next. run (outcome_with o x next) es) (λ m. run m (e ∷ [])) (step o.core x)
    (λ next. run-push (outcome_with o x next) es e)

-- one event happened
pub one_made : (o new : OutcomeSeen) (e : Event) (core : Core) (a : Answer) → step o.core e ≡ Some (core, a) → new ≡ outcome_with o e (core, a) → run o (e ∷ []) ≡ Some new
one_made o new e core a made is = ap (option_and_then (λ next. run (outcome_with o e next) [])) made ∙ ap Some (sym is)

-- one more event
pub run_further : (o mid new : OutcomeSeen) (es : List Event) (i : ℕ) (d : Event) → run o (take i es) ≡ Some mid → i < length es → run mid (get_or es i d ∷ []) ≡ Some new
    → run o (take (i + 1) es) ≡ Some new
run_further o mid new es i d so within more =
    ap (run o) (take_more es i d within) ∙ run-push o (take i es) (get_or es i d) ∙ ap (option_and_then (λ m. run m (get_or es i d ∷ []))) so ∙ more

pub run_refused : (o mid new : OutcomeSeen) (es : List Event) (i : ℕ) (d : Event) → run o (take i es) ≡ Some mid → i < length es → step mid.core (get_or es i d) ≡ None → new ≡ mid
    → IsRefused o es (i + 1) new
run_refused o mid new es i d so within refused is = record {
  before = i;
  counted = refl;
  front = so ∙ ap Some (sym is);
  event = get_or es i d;
  stands = slice_get-get_or es i d within;
  refused = ap (λ (x : OutcomeSeen). step x.core (get_or es i d)) is ∙ refused;
}

pub run_stopped : (o mid new : OutcomeSeen) (es : List Event) (i : ℕ) → run o (take i es) ≡ Some mid → new ≡ mid → (n : ℕ) × (run o (take n es) ≡ Some new)
run_stopped o mid new es i so is = (i, so ∙ ap Some (sym is))

pub run_done : (o new : OutcomeSeen) (es : List Event) (i : ℕ) → run o (take i es) ≡ Some new → length es ≤ i → run o es ≡ Some new
run_done o new es i so past = ap (run o) (sym (take_all i es past)) ∙ so
