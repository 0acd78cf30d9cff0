-- The events of the rounds lead to their outcome.
use Rattle.std.proofs.Common.{◌≡◌, ℕ, zero, suc, Bool, true, false, List, [], ◌∷◌, ◌++◌, length, Option, Some, None, refl, sym, ap, ◌∙◌}
use Rattle.std.specs.Prelude.{option_and_then, if◌then◌else◌}
use Rattle.dev_core.specs.Subject.{SubjectSeen}
use Rattle.events.specs.declared.event.Event.{Event}
use Rattle.events.specs.declared.event.Event.TheVariants.{Editor}
use Rattle.stepped.specs.declared.answer.Answer.{Answer}
use Rattle.stepped.specs.Step.{Core, Next, step}
use Rattle.stepped.specs.Outcome.{OutcomeSeen, start_of, outcome_with, run}
use Rattle.stepped.proofs.SubjectLemmas.{step-subject}
use Rattle.generator.specs.NextOf.{Done, next_of}
use Rattle.generator.specs.Rounds.{Course, Play, make, made_by, turn_by, first_turn, round, rounds, is_at_rest, rest_within, rest, edit, step_by, settles_at, play_to, gen_play, frames_sum, IsGenerated}
use Rattle.edit_steps.specs.Script.{changes}
use Rattle.journal.specs.Lines.{lines}
use Rattle.generator.specs.declared.making.Generated.{Generated}
use Rattle.generator.specs.Picture.{number_behind}
use Rattle.generator.specs.Script.{rounds_behind}
use Rattle.generator.specs.Subject.{gen_subject, gen_steps}

-- ---- one more event

push_through : (f g : Core × Answer → Option OutcomeSeen) (h : OutcomeSeen → Option OutcomeSeen) (n : Next) → ((x : Core × Answer) → f x ≡ option_and_then h (g x))
    → option_and_then f n ≡ option_and_then h (option_and_then g n)
push_through f g h None each = refl
push_through f g h (Some x) each = each x

run-push : (o : OutcomeSeen) (es : List Event) (e : Event) → run o (es ++ e ∷ []) ≡ option_and_then (λ m. run m (e ∷ [])) (run o es)
run-push o [] e = refl
run-push o (x ∷ es) e =
    push_through (λ next. run (outcome_with o x next) (es ++ e ∷ [])) (λ next. run (outcome_with o x next) es) (λ m. run m (e ∷ [])) (step o.core x)
    (λ next. run-push (outcome_with o x next) es e)

-- the events lead to the outcome, which is of the subject
pub record IsCourse (s : SubjectSeen) (c : Course) : Type 0 where
  pub ran : run (start_of s) c.events ≡ Some c.outcome
  pub subject : c.outcome.core.subject ≡ s

course_by : (s : SubjectSeen) (c : Course) (e : Event) (n : Next) → step c.outcome.core e ≡ n → IsCourse s c → IsCourse s (made_by c e n).0
course_by s c e None is h = h
course_by s c e (Some next) is h = record {
  ran = run-push (start_of s) c.events e ∙ ap (option_and_then (λ m. run m (e ∷ []))) h.ran ∙ ap (option_and_then (λ (x : Core × Answer). Some (outcome_with c.outcome e x))) is;
  subject = step-subject c.outcome.core e next is ∙ h.subject;
}

course_made : (s : SubjectSeen) (c : Course) (e : Event) → IsCourse s c → IsCourse s (make c e).0
course_made s c e h = course_by s c e (step c.outcome.core e) refl h

-- ---- turns and rounds

course_turned : (s : SubjectSeen) (c : Course) (done : List Done) (n : Option Event) → IsCourse s c → IsCourse s (turn_by c done n).0
course_turned s c done None h = h
course_turned s c done (Some e) h = course_made s c e h

course_round : (s : SubjectSeen) (p : Play) → IsCourse s p.course → IsCourse s (round p).course
course_round s p h =
    let q = first_turn p in
    course_turned s q.course q.second (next_of q.course.outcome.core 2 q.second) (course_turned s p.course p.first (next_of p.course.outcome.core 1 p.first) h)

course_rounds : (s : SubjectSeen) (n : ℕ) (p : Play) → IsCourse s p.course → IsCourse s (rounds n p).course
unfolding rounds
course_rounds s zero p h = h
course_rounds s (suc n) p h = course_round s (rounds n p) (course_rounds s n p h)

either_course : (s : SubjectSeen) (b : Bool) (p q : Play) → IsCourse s p.course → IsCourse s q.course → IsCourse s (if b then p else q).course
either_course s true p q h k = h
either_course s false p q h k = k

course_rest : (s : SubjectSeen) (n : ℕ) (p : Play) → IsCourse s p.course → IsCourse s (rest_within n p).course
unfolding rest_within
course_rest s zero p h = h
course_rest s (suc n) p h = either_course s (is_at_rest p) p (rest_within n (round p)) h (course_rest s n (round p) (course_round s p h))

course_edit : (s : SubjectSeen) (p : Play) → IsCourse s p.course → IsCourse s (edit p).course
course_edit s p h = course_made s p.course Editor h

-- ---- the whole

course_step : (s : SubjectSeen) (settles : Bool) (n : ℕ) (p : Play) → IsCourse s p.course → IsCourse s (step_by settles n p).course
course_step s true n p h = course_edit s (rest p) (course_rest s 65536 p h)
course_step s false n p h = course_rounds s n (edit p) (course_edit s p h)

course_to : (start i : ℕ) → IsCourse (gen_subject start) (play_to start i).course
unfolding play_to
course_to start zero = record { ran = refl; subject = refl }
course_to start (suc i) = course_step (gen_subject start) (settles_at (gen_steps start) i) (rounds_behind (number_behind start) i) (play_to start i) (course_to start i)

pub course_whole : (start : ℕ) → IsCourse (gen_subject start) (gen_play start).course
course_whole start =
    let s = gen_subject start in
    course_rest s 65536 (edit (play_to start 40)) (course_edit s (play_to start 40) (course_to start 40))

-- what is said of the desk at the end is what is said of the whole
pub generated_of : (start : ℕ) (p : Play) (g : Generated) → p ≡ gen_play start → g.changes ≡ changes p.course.outcome.core.subject.script
    → g.lines ≡ length (lines p.course.outcome.core.subject.script p.course.outcome.core.journal) → g.sum ≡ frames_sum p.course.outcome.core.subject p.course.outcome.core.journal
    → IsGenerated start g
generated_of start p g e c l s =
    let whole = course_whole start in
    let subject : p.course.outcome.core.subject ≡ gen_subject start = ap (λ (q : Play). q.course.outcome.core.subject) e ∙ whole.subject in
    record {
      outcome = p.course.outcome;
      ran = whole.ran ∙ ap (λ (q : Play). Some q.course.outcome) (sym e);
      changes = c ∙ ap (λ (x : SubjectSeen). changes x.script) subject;
      lines = l ∙ ap (λ (x : SubjectSeen). length (lines x.script p.course.outcome.core.journal)) subject;
      sum = s ∙ ap (λ (x : SubjectSeen). frames_sum x p.course.outcome.core.journal) subject;
    }
