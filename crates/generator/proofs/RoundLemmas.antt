-- Rounds, and what stands at their end.
use Rattle.std.proofs.Common.{◌≡◌, ℕ, zero, suc, ◌+◌, ◌-◌, ◌*◌, ◌%◌, ◌<◌, ◌≤◌, Bool, true, false, List, Option, Some, None, refl, sym, ap, ◌∙◌, add-one, arith}
use Rattle.std.specs.Prelude.{not, ◌&&◌, ◌||◌, is_some, is_none, if◌then◌else◌}
use Rattle.events.specs.declared.event.Event.{Event}
use Rattle.generator.specs.Draws.{number_at, upper_half, after_number}
use Rattle.generator.specs.Script.{rounds_behind}
use Rattle.generator.specs.NextOf.{Done, next_of}
use Rattle.generator.specs.Rounds.{Course, Play, turn, turn_by, first_turn, second_turn, round, rounds, is_at_rest, rest_within, play_start, play_to, step_play}
use Rattle.generator.specs.Subject.{gen_subject}
use Rattle.generator.proofs.DrawLemmas.{number_three, number_along}

-- ---- a round

some_or_none : (n : Option Event) → is_some n ≡ not (is_none n)
some_or_none None = refl
some_or_none (Some e) = refl

told_by : (c : Course) (first second : List Done) (n : Option Event) (b : Bool) → b ≡ is_some (next_of (turn_by c first n).0.outcome.core 2 second)
    → (is_some n || b) ≡ not (is_none n && is_none (next_of c.outcome.core 2 second))
told_by c first second None b h = h ∙ some_or_none (next_of c.outcome.core 2 second)
told_by c first second (Some e) b h = refl

-- one of the workers had a next event, or none had one at the start of the round
pub round_told : (p : Play) (a b : Bool) → a ≡ is_some (next_of p.course.outcome.core 1 p.first) → b ≡ is_some (next_of (turn 1 (p.course, p.first)).0.outcome.core 2 p.second)
    → (a || b) ≡ not (is_at_rest p)
round_told p a b f g = ap (λ (x : Bool). x || b) f ∙ told_by p.course p.first p.second (next_of p.course.outcome.core 1 p.first) b g

both_none : (n m : Option Event) → (is_none n && is_none m) ≡ true → (n ≡ None) × (m ≡ None)
both_none None None h = (refl, refl)
both_none None (Some e) h = cc
both_none (Some e) m h = cc

-- where no worker has a next event, a round leaves all as it is
pub round_rest : (p : Play) → is_at_rest p ≡ true → round p ≡ p
round_rest p h =
    let both = both_none (next_of p.course.outcome.core 1 p.first) (next_of p.course.outcome.core 2 p.second) h in
    let first : first_turn p ≡ p =
    ap (λ (n : Option Event). let t = turn_by p.course p.first n in let q : Play = record { course = t.0; first = t.1; second = p.second } in q) both.0 in
    let second : second_turn p ≡ p =
    ap (λ (n : Option Event). let t = turn_by p.course p.second n in let q : Play = record { course = t.0; first = p.first; second = t.1 } in q) both.1 in
    ap second_turn first ∙ second

-- ---- rounds

pub rounds_none : (p : Play) → rounds 0 p ≡ p
unfolding rounds
rounds_none p = refl

pub rounds_more : (n : ℕ) (p : Play) → rounds (n + 1) p ≡ round (rounds n p)
unfolding rounds
rounds_more n p = rw add-one refl

not_false : (b : Bool) → not b ≡ false → b ≡ true
not_false true h = refl
not_false false h = cc

not_true : (b : Bool) → not b ≡ true → b ≡ false
not_true true h = cc
not_true false h = refl

-- ---- rounds until no worker has a next event

pub rest_end : (p : Play) → rest_within 0 p ≡ p
unfolding rest_within
rest_end p = refl

pub rest_stop : (n : ℕ) (p : Play) → is_at_rest p ≡ true → rest_within n p ≡ p
unfolding rest_within
rest_stop zero p h = refl
rest_stop (suc n) p h = ap (λ (b : Bool). if b then p else rest_within n (round p)) h

pub rest_on : (n : ℕ) (p : Play) → 0 < n → is_at_rest p ≡ false → rest_within n p ≡ rest_within (n - 1) (round p)
unfolding rest_within
rest_on zero p l h = absurd (omega arith)
rest_on (suc n) p l h = let e : n ≡ suc n - 1 = omega arith in ap (λ (b : Bool). if b then p else rest_within n (round p)) h ∙ ap (λ k. rest_within k (round p)) e

-- a round in which nobody had a next event is the end
pub stop_round : (n : ℕ) (p q : Play) (b : Bool) → b ≡ not (is_at_rest p) → b ≡ false → q ≡ round p → q ≡ rest_within n p
stop_round n p q b told h e =
    let at_rest : is_at_rest p ≡ true = not_false (is_at_rest p) (sym told ∙ h) in
    e ∙ round_rest p at_rest ∙ sym (rest_stop n p at_rest)

-- and another one leads on
pub go_round : (n : ℕ) (p q : Play) (b : Bool) → 0 < n → b ≡ not (is_at_rest p) → b ≡ true → q ≡ round p → rest_within (n - 1) q ≡ rest_within n p
go_round n p q b l told h e = ap (rest_within (n - 1)) e ∙ sym (rest_on n p l (not_true (is_at_rest p) (sym told ∙ h)))

pub rest_over : (n : ℕ) (p : Play) → n ≤ 0 → rest_within n p ≡ p
rest_over n p l = let e : n ≡ 0 = omega arith in ap (λ k. rest_within k p) e ∙ rest_end p

-- ---- steps

pub play_none : (start : ℕ) → play_to start 0 ≡ play_start (gen_subject start)
unfolding play_to
play_none start = refl

pub play_more : (start i : ℕ) → play_to start (i + 1) ≡ step_play start i (play_to start i)
unfolding play_to
play_more start i = rw add-one refl

pub rounds_drawn : (g i : ℕ) → upper_half (after_number (after_number (after_number (number_at g (3 * i))))) % 12 ≡ rounds_behind g i
rounds_drawn g i = ap (λ n. upper_half n % 12) (sym (number_three (number_at g (3 * i))) ∙ number_along g (3 * i) 3)
