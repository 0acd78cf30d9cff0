-- what the tests of a desk mean
use Rattle.std.proofs.Common.{◌≡◌, ℕ, Bool, true, false, not, ◌&&◌, ◌||◌, length, refl, ap, ◌∙◌, Option, Some, None}
use Rattle.std.specs.Prelude.{is_none, ◌==◌}
use Rattle.std.specs.List.{list_all}
use Rattle.std.specs.Option.{option_map_or}
use Rattle.std.proofs.lemmas.Bool.{eqb-true}
use Rattle.outside.specs.declared.job_name.Pipe.{Pipe}
use Rattle.outside.specs.declared.job_name.Pipe.TheVariants.{Full, Preview, Second}
use Rattle.edit_steps.specs.Pipes.{has_pipe}
use Rattle.edit_steps.specs.Script.{Recipe, concerns_between}
use Rattle.journal.specs.declared.desk.Hold.{Hold}
use Rattle.journal.specs.Pipes.{pipes}
use Rattle.journal.specs.Desk.{Desk, slot, is_free, is_due, is_at_rest, is_done, is_settled, is_complete, Later}
use Rattle.journal.specs.Good.{IsAfter}
use Rattle.journal.proofs.LaterLemmas.{later_rises}

none_only : (h : Option Hold) → is_none h ≡ true → h ≡ None
none_only None e = refl
none_only (Some h) e = cc

pub and_first : (a b : Bool) → (a && b) ≡ true → a ≡ true
and_first true b e = refl
and_first false b e = cc

pub and_last : (a b : Bool) → (a && b) ≡ true → b ≡ true
and_last true b e = e
and_last false b e = cc

pub both_on : {a b : Bool} → a ≡ true → b ≡ true → (a && b) ≡ true
both_on {a} {b} p q = ap (λ x. x && b) p ∙ q

-- a pipe that is due is the subject's, and free
pub due-has : (script : Recipe) (d : Desk) (p : Pipe) → is_due script d p ≡ true → has_pipe script.settings p ≡ true
due-has script d p e = and_first _ _ e

pub due-free : (script : Recipe) (d : Desk) (p : Pipe) → is_due script d p ≡ true → (slot d p).hold ≡ None
due-free script d p e = none_only (slot d p).hold (and_first _ _ (and_last (has_pipe script.settings p) _ e))

-- ---- what is published

-- the pipe was published at that moment, and nothing that concerns it came after
pub record IsUpToDate (script : Recipe) (d : Desk) (p : Pipe) : Type 0 where
  pub moment : ℕ
  pub published : (slot d p).published ≡ Some moment
  pub none_later : Later script p moment d.moment → ⊥

not_true : (b : Bool) → not b ≡ true → b ≡ true → ⊥
not_true true e is = cc
not_true false e is = cc

not_not_true : (b : Bool) → not (not b) ≡ true → b ≡ true
not_not_true true e = refl
not_not_true false e = cc

or_second : (a b : Bool) → (not a || b) ≡ true → a ≡ true → b ≡ true
or_second true b e has = e
or_second false b e has = cc

-- the present moment is after the one that was published last of a pipe that is due
pub due-late : (script : Recipe) (d : Desk) (p : Pipe) → is_due script d p ≡ true → IsAfter script p (slot d p).published d.moment
due-late script d p e = late (slot d p).published (and_last (is_free d p) _ (and_last (has_pipe script.settings p) _ e))
  where
    late : (o : Option ℕ) → not (option_map_or (λ m. not (concerns_between script p m d.moment)) o false) ≡ true → IsAfter script p o d.moment
    late None is = tt
    late (Some m) is = let later = not_not_true (concerns_between script p m d.moment) is in (later_rises script p m d.moment later, later)

up_to_date : (script : Recipe) (d : Desk) (p : Pipe) (o : Option ℕ) → (slot d p).published ≡ o
    → option_map_or (λ m. not (concerns_between script p m d.moment)) o false ≡ true → IsUpToDate script d p
up_to_date script d p None is e = cc
up_to_date script d p (Some m) is e = record { moment = m; published = is; none_later = not_true (concerns_between script p m d.moment) e }

-- a pipe of the subject that is at rest is up to date
pub rest-reached : (script : Recipe) (d : Desk) (p : Pipe) → is_at_rest script d p ≡ true → has_pipe script.settings p ≡ true → IsUpToDate script d p
rest-reached script d p e has = up_to_date script d p (slot d p).published refl (and_first _ (is_free d p) (or_second (has_pipe script.settings p) _ e has))

-- ---- a settled desk

pub settled-rest : (script : Recipe) (d : Desk) (p : Pipe) → is_settled script d ≡ true → is_at_rest script d p ≡ true
settled-rest script d p e = each p (and_first (list_all (is_at_rest script d) pipes) (list_all is_done d.tickets) e)
  where
    each : (q : Pipe) → list_all (is_at_rest script d) pipes ≡ true → is_at_rest script d q ≡ true
    each Full all = and_first _ _ all
    each Preview all = and_first _ _ (and_last (is_at_rest script d Full) _ all)
    each Second all = and_first _ _ (and_last (is_at_rest script d Preview) _ (and_last (is_at_rest script d Full) _ all))

pub settled-done : (script : Recipe) (d : Desk) → is_settled script d ≡ true → list_all is_done d.tickets ≡ true
settled-done script d e = and_last (list_all (is_at_rest script d) pipes) (list_all is_done d.tickets) e

-- all steps of a complete journal were made, and its desk is settled
pub complete-steps : (script : Recipe) (d : Desk) → is_complete script d ≡ true → d.steps ≡ length script.steps
complete-steps script d e = eqb-true d.steps (length script.steps) (and_first _ (is_settled script d) (and_last d.closed _ e))

pub complete-settled : (script : Recipe) (d : Desk) → is_complete script d ≡ true → is_settled script d ≡ true
complete-settled script d e = and_last (d.steps == length script.steps) (is_settled script d) (and_last d.closed _ e)
