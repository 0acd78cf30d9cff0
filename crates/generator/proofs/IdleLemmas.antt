-- What may happen to a worker with a run, and to one without.
use Rattle.std.proofs.Common.{◌≡◌, ℕ, ◌-◌, Bool, true, false, List, [], ◌∷◌, ◌++◌, Option, Some, None, refl, ap, ◌∙◌}
use Rattle.std.specs.Prelude.{◌&&◌, nat_le, is_some, is_none, if◌then◌else◌, option_and_then, length, slice_get}
use Rattle.std.specs.List.{list_any}
use Rattle.outside.specs.declared.job_name.JobName.{JobName}
use Rattle.outside.specs.declared.job_name.JobName.TheVariants as job
use Rattle.journal.specs.Desk.{due, is_due_job}
use Rattle.journal.specs.Tickets.{asked_moment}
use Rattle.dev_core.specs.Jobs.{took_entry}
use Rattle.events.specs.declared.event.Event.{Event}
use Rattle.events.specs.declared.event.Event.TheVariants.{Look, Find, Reach, Evict, Demote, Load, Leave, Node, Keep, Finish}
use Rattle.stepped.specs.declared.answer.Answer.{Answer}
use Rattle.stepped.specs.declared.answer.Answer.TheVariants as answer
use Rattle.stepped.specs.Step.{Core, Run, Next, step, step_take, given, run_of, last_worker, desk_at, with_run, with_entry, fresh, of_run, row_look, row_restart, row_find, row_reach, row_evict, row_demote, row_load, row_leave, row_node, row_keep, row_finish, row_publish, row_finish_ticket}
use Rattle.generator.specs.NextOf.{Done, first_allowed, next_of, takes, take_of, run_on, behind_last, behind, go_on, behind_look, behind_find, behind_reach, behind_evict, is_evict}

-- ---- a worker without a run does nothing of a run

IsIdleAll : Core → List Event → Type 0
IsIdleAll s [] = Unit {0}
IsIdleAll s (e ∷ es) = (step s e ≡ None) × IsIdleAll s es

none_allowed : (s : Core) (es : List Event) → IsIdleAll s es → first_allowed s es ≡ None
unfolding IsIdleAll
none_allowed s [] h = refl
none_allowed s (e ∷ es) h = ap (λ (n : Next). if is_some n then Some e else first_allowed s es) h.0 ∙ none_allowed s es h.1

idle : (s : Core) (w : ℕ) (row : Core → ℕ → Run → Next) → run_of s w ≡ None → of_run s w row ≡ None
idle s w row h = ap (option_and_then (row s w)) h

idle_go_on : (s : Core) (w : ℕ) → run_of s w ≡ None → IsIdleAll s (go_on w)
unfolding IsIdleAll
idle_go_on s w h = (idle s w row_look h, (idle s w row_node h, (idle s w row_finish h, tt)))

idle_look : (s : Core) (w : ℕ) (a : Answer) → run_of s w ≡ None → IsIdleAll s (behind_look w a)
unfolding IsIdleAll
idle_look s w (answer.Superseded m) h = (idle s w row_restart h, tt)
idle_look s w _ h = (idle s w row_find h, (idle s w row_node h, (idle s w row_finish h, tt)))

idle_find : (s : Core) (w : ℕ) (a : Answer) → run_of s w ≡ None → IsIdleAll s (behind_find w a)
unfolding IsIdleAll
idle_find s w answer.NotFound h = (idle s w row_reach h, (idle s w row_load h, tt))
idle_find s w _ h = (idle s w row_look h, (idle s w row_node h, (idle s w row_finish h, tt)))

idle_full : (s : Core) (w : ℕ) (b : Bool) → run_of s w ≡ None → IsIdleAll s (if b then Load w ∷ [] else Evict w ∷ [])
unfolding IsIdleAll
idle_full s w true h = (idle s w row_load h, tt)
idle_full s w false h = (idle s w row_evict h, tt)

idle_reach : (s : Core) (w : ℕ) (b : Bool) (a : Answer) → run_of s w ≡ None → IsIdleAll s (behind_reach w b a)
unfolding IsIdleAll
idle_reach s w b answer.Write h = (idle s w row_demote h, tt)
idle_reach s w b answer.Full h = idle_full s w b h
idle_reach s w b _ h = (idle s w row_load h, tt)

idle_evict : (s : Core) (w : ℕ) (a : Answer) → run_of s w ≡ None → IsIdleAll s (behind_evict w a)
unfolding IsIdleAll
idle_evict s w (answer.Evicted level) h = (idle s w row_reach h, tt)
idle_evict s w _ h = (idle s w row_load h, tt)

idle_behind : (s : Core) (w : ℕ) (b : Bool) (e : Event) (a : Answer) → run_of s w ≡ None → IsIdleAll s (behind w b e a)
unfolding IsIdleAll
idle_behind s w b (Look v) a h = idle_look s w a h
idle_behind s w b (Find v) a h = idle_find s w a h
idle_behind s w b (Reach v) a h = idle_reach s w b a h
idle_behind s w b (Evict v) a h = idle_evict s w a h
idle_behind s w b (Demote v) a h = (idle s w row_load h, tt)
idle_behind s w b (Load v) a h = (idle s w row_leave h, idle_go_on s w h)
idle_behind s w b (Leave v) a h = idle_go_on s w h
idle_behind s w b (Node v) a h = (idle s w row_keep h, tt)
idle_behind s w b (Keep v) a h = idle_go_on s w h
idle_behind s w b (Finish v) a h = (idle s w row_publish h, (idle s w row_finish_ticket h, tt))
idle_behind s w b _ a h = tt

idle_last : (s : Core) (w : ℕ) (b : Bool) (o : Option Done) → run_of s w ≡ None → IsIdleAll s (behind_last w b o)
unfolding IsIdleAll
idle_last s w b None h = (idle s w row_look h, (idle s w row_find h, tt))
idle_last s w b (Some d) h = idle_behind s w b d.0 d.1 h

idle_run_on : (s : Core) (w : ℕ) (done : List Done) → run_of s w ≡ None → first_allowed s (run_on w done) ≡ None
idle_run_on s w done h = none_allowed s (run_on w done) (idle_last s w (list_any is_evict done) (slice_get done (length done - 1)) h)

-- ---- a worker with a run takes nothing

and_false : (a : Bool) (t : Core) (x : Answer) → is_some (given (a && false) t x) ≡ false
and_false true t x = refl
and_false false t x = refl

busy_takes : (s : Core) (w : ℕ) (name : JobName) (m : ℕ) (r : Run) → run_of s w ≡ Some r → is_some (step_take s w name m) ≡ false
busy_takes s w name m r h =
    let t = with_run (with_entry s (took_entry name w m)) w (Some (fresh name m)) in
    ap (λ (o : Option Run). is_some (given (nat_le w (last_worker s.subject) && (is_none o && is_due_job s.subject.script (desk_at s) name)) t answer.Done)) h
    ∙ and_false (nat_le w (last_worker s.subject)) t answer.Done

busy_take : (s : Core) (w : ℕ) (name : JobName) (r : Run) → run_of s w ≡ Some r → is_some (step s (take_of w name)) ≡ false
busy_take s w (job.Pipe p) r h = busy_takes s w (job.Pipe p) (desk_at s).moment r h
busy_take s w (job.Ticket t) r h = busy_takes s w (job.Ticket t) (asked_moment s.subject.script t) r h

-- ---- the next event

append_none : (s : Core) (xs ys : List Event) → first_allowed s ys ≡ None → first_allowed s (xs ++ ys) ≡ first_allowed s xs
append_none s [] ys h = h
append_none s (e ∷ es) ys h = ap (λ (r : Option Event). if is_some (step s e) then Some e else r) (append_none s es ys h)

busy_next : (s : Core) (w : ℕ) (o : Option JobName) (ys : List Event) (r : Run) → run_of s w ≡ Some r → first_allowed s (takes w o ++ ys) ≡ first_allowed s ys
busy_next s w None ys r h = refl
busy_next s w (Some name) ys r h = ap (λ (b : Bool). if b then Some (take_of w name) else first_allowed s ys) (busy_take s w name r h)

next_case : (s : Core) (w : ℕ) (done : List Done) (o : Option Run) → run_of s w ≡ o
    → first_allowed s (takes w (due s.subject.script (desk_at s)) ++ run_on w done) ≡ first_allowed s (if is_none o then takes w (due s.subject.script (desk_at s)) else run_on w done)
next_case s w done None h = append_none s (takes w (due s.subject.script (desk_at s))) (run_on w done) (idle_run_on s w done h)
next_case s w done (Some r) h = busy_next s w (due s.subject.script (desk_at s)) (run_on w done) r h

-- to try both, to take and to go on, is to do what is the worker's
pub next_is : (s : Core) (w : ℕ) (done : List Done) → first_allowed s (takes w (due s.subject.script (desk_at s)) ++ run_on w done) ≡ next_of s w done
next_is s w done = next_case s w done (run_of s w) refl
