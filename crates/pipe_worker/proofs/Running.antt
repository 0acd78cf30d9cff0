-- A job's run from its attempts.
use Rattle.std.proofs.Common.{◌≡◌, ℕ, ◌+◌, ◌<◌, ◌≤◌, if◌then◌else◌, Bool, true, false, List, [], ◌∷◌, ◌++◌, map, Option, Some, None, refl, sym, ap, ◌∙◌, arith, subst, append-nil, ◌⊎◌, inl, inr}
use Rattle.std.proofs.lemmas.List.{map-append}
use Rattle.turn_lock.specs.Turned.{Turned}
use Rattle.outside.specs.declared.job_name.JobName.{JobName}
use Rattle.outside.specs.declared.job_name.JobName.TheVariants as job
use Rattle.outside.specs.declared.job_name.Pipe.{Pipe}
use Rattle.outside.specs.declared.job_name.Pipe.TheVariants as pipe
use Rattle.journal.specs.declared.entry.Entry.{Entry}
use Rattle.journal.specs.declared.entry.Entry.TheVariants as entry
use Rattle.journal.specs.Own.{worker_of}
use Rattle.pipe_nodes.specs.declared.active.Active.{Active}
use Rattle.pipe_nodes.specs.SamePrefix.{same_active}
use Rattle.pipe_nodes.proofs.SameLemmas.{active-Decides}
use Rattle.pipe_sync.specs.Changed.{change_at, changed_places}
use Rattle.dev_core.specs.Subject.{SubjectSeen}
use Rattle.dev_core.specs.Jobs.{JobSeen, FrameSeen}
use Rattle.shared_stage.specs.declared.event.StageEvent.{StageEvent}
use Rattle.shared_mips.specs.declared.event.MipEvent.{MipEvent}
use Rattle.pipe_worker.specs.declared.ends.Attempt.{Attempt}
use Rattle.pipe_worker.specs.declared.ends.Attempt.TheVariants as attempt
use Rattle.pipe_worker.specs.declared.ends.JobEnd.TheVariants as ends
use Rattle.pipe_worker.specs.declared.node_set.NodeSet.{NodeSet}
use Rattle.pipe_worker.specs.declared.passes.Passes.{Passes}
use Rattle.pipe_worker.specs.Job.{actives_at, actives_for, nodes_at, IsUpTo, looked_at}
use Rattle.pipe_worker.specs.Grew.{DeskKnown, Grew, Saw, Shows}
use Rattle.pipe_worker.specs.Runs.{keeps}
use Rattle.pipe_worker.specs.Attempts.{MadeBy, Tried, Moved, spared}
use Rattle.pipe_worker.specs.Jobs.{RisesTo, restarts, commits_along, EndsMade, Ran, RanMade, RanPipe, RanTicket, nodes_of, last_at, IsSet, AreUpTo}
use Rattle.pipe_worker.proofs.Along.{Along}
use Rattle.pipe_worker.proofs.Growing.{grew_none, grew_more, grew_turned}
use Rattle.pipe_worker.proofs.Noding.{keeps_append}

-- ---- commits

at_most_one : (o : Option Active) (n : Active) → change_at o n ≤ 1
at_most_one None n = omega arith
at_most_one (Some x) n = elim (same_active x n) as (λ b. (if b then 0 else 1) ≤ 1) [ true ↦ omega arith | false ↦ omega arith ]

-- going by another instance costs no less
step_by : (x y n : Active) (b : Bool) → same_active x y ≡ b → change_at (Some x) n ≤ (if b then 0 else 1) + change_at (Some y) n
step_by x y n true e =
    let same : x ≡ y = (active-Decides x y).0 e in
    let less : change_at (Some x) n ≤ change_at (Some y) n = subst (λ z. change_at (Some x) n ≤ change_at (Some z) n) same (omega arith) in
    omega (arith, less)
step_by x y n false e = omega (arith, at_most_one (Some x) n)

step_less : (x y n : Active) → change_at (Some x) n ≤ change_at (Some x) y + change_at (Some y) n
step_less x y n = step_by x y n (same_active x y) refl

-- going by a list between costs no less
pub places_less : (a b c : List Active) → changed_places a c ≤ changed_places a b + changed_places b c
places_less a b [] = omega arith
places_less [] [] (n ∷ ns) = omega arith
places_less [] (y ∷ ys) (n ∷ ns) = omega (arith, places_less [] ys ns, at_most_one (Some y) n)
places_less (x ∷ xs) [] (n ∷ ns) = omega (arith, places_less xs [] ns, at_most_one (Some x) n)
places_less (x ∷ xs) (y ∷ ys) (n ∷ ns) = omega (arith, places_less xs ys ns, step_less x y n)

rises_more : (m : ℕ) (ms : List ℕ) (last k : ℕ) → last < k → RisesTo m ms last → RisesTo m (ms ++ k ∷ []) k
rises_more m [] last k h r = ((let q : m < k = omega (arith, r) in q), refl)
rises_more m (x ∷ ms) last k h r = (r.0, rises_more x ms last k h r.1)

commits_more : (s : SubjectSeen) (a : List Active) (m : ℕ) (ms : List ℕ) (last k : ℕ) → RisesTo m ms last
    → commits_along s a (m ∷ (ms ++ k ∷ [])) ≡ commits_along s a (m ∷ ms) + changed_places (actives_at s last) (actives_at s k)
commits_more s a m [] last k r =
    subst (λ l. changed_places a (actives_at s m) + (changed_places (actives_at s m) (actives_at s k) + 0) ≡ changed_places a (actives_at s m) + 0 + changed_places (actives_at s l) (actives_at s k)) r (omega arith)
commits_more s a m (x ∷ ms) last k r = omega (arith, commits_more s (actives_at s m) x ms last k r.1)

-- ---- entries

restarts_more : (p : Pipe) (w : ℕ) (ms : List ℕ) (k : ℕ) → restarts p w ms ++ entry.Restarted p w k ∷ [] ≡ restarts p w (ms ++ k ∷ [])
restarts_more p w ms k = sym (map-append (λ m. entry.Restarted p w m) ms (k ∷ []))

-- entries that are gained after looks
after_looks : {cur mid d : DeskKnown} {es fs : List Entry} (old : DeskKnown) → Grew old cur es → Grew cur mid [] → Grew mid d fs → Grew old d (es ++ fs)
after_looks {cur} {mid} {d} {es} {fs} old g h k = subst (λ zs. Grew old d (zs ++ fs)) (append-nil es) (grew_more (grew_more g h) k)

pub loads_turned : {old new : DeskKnown} {more : List Entry} → Turned worker_of old new more → (new.loads ≡ old.loads) × (new.loaded ≡ old.loaded)
loads_turned {old} {new} t = (ap (λ (p : DeskKnown). p.loads) t.pass, ap (λ (p : DeskKnown). p.loaded) t.pass)

-- ---- the run

-- a job's run begins
pub along_start : (j : JobSeen) (p : Pipe) (a : List Active) (t : ℕ) (old : Passes) → Along j p a t t old old a j.moment
along_start j p a t old = record {
  moments = [];
  gain = [];
  mip_gain = [];
  rises = refl;
  stage = grew_none old.stage;
  mips = grew_none old.mips;
  desk = grew_none old.desk;
  loads = omega arith;
  least = omega arith;
  spent = omega arith;
}

-- after an attempt that was superseded, and the restart
pub along_restarted : (j i : JobSeen) (p : Pipe) (a : List Active) (before now after : ℕ) (old cur mid : Passes) (d : DeskKnown) (nodes later_nodes : List Active) (was is : Option ℕ) (last k x : ℕ)
    → i ≡ record j { moment = last } → Along j p a before now old cur nodes last
    → Tried i 2 (changed_places nodes (actives_for i)) now after cur mid (attempt.Superseded x)
    → nodes ≡ nodes_at j.subject was → later_nodes ≡ nodes_at j.subject is → Moved i was is now after (attempt.Superseded x)
    → Grew mid.desk d (entry.Restarted p mid.desk.number k ∷ []) → mid.desk.loads ≤ d.loads → last < k
    → Along j p a before after old (record mid { desk = d }) later_nodes k
along_restarted j i p a before now after old cur mid d nodes later_nodes was is last k x e l t n1 n2 moved grew loads rises =
    let s = j.subject in
    let less : (later_nodes ≡ nodes) × (after ≡ now) ⊎ (later_nodes ≡ actives_at s last)
    = elim moved [
      | inl q ↦ inl (n2 ∙ (ap (nodes_at s) q.0 ∙ sym n1), q.1)
      | inr q ↦ inr (n2 ∙ (ap (nodes_at s) q ∙ ap (λ (y : JobSeen). actives_at s y.moment) e))
    ] in
    let cost : changed_places nodes (actives_for i) ≡ changed_places nodes (actives_at s last) = ap (λ (y : JobSeen). changed_places nodes (actives_for y)) e in
    let count = keeps_append l.gain t.gain in
    let more = commits_more s a j.moment l.moments last k l.rises in
    let bears : mid.desk.number ≡ old.desk.number = t.desk.grew.bears ∙ l.desk.bears in
    let one : Grew mid.desk d (entry.Restarted p old.desk.number k ∷ []) = subst (λ n. Grew mid.desk d (entry.Restarted p n k ∷ [])) bears grew in
    let spent : after + changed_places later_nodes (actives_at s k) ≤ before + (keeps l.gain + keeps t.gain) + (commits_along s a (j.moment ∷ l.moments) + changed_places (actives_at s last) (actives_at s k))
    = elim less [
      | inl q ↦ (let one : changed_places later_nodes (actives_at s k) ≡ changed_places nodes (actives_at s k) = ap (λ zs. changed_places zs (actives_at s k)) q.0 in
          let tri = places_less nodes (actives_at s last) (actives_at s k) in omega (arith, one, tri, q.1, l.spent))
      | inr q ↦ (let one : changed_places later_nodes (actives_at s k) ≡ changed_places (actives_at s last) (actives_at s k) = ap (λ zs. changed_places zs (actives_at s k)) q in
          omega (arith, one, l.spent, t.most, cost))
    ] in
    record {
      moments = l.moments ++ k ∷ [];
      gain = l.gain ++ t.gain;
      mip_gain = l.mip_gain ++ t.mip_gain;
      rises = rises_more j.moment l.moments last k rises l.rises;
      stage = grew_more l.stage t.stage;
      mips = grew_more l.mips t.mips;
      desk = subst (λ zs. Grew old.desk d zs) (restarts_more p old.desk.number l.moments k) (after_looks old.desk l.desk t.desk.grew one);
      loads = omega (arith, l.loads, t.desk.more, loads);
      least = omega (arith, l.least, t.least, count);
      spent = omega (arith, spent, count, more);
    }

-- the run up to its last entry
abbrev ran_by : (j i : JobSeen) (p : Pipe) (a : List Active) (before now after : ℕ) (old cur mid : Passes) (d : DeskKnown) (nodes : List Active) (last spare : ℕ) (end : Entry) (r : Attempt)
    → i ≡ record j { moment = last } → (l : Along j p a before now old cur nodes last)
    → Tried i 2 (changed_places nodes (actives_for i)) now after cur mid r → spared r ≤ spare
    → Grew mid.desk d (end ∷ []) → mid.desk.loads ≤ d.loads
    → Ran j a l.moments (restarts p old.desk.number l.moments ++ end ∷ []) spare before after old (record mid { desk = d })
ran_by j i p a before now after old cur mid d nodes last spare end r e l t few grew loads =
    let cost : changed_places nodes (actives_for i) ≡ changed_places nodes (actives_at j.subject last) = ap (λ (y : JobSeen). changed_places nodes (actives_for y)) e in
    let count = keeps_append l.gain t.gain in
    record {
      gain = l.gain ++ t.gain;
      mip_gain = l.mip_gain ++ t.mip_gain;
      stage = grew_more l.stage t.stage;
      mips = grew_more l.mips t.mips;
      desk = after_looks old.desk l.desk t.desk.grew grew;
      loads = omega (arith, l.loads, t.desk.more, loads);
      least = omega (arith, l.least, t.least, count);
      most = omega (arith, l.spent, t.most, count, cost, few);
    }

-- a made attempt is not changed by the turn that publishes it
made_after : (i : JobSeen) (cur mid : Passes) (d : DeskKnown) (gain : List StageEvent) (mip_gain : List MipEvent) → (d.loads ≡ mid.desk.loads) × (d.loaded ≡ mid.desk.loaded)
    → MadeBy i 2 cur mid gain mip_gain → MadeBy i 2 cur (record mid { desk = d }) gain mip_gain
made_after i cur mid d gain mip_gain e m = record {
  answer = m.answer;
  rest = m.rest;
  stage = m.stage;
  are_keeps = m.are_keeps;
  none = m.none;
  input = m.input;
  looks = λ q. omega (arith, m.looks q, e.0);
  go = λ q. ap (looked_at i.subject.script i.name i.moment) e.1 ∙ m.go q;
}

-- after an attempt that was made, and the publishing
pub published : (j i : JobSeen) (p : Pipe) (a : List Active) (before now after : ℕ) (old cur mid : Passes) (d : DeskKnown) (nodes : List Active) (last m : ℕ) (f : FrameSeen)
    → i ≡ record j { moment = last } → m ≡ last → Along j p a before now old cur nodes last
    → Tried i 2 (changed_places nodes (actives_for i)) now after cur mid (attempt.Made f)
    → Turned worker_of mid.desk d (entry.Published p mid.desk.number last ∷ [])
    → RanPipe j p a before after old (record mid { desk = d }) (ends.Published m)
published j i p a before now after old cur mid d nodes last m f e at l t turned =
    let loads = loads_turned turned in
    let bears : mid.desk.number ≡ old.desk.number = t.desk.grew.bears ∙ l.desk.bears in
    let grew : Grew mid.desk d (entry.Published p old.desk.number last ∷ []) = subst (λ n. Grew mid.desk d (entry.Published p n last ∷ [])) bears (grew_turned worker_of turned) in
    let made : MadeBy (record j { moment = last }) 2 cur (record mid { desk = d }) t.gain t.mip_gain
    = subst (λ (y : JobSeen). MadeBy y 2 cur (record mid { desk = d }) t.gain t.mip_gain) e (made_after i cur mid d t.gain t.mip_gain loads t.tells.0) in
    let whole : RanPipe j p a before after old (record mid { desk = d }) (ends.Published last) = (
      l.moments,
      l.rises,
      record {
        ran = ran_by j i p a before now after old cur mid d nodes last 0 (entry.Published p old.desk.number last) (attempt.Made f) e l t (omega arith) grew (omega (arith, loads.0));
        ends = record {
          mid = cur;
          before = l.gain;
          last = t.gain;
          mips_before = l.mip_gain;
          mips_last = t.mip_gain;
          stage = refl;
          mips = refl;
          loads = l.loads;
          stage_bears = l.stage.bears;
          mips_bears = l.mips.bears;
          made = made;
        };
      },
    ) in
    subst (λ x. RanPipe j p a before after old (record mid { desk = d }) (ends.Published x)) (sym at) whole

-- after an attempt that ends the run, and the job given back
pub given_back : (j i : JobSeen) (p : Pipe) (a : List Active) (before now after : ℕ) (old cur mid : Passes) (d : DeskKnown) (nodes : List Active) (last : ℕ) (r : Attempt)
    → i ≡ record j { moment = last } → Along j p a before now old cur nodes last
    → Tried i 2 (changed_places nodes (actives_for i)) now after cur mid r → spared r ≤ 1
    → Grew mid.desk d (entry.GaveBack p mid.desk.number ∷ []) → mid.desk.loads ≤ d.loads
    → RanPipe j p a before after old (record mid { desk = d }) ends.Memory
given_back j i p a before now after old cur mid d nodes last r e l t few grew loads =
    let bears : mid.desk.number ≡ old.desk.number = t.desk.grew.bears ∙ l.desk.bears in
    let one : Grew mid.desk d (entry.GaveBack p old.desk.number ∷ []) = subst (λ n. Grew mid.desk d (entry.GaveBack p n ∷ [])) bears grew in
    (l.moments, last, l.rises, ran_by j i p a before now after old cur mid d nodes last 1 (entry.GaveBack p old.desk.number) r e l t few one loads)

-- ---- nodes

pub set_at : (n : JobName) (s : SubjectSeen) (set : NodeSet) → IsSet s set → nodes_of n set ≡ nodes_at s (last_at n set)
set_at (job.Pipe pipe.Full) s set h = h.full
set_at (job.Pipe pipe.Preview) s set h = h.preview
set_at (job.Pipe pipe.Second) s set h = h.second
set_at (job.Ticket t) s set h = refl

pub upto_more : (o : Option ℕ) (m n : ℕ) → m ≤ n → IsUpTo o m → IsUpTo o n
upto_more None m n h u = tt
upto_more (Some k) m n h u = omega arith

pub marks_more : (set : NodeSet) (m n : ℕ) → m ≤ n → AreUpTo set m → AreUpTo set n
marks_more set m n h u = record { full = upto_more set.full_at m n h u.full; preview = upto_more set.preview_at m n h u.preview; second = upto_more set.second_at m n h u.second }

-- ---- tickets

-- a ticket's attempt that was made, and the ticket's end
pub ticket_done : (j : JobSeen) (k t u : ℕ) (set : NodeSet) (old mid : Passes) (d : DeskKnown) (f : FrameSeen) → j.name ≡ job.Ticket k
    → Tried j 2 (changed_places (nodes_of j.name set) (actives_for j)) t u old mid (attempt.Made f)
    → Turned worker_of mid.desk d (entry.TicketDone k mid.desk.number ∷ [])
    → RanTicket j k t u old (record mid { desk = d }) (ends.Done k)
ticket_done j k t u set old mid d f is w turned =
    let loads = loads_turned turned in
    let cost : changed_places (nodes_of j.name set) (actives_for j) ≡ changed_places [] (actives_for j) = ap (λ n. changed_places (nodes_of n set) (actives_for j)) is in
    let g = grew_more w.desk.grew (grew_turned worker_of turned) in (
      refl,
      record {
        ran = record {
          gain = w.gain;
          mip_gain = w.mip_gain;
          stage = w.stage;
          mips = w.mips;
          desk = subst (λ n. Grew old.desk d (entry.TicketDone k n ∷ [])) w.desk.grew.bears g;
          loads = omega (arith, w.desk.more, loads.0);
          least = w.least;
          most = omega (arith, w.most, cost);
        };
        ends = record {
          mid = old;
          before = [];
          last = w.gain;
          mips_before = [];
          mips_last = w.mip_gain;
          stage = refl;
          mips = refl;
          loads = omega arith;
          stage_bears = refl;
          mips_bears = refl;
          made = made_after j old mid d w.gain w.mip_gain loads w.tells.0;
        };
      },
    )

-- a ticket's attempt that ended otherwise, and the ticket given back
pub ticket_back : (j : JobSeen) (k t u : ℕ) (set : NodeSet) (old mid : Passes) (d : DeskKnown) (r : Attempt) → j.name ≡ job.Ticket k
    → Tried j 2 (changed_places (nodes_of j.name set) (actives_for j)) t u old mid r → spared r ≤ 1
    → Turned worker_of mid.desk d (entry.TicketBack k mid.desk.number ∷ [])
    → RanTicket j k t u old (record mid { desk = d }) ends.Memory
ticket_back j k t u set old mid d r is w few turned =
    let loads = loads_turned turned in
    let cost : changed_places (nodes_of j.name set) (actives_for j) ≡ changed_places [] (actives_for j) = ap (λ n. changed_places (nodes_of n set) (actives_for j)) is in
    let g = grew_more w.desk.grew (grew_turned worker_of turned) in
    record {
      gain = w.gain;
      mip_gain = w.mip_gain;
      stage = w.stage;
      mips = w.mips;
      desk = subst (λ n. Grew old.desk d (entry.TicketBack k n ∷ [])) w.desk.grew.bears g;
      loads = omega (arith, w.desk.more, loads.0);
      least = w.least;
      most = omega (arith, w.most, cost, few);
    }
