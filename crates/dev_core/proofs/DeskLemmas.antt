-- what each call of a desk leaves
use Rattle.std.proofs.Common.{◌≡◌, ℕ, ◌+◌, ◌≤◌, Option, Some, List, [], ◌∷◌, ◌++◌, length, map, refl, sym, ap, subst, ◌∙◌, arith, Bool, true, false, cond}
use Rattle.std.proofs.lemmas.List.{append-nil, map-append}
use Rattle.outside.specs.declared.job_name.JobName.{JobName}
use Rattle.outside.specs.declared.job_name.JobName.TheVariants as job
use Rattle.outside.specs.declared.job_name.Pipe.{Pipe}
use Rattle.std.proofs.lemmas.List.Sums.{length-filter, count_by-le-length}
use Rattle.edit_steps.specs.Changes.{Histories, is_change}
use Rattle.edit_steps.specs.Script.{Recipe, changes, behind, history_at, moment_of}
use Rattle.edit_steps.proofs.KeptLemmas.{behind-present}
use Rattle.history.specs.Stack.{Stack}
use Rattle.journal.specs.declared.entry.Entry.{Entry}
use Rattle.journal.specs.declared.entry.Entry.TheVariants.{Changed, Asked, Settled, Closed, Took, Restarted, Published, GaveBack, TicketTook, TicketDone, TicketBack, Stopped}
use Rattle.journal.specs.declared.asking.Ask.{Ask}
use Rattle.journal.specs.declared.desk.TicketState.{TicketState}
use Rattle.journal.specs.declared.desk.TicketState.TheVariants.{Out, Waiting}
use Rattle.journal.specs.Desk.{Desk, start, next, desk_of, slot, May, LegalFrom, IsTicket, IsSuperseded, CanNote}
use Rattle.journal.specs.Lines.{line_of, lines}
use Rattle.journal.specs.Tickets.{ask_of}
use Rattle.journal.proofs.AskLemmas.{ask-there, asks_front}
use Rattle.journal.proofs.PushLemmas.{desk_of-push, LegalFrom-push, lines-push}
use Rattle.journal.proofs.OwnLemmas.{slots-next}
use Rattle.journal.proofs.SlotLemmas.{numbered_within, slots_stay}
use Rattle.dev_core.specs.DeskState.{DeskSeen, now, Keeps, Stands, owed, jobs_out}
use Rattle.dev_core.specs.Jobs.{JobSeen, FrameSeen, frame_of, job_seen, OfPipe, IsMomentOf, done_entry, back_entry}
use Rattle.dev_core.specs.Lines.{line_frame, frames_of}
use Rattle.dev_core.specs.Room.{Roomed}
use Rattle.dev_core.specs.Subject.{SubjectSeen}
use Rattle.dev_core.proofs.RoomLemmas.{jobs_small, owed_small, tickets_next, tickets_kept, out_held, out_done, out_back, owed_done, owed_back, out_asked}
use Rattle.dev_core.proofs.StandLemmas.{stands_changed, stands_asked, stands_settled, stands_same}

frames-push : (s : SubjectSeen) (es : List Entry) (e : Entry) → frames_of s (es ++ e ∷ []) ≡ frames_of s es ++ map (line_frame s) (line_of s.script e)
frames-push s es e = ap (map (line_frame s)) (lines-push s.script es e) ∙ map-append (line_frame s) (lines s.script es) (line_of s.script e)

-- from what is seen of a desk to what it keeps
pub at_desk : (s : SubjectSeen) (count : ℕ) (j : Roomed Entry) (f : Roomed FrameSeen) (d : Desk) (hs : Histories) (v : DeskSeen) (F : Recipe → Desk → Type 0)
    → record { subject = s; journal = j.items } ≡ v → Keeps s count j f d hs → F v.subject.script (now v) → F s.script d
at_desk s count j f d hs v F is k h = subst (F s.script) (sym k.desk) (subst (λ (x : DeskSeen). F x.subject.script (now x)) (sym is) h)

-- and back
pub to_desk : (s : SubjectSeen) (count : ℕ) (j : Roomed Entry) (f : Roomed FrameSeen) (d : Desk) (hs : Histories) (v : DeskSeen) (F : Recipe → Desk → Type 0)
    → record { subject = s; journal = j.items } ≡ v → Keeps s count j f d hs → F s.script d → F v.subject.script (now v)
to_desk s count j f d hs v F is k h = subst (λ (x : DeskSeen). F x.subject.script (now x)) is (subst (F s.script) k.desk h)

-- a fact of the pipe of a pipe's job
pub of_pipe : (name : JobName) (p : Pipe) (P : Pipe → Type 0) → name ≡ job.Pipe p → OfPipe name P → P p
of_pipe name p P is h = let F : JobName → Type 0 = λ n. OfPipe n P in subst F is h

-- the history that is kept is the one of the present moment
pub present_is : (s : SubjectSeen) (count : ℕ) (d : Desk) (hs : Histories) → Stands s count d hs → hs.present ≡ history_at s.script d.moment
present_is s count d hs k = ap (λ (x : Histories). x.present) k.present ∙ behind-present s.script d.steps ∙ ap (history_at s.script) (sym k.moment)

-- few moments
pub moment_small : (s : SubjectSeen) (count : ℕ) (d : Desk) (hs : Histories) → Stands s count d hs → d.moment ≤ 536
moment_small s count d hs k = omega (arith, k.within, k.all, k.few, length-filter is_change s.script.steps, count_by-le-length is_change s.script.steps)

-- a ticket of the desk is one of the script's
pub ticket_there : (s : SubjectSeen) (count : ℕ) (d : Desk) (hs : Histories) (t : ℕ) (x : TicketState) (o : Option Ask) → Stands s count d hs → IsTicket d t x
    → o ≡ ask_of s.script t → ((a : Ask) → o ≡ Some a → ⊥) → ⊥
ticket_there s count d hs t x o k at is none =
    let within = numbered_within d.tickets t x at in
    ask-there s.script t o within.0 (omega (arith, within.1, k.tickets, asks_front 0 s.script.steps d.steps)) is none

-- an entry that ends a job can be noted
pub can_note_done : (script : Recipe) (d : Desk) (name : JobName) (w m : ℕ) → May script d (done_entry name w m) → CanNote d (done_entry name w m)
can_note_done script d (job.Pipe p) w m may = tt
can_note_done script d (job.Ticket t) w m may = (numbered_within d.tickets t (Out w) may).1

pub can_note_back : (script : Recipe) (d : Desk) (name : JobName) (w : ℕ) → May script d (back_entry name w) → CanNote d (back_entry name w)
can_note_back script d (job.Pipe p) w may = tt
can_note_back script d (job.Ticket t) w may = (numbered_within d.tickets t (Out w) may).1

-- the frame of a finished job is that of its line
frame_line : (s : SubjectSeen) (name : JobName) (w m : ℕ) → IsMomentOf s.script name m
    → frame_of (job_seen s name w m) ∷ [] ≡ map (line_frame s) (line_of s.script (done_entry name w m))
frame_line s (job.Pipe p) w m asked = refl
frame_line s (job.Ticket t) w m asked = ap (λ i. frame_of (job_seen s (job.Ticket t) w i) ∷ []) asked

no_line_back : (s : SubjectSeen) (name : JobName) (w : ℕ) → line_of s.script (back_entry name w) ≡ []
no_line_back s (job.Pipe p) w = refl
no_line_back s (job.Ticket t) w = refl

-- ---- one more entry

module _ (s : SubjectSeen) (count : ℕ) (j : Roomed Entry) (f : Roomed FrameSeen) (d : Desk) (hs : Histories) (k : Keeps s count j f d hs) where
  -- an entry that may stand, with its frame, and with room for what is owed afterwards
  push : (j' : Roomed Entry) (f' : Roomed FrameSeen) (d' : Desk) (hs' : Histories) (e : Entry) → May s.script d e → d' ≡ next d e → Stands s count (next d e) hs'
      → j'.items ≡ j.items ++ e ∷ [] → f'.items ≡ f.items ++ map (line_frame s) (line_of s.script e) → owed (next d e) ≤ j'.room → jobs_out (next d e) ≤ f'.room
      → Keeps s count j' f' d' hs'
  push j' f' d' hs' e may after stands items shows room frame_room =
      subst (λ x. Keeps s count j' f' x hs') (sym after) (record {
        legal = subst (LegalFrom s.script start) (sym items) (LegalFrom-push s.script start j.items e k.legal (subst (λ x. May s.script x e) k.desk may));
        desk = ap (λ x. next x e) k.desk ∙ sym (desk_of-push start j.items e) ∙ ap (desk_of start) (sym items);
        stands = stands;
        shows = shows ∙ ap (λ fs. fs ++ map (line_frame s) (line_of s.script e)) k.shows ∙ sym (frames-push s j.items e) ∙ ap (frames_of s) (sym items);
        room = room;
        frame_room = frame_room;
      })

  -- an entry without a frame, for which room was made
  more : (j1 j' : Roomed Entry) (f' : Roomed FrameSeen) (d' : Desk) (hs' : Histories) (e : Entry) → May s.script d e → line_of s.script e ≡ [] → d' ≡ next d e
      → Stands s count (next d e) hs' → j1.items ≡ j.items → length d.tickets + 8 ≤ j1.room → j'.items ≡ j1.items ++ e ∷ [] → j'.room + 1 ≡ j1.room
      → f'.items ≡ f.items → jobs_out (next d e) ≤ f'.room → Keeps s count j' f' d' hs'
  more j1 j' f' d' hs' e may no_line after stands same room items less frames frame_room =
      push j' f' d' hs' e may after stands (items ∙ ap (λ es. es ++ e ∷ []) same)
      (frames ∙ sym (append-nil f.items) ∙ ap (λ ls. f.items ++ map (line_frame s) ls) (sym no_line))
      (omega (arith, owed_small (next d e) stands.slots, tickets_next d e, room, less)) frame_room

  -- an entry without a frame that was owed
  owing : (j' : Roomed Entry) (d' : Desk) (e : Entry) → May s.script d e → line_of s.script e ≡ [] → d' ≡ next d e → Stands s count (next d e) hs
      → owed (next d e) + 1 ≡ owed d → jobs_out (next d e) ≤ jobs_out d → j'.items ≡ j.items ++ e ∷ [] → j'.room + 1 ≡ j.room → Keeps s count j' f d' hs
  owing j' d' e may no_line after stands owes out items less =
      push j' f d' hs e may after stands items (sym (append-nil f.items) ∙ ap (λ ls. f.items ++ map (line_frame s) ls) (sym no_line))
      (omega (arith, k.room, less, owes)) (omega (arith, k.frame_room, out))

  pub keeps_changed : (j1 j' : Roomed Entry) (d' : Desk) (hs' : Histories) → May s.script d (Changed (d.moment + 1)) → hs' ≡ behind s.script (d.steps + 1) → j1.items ≡ j.items
      → length d.tickets + 8 ≤ j1.room → j'.items ≡ j1.items ++ Changed (d.moment + 1) ∷ [] → j'.room + 1 ≡ j1.room → d' ≡ next d (Changed (d.moment + 1)) → Keeps s count j' f d' hs'
  keeps_changed j1 j' d' hs' may present same room items less after =
      more j1 j' f d' hs' (Changed (d.moment + 1)) may refl after (stands_changed s count d hs k.stands (d.moment + 1) hs' may.0 refl present) same room items less refl k.frame_room

  pub keeps_asked : (t m : ℕ) (j1 j' : Roomed Entry) (d' : Desk) → May s.script d (Asked t m) → j1.items ≡ j.items → length d.tickets + 8 ≤ j1.room
      → j'.items ≡ j1.items ++ Asked t m ∷ [] → j'.room + 1 ≡ j1.room → d' ≡ next d (Asked t m) → Keeps s count j' f d' hs
  keeps_asked t m j1 j' d' may same room items less after =
      more j1 j' f d' hs (Asked t m) may refl after (stands_asked s count d hs k.stands t m may.0) same room items less refl (omega (arith, out_asked d t m, k.frame_room))

  pub keeps_settled : (j1 j' : Roomed Entry) (d' : Desk) → May s.script d Settled → j1.items ≡ j.items → length d.tickets + 8 ≤ j1.room
      → j'.items ≡ j1.items ++ Settled ∷ [] → j'.room + 1 ≡ j1.room → d' ≡ next d Settled → Keeps s count j' f d' hs
  keeps_settled j1 j' d' may same room items less after =
      more j1 j' f d' hs Settled may refl after (stands_settled s count d hs k.stands may.0) same room items less refl k.frame_room

  pub keeps_closed : (j' : Roomed Entry) (d' : Desk) → May s.script d Closed → j'.items ≡ j.items ++ Closed ∷ [] → j'.room + 1 ≡ j.room → d' ≡ next d Closed → Keeps s count j' f d' hs
  keeps_closed j' d' may items less after =
      let one : cond {A = ℕ} d.closed 0 1 ≡ 1 = ap (λ b. cond b 0 1) may.1 in
      owing j' d' Closed may refl after (stands_same s count d hs k.stands (next d Closed) refl refl refl k.stands.slots) (omega (arith, one)) (omega arith) items less

  pub keeps_stopped : (w : ℕ) (j' : Roomed Entry) (d' : Desk) → May s.script d (Stopped w) → j'.items ≡ j.items ++ Stopped w ∷ [] → j'.room + 1 ≡ j.room → d' ≡ next d (Stopped w)
      → Keeps s count j' f d' hs
  keeps_stopped w j' d' may items less after =
      let one : cond {A = ℕ} d.stopped 0 1 ≡ 1 = ap (λ b. cond b 0 1) may in
      owing j' d' (Stopped w) may refl after (stands_same s count d hs k.stands (next d (Stopped w)) refl refl refl k.stands.slots) (omega (arith, one)) (omega arith) items less

  -- room was made for the entry and for a frame
  pub keeps_took : (p : Pipe) (w m : ℕ) (j1 j' : Roomed Entry) (f' : Roomed FrameSeen) (d' : Desk) → May s.script d (Took p w m) → j1.items ≡ j.items → length d.tickets + 8 ≤ j1.room
      → j'.items ≡ j1.items ++ Took p w m ∷ [] → j'.room + 1 ≡ j1.room → f'.items ≡ f.items → length d.tickets + 8 ≤ f'.room → d' ≡ next d (Took p w m) → Keeps s count j' f' d' hs
  keeps_took p w m j1 j' f' d' may same room items less frames frame_room after =
      let e : Entry = Took p w m in
      let three = slots-next d e k.stands.slots in
      more j1 j' f' d' hs e may refl after (stands_same s count d hs k.stands (next d e) refl refl refl three) same room items less frames
      (omega (arith, jobs_small (next d e) three, frame_room))

  pub keeps_ticket_took : (t w : ℕ) (j1 j' : Roomed Entry) (f' : Roomed FrameSeen) (d' : Desk) → May s.script d (TicketTook t w) → j1.items ≡ j.items → length d.tickets + 8 ≤ j1.room
      → j'.items ≡ j1.items ++ TicketTook t w ∷ [] → j'.room + 1 ≡ j1.room → f'.items ≡ f.items → length d.tickets + 8 ≤ f'.room → d' ≡ next d (TicketTook t w) → Keeps s count j' f' d' hs
  keeps_ticket_took t w j1 j' f' d' may same room items less frames frame_room after =
      let e : Entry = TicketTook t w in
      more j1 j' f' d' hs e may refl after (stands_same s count d hs k.stands (next d e) refl refl (tickets_kept d t (Out w)) k.stands.slots) same room items less frames
      (omega (arith, jobs_small (next d e) k.stands.slots, tickets_kept d t (Out w), frame_room))

  pub keeps_restarted : (p : Pipe) (w m h : ℕ) (j1 j' : Roomed Entry) (d' : Desk) → IsSuperseded s.script d p w h → m ≡ d.moment → j1.items ≡ j.items → length d.tickets + 8 ≤ j1.room
      → j'.items ≡ j1.items ++ Restarted p w m ∷ [] → j'.room + 1 ≡ j1.room → d' ≡ next d (Restarted p w m) → Keeps s count j' f d' hs
  keeps_restarted p w m h j1 j' d' row present same room items less after =
      let e : Entry = Restarted p w m in
      let three = slots-next d e k.stands.slots in
      more j1 j' f d' hs e (h, row, present) refl after (stands_same s count d hs k.stands (next d e) refl refl refl three) same room items less refl
      (omega (arith, out_held d w p h w m (slot d p).published k.stands.slots row.0, k.frame_room))

  -- steps, moment and tickets stay where a job ends
  stands_done : (name : JobName) (w m : ℕ) → Stands s count (next d (done_entry name w m)) hs
  stands_done (job.Pipe p) w m = stands_same s count d hs k.stands (next d (Published p w m)) refl refl refl (slots-next d (Published p w m) k.stands.slots)
  stands_done (job.Ticket t) w m = stands_same s count d hs k.stands (next d (TicketDone t w)) refl refl (tickets_kept d t _) k.stands.slots

  stands_back : (name : JobName) (w : ℕ) → Stands s count (next d (back_entry name w)) hs
  stands_back (job.Pipe p) w = stands_same s count d hs k.stands (next d (GaveBack p w)) refl refl refl (slots-next d (GaveBack p w) k.stands.slots)
  stands_back (job.Ticket t) w = stands_same s count d hs k.stands (next d (TicketBack t w)) refl refl (tickets_kept d t Waiting) k.stands.slots

  pub keeps_done : (name : JobName) (w m : ℕ) (x : FrameSeen) (j' : Roomed Entry) (f' : Roomed FrameSeen) (d' : Desk) → May s.script d (done_entry name w m)
      → IsMomentOf s.script name m → x ≡ frame_of (job_seen s name w m) → j'.items ≡ j.items ++ done_entry name w m ∷ [] → j'.room + 1 ≡ j.room → f'.items ≡ f.items ++ x ∷ []
      → f'.room + 1 ≡ f.room → d' ≡ next d (done_entry name w m) → Keeps s count j' f' d' hs
  keeps_done name w m x j' f' d' may asked frame items less shows frame_less after =
      push j' f' d' hs (done_entry name w m) may after (stands_done name w m) items
      (shows ∙ ap (λ y. f.items ++ y ∷ []) frame ∙ ap (λ ys. f.items ++ ys) (frame_line s name w m asked))
      (omega (arith, owed_done s.script d name w m k.stands.slots may, k.room, less)) (omega (arith, out_done s.script d name w m k.stands.slots may, k.frame_room, frame_less))

  pub keeps_back : (name : JobName) (w : ℕ) (j' : Roomed Entry) (d' : Desk) → May s.script d (back_entry name w) → j'.items ≡ j.items ++ back_entry name w ∷ [] → j'.room + 1 ≡ j.room
      → d' ≡ next d (back_entry name w) → Keeps s count j' f d' hs
  keeps_back name w j' d' may items less after =
      owing j' d' (back_entry name w) may (no_line_back s name w) after (stands_back name w) (owed_back s.script d name w k.stands.slots may)
      (omega (arith, out_back s.script d name w k.stands.slots may)) items less
