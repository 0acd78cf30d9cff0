-- the lines of a legal journal are good
use Rattle.std.proofs.Common.{◌≡◌, ℕ, zero, suc, ◌≤◌, Bool, true, cond, List, [], ◌∷◌, ◌++◌, length, refl, sym, ap, subst, ◌∙◌, arith, Option, Some, None, append_assoc}
use Rattle.std.specs.Prelude.{option_map, unwrap_or}
use Rattle.std.specs.List.{All, last_or}
use Rattle.std.proofs.lemmas.List.{append-nil, length-set}
use Rattle.std.proofs.lemmas.List.Elements.{All-nil, All-push, All-weaker}
use Rattle.std.proofs.lemmas.List.Quantifiers.{all_pairs_push}
use Rattle.std.proofs.lemmas.Option.{slice_get_within}
use Rattle.outside.specs.declared.job_name.JobName.{JobName}
use Rattle.outside.specs.declared.job_name.JobName.TheVariants as job
use Rattle.outside.specs.declared.job_name.Pipe.{Pipe}
use Rattle.outside.specs.declared.job_name.Pipe.TheVariants.{Full, Preview, Second}
use Rattle.edit_steps.specs.declared.step.Step.TheVariants as steps
use Rattle.edit_steps.specs.Script.{Recipe, changes, moment_of}
use Rattle.journal.specs.declared.desk.Hold.{Hold}
use Rattle.journal.specs.declared.desk.Slot.{Slot}
use Rattle.journal.specs.declared.desk.TicketState.{TicketState}
use Rattle.journal.specs.declared.desk.TicketState.TheVariants.{Waiting, Out, Done}
use Rattle.journal.specs.declared.entry.Entry.{Entry}
use Rattle.journal.specs.declared.entry.Entry.TheVariants.{Changed, Asked, Settled, Closed, Took, Restarted, Published, GaveBack, TicketTook, TicketDone, TicketBack, Stopped}
use Rattle.journal.specs.Tickets.{asks, numbered, with_numbered, asked_moment}
use Rattle.journal.specs.Desk.{Desk, start, next, desk_of, slot, with_slot, slot_with, with_ticket, held_by, no_slot, May, Legal, LegalFrom, IsComplete, HoldsPipe, IsTicket, Later}
use Rattle.journal.specs.Lines.{Line, pipe_line, ticket_line, line_of, lines}
use Rattle.journal.specs.Good.{is_ticket, moments, last_moment, ticket_lines, Differ, IsKnown, IsAfter, Rises, IsReached, tickets_before, Good}
use Rattle.journal.proofs.DueLemmas.{due-has, due-late, complete-steps, complete-settled}
use Rattle.journal.proofs.SlotLemmas.{by_pipe, by_number, slot_at, slots_stay, numbered_same, numbered_other, numbered_within}
use Rattle.journal.proofs.LaterLemmas.{later_rises, later_wider}
use Rattle.journal.proofs.StepLemmas.{tickets_before-within, moment_of-all, tickets_before-all, moment_of-within, asked_in}
use Rattle.journal.proofs.LineLemmas.{is_pipe-same, is_pipe-other, is_ticket-same, is_ticket-other, moments-push, last_or-push, Rises-push, ticket_lines-push, none_named_pipe, none_named_ticket}
use Rattle.journal.proofs.ToldLemmas.{Placed, IsToldJob, IsTold, done_lines, IsHeld, AreHeld, Told, settled_more, no_more_pipe, no_more_ticket, one_if, none_if, told_changed, told_asked, reached_now, tickets_now, told_settled}

-- ---- entries that change a pipe or a ticket

-- the pipe is taken, begun anew or given back
told_slot : (script : Recipe) (d : Desk) (ls : List Line) (p : Pipe) (x : Slot) → Told script d ls → x.published ≡ (slot d p).published
    → AreHeld script p d.moment x
    → Told script (with_slot d p x) ls
told_slot script d ls p x told same held = record {
  three = slots_stay d p x told.three;
  place = told.place;
  known = told.known;
  last = λ q. slot_at d p q x (λ s. last_moment q ls ≡ s.published) told.three
      (λ e. told.last q ∙ ap (λ r. (slot d r).published) e ∙ sym same) (λ differ. told.last q);
  rises = told.rises;
  held = λ q. slot_at d p q x (AreHeld script q d.moment) told.three (λ e. subst (λ r. AreHeld script r d.moment x) (sym e) held) (λ differ. told.held q);
  tickets = told.tickets;
  names = told.names;
  settled = told.settled;
}

held_same : (w m v k : ℕ) → held_by w m ≡ held_by v k → m ≡ k
held_same w m v k e = ap (λ (o : Option Hold). unwrap_or (option_map (λ h. h.moment) o) 0) e

none_held : (w m : ℕ) → ◌≡◌ {A = Option Hold} None (held_by w m) → ⊥
none_held w m e = cc

told_held : (script : Recipe) (d : Desk) (ls : List Line) (p : Pipe) (w m : ℕ) → Told script d ls → IsHeld script p d.moment (slot d p).published m
    → Told script (with_slot d p (slot_with (held_by w m) (slot d p).published)) ls
told_held script d ls p w m told is =
    told_slot script d ls p (slot_with (held_by w m) (slot d p).published) told refl
    (λ v k e. subst (IsHeld script p d.moment (slot d p).published) (held_same w m v k e) is)

told_back : (script : Recipe) (d : Desk) (ls : List Line) (p : Pipe) → Told script d ls → Told script (with_slot d p (slot_with None (slot d p).published)) ls
told_back script d ls p told = told_slot script d ls p (slot_with None (slot d p).published) told refl (λ v k e. absurd (none_held v k e))

-- a restart holds on to the pipe, at a later moment
held_anew : (script : Recipe) (p : Pipe) (o : Option ℕ) (h now : ℕ) → IsHeld script p now o h → Later script p h now → IsHeld script p now o now
held_anew script p o h now is later = record { has = is.has; early = omega arith; after = on o is.after }
  where
    on : (x : Option ℕ) → IsAfter script p x h → IsAfter script p x now
    on None after = tt
    on (Some b) after =
        let rises = later_rises script p h now later in
        (omega (arith, after.0, rises), later_wider script p b b h now (omega arith) (omega (arith, rises)) after.1)

told_published : (script : Recipe) (d : Desk) (ls : List Line) (p : Pipe) (w m : ℕ) → Told script d ls → HoldsPipe d w p m
    → Told script (with_slot d p (slot_with None (Some m))) (ls ++ pipe_line p m ∷ [])
told_published script d ls p w m told holds =
    let x : Slot = slot_with None (Some m) in
    let h = told.held p w m holds in
    let all = ls ++ pipe_line p m ∷ [] in
    let after : IsAfter script p (last_moment p ls) m = subst (λ o. IsAfter script p o m) (sym (told.last p)) h.after in
    let mine : moments p all ≡ moments p ls ++ m ∷ [] =
    moments-push p ls (pipe_line p m) ∙ ap (λ b. moments p ls ++ cond {A = List ℕ} b (m ∷ []) []) (is_pipe-same p p refl) in
    record {
      three = slots_stay d p x told.three;
      place = told.place;
      known = All-push (IsTold script d.moment (length d.tickets)) ls (pipe_line p m) told.known (h.has, h.early);
      last = λ q. slot_at d p q x (λ s. last_moment q all ≡ s.published) told.three
          (λ e. subst (λ r. last_moment r all ≡ Some m) (sym e) (ap (last_or None) mine ∙ last_or-push None (moments p ls) m))
          (λ differ. ap (last_or None) (others q differ) ∙ told.last q);
      rises = λ q. by_pipe q p (Rises script q None (moments q all))
          (λ e. subst (λ r. Rises script r None (moments r all)) (sym e)
          (subst (Rises script p None) (sym mine) (Rises-push script p None (moments p ls) m (told.rises p) after)))
          (λ differ. subst (Rises script q None) (sym (others q differ)) (told.rises q));
      held = λ q. slot_at d p q x (AreHeld script q d.moment) told.three (λ e v k none. absurd (none_held v k none)) (λ differ. told.held q);
      tickets = λ t. omega (arith, told.tickets t, ticket_lines-push t ls (pipe_line p m));
      names = all_pairs_push Differ ls (pipe_line p m) told.names (none_named_pipe script p ls m (told.rises p) after);
      settled = λ n less at. let s = told.settled n less at in settled_more script n ls (pipe_line p m) s (no_more_pipe script d ls p m n told h s);
    }
  where
    others : (q : Pipe) → (q ≡ p → ⊥) → moments q (ls ++ pipe_line p m ∷ []) ≡ moments q ls
    others q differ =
        moments-push q ls (pipe_line p m)
        ∙ ap (λ b. moments q ls ++ cond {A = List ℕ} b (m ∷ []) []) (is_pipe-other q p (λ e. differ (sym e))) ∙ append-nil (moments q ls)

length-with_numbered : (ts : List TicketState) (t : ℕ) (y : TicketState) → length (with_numbered ts t y) ≡ length ts
length-with_numbered ts zero y = refl
length-with_numbered ts (suc k) y = length-set ts k y

done_put : (ts : List TicketState) (t u : ℕ) (x y : TicketState) → numbered ts t ≡ Some x → done_lines (Some y) ≡ done_lines (Some x)
    → done_lines (numbered (with_numbered ts t y) u) ≡ done_lines (numbered ts u)
done_put ts t u x y is same =
    by_number u t (done_lines (numbered (with_numbered ts t y) u) ≡ done_lines (numbered ts u))
    (λ e. ap (λ k. done_lines (numbered (with_numbered ts t y) k)) e ∙ ap done_lines (numbered_same ts t y x is) ∙ same
    ∙ ap done_lines (sym is) ∙ ap (λ k. done_lines (numbered ts k)) (sym e))
    (λ differ. ap done_lines (numbered_other ts t u y differ))

-- the ticket is taken or given back
told_ticket : (script : Recipe) (d : Desk) (ls : List Line) (t : ℕ) (x y : TicketState) → Told script d ls → IsTicket d t x
    → done_lines (Some y) ≡ done_lines (Some x)
    → Told script (with_ticket d t y) ls
told_ticket script d ls t x y told is same =
    let count = sym (length-with_numbered d.tickets t y) in
    record {
      three = told.three;
      place = subst (Placed script d.steps d.moment) count told.place;
      known = subst (λ c. All (IsTold script d.moment c) ls) count told.known;
      last = told.last;
      rises = told.rises;
      held = told.held;
      tickets = λ u. told.tickets u ∙ sym (done_put d.tickets t u x y is same);
      names = told.names;
      settled = told.settled;
    }

told_done : (script : Recipe) (d : Desk) (ls : List Line) (t w : ℕ) → Told script d ls → IsTicket d t (Out w)
    → Told script (with_ticket d t Done) (ls ++ ticket_line script t ∷ [])
told_done script d ls t w told is =
    let count = sym (length-with_numbered d.tickets t Done) in
    let within = numbered_within d.tickets t (Out w) is in
    let known = asked_in script d.steps t within.0 (omega (arith, within.1, told.place.count_is)) in
    let none_yet : ticket_lines t ls ≡ 0 = told.tickets t ∙ ap done_lines is in
    record {
      three = told.three;
      place = subst (Placed script d.steps d.moment) count told.place;
      known = subst (λ c. All (IsTold script d.moment c) (ls ++ ticket_line script t ∷ [])) count
          (All-push (IsTold script d.moment (length d.tickets)) ls (ticket_line script t) told.known
          (known.known, omega (arith, known.early, told.place.moment_is), within.1));
      last = λ q. ap (last_or None) (others q) ∙ told.last q;
      rises = λ q. subst (Rises script q None) (sym (others q)) (told.rises q);
      held = told.held;
      tickets = λ u. by_number u t (ticket_lines u (ls ++ ticket_line script t ∷ []) ≡ done_lines (numbered (with_numbered d.tickets t Done) u))
          (λ e. subst (λ k. ticket_lines k (ls ++ ticket_line script t ∷ []) ≡ done_lines (numbered (with_numbered d.tickets t Done) k)) (sym e) (mine none_yet))
          (λ differ. other u differ);
      names = all_pairs_push Differ ls (ticket_line script t) told.names (none_named_ticket t ls (asked_moment script t) none_yet);
      settled = λ n less at. let s = told.settled n less at in settled_more script n ls (ticket_line script t) s (no_more_ticket script ls t n within.0 none_yet s);
    }
  where
    others : (q : Pipe) → moments q (ls ++ ticket_line script t ∷ []) ≡ moments q ls
    others q = moments-push q ls (ticket_line script t) ∙ append-nil (moments q ls)

    mine : ticket_lines t ls ≡ 0 → ticket_lines t (ls ++ ticket_line script t ∷ []) ≡ done_lines (numbered (with_numbered d.tickets t Done) t)
    mine none_yet =
        let one = one_if (is_ticket t (job.Ticket t)) (is_ticket-same t t refl) in
        let e : ticket_lines t (ls ++ ticket_line script t ∷ []) ≡ 1 = omega (arith, ticket_lines-push t ls (ticket_line script t), one, none_yet) in
        e ∙ sym (ap done_lines (numbered_same d.tickets t Done (Out w) is))

    other : (u : ℕ) → (u ≡ t → ⊥) → ticket_lines u (ls ++ ticket_line script t ∷ []) ≡ done_lines (numbered (with_numbered d.tickets t Done) u)
    other u differ =
        let none = none_if (is_ticket u (job.Ticket t)) (is_ticket-other u t (λ e. differ (sym e))) in
        let e : ticket_lines u (ls ++ ticket_line script t ∷ []) ≡ ticket_lines u ls = omega (arith, ticket_lines-push u ls (ticket_line script t), none) in
        e ∙ told.tickets u ∙ ap done_lines (sym (numbered_other d.tickets t u Done differ))

-- the editor closes, or the desk is stopped
told_flags : (script : Recipe) (d : Desk) (ls : List Line) (closed stopped : Bool) → Told script d ls
    → Told script (record d { closed = closed; stopped = stopped }) ls
told_flags script d ls closed stopped told = record {
  three = told.three;
  place = told.place;
  known = told.known;
  last = told.last;
  rises = told.rises;
  held = told.held;
  tickets = told.tickets;
  names = told.names;
  settled = told.settled;
}

-- ---- whole journals

no_line : (script : Recipe) (d : Desk) (ls : List Line) → Told script d ls → Told script d (ls ++ [])
no_line script d ls told = subst (Told script d) (sym (append-nil ls)) told

told_next : (script : Recipe) (d : Desk) (ls : List Line) (e : Entry) → Told script d ls → May script d e → Told script (next d e) (ls ++ line_of script e)
told_next script d ls (Changed m) told may = no_line script _ ls (told_changed script d ls m told may.0 may.1)
told_next script d ls (Asked t m) told may = no_line script _ ls (told_asked script d ls t m told may.0)
told_next script d ls Settled told may = no_line script _ ls (told_settled script d ls told may.0 may.1)
told_next script d ls Closed told may = no_line script _ ls (told_flags script d ls true d.stopped told)
told_next script d ls (Took p w m) told may =
    let is : IsHeld script p d.moment (slot d p).published d.moment = record { has = due-has script d p may.0; early = omega arith; after = due-late script d p may.0 } in
    no_line script _ ls (told_held script d ls p w m told (subst (IsHeld script p d.moment (slot d p).published) (sym may.2) is))
told_next script d ls (Restarted p w m) told may =
    let is = held_anew script p (slot d p).published may.0 d.moment (told.held p w may.0 may.1.0) may.1.1 in
    no_line script _ ls (told_held script d ls p w m told (subst (IsHeld script p d.moment (slot d p).published) (sym may.2) is))
told_next script d ls (Published p w m) told may = told_published script d ls p w m told may
told_next script d ls (GaveBack p w) told may = no_line script _ ls (told_back script d ls p told)
told_next script d ls (TicketTook t w) told may = no_line script _ ls (told_ticket script d ls t Waiting (Out w) told may.0 refl)
told_next script d ls (TicketDone t w) told may = told_done script d ls t w told may
told_next script d ls (TicketBack t w) told may = no_line script _ ls (told_ticket script d ls t (Out w) Waiting told may refl)
told_next script d ls (Stopped w) told may = no_line script _ ls (told_flags script d ls d.closed true told)

told_from : (script : Recipe) (es : List Entry) (d : Desk) (ls : List Line) → Told script d ls → LegalFrom script d es
    → Told script (desk_of d es) (ls ++ lines script es)
told_from script [] d ls told legal = no_line script d ls told
told_from script (e ∷ es) d ls told legal =
    subst (Told script (desk_of (next d e) es)) (append_assoc ls (line_of script e) (lines script es))
    (told_from script es (next d e) (ls ++ line_of script e) (told_next script d ls e told legal.0) legal.1)

start_slot : (p : Pipe) → slot start p ≡ no_slot
start_slot Full = refl
start_slot Preview = refl
start_slot Second = refl

told_start : (script : Recipe) → Told script start []
told_start script = record {
  three = refl;
  place = record { within = omega arith; moment_is = refl; count_is = refl };
  known = All-nil (IsTold script 0 0);
  last = λ p. ap (λ s. s.published) (sym (start_slot p));
  rises = λ p. tt;
  held = λ p w m h. absurd (none_held w m (ap (λ s. s.hold) (sym (start_slot p)) ∙ h));
  tickets = λ t. none_asked t;
  names = λ i j d less within. absurd (omega (arith, less, within));
  settled = λ n less at. absurd (omega (arith, less));
}
  where
    none_asked : (t : ℕ) → 0 ≡ done_lines (numbered [] t)
    none_asked zero = refl
    none_asked (suc k) = refl

-- what the lines of a legal journal have to do with its desk
pub told : (script : Recipe) (es : List Entry) → Legal script es → Told script (desk_of start es) (lines script es)
told script es legal = told_from script es start [] (told_start script) legal

-- the moment of a legal journal is one of the script's
pub legal_moment : (script : Recipe) (es : List Entry) → Legal script es → (desk_of start es).moment ≤ changes script
legal_moment script es legal = let r = told script es legal in omega (arith, r.place.moment_is, moment_of-within script (desk_of start es).steps)

-- no more tickets are asked than the script has
pub legal_tickets : (script : Recipe) (es : List Entry) → Legal script es → length (desk_of start es).tickets ≤ length (asks script)
legal_tickets script es legal = let r = told script es legal in omega (arith, r.place.count_is, tickets_before-within script (desk_of start es).steps)

-- each line of a legal journal is known
pub lines_known : (script : Recipe) (es : List Entry) → Legal script es → All (IsKnown script) (lines script es)
lines_known script es legal =
    let d = desk_of start es in
    All-weaker (IsTold script d.moment (length d.tickets)) (IsKnown script) (λ l is. each d.moment (length d.tickets) (legal_moment script es legal) l.job l.moment is)
    (lines script es) (told script es legal).known
  where
    each : (now count : ℕ) → now ≤ changes script → (name : JobName) (m : ℕ) → IsToldJob script now count name m
        → IsKnown script (record { job = name; moment = m })
    each now count few (job.Pipe p) m is = (is.0, omega (arith, is.1, few))
    each now count few (job.Ticket t) m is = is.0

-- the lines of a journal that is legal and complete are good
pub lines_good : (script : Recipe) (es : List Entry) → Legal script es → IsComplete script es → Good script (lines script es)
lines_good script es legal complete =
    let d = desk_of start es in
    let r = told script es legal in
    let settled = complete-settled script d complete in
    let all = complete-steps script d complete in
    let moment : d.moment ≡ changes script = r.place.moment_is ∙ ap (moment_of script) all ∙ moment_of-all script in
    let count : length d.tickets ≡ length (asks script) = r.place.count_is ∙ ap (tickets_before script) all ∙ tickets_before-all script in
    record {
      known = lines_known script es legal;
      rises = r.rises;
      reached = λ p has. subst (λ m. IsReached script p m (lines script es)) moment (reached_now script d (lines script es) p r settled has);
      tickets = λ t low high. tickets_now script d (lines script es) t r settled low (omega (arith, high, count));
      settles = λ n at. r.settled n (omega (arith, all, slice_get_within script.steps n steps.Settle at)) at;
    }
