-- what a replay makes of its files
use Rattle.std.proofs.Common.{◌≡◌, ℕ, List, [], ◌∷◌, length, refl, ap, sym, subst, ◌∙◌, Option, Some, None, inl, inr, arith}
use Rattle.std.specs.Prelude.{IfSome, option_and_then}
use Rattle.outside.specs.Faults.{NoneFalls, Rose}
use Rattle.outside.specs.Shelf.{Files}
use Rattle.outside.proofs.FaultLaws.{Rose-wider}
use Rattle.outside.proofs.Told.{if_both}
use Rattle.journal.specs.Desk.{start, desk_of, is_complete}
use Rattle.journal.specs.Lines.{lines}
use Rattle.dev_core.specs.DeskState.{DeskSeen}
use Rattle.dev_core.specs.Subject.{SubjectSeen}
use Rattle.events.specs.declared.event.Event.{Event}
use Rattle.events.specs.declared.fault.EventReason.TheVariants.{TooLong, Text, Form, TooMany, NotAllowed}
use Rattle.events.specs.declared.fault.EventsFault.{EventsFault}
use Rattle.stepped.specs.Outcome.{OutcomeSeen, outcome_with, run, start_of}
use Rattle.stepped.specs.Step.{Next, step}
use Rattle.stepped.proofs.SubjectLemmas.{step-subject}
use Rattle.publish.specs.declared.put_end.PutEnd.{PutEnd}
use Rattle.publish.specs.declared.put_end.PutEnd.TheVariants.{Fault, Memory}
use Rattle.publish.specs.Files.{RoseAt, ArePut, AreCutShort, files, desk_files}
use Rattle.develop_session.proofs.PutLemmas.{cut_since}
use Rattle.develop_session.specs.declared.tally.Tally.{Tally}
use Rattle.develop_session.specs.Words.{Replay}
use Rattle.develop_session.specs.declared.status.Status.{Status}
use Rattle.develop_session.specs.declared.status.Status.TheVariants as status
use Rattle.develop_session.specs.Files.{HasEvents, HasBadEvents}
use Rattle.develop_session.specs.Failures.{put_status, EventsFail, Tells}
use Rattle.develop_session.specs.Subject.{HasSubject, HasSomeSubject}
use Rattle.develop_session.specs.Replay.{HasReplay, Leave, IsTally, IsReplayed, IsCutShort, files_of}
use Rattle.develop_session.specs.Replies.{Declines, Replies}
use Rattle.develop_session.specs.Texts.{refusal_text}

-- the events leave the subject
by_next : (o : OutcomeSeen) (e : Event) (es : List Event) (new : OutcomeSeen) → ((x : OutcomeSeen) → run x es ≡ Some new → new.core.subject ≡ x.core.subject)
    → (n : Next) → step o.core e ≡ n → option_and_then (λ next. run (outcome_with o e next) es) n ≡ Some new → new.core.subject ≡ o.core.subject
by_next o e es new rest None none later = absurd cc
by_next o e es new rest (Some next) some later = rest (outcome_with o e next) later ∙ step-subject o.core e next some

some_is : (x y : OutcomeSeen) → Some x ≡ Some y → x ≡ y
some_is x y e = cc

run_subject : (o : OutcomeSeen) (es : List Event) (new : OutcomeSeen) → run o es ≡ Some new → new.core.subject ≡ o.core.subject
run_subject o [] new is = ap (λ (x : OutcomeSeen). x.core.subject) (sym (some_is o new is))
run_subject o (e ∷ es) new is = by_next o e es new (λ x h. run_subject x es new h) (step o.core e) refl is

left_subject : (s : SubjectSeen) (es : List Event) (o : OutcomeSeen) → Leave s es o → o.core.subject ≡ s
left_subject s es o left = run_subject (start_of s) es o left

-- the files of the desk that the events leave
left_files : (s : SubjectSeen) (es : List Event) (o : OutcomeSeen) (d : DeskSeen) → Leave s es o → d.subject ≡ o.core.subject → d.journal ≡ o.core.journal → desk_files d ≡ files_of s o
left_files s es o d left subject journal =
    ap (λ (x : SubjectSeen). files x (lines x.script d.journal)) (subject ∙ left_subject s es o left) ∙ ap (λ x. files s (lines s.script x)) journal

-- the tally of the desk that the events leave
left_tally : (s : SubjectSeen) (es : List Event) (o : OutcomeSeen) (t : Tally) → Leave s es o → t.events ≡ length es → t.lines ≡ length (lines o.core.subject.script o.core.journal)
    → t.complete ≡ is_complete o.core.subject.script (desk_of start o.core.journal) → IsTally s es o t
left_tally s es o t left events lines_are complete =
    let script = ap (λ (x : SubjectSeen). x.script) (left_subject s es o left) in
    record {
      events_are = events;
      lines_are = lines_are ∙ ap (λ x. length (lines x o.core.journal)) script;
      all_done = complete ∙ ap (λ x. is_complete x (desk_of start o.core.journal)) script;
    }

both_stand : (c : Replay) (s : SubjectSeen) (es : List Event) (old later : Option Files) → later ≡ old → IfSome old (λ fs. HasSubject c.script c.source fs s) → IfSome later (λ fs. HasEvents c.events fs es)
    → IfSome old (HasReplay c s es)
both_stand c s es old later same subject events = if_both old later same subject events (λ fs p q. record { subject_stands = p; events_stand = q })

-- what was read and put, and the tally
pub is_replayed : (c : Replay) (s : SubjectSeen) (es : List Event) (o : OutcomeSeen) (d : DeskSeen) (old later latest new : Option Files) (t : Tally) → later ≡ old → latest ≡ later
    → IfSome old (λ fs. HasSubject c.script c.source fs s) → IfSome later (λ fs. HasEvents c.events fs es) → Leave s es o
    → d.subject ≡ o.core.subject → d.journal ≡ o.core.journal → ArePut (desk_files d) latest new
    → t.events ≡ length es → t.lines ≡ length (lines o.core.subject.script o.core.journal) → t.complete ≡ is_complete o.core.subject.script (desk_of start o.core.journal)
    → IsReplayed c old new t
is_replayed c s es o d old later latest new t same again subject events left d_subject d_journal put t_events t_lines t_complete = record {
  subject = s;
  events = es;
  outcome = o;
  stands = both_stand c s es old later same subject events;
  left = left;
  tally = left_tally s es o t left t_events t_lines t_complete;
  put = subst (λ ps. ArePut ps old new) (left_files s es o d left d_subject d_journal) (subst (λ x. ArePut (desk_files d) x new) (again ∙ same) put);
}

refused_put : (c : Replay) (old new : Option Files) (read_rose put_rose : List ℕ → Type 0) (why : PutEnd) → IsCutShort c put_rose old new why → Declines c old new read_rose put_rose (put_status why)
refused_put c old new read_rose put_rose (Fault name) cut = inr (inr cut)
refused_put c old new read_rose put_rose Memory cut = inr cut

-- the puts were cut short
pub put_declines : (c : Replay) (s : SubjectSeen) (es : List Event) (o : OutcomeSeen) (d : DeskSeen) (old later latest new : Option Files) (read_rose : List ℕ → Type 0) (early late now : List ℕ → ℕ)
    (why : PutEnd) → later ≡ old → latest ≡ later → NoneFalls early late
    → IfSome old (λ fs. HasSubject c.script c.source fs s) → IfSome later (λ fs. HasEvents c.events fs es) → Leave s es o
    → d.subject ≡ o.core.subject → d.journal ≡ o.core.journal → AreCutShort (desk_files d) (RoseAt late now) latest new why
    → Declines c old new read_rose (RoseAt early now) (put_status why)
put_declines c s es o d old later latest new read_rose early late now why same again falls subject events left d_subject d_journal cut =
    refused_put c old new read_rose (RoseAt early now) why (record {
      subject = s;
      events = es;
      outcome = o;
      stands = both_stand c s es old later same subject events;
      left = left;
      puts = subst (λ ps. AreCutShort ps (RoseAt early now) old new why) (left_files s es o d left d_subject d_journal)
          (subst (λ x. AreCutShort (desk_files d) (RoseAt early now) x new why) (again ∙ same) (cut_since (desk_files d) early late now latest new why falls cut));
    })

some_subject : (c : Replay) (s : SubjectSeen) (old : Option Files) → IfSome old (λ fs. HasSubject c.script c.source fs s) → IfSome old (HasSomeSubject c.script c.source)
some_subject c s None h = tt
some_subject c s (Some fs) h = (s, h)

both_told : (c : Replay) (s : SubjectSeen) (old later : Option Files) (fault : EventsFault) → later ≡ old → IfSome old (λ fs. HasSubject c.script c.source fs s) → IfSome later (HasBadEvents c.events fault)
    → IfSome old (λ fs. HasSomeSubject c.script c.source fs × HasBadEvents c.events fault fs)
both_told c s old later fault same subject fails = if_both old later same (some_subject c s old subject) fails (λ fs p q. (p, q))

-- the events weren't read
pub events_decline : (c : Replay) (s : SubjectSeen) (old later new : Option Files) (early late now : List ℕ → ℕ) (put_rose : List ℕ → Type 0) (why : Status) → later ≡ old → new ≡ later → NoneFalls early late
    → IfSome old (λ fs. HasSubject c.script c.source fs s) → EventsFail c.events later (Rose (late c.events) (now c.events)) why → Declines c old new (RoseAt early now) put_rose why
events_decline c s old later new early late now put_rose status.OutOfMemory same again falls subject fails = inl (again ∙ same)
events_decline c s old later new early late now put_rose (status.EventsRefused place NotAllowed) same again falls subject fails = absurd fails
events_decline c s old later new early late now put_rose (status.EventsRefused place TooLong) same again falls subject fails =
    (again ∙ same, both_told c s old later (record { place = place; reason = TooLong }) same subject fails)
events_decline c s old later new early late now put_rose (status.EventsRefused place Text) same again falls subject fails =
    (again ∙ same, both_told c s old later (record { place = place; reason = Text }) same subject fails)
events_decline c s old later new early late now put_rose (status.EventsRefused place Form) same again falls subject fails =
    (again ∙ same, both_told c s old later (record { place = place; reason = Form }) same subject fails)
events_decline c s old later new early late now put_rose (status.EventsRefused place TooMany) same again falls subject fails =
    (again ∙ same, both_told c s old later (record { place = place; reason = TooMany }) same subject fails)
events_decline c s old later new early late now put_rose (status.ShelfFault at) same again falls subject fails =
    inr (inl (again ∙ same, fails.0, subst (RoseAt early now) (sym fails.0) (Rose-wider (early c.events) (late c.events) (now c.events) (now c.events) (falls c.events) fails.1 (omega arith)), some_subject c s old subject))
events_decline c s old later new early late now put_rose status.Ok same again falls subject fails = absurd fails
events_decline c s old later new early late now put_rose status.Usage same again falls subject fails = absurd fails
events_decline c s old later new early late now put_rose (status.ScriptRefused step reason) same again falls subject fails = absurd fails
events_decline c s old later new early late now put_rose (status.SourceRefused fault) same again falls subject fails = absurd fails
events_decline c s old later new early late now put_rose status.SaidFault same again falls subject fails = absurd fails

-- a refusal and its line make the answer
pub declines_reply : (c : Replay) (old new : Option Files) (read_rose put_rose : List ℕ → Type 0) (said_rose : Type 0) (was is : Option (List ℕ)) (why : Status) → Declines c old new read_rose put_rose why
    → Tells (refusal_text why) said_rose was is → Replies c old new read_rose put_rose said_rose was is why
declines_reply c old new read_rose put_rose said_rose was is status.OutOfMemory declines tells = inl (declines, tells)
declines_reply c old new read_rose put_rose said_rose was is (status.ShelfFault name) declines tells = (declines, tells)
declines_reply c old new read_rose put_rose said_rose was is (status.ScriptRefused step reason) declines tells = (declines, tells)
declines_reply c old new read_rose put_rose said_rose was is (status.SourceRefused fault) declines tells = (declines, tells)
declines_reply c old new read_rose put_rose said_rose was is (status.EventsRefused place reason) declines tells = (declines, tells)
declines_reply c old new read_rose put_rose said_rose was is status.Ok declines tells = absurd declines
declines_reply c old new read_rose put_rose said_rose was is status.Usage declines tells = absurd declines
declines_reply c old new read_rose put_rose said_rose was is status.SaidFault declines tells = absurd declines
