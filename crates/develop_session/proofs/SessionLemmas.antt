-- what a session makes of its files
use Rattle.std.proofs.Common.{◌≡◌, ℕ, List, length, sym, subst, Option, inl, inr}
use Rattle.std.specs.Prelude.{IfSome}
use Rattle.outside.specs.Faults.{NoneFalls}
use Rattle.outside.specs.Shelf.{Files}
use Rattle.journal.specs.Desk.{Legal, IsComplete}
use Rattle.journal.specs.Lines.{Line, lines}
use Rattle.journal.proofs.GoodLemmas.{told, lines_good}
use Rattle.dev_core.specs.DeskState.{DeskSeen}
use Rattle.dev_core.specs.Subject.{SubjectSeen}
use Rattle.publish.specs.declared.put_end.PutEnd.{PutEnd}
use Rattle.publish.specs.declared.put_end.PutEnd.TheVariants.{Fault, Memory}
use Rattle.publish.specs.Files.{RoseAt, ArePut, AreCutShort, desk_files}
use Rattle.develop_session.proofs.PutLemmas.{cut_since}
use Rattle.develop_session.specs.declared.status.Status.{Status}
use Rattle.develop_session.specs.declared.status.Status.TheVariants as status
use Rattle.develop_session.specs.Words.{Session}
use Rattle.develop_session.specs.Subject.{HasSubject}
use Rattle.develop_session.specs.Failures.{put_status, Tells}
use Rattle.develop_session.specs.Session.{HasLines, IsHeld, IsCutOff}
use Rattle.develop_session.specs.Ends.{Stops, Ends}
use Rattle.develop_session.specs.Texts.{refusal_text}

-- the lines of a desk
abbrev desk_lines : DeskSeen → List Line
desk_lines d = lines d.subject.script d.journal

-- those of a desk that is done are good lines of its subject
desk_has_lines : (c : Session) (s : SubjectSeen) (d : DeskSeen) (old : Option Files) → IfSome old (λ fs. HasSubject c.script c.source fs s) → d.subject ≡ s
    → Legal d.subject.script d.journal → IsComplete d.subject.script d.journal → HasLines c old d.subject (desk_lines d)
desk_has_lines c s d old subject is legal complete = record {
  stands = subst (λ (x : SubjectSeen). IfSome old (λ fs. HasSubject c.script c.source fs x)) (sym is) subject;
  good = lines_good d.subject.script d.journal legal complete;
  names = (told d.subject.script d.journal legal).names;
}

-- all was put
pub is_held : (c : Session) (s : SubjectSeen) (d : DeskSeen) (old later new : Option Files) (count : ℕ) → later ≡ old → IfSome old (λ fs. HasSubject c.script c.source fs s) → d.subject ≡ s
    → Legal d.subject.script d.journal → IsComplete d.subject.script d.journal → count ≡ length (desk_lines d) → ArePut (desk_files d) later new → IsHeld c old new count
is_held c s d old later new count same subject is legal complete counted put = record {
  subject = d.subject;
  lines = desk_lines d;
  are_lines = desk_has_lines c s d old subject is legal complete;
  counted = counted;
  put = subst (λ x. ArePut (desk_files d) x new) same put;
}

refused_put : (c : Session) (old new : Option Files) (read_rose put_rose : List ℕ → Type 0) (why : PutEnd) → IsCutOff c put_rose old new why → Stops c old new read_rose put_rose (put_status why)
refused_put c old new read_rose put_rose (Fault name) cut = inr cut
refused_put c old new read_rose put_rose Memory cut = inr cut

-- the puts were cut short
pub put_stops : (c : Session) (s : SubjectSeen) (d : DeskSeen) (old later new : Option Files) (read_rose : List ℕ → Type 0) (early late now : List ℕ → ℕ) (why : PutEnd) → later ≡ old → NoneFalls early late
    → IfSome old (λ fs. HasSubject c.script c.source fs s) → d.subject ≡ s → Legal d.subject.script d.journal → IsComplete d.subject.script d.journal
    → AreCutShort (desk_files d) (RoseAt late now) later new why → Stops c old new read_rose (RoseAt early now) (put_status why)
put_stops c s d old later new read_rose early late now why same falls subject is legal complete cut =
    refused_put c old new read_rose (RoseAt early now) why (record {
      subject = d.subject;
      lines = desk_lines d;
      are_lines = desk_has_lines c s d old subject is legal complete;
      puts = subst (λ x. AreCutShort (desk_files d) (RoseAt early now) x new why) same (cut_since (desk_files d) early late now later new why falls cut);
    })

-- a refusal and its line make the answer
pub stops_end : (c : Session) (old new : Option Files) (read_rose put_rose : List ℕ → Type 0) (said_rose : Type 0) (was is : Option (List ℕ)) (why : Status) → Stops c old new read_rose put_rose why
    → Tells (refusal_text why) said_rose was is → Ends c old new read_rose put_rose said_rose was is why
stops_end c old new read_rose put_rose said_rose was is status.OutOfMemory stops tells = inl (stops, tells)
stops_end c old new read_rose put_rose said_rose was is (status.ShelfFault name) stops tells = (stops, tells)
stops_end c old new read_rose put_rose said_rose was is (status.ScriptRefused step reason) stops tells = (stops, tells)
stops_end c old new read_rose put_rose said_rose was is (status.SourceRefused fault) stops tells = (stops, tells)
stops_end c old new read_rose put_rose said_rose was is (status.EventsRefused place reason) stops tells = absurd stops
stops_end c old new read_rose put_rose said_rose was is status.Ok stops tells = absurd stops
stops_end c old new read_rose put_rose said_rose was is status.Usage stops tells = absurd stops
stops_end c old new read_rose put_rose said_rose was is status.SaidFault stops tells = absurd stops
