-- what the front of a file tells of the file
use Rattle.std.proofs.Common.{◌≡◌, ℕ, suc, Bool, true, false, List, [], ◌∷◌, take, Option, Some, None, Result, Ok, Err, refl, sym, subst, ap, ◌∙◌}
use Rattle.std.specs.Prelude.{option_map, nat_le, if◌then◌else◌, IfSome}
use Rattle.px.specs.Picture.{Picture}
use Rattle.edit_steps.specs.declared.fault.ScriptFault.{ScriptFault}
use Rattle.edit_steps.specs.Script.{Recipe}
use Rattle.outside.specs.Shelf.{Files, held}
use Rattle.px.specs.declared.kind.Cfa.{Cfa}
use Rattle.pnm.specs.declared.fault.PnmFault.{PnmFault}
use Rattle.pnm.specs.Fault.{fault_of}
use Rattle.pnm.specs.Pnm.{IsPicture}
use Rattle.pnm.proofs.FrontLemmas.{picture-front}
use Rattle.edit_script.specs.Script.{script_of}
use Rattle.serde_json.specs.Data.{Data, Items, no_items, item}
use Rattle.serde_json.specs.Find.{as_array}
use Rattle.json_form.specs.declared.text.TextEnd.{TextEnd}
use Rattle.json_form.specs.declared.text.TextEnd.TheVariants as texts
use Rattle.json_form.specs.Text.{text_of}
use Rattle.events.specs.declared.event.Event.{Event}
use Rattle.events.specs.declared.fault.EventReason.{EventReason}
use Rattle.events.specs.declared.fault.EventReason.TheVariants.{TooLong, Text, Form, TooMany, NotAllowed}
use Rattle.events.specs.declared.fault.EventsFault.{EventsFault}
use Rattle.events.specs.Forms.{event_of}
use Rattle.events.specs.Events.{◌>>=◌, fault_at, or_form, or_text, event_at, events_from, list_of, events_of}
use Rattle.develop_session.specs.declared.status.Status.TheVariants as status
use Rattle.develop_session.specs.Develop.{IsMade, developed, out_bytes}
use Rattle.develop_session.specs.Files.{HasScript, HasBadScript, HasSource, HasBadSource, HasEvents, HasBadEvents}
use Rattle.develop_session.specs.Failures.{EventsFail}

-- a file whose front was read stands there
pub record HasFront (name : List ℕ) (fs : Files) (n : ℕ) (front : List ℕ) : Type 0 where
  pub bytes : List ℕ
  pub stands : held fs name ≡ Some bytes
  pub front_is : take n bytes ≡ front

front_by : (o : Option (List ℕ)) (name : List ℕ) (fs : Files) (n : ℕ) (front : List ℕ) → held fs name ≡ o → option_map (take n) o ≡ Some front → HasFront name fs n front
front_by None name fs n front is e = absurd cc
front_by (Some bytes) name fs n front is e = let same : take n bytes ≡ front = cc in record { bytes = bytes; stands = is; front_is = same }

pub front_read : (name : List ℕ) (fs : Files) (n : ℕ) (front : List ℕ) → option_map (take n) (held fs name) ≡ Some front → HasFront name fs n front
front_read name fs n front e = front_by (held fs name) name fs n front refl e

pub has_script : (name : List ℕ) (fs : Files) (front : List ℕ) (script : Recipe) → ((text : List ℕ) → take 4194305 text ≡ front → script_of text ≡ Ok script)
    → option_map (take 4194305) (held fs name) ≡ Some front → HasScript name fs script
has_script name fs front script tells e = let file = front_read name fs 4194305 front e in
    record { bytes = file.bytes; stands = file.stands; reads = tells file.bytes file.front_is }

pub has_bad_script : (name : List ℕ) (fs : Files) (front : List ℕ) (fault : ScriptFault) → ((text : List ℕ) → take 4194305 text ≡ front → script_of text ≡ Err fault)
    → option_map (take 4194305) (held fs name) ≡ Some front → HasBadScript name fault fs
has_bad_script name fs front fault tells e = let file = front_read name fs 4194305 front e in
    record { bytes = file.bytes; stands = file.stands; reads = tells file.bytes file.front_is }

pub has_events : (name : List ℕ) (fs : Files) (front : List ℕ) (events : List Event) → ((text : List ℕ) → take 4194305 text ≡ front → events_of text ≡ Ok events)
    → option_map (take 4194305) (held fs name) ≡ Some front → HasEvents name fs events
has_events name fs front events tells e = let file = front_read name fs 4194305 front e in
    record { bytes = file.bytes; stands = file.stands; reads = tells file.bytes file.front_is }

pub has_bad_events : (name : List ℕ) (fs : Files) (front : List ℕ) (fault : EventsFault) → ((text : List ℕ) → take 4194305 text ≡ front → events_of text ≡ Err fault)
    → option_map (take 4194305) (held fs name) ≡ Some front → HasBadEvents name fault fs
has_bad_events name fs front fault tells e = let file = front_read name fs 4194305 front e in
    record { bytes = file.bytes; stands = file.stands; reads = tells file.bytes file.front_is }

-- ---- reading events never tells of one that isn't allowed

IsOfReading : {A : Type 0} → Result A EventsFault → Type 0
IsOfReading (Ok x) = Unit {0}
IsOfReading (Err fault) = fault.reason ≡ NotAllowed → ⊥

then_read : {A B : Type 0} (r : Result A EventsFault) (next : A → Result B EventsFault) → IsOfReading r → ((x : A) → IsOfReading (next x)) → IsOfReading (r >>= next)
unfolding IsOfReading
then_read (Ok x) next here after = after x
then_read (Err fault) next here after = here

or_form_reads : {A : Type 0} (place : ℕ) (o : Option A) → IsOfReading (or_form place o)
unfolding IsOfReading
or_form_reads place None = λ e. cc
or_form_reads place (Some x) = tt

or_text_reads : (r : Result Data TextEnd) → IsOfReading (or_text r)
unfolding IsOfReading
or_text_reads (Ok d) = tt
or_text_reads (Err texts.TooLong) = λ e. cc
or_text_reads (Err texts.Text) = λ e. cc
or_text_reads (Err texts.Memory) = λ e. cc

within_reads : (place : ℕ) (d : Data) (b : Bool) → IsOfReading (if b then or_form place (event_of d) else Err (fault_at place TooMany))
unfolding IsOfReading
within_reads place d true = or_form_reads place (event_of d)
within_reads place d false = λ e. cc

event_at_reads : (place : ℕ) (d : Data) → IsOfReading (event_at place d)
event_at_reads place d = within_reads place d (nat_le place 65536)

ok_reads : {A : Type 0} (x : A) → IsOfReading (Ok x)
unfolding IsOfReading
ok_reads x = tt

events_from_reads : (place : ℕ) (ds : Items) → IsOfReading (events_from place ds)
events_from_reads place no_items = ok_reads []
events_from_reads place (item d ds) =
    then_read (event_at place d) _ (event_at_reads place d) (λ e. then_read (events_from (suc place) ds) _ (events_from_reads (suc place) ds) (λ es. ok_reads (e ∷ es)))

events_of_reads : (bytes : List ℕ) → IsOfReading (events_of bytes)
events_of_reads bytes = then_read (or_text (text_of bytes)) list_of (or_text_reads (text_of bytes)) (λ d. then_read (or_form 0 (as_array d)) (events_from 1) (or_form_reads 0 (as_array d)) (events_from_reads 1))

reading_never : (bytes : List ℕ) (fault : EventsFault) → events_of bytes ≡ Err fault → fault.reason ≡ NotAllowed → ⊥
unfolding IsOfReading
reading_never bytes fault is = subst IsOfReading is (events_of_reads bytes)

-- the fault of reading them is the cause
pub events_fail : (name bytes : List ℕ) (old : Option Files) (rose : Type 0) (fault : EventsFault) → events_of bytes ≡ Err fault → IfSome old (HasBadEvents name fault)
    → EventsFail name old rose (status.EventsRefused fault.place fault.reason)
events_fail name bytes old rose fault is stands = by_reason fault.place fault.reason (reading_never bytes fault is) stands
  where
    by_reason : (place : ℕ) (reason : EventReason) → (reason ≡ NotAllowed → ⊥) → IfSome old (HasBadEvents name (record { place = place; reason = reason })) → EventsFail name old rose (status.EventsRefused place reason)
    by_reason place TooLong never stands = stands
    by_reason place Text never stands = stands
    by_reason place Form never stands = stands
    by_reason place TooMany never stands = stands
    by_reason place NotAllowed never stands = absurd (never refl)

-- the front of a source is that picture
pub has_source : (name : List ℕ) (cfa : Option Cfa) (fs : Files) (n : ℕ) (front : List ℕ) (q : Picture) → IsPicture front cfa q → option_map (take n) (held fs name) ≡ Some front → HasSource name cfa fs q
has_source name cfa fs n front q shows e =
    let file = front_read name fs n front e in
    record { bytes = file.bytes; stands = file.stands; shows = picture-front n file.bytes cfa q (subst (λ t. IsPicture t cfa q) (sym file.front_is) shows) }

-- the front of a source has that fault
pub has_bad_source : (name : List ℕ) (cfa : Option Cfa) (fault : PnmFault) (fs : Files) (n : ℕ) (front : List ℕ) → n ≡ 268435456 → fault_of front cfa ≡ Some fault
    → option_map (take n) (held fs name) ≡ Some front → HasBadSource name cfa fault fs
has_bad_source name cfa fault fs n front all refused e =
    let file = front_read name fs n front e in
    record { bytes = file.bytes; stands = file.stands; reads = ap (λ t. fault_of t cfa) (ap (λ m. take m file.bytes) (sym all) ∙ file.front_is) ∙ refused }

-- what the script makes of the picture that the front of a source is
pub is_made : (script : Recipe) (name : List ℕ) (fs : Files) (n : ℕ) (front : List ℕ) (q : Picture) (w h : ℕ) (bytes : List ℕ) → IsPicture front script.settings.cfa q → w ≡ (developed script q).w → h ≡ (developed script q).h
    → bytes ≡ out_bytes script q → option_map (take n) (held fs name) ≡ Some front → IsMade script name w h bytes fs
is_made script name fs n front q w h bytes shows wide high made e = record {
  picture = q;
  source = has_source name script.settings.cfa fs n front q shows e;
  wide = sym wide;
  high = sym high;
  bytes_are = made;
}
