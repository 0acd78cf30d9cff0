-- a valid command is refused for want of memory or a counted fault alone
use Rattle.std.proofs.Common.{◌≡◌, ◌⊎◌, ℕ, zero, suc, List, [], ◌∷◌, take, refl, ap, sym, subst, ◌∙◌, Option, Some, None, inl, inr, Result, Ok, Err}
use Rattle.std.specs.Prelude.{IfSome, IsSomeAnd, option_and_then, slice_get}
use Rattle.std.proofs.lemmas.Option.{none-some, same_Some}
use Rattle.px.specs.declared.kind.Cfa.{Cfa}
use Rattle.pnm.specs.declared.fault.PnmFault.{PnmFault}
use Rattle.pnm.specs.Fault.{fault_of}
use Rattle.pnm.proofs.PictureLemmas.{none_of_fault}
use Rattle.outside.specs.Shelf.{Files}
use Rattle.edit_steps.specs.declared.fault.ScriptFault.{ScriptFault}
use Rattle.edit_steps.specs.Script.{Recipe}
use Rattle.edit_script.specs.Script.{script_of}
use Rattle.events.specs.declared.event.Event.{Event}
use Rattle.events.specs.declared.fault.EventReason.TheVariants.{TooLong, Text, Form, TooMany, NotAllowed}
use Rattle.events.specs.declared.fault.EventsFault.{EventsFault}
use Rattle.events.specs.Events.{events_of}
use Rattle.publish.specs.declared.put_end.PutEnd.TheVariants as put_end
use Rattle.stepped.specs.declared.answer.Answer.{Answer}
use Rattle.stepped.specs.Step.{Core, Next, step}
use Rattle.stepped.specs.Outcome.{OutcomeSeen, outcome_with, run, start_of, IsRefused}
use Rattle.develop_session.specs.declared.status.Status.{Status}
use Rattle.develop_session.specs.declared.status.Status.TheVariants as status
use Rattle.develop_session.specs.Words.{Command, Replay, Session}
use Rattle.develop_session.specs.Files.{HasScript, HasBadScript, HasBadSource, HasEvents, HasBadEvents}
use Rattle.develop_session.specs.Replay.{HasReplay, HasRefusedEvent, IsCutShort}
use Rattle.develop_session.specs.Failures.{InputFails}
use Rattle.develop_session.specs.Answers.{Answers}
use Rattle.develop_session.specs.Replies.{Replies}
use Rattle.develop_session.specs.Ends.{Ends}
use Rattle.develop_session.specs.Complete.{HasPicture, AreValid, IsValidReplay, NoneRose, IsServed}

-- ---- what stands is of one kind

differ : {A E : Type 0} → (r : Result A E) (x : A) (e : E) → r ≡ Ok x → r ≡ Err e → ⊥
differ (Ok y) x e good bad = absurd cc
differ (Err f) x e good bad = absurd cc

same_Ok : {A E : Type 0} → (r : Result A E) (x y : A) → r ≡ Ok x → r ≡ Ok y → x ≡ y
same_Ok r x y left right = let both : Ok x ≡ Ok y = sym left ∙ right in cc

script_once : (name : List ℕ) (fs : Files) (r q : Recipe) → HasScript name fs r → HasScript name fs q → r ≡ q
script_once name fs r q a b = same_Ok (script_of a.bytes) r q a.reads (ap script_of (same_Some a.bytes b.bytes (sym a.stands ∙ b.stands)) ∙ b.reads)

good_script : (name : List ℕ) (fs : Files) (r : Recipe) (fault : ScriptFault) → HasScript name fs r → HasBadScript name fault fs → ⊥
good_script name fs r fault a b = differ (script_of a.bytes) r fault a.reads (ap script_of (same_Some a.bytes b.bytes (sym a.stands ∙ b.stands)) ∙ b.reads)

good_source : (name : List ℕ) (cfa : Option Cfa) (fs : Files) (fault : PnmFault) → HasPicture name cfa fs → HasBadSource name cfa fault fs → ⊥
good_source name cfa fs fault a b =
    none_of_fault (take 268435456 a.bytes) cfa fault (ap (λ t. fault_of (take 268435456 t) cfa) (same_Some a.bytes b.bytes (sym a.stands ∙ b.stands)) ∙ b.reads) a.picture a.shows

events_once : (name : List ℕ) (fs : Files) (xs ys : List Event) → HasEvents name fs xs → HasEvents name fs ys → xs ≡ ys
events_once name fs xs ys a b = same_Ok (events_of a.bytes) xs ys a.reads (ap events_of (same_Some a.bytes b.bytes (sym a.stands ∙ b.stands)) ∙ b.reads)

good_events : (name : List ℕ) (fs : Files) (xs : List Event) (fault : EventsFault) → HasEvents name fs xs → HasBadEvents name fault fs → ⊥
good_events name fs xs fault a b = differ (events_of a.bytes) xs fault a.reads (ap events_of (same_Some a.bytes b.bytes (sym a.stands ∙ b.stands)) ∙ b.reads)

-- ---- events that all happen

next_stops : (f g : Core × Answer → Option OutcomeSeen) (n : Next) (new m : OutcomeSeen) → ((x : Core × Answer) → f x ≡ Some new → g x ≡ Some m → ⊥) → option_and_then f n ≡ Some new → option_and_then g n ≡ Some m → ⊥
next_stops f g None new m each front all = none-some new front
next_stops f g (Some x) new m each front all = each x front all

-- no event is refused among events that all happen
stops : (es : List Event) (o new m : OutcomeSeen) (i : ℕ) (e : Event) → run o (take i es) ≡ Some new → slice_get es i ≡ Some e → step new.core e ≡ None → run o es ≡ Some m → ⊥
stops [] o new m i e front stands refused all = none-some e stands
stops (x ∷ es) o new m zero e front stands refused all =
    none-some m (sym (ap (option_and_then (λ next. run (outcome_with o x next) es)) (ap (λ p. step p.core x) (same_Some o new front) ∙ ap (λ v. step new.core v) (same_Some x e stands) ∙ refused)) ∙ all)
stops (x ∷ es) o new m (suc i) e front stands refused all =
    next_stops (λ next. run (outcome_with o x next) (take i es)) (λ next. run (outcome_with o x next) es) (step o.core x) new m
    (λ next front_next all_next. stops es (outcome_with o x next) new m i e front_next stands refused all_next) front all

happens : (o m new : OutcomeSeen) (es : List Event) (place : ℕ) → run o es ≡ Some m → IsRefused o es place new → ⊥
happens o m new es place all r = stops es o new m r.before r.event r.front r.stands r.refused all

-- ---- the inputs

input_good : (script source : List ℕ) (fs : Files) (rose : List ℕ → Type 0) (st : Status) → InputFails script source (Some fs) rose st → AreValid script source fs → ((name : List ℕ) → rose name → ⊥) → IsServed st
input_good script source fs rose status.Ok fails valid none = tt
input_good script source fs rose status.Usage fails valid none = absurd fails
input_good script source fs rose (status.ScriptRefused step reason) fails valid none = good_script script fs valid.recipe (record { step = step; reason = reason }) valid.script_stands fails
input_good script source fs rose (status.SourceRefused fault) fails valid none =
    good_source source valid.recipe.settings.cfa fs fault valid.source_stands
    (subst (λ (r : Recipe). HasBadSource source r.settings.cfa fault fs) (script_once script fs fails.0 valid.recipe fails.1 valid.script_stands) fails.2)
input_good script source fs rose (status.EventsRefused place reason) fails valid none = absurd fails
input_good script source fs rose (status.ShelfFault name) (inl h) valid none = none name h.1
input_good script source fs rose (status.ShelfFault name) (inr h) valid none = none name h.1
input_good script source fs rose status.SaidFault fails valid none = absurd fails
input_good script source fs rose status.OutOfMemory fails valid none = tt

all_happen : (c : Replay) (fs : Files) (place : ℕ) → HasRefusedEvent c place (Some fs) → IsValidReplay c fs → ⊥
all_happen c fs place r valid =
    let same : r.events ≡ valid.events = events_once c.events fs r.events valid.events r.stands.events_stand valid.events_stand in
    let left = valid.happen r.subject (subst (λ es. HasReplay c r.subject es fs) same r.stands) in
    happens (start_of r.subject) left.0 r.before r.events place (ap (run (start_of r.subject)) same ∙ left.1) r.refused

-- a fault of a put rose
cut_rose : (c : Replay) (rose : List ℕ → Type 0) (fs : Files) (new : Option Files) (name : List ℕ) → IsCutShort c rose (Some fs) new (put_end.Fault name) → ((at : List ℕ) → rose at → ⊥) → ⊥
cut_rose c rose fs new name cut none = none name cut.puts.fails.1

-- ---- each command

develop_complete : (c : Command) (old new : Option Files) (read_rose put_rose : List ℕ → Type 0) (said_rose : Type 0) (was is : Option (List ℕ)) (st : Status)
    → Answers c old new read_rose put_rose said_rose was is st → IsSomeAnd old (AreValid c.script c.source) → NoneRose read_rose put_rose said_rose → IsServed st
develop_complete c None new read_rose put_rose said_rose was is st answers valid none = absurd valid
develop_complete c (Some fs) new read_rose put_rose said_rose was is status.Ok answers valid none = tt
develop_complete c (Some fs) new read_rose put_rose said_rose was is status.Usage answers valid none = absurd answers
develop_complete c (Some fs) new read_rose put_rose said_rose was is (status.ScriptRefused step reason) answers valid none =
    input_good c.script c.source fs read_rose (status.ScriptRefused step reason) answers.0.1 valid none.reads
develop_complete c (Some fs) new read_rose put_rose said_rose was is (status.SourceRefused fault) answers valid none =
    input_good c.script c.source fs read_rose (status.SourceRefused fault) answers.0.1 valid none.reads
develop_complete c (Some fs) new read_rose put_rose said_rose was is (status.EventsRefused place reason) answers valid none = absurd answers
develop_complete c (Some fs) new read_rose put_rose said_rose was is (status.ShelfFault name) (inl h, told) valid none =
    input_good c.script c.source fs read_rose (status.ShelfFault name) h.1 valid none.reads
develop_complete c (Some fs) new read_rose put_rose said_rose was is (status.ShelfFault name) (inr h, told) valid none = none.puts name h.1
develop_complete c (Some fs) new read_rose put_rose said_rose was is status.SaidFault answers valid none = none.said answers.3
develop_complete c (Some fs) new read_rose put_rose said_rose was is status.OutOfMemory answers valid none = tt

stepped_complete : (c : Replay) (old new : Option Files) (read_rose put_rose : List ℕ → Type 0) (said_rose : Type 0) (was is : Option (List ℕ)) (st : Status)
    → Replies c old new read_rose put_rose said_rose was is st → IsSomeAnd old (IsValidReplay c) → NoneRose read_rose put_rose said_rose → IsServed st
stepped_complete c None new read_rose put_rose said_rose was is st replies valid none = absurd valid
stepped_complete c (Some fs) new read_rose put_rose said_rose was is status.Ok replies valid none = tt
stepped_complete c (Some fs) new read_rose put_rose said_rose was is status.Usage replies valid none = absurd replies
stepped_complete c (Some fs) new read_rose put_rose said_rose was is (status.ScriptRefused step reason) replies valid none =
    input_good c.script c.source fs read_rose (status.ScriptRefused step reason) replies.0.1 valid.inputs none.reads
stepped_complete c (Some fs) new read_rose put_rose said_rose was is (status.SourceRefused fault) replies valid none =
    input_good c.script c.source fs read_rose (status.SourceRefused fault) replies.0.1 valid.inputs none.reads
stepped_complete c (Some fs) new read_rose put_rose said_rose was is (status.EventsRefused place NotAllowed) replies valid none = all_happen c fs place replies.0.1 valid
stepped_complete c (Some fs) new read_rose put_rose said_rose was is (status.EventsRefused place TooLong) replies valid none = good_events c.events fs valid.events (record { place = place; reason = TooLong }) valid.events_stand replies.0.1.1
stepped_complete c (Some fs) new read_rose put_rose said_rose was is (status.EventsRefused place Text) replies valid none = good_events c.events fs valid.events (record { place = place; reason = Text }) valid.events_stand replies.0.1.1
stepped_complete c (Some fs) new read_rose put_rose said_rose was is (status.EventsRefused place Form) replies valid none = good_events c.events fs valid.events (record { place = place; reason = Form }) valid.events_stand replies.0.1.1
stepped_complete c (Some fs) new read_rose put_rose said_rose was is (status.EventsRefused place TooMany) replies valid none = good_events c.events fs valid.events (record { place = place; reason = TooMany }) valid.events_stand replies.0.1.1
stepped_complete c (Some fs) new read_rose put_rose said_rose was is (status.ShelfFault name) (inl h, told) valid none =
    input_good c.script c.source fs read_rose (status.ShelfFault name) h.1 valid.inputs none.reads
stepped_complete c (Some fs) new read_rose put_rose said_rose was is (status.ShelfFault name) (inr (inl h), told) valid none = none.reads name h.2
stepped_complete c (Some fs) new read_rose put_rose said_rose was is (status.ShelfFault name) (inr (inr h), told) valid none = cut_rose c put_rose fs new name h none.puts
stepped_complete c (Some fs) new read_rose put_rose said_rose was is status.SaidFault replies valid none = none.said replies.2
stepped_complete c (Some fs) new read_rose put_rose said_rose was is status.OutOfMemory replies valid none = tt

session_complete : (c : Session) (old new : Option Files) (read_rose put_rose : List ℕ → Type 0) (said_rose : Type 0) (was is : Option (List ℕ)) (st : Status)
    → Ends c old new read_rose put_rose said_rose was is st → IsSomeAnd old (AreValid c.script c.source) → NoneRose read_rose put_rose said_rose → IsServed st
session_complete c None new read_rose put_rose said_rose was is st ends valid none = absurd valid
session_complete c (Some fs) new read_rose put_rose said_rose was is status.Ok ends valid none = tt
session_complete c (Some fs) new read_rose put_rose said_rose was is status.Usage ends valid none = absurd ends
session_complete c (Some fs) new read_rose put_rose said_rose was is (status.ScriptRefused step reason) ends valid none =
    input_good c.script c.source fs read_rose (status.ScriptRefused step reason) ends.0.1 valid none.reads
session_complete c (Some fs) new read_rose put_rose said_rose was is (status.SourceRefused fault) ends valid none =
    input_good c.script c.source fs read_rose (status.SourceRefused fault) ends.0.1 valid none.reads
session_complete c (Some fs) new read_rose put_rose said_rose was is (status.EventsRefused place reason) ends valid none = absurd ends
session_complete c (Some fs) new read_rose put_rose said_rose was is (status.ShelfFault name) (inl h, told) valid none =
    input_good c.script c.source fs read_rose (status.ShelfFault name) h.1 valid none.reads
session_complete c (Some fs) new read_rose put_rose said_rose was is (status.ShelfFault name) (inr h, told) valid none = none.puts name h.puts.fails.1
session_complete c (Some fs) new read_rose put_rose said_rose was is status.SaidFault ends valid none = none.said ends.2
session_complete c (Some fs) new read_rose put_rose said_rose was is status.OutOfMemory ends valid none = tt

-- ---- the words

pub develop_served : (o : Option Command) (c : Command) (old new : Option Files) (read_rose put_rose : List ℕ → Type 0) (said_rose : Type 0) (was is : Option (List ℕ)) (st : Status) → Some c ≡ o
    → Answers c old new read_rose put_rose said_rose was is st → IfSome o (λ d. IsSomeAnd old (AreValid d.script d.source) → NoneRose read_rose put_rose said_rose → IsServed st)
develop_served o c old new read_rose put_rose said_rose was is st same answers =
    subst (λ x. IfSome x (λ d. IsSomeAnd old (AreValid d.script d.source) → NoneRose read_rose put_rose said_rose → IsServed st)) same
    (develop_complete c old new read_rose put_rose said_rose was is st answers)

pub stepped_served : (o : Option Replay) (c : Replay) (old new : Option Files) (read_rose put_rose : List ℕ → Type 0) (said_rose : Type 0) (was is : Option (List ℕ)) (st : Status) → Some c ≡ o
    → Replies c old new read_rose put_rose said_rose was is st → IfSome o (λ d. IsSomeAnd old (IsValidReplay d) → NoneRose read_rose put_rose said_rose → IsServed st)
stepped_served o c old new read_rose put_rose said_rose was is st same replies =
    subst (λ x. IfSome x (λ d. IsSomeAnd old (IsValidReplay d) → NoneRose read_rose put_rose said_rose → IsServed st)) same
    (stepped_complete c old new read_rose put_rose said_rose was is st replies)

pub session_served : (o : Option Session) (c : Session) (old new : Option Files) (read_rose put_rose : List ℕ → Type 0) (said_rose : Type 0) (was is : Option (List ℕ)) (st : Status) → Some c ≡ o
    → Ends c old new read_rose put_rose said_rose was is st → IfSome o (λ d. IsSomeAnd old (AreValid d.script d.source) → NoneRose read_rose put_rose said_rose → IsServed st)
session_served o c old new read_rose put_rose said_rose was is st same ends =
    subst (λ x. IfSome x (λ d. IsSomeAnd old (AreValid d.script d.source) → NoneRose read_rose put_rose said_rose → IsServed st)) same
    (session_complete c old new read_rose put_rose said_rose was is st ends)
