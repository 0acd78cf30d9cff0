-- what a call does in the turns that it takes
use Rattle.std.specs.Prelude.{◌≡◌, ◌+◌, ◌≤◌, true, false, List, ◌++◌}
use Rattle.journal.specs.declared.entry.Entry.{Entry}
use Rattle.journal.specs.Desk.{Desk, start, desk_of, Legal}
use Rattle.journal.specs.Own.{worker_of}
use Rattle.turn_lock.specs.Known.{IsOf, IsIdle}
use Rattle.turn_lock.specs.Story.{StartsWith, borne, added, AllBear}
use Rattle.turn_lock.specs.Turned.{Turned}
use Rattle.dev_core.specs.DeskState.{DeskSeen}
use Rattle.desk.specs.Passes.{DeskLock, DeskKnown}

-- the desk after a journal
abbrev pub desk_after : List Entry → Desk
desk_after journal = desk_of start journal

-- one turn, which adds these entries to the journal that it finds
abbrev pub OneTurn : DeskKnown → DeskKnown → List Entry → Type 0
OneTurn old new more = Turned worker_of old new more

-- This is so of the desk that a turn found, where it added these entries and left this journal.
pub record Found (left more : List Entry) (IsSo : Desk → Type 0) : Type 0 where
  pub found : List Entry
  pub grew : left ≡ found ++ more
  pub is_so : IsSo (desk_after found)

-- any number of turns, each of which adds nothing
pub record Waited (old new : DeskKnown) : Type 0 where
  pub pass : new ≡ record old { seen = new.seen; mark = new.mark; turns = new.turns }
  pub starts : StartsWith new.seen old.seen
  pub more_turns : old.turns ≤ new.turns
  pub rises : old.mark ≤ new.mark

-- turns of which only the last adds entries
pub record LastTurn (old new : DeskKnown) (more : List Entry) : Type 0 where
  pub before : DeskKnown
  pub waited : Waited old before
  pub last : OneTurn before new more

-- the pass's looks at the mark are those that they were
pub record KeepsLooks (old new : DeskKnown) : Type 0 where
  pub loads : new.loads ≡ old.loads
  pub loaded : new.loaded ≡ old.loaded

-- the desk has these entries more
pub record Entered (old new : DeskSeen) (more : List Entry) : Type 0 where
  pub subject : new.subject ≡ old.subject
  pub journal : new.journal ≡ old.journal ++ more

-- ---- while a turn is out

-- the pass `old` has taken its turn, and found this desk
pub record Began (desk : DeskLock) (old mid : DeskKnown) (found : DeskSeen) : Type 0 where
  pub idle : IsIdle desk old
  pub took : mid ≡ record old { out = true; seen = found.journal; mark = (desk_after found.journal).moment; turns = old.turns + 1 }
  pub subject : found.subject ≡ desk.name
  pub starts : StartsWith found.journal old.seen
  pub owned : borne worker_of old.number found.journal ≡ old.own
  pub rose : old.mark ≤ (desk_after found.journal).moment
  pub legal : Legal found.subject.script found.journal

-- the turn of the pass `mid` may end with this desk
pub record MayEnd (desk : DeskLock) (mid : DeskKnown) (after : DeskSeen) : Type 0 where
  pub is_of : IsOf desk mid
  pub out : mid.out ≡ true
  pub subject : after.subject ≡ desk.name
  pub mark : mid.mark ≡ (desk_after mid.seen).moment
  pub more : List Entry
  pub grew : after.journal ≡ mid.seen ++ more
  pub bear : AllBear worker_of mid.number more

-- it has ended with this desk
pub record Ended (mid new : DeskKnown) (after : DeskSeen) : Type 0 where
  pub gave : new ≡ record mid { out = false; seen = after.journal; mark = (desk_after after.journal).moment; own = mid.own ++ added mid.seen after.journal }
  pub rises : mid.mark ≤ (desk_after after.journal).moment
