-- The story of a mipmap index: what each pass holds by it, which levels have a slot, and which stories there are.
use Rattle.std.specs.Prelude.{◌≡◌, ◌≢◌, ℕ, ◌-◌, ◌<◌, ◌≤◌, List, [], ◌∷◌, ◌++◌, length, take, Option, Some, None}
use Rattle.turn_lock.specs.Story.{borne}
use Rattle.mip_cache.specs.declared.entry.Entry.{Entry}
use Rattle.mip_cache.specs.declared.entry.Held.TheVariants.{Writing}
use Rattle.mip_cache.specs.Mipmaps.{held_at, readers_at, reach_answer, after_reach, after_demote, after_abandon, after_leave, evict_answer, after_evict}
use Rattle.mip_cache.specs.Slots.{IsLevel}
use Rattle.level_store.specs.declared.hold.Hold.{Hold}
use Rattle.level_store.specs.declared.hold.Hold.TheVariants.{Writes, Reads}
use Rattle.level_store.specs.declared.hold.ReachAnswer.{ReachAnswer}
use Rattle.level_store.specs.declared.hold.ReachAnswer.TheVariants.{Read, Pending, Write, Full}
use Rattle.level_store.specs.Levels.{reached_answer}
use Rattle.shared_mips.specs.declared.event.MipEvent.{MipEvent}
use Rattle.shared_mips.specs.declared.event.MipEvent.TheVariants.{Reach, Demote, Abandon, Leave, Evict}

-- the number of the pass that did it
abbrev pub worker_of : MipEvent → ℕ
worker_of (Reach worker level answer) = worker
worker_of (Demote worker level) = worker
worker_of (Abandon worker level) = worker
worker_of (Leave worker level) = worker
worker_of (Evict worker answer) = worker

-- what a pass holds that was answered so
abbrev pub reach_hold : ℕ → ReachAnswer → Option Hold
reach_hold level Read = Some (Reads level)
reach_hold level (Pending writer) = None
reach_hold level Write = Some (Writes level)
reach_hold level Full = None

-- what a pass holds after one of its elements
abbrev pub hold_after : Option Hold → MipEvent → Option Hold
hold_after hold (Reach worker level answer) = reach_hold level answer
hold_after hold (Demote worker level) = Some (Reads level)
hold_after hold (Abandon worker level) = None
hold_after hold (Leave worker level) = None
hold_after hold (Evict worker answer) = hold

abbrev pub hold_from : Option Hold → List MipEvent → Option Hold
hold_from hold [] = hold
hold_from hold (e ∷ es) = hold_from (hold_after hold e) es

-- what a pass holds, by the elements of its own: the last of them says it that isn't an Evict
abbrev pub hold_of : List MipEvent → Option Hold
hold_of own = hold_from None own

-- what the pass of this number holds, by a story
abbrev pub hold_in : ℕ → List MipEvent → Option Hold
hold_in worker story = hold_of (borne worker_of worker story)

-- the levels that have a slot after one element
abbrev pub after : ℕ → List Entry → MipEvent → List Entry
after slots entries (Reach worker level answer) = after_reach slots worker level entries
after slots entries (Demote worker level) = after_demote level entries
after slots entries (Abandon worker level) = after_abandon level entries
after slots entries (Leave worker level) = after_leave level entries
after slots entries (Evict worker answer) = after_evict entries

abbrev pub entries_from : ℕ → List Entry → List MipEvent → List Entry
entries_from slots entries [] = entries
entries_from slots entries (e ∷ es) = entries_from slots (after slots entries e) es

-- the levels that have a slot after a story
abbrev pub entries_of : ℕ → List MipEvent → List Entry
entries_of slots story = entries_from slots [] story

-- A reach may follow these elements, which leave such entries: the pass holds no level, one thread's list takes the call, and the
-- answer is the one that it gives
pub record MayReach (slots : ℕ) (before : List MipEvent) (entries : List Entry) (worker level : ℕ) (answer : ReachAnswer) : Type 0 where
  pub seat : worker < 16
  pub range : IsLevel level
  pub bare : hold_in worker before ≡ None
  pub other : held_at level entries ≢ Some (Writing worker)
  pub few : readers_at level entries < 4294967295
  pub answer_is : answer ≡ reached_answer (reach_answer slots worker level entries)

-- the pass may end its writing of the level
pub record MayEndWriting (before : List MipEvent) (entries : List Entry) (worker level : ℕ) : Type 0 where
  pub seat : worker < 16
  pub holds : hold_in worker before ≡ Some (Writes level)
  pub written : held_at level entries ≡ Some (Writing worker)

-- the pass may end its reading of the level
pub record MayEndReading (before : List MipEvent) (entries : List Entry) (worker level : ℕ) : Type 0 where
  pub seat : worker < 16
  pub holds : hold_in worker before ≡ Some (Reads level)
  pub read : 1 ≤ readers_at level entries

-- the answer is the level that goes
pub record MayEvict (entries : List Entry) (worker : ℕ) (answer : Option ℕ) : Type 0 where
  pub seat : worker < 16
  pub answer_is : answer ≡ evict_answer entries

-- the element may follow these, which leave such entries
abbrev pub MayFollow : ℕ → List MipEvent → List Entry → MipEvent → Type 0
MayFollow slots before entries (Reach worker level answer) = MayReach slots before entries worker level answer
MayFollow slots before entries (Demote worker level) = MayEndWriting before entries worker level
MayFollow slots before entries (Abandon worker level) = MayEndWriting before entries worker level
MayFollow slots before entries (Leave worker level) = MayEndReading before entries worker level
MayFollow slots before entries (Evict worker answer) = MayEvict entries worker answer

abbrev pub ReplaysFrom : ℕ → List MipEvent → List Entry → List MipEvent → Type 0
ReplaysFrom slots before entries [] = Unit {0}
ReplaysFrom slots before entries (e ∷ es) = MayFollow slots before entries e × ReplaysFrom slots (before ++ e ∷ []) (after slots entries e) es

-- each element of the story may stand where it does
abbrev pub Replays : ℕ → List MipEvent → Type 0
Replays slots story = ReplaysFrom slots [] [] story

-- what a turn found, by what its pass has seen behind it: all but the element that the turn added
abbrev pub found : List MipEvent → List MipEvent
found seen = take (length seen - 1) seen

-- what a worker is told that reaches for a level behind this story
abbrev pub told_answer : ℕ → ℕ → ℕ → List MipEvent → ReachAnswer
told_answer slots worker level story = reached_answer (reach_answer slots worker level (entries_of slots story))
