-- The six lists of which a run may add one to the story of the mipmaps.
use Rattle.std.specs.Prelude.{◌≡◌, ℕ, zero, suc, List, [], ◌∷◌, ◌++◌, Some, None}
use Rattle.turn_lock.specs.Known.{Known}
use Rattle.shared_mips.specs.declared.event.MipEvent.{MipEvent}
use Rattle.shared_mips.specs.declared.event.MipEvent.TheVariants.{Reach, Demote, Leave, Evict}
use Rattle.level_store.specs.declared.hold.ReachAnswer.{ReachAnswer}
use Rattle.level_store.specs.declared.hold.ReachAnswer.TheVariants as answer
use Rattle.shared_mips.specs.declared.index.MipName.{MipName}

-- what contracts see of a pass of the mipmaps
abbrev pub MipKnown : Type 0
MipKnown = Known MipName MipEvent

-- how a level is used once it is reached: it is written, the worker writes it, or another worker is writing it
pub data Way : Type 0 where
  Found : Way
  Filled : Way
  Awaited : ℕ → Way

-- the whole way to a level: at once; with no level to evict; with one that was evicted, and yet no slot; or with one that made room
pub data Route : Type 0 where
  Direct : Way → Route
  NoneFree : Route
  StillFull : ℕ → Route
  Freed : ℕ → Way → Route

abbrev pub way_events : ℕ → ℕ → Way → List MipEvent
way_events w l Found = Reach w l answer.Read ∷ Leave w l ∷ []
way_events w l Filled = Reach w l answer.Write ∷ Demote w l ∷ Leave w l ∷ []
way_events w l (Awaited v) = Reach w l (answer.Pending v) ∷ []

abbrev pub route_events : ℕ → ℕ → Route → List MipEvent
route_events w l (Direct way) = way_events w l way
route_events w l NoneFree = Reach w l answer.Full ∷ Evict w None ∷ []
route_events w l (StillFull k) = Reach w l answer.Full ∷ Evict w (Some k) ∷ Reach w l answer.Full ∷ []
route_events w l (Freed k way) = Reach w l answer.Full ∷ Evict w (Some k) ∷ way_events w l way

-- what the input of a level adds: nothing at level 0, and else one of the six lists
abbrev pub IsInput : ℕ → ℕ → List MipEvent → Type 0
IsInput w zero gain = gain ≡ []
IsInput w (suc l) gain = (r : Route) × (gain ≡ route_events w (suc l) r)

-- ---- the same lists, cut at the last reach

-- how the last reach came about: it was the first; the first, and nothing was evicted after it; or one after an eviction
pub data Front : Type 0 where
  First : Front
  Refused : Front
  After : ℕ → Front

abbrev pub front_events : ℕ → ℕ → Front → ReachAnswer → List MipEvent
front_events w l First a = Reach w l a ∷ []
front_events w l Refused a = Reach w l a ∷ Evict w None ∷ []
front_events w l (After k) a = Reach w l answer.Full ∷ Evict w (Some k) ∷ Reach w l a ∷ []

-- the last reach may have this answer
abbrev pub Fits : Front → ReachAnswer → Type 0
Fits First answer.Full = ⊥
Fits First answer.Read = Unit {0}
Fits First answer.Write = Unit {0}
Fits First (answer.Pending v) = Unit {0}
Fits Refused answer.Full = Unit {0}
Fits Refused answer.Read = ⊥
Fits Refused answer.Write = ⊥
Fits Refused (answer.Pending v) = ⊥
Fits (After k) a = Unit {0}

abbrev pub rest_events : ℕ → ℕ → ReachAnswer → List MipEvent
rest_events w l answer.Read = Leave w l ∷ []
rest_events w l answer.Write = Demote w l ∷ Leave w l ∷ []
rest_events w l (answer.Pending v) = []
rest_events w l answer.Full = []
