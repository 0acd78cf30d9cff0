-- What the calls of a shared mipmap cache answer.
use Rattle.std.specs.Prelude.{◌≡◌, ℕ, Option, None, Result, Ok, Err}
use Rattle.std.specs.declared.alloc.AllocError.{AllocError}
use Rattle.px.specs.Cut.{Cut}
use Rattle.level_store.specs.declared.hold.Hold.{Hold}
use Rattle.level_store.specs.declared.hold.ReachAnswer.{ReachAnswer}
use Rattle.level_store.specs.declared.hold.ReachAnswer.TheVariants as answer
use Rattle.shared_mips.specs.declared.reached.SharedReached.{SharedReached}
use Rattle.shared_mips.specs.declared.reached.SharedReached.TheVariants.{Read, Pending, Write, Full}
use Rattle.shared_mips.specs.Cells.{spot}
use Rattle.shared_mips.specs.Story.{reach_hold}

-- the answer in the story, without the hold
abbrev pub answer_of : SharedReached → ReachAnswer
answer_of (Read hold) = answer.Read
answer_of (Pending writer) = answer.Pending writer
answer_of (Write hold) = answer.Write
answer_of Full = answer.Full

abbrev pub answered : Result SharedReached AllocError → Result ReachAnswer AllocError
answered (Ok reached) = Ok (answer_of reached)
answered (Err e) = Err e

-- what a pass holds that held none and reached for a level
abbrev pub reached_hold : ℕ → Result ReachAnswer AllocError → Option Hold
reached_hold level (Ok a) = reach_hold level a
reached_hold level (Err e) = None

-- the hold is of this level of the source
abbrev pub IsHoldOf : Cut → ℕ → SharedReached → Type 0
IsHoldOf source level (Read hold) = hold ≡ spot source level
IsHoldOf source level (Pending writer) = Unit {0}
IsHoldOf source level (Write hold) = hold ≡ spot source level
IsHoldOf source level Full = Unit {0}
