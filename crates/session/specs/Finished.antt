-- what is known of a desk's pass whose thread did all
use Rattle.std.specs.Prelude.{◌≡◌, ℕ, zero, suc, ◌+◌, Bool, true, List, [], ◌∷◌, None}
use Rattle.std.specs.List.{AllZip}
use Rattle.turn_lock.specs.Known.{IsIdle}
use Rattle.turn_lock.specs.Story.{borne}
use Rattle.journal.specs.Desk.{due}
use Rattle.journal.specs.Own.{worker_of}
use Rattle.desk.specs.Passes.{DeskLock, DeskKnown, HasNoJob}
use Rattle.desk.specs.Turns.{desk_after}

-- In the journal that the pass's last turn left, the desk is closed and nothing is due, and what bears the pass's number is just its
-- own. The pass has no job
pub record IsFinished (desk : DeskLock) (p : DeskKnown) : Type 0 where
  pub closed : (desk_after p.seen).closed ≡ true
  pub none_due : due desk.name.script (desk_after p.seen) ≡ None
  pub is_own : borne worker_of p.number p.seen ≡ p.own
  pub free : HasNoJob desk p

-- a thread that had the pass of this number gave it back, and said whether it did all
pub record Served (desk : DeskLock) (number : ℕ) (r : DeskKnown × Bool) : Type 0 where
  pub idle : IsIdle desk r.0
  pub bears : r.0.number ≡ number
  pub finished : r.1 ≡ true → IsFinished desk r.0

-- so did the threads of these numbers, in order
abbrev pub AreServed : DeskLock → List ℕ → List (DeskKnown × Bool) → Type 0
AreServed desk ns rs = AllZip (Served desk) ns rs

-- the numbers from n down to 1
abbrev pub down_from : ℕ → List ℕ
down_from zero = []
down_from (suc n) = suc n ∷ down_from n

-- so did the threads of all seats but the editor's, the greatest number first
pub record HaveServed (desk : DeskLock) (rs : List (DeskKnown × Bool)) : Type 0 where
  pub count : ℕ
  pub seats : desk.id.seats ≡ count + 1
  pub served : AreServed desk (down_from count) rs
