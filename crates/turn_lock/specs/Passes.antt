-- What a pass and its seat say.
use Rattle.std.specs.Prelude.{◌≡◌, ℕ, ◌<◌, ◌≤◌, true, false, [], ◌∷◌, Option, None}
use Rattle.atomic_table.specs.Seated.{TableId}
use Rattle.atomic_table.specs.Table.{Me}
use Rattle.turn_lock.specs.declared.view.View.{View}
use Rattle.turn_lock.specs.Known.{LockId, Known}

-- the lock's table: three words and one slot
abbrev pub IsSized : TableId → Type 0
IsSized z = (z.words ≡ 3) × (z.slots ≡ 1)

module _ {N E : Type 0} where
  -- what contracts see of a pass with this view
  abbrev pub known_of : TableId → ℕ → View N E → Known N E
  known_of table seats v = record { lock = record { table = table; seats = seats }; number = v.number; out = v.out; name = v.name; seen = v.seen; mark = v.mark; own = v.own; turns = v.turns; loads = v.loads; loaded = v.loaded }

  -- a pass of the lock with this table, with no turn out
  abbrev pub IsResting : LockId → Known N E → Type 0
  IsResting lock p = (p.lock ≡ lock) × (p.out ≡ false)

  module _ {T : Type 0} where
    -- the seat has the slot, whatever it holds
    abbrev pub HasSlot : Me (Option T) (View N E) → Type 0
    HasSlot me = (y : Option T) × (me.1 ≡ (0, y) ∷ [])

    -- a seat with no turn out, and one with its turn out, whose slot is empty until the value goes back
    abbrev pub IsWaiting : Me (Option T) (View N E) → Type 0
    IsWaiting me = (me.0.out ≡ false) × (me.0.ticket ≡ None) × (me.1 ≡ [])

    abbrev pub IsTaken : Me (Option T) (View N E) → Type 0
    IsTaken me = (me.0.out ≡ true) × (me.1 ≡ (0, None) ∷ [])

    -- the seat of a pass
    pub record IsSeated (number seats : ℕ) (me : Me (Option T) (View N E)) : Type 0 where
      pub live : me.0.live ≡ true
      pub numbered : me.0.number ≡ number
      pub below : number < seats
      pub few : seats ≤ 16
      pub past : 0 < me.0.past
      pub count : number ≡ 0 → me.0.count ≡ seats
      pub waiting : me.0.out ≡ false → IsWaiting me
      pub taken : me.0.out ≡ true → IsTaken me

  -- the first seat, before any pass has made a step
  pub record IsFirst (v : View N E) : Type 0 where
    pub live : v.live ≡ true
    pub numbered : v.number ≡ 0
    pub own : v.own ≡ []
    pub ticket : v.ticket ≡ None
    pub out : v.out ≡ false
    pub counts : (v.turns ≡ 0) × (v.loads ≡ 0) × (v.loaded ≡ 0)
    pub past : 0 < v.past
    pub count : v.count ≡ 1
