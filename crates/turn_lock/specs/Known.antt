-- What contracts see of a lock and of a pass.
use Rattle.std.specs.Prelude.{◌≡◌, ℕ, Bool, false, List, [], Option, Some}
use Rattle.atomic_table.specs.Seated.{TableId}

-- which lock it is, and how many passes it has
pub record LockId : Type 0 where
  pub table : TableId
  pub seats : ℕ

-- a lock: which one it is, and the name that its value bears
pub record Named (N : Type 0) : Type 0 where
  pub id : LockId
  pub name : N

-- a pass: `seen` is the longest story that it has seen, `own` the elements that it added, `mark` the greatest mark that it has seen,
-- `turns` and `loads` how often it took the lock and read the mark, and `loaded` the mark that it read last
pub record Known (N E : Type 0) : Type 0 where
  pub lock : LockId
  pub number : ℕ
  pub out : Bool
  pub name : Option N
  pub seen : List E
  pub mark : ℕ
  pub own : List E
  pub turns : ℕ
  pub loads : ℕ
  pub loaded : ℕ

module _ {N E : Type 0} where
  -- a pass that was just made
  abbrev pub fresh : Named N → ℕ → ℕ → Known N E
  fresh lock mark number = record { lock = lock.id; number = number; out = false; name = Some lock.name; seen = []; mark = mark; own = []; turns = 0; loads = 0; loaded = 0 }

  -- a pass of this lock, whose name it has
  pub record IsOf (lock : Named N) (p : Known N E) : Type 0 where
    pub lock_is : p.lock ≡ lock.id
    pub name_is : p.name ≡ Some lock.name

  -- a pass of this lock with no turn out
  pub record IsIdle (lock : Named N) (p : Known N E) : Type 0 where
    pub is_of : IsOf lock p
    pub waits : p.out ≡ false
