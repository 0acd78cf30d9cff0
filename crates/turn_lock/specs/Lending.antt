-- How a turn lends its value.
use Rattle.std.specs.Borrow.{Lends, MutBor, Fml}
use denote.RattleType.{RattleType}
use Rattle.turn_lock.specs.contracts.turn.Turn.{the_row}

-- the turn ends with the last value behind r
abbrev pub LendsValue : (R : RattleType) → MutBor R.Denot → MutBor R.Denot → Fml
LendsValue R s r = Lends (the_row R) R s r (λ w. w)
