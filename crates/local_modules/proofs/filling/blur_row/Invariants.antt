use Rattle.std.proofs.Common.{◌≡◌, ℕ, ◌+◌, ◌-◌, ◌≤◌, min, List}
use Rattle.px.specs.Cut.{Cut, value_at}
use Rattle.px.specs.Painted.{IsRow}
use Rattle.local_modules.specs.Running.{between, channel, IsBlurred}
use Rattle.local_modules.proofs.filling.blur_row.Given as goal

pub record IsAlong (p : Cut) (r w h lo x y k from to red green blue : ℕ) (sums row : List ℕ) : Type 0 where
  pub made : IsRow (IsBlurred r w h (value_at p)) x y 3 k row
  pub red_is : red ≡ between (channel sums 0) from to
  pub green_is : green ≡ between (channel sums 1) from to
  pub blue_is : blue ≡ between (channel sums 2) from to
  pub first : lo + from ≤ x + k - r
  pub near : x + k - r ≤ lo + from + 1
  pub late : min (x + k + r) w ≤ lo + to
  pub middle : x + k - r ≤ lo + to
  pub last : lo + to ≤ min (x + k + r + 1) w

abbrev pub invariant-loop-k : goal.invariant-loop-k
invariant-loop-k l = IsAlong l._input l.s.r l.s.w l.s.h l.s.lo l.x l.y l.k l.from l.to l.red l.green l.blue l.sums l.row
