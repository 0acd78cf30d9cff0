use Rattle.std.proofs.Common.{ℕ, ◌+◌, ◌-◌, ◌*◌, ◌≤◌, min, List}
use Rattle.px.specs.Cut.{Cut, value_at}
use Rattle.px.specs.Painted.{AreRows}
use Rattle.local_modules.specs.Running.{AreColumns, IsBlurred}
use Rattle.local_modules.proofs.filling.fill_rows.Given as goal

pub record IsDown (p : Cut) (r w h lo m x y cols j a b : ℕ) (sums values : List ℕ) : Type 0 where
  pub made : AreRows (IsBlurred r w h (value_at p)) x y cols 3 j values
  pub columns : AreColumns p lo (m * 3) a b sums
  pub least : y - r ≤ a
  pub first : a ≤ y + j - r
  pub middle : y + j - r ≤ b
  pub last : b ≤ min (y + j + r + 1) h

abbrev pub invariant-loop-j : goal.invariant-loop-j
invariant-loop-j l = IsDown l.input l.s.r l.s.w l.s.h l.s.lo l.s.m l.x l.y l.cols l.j l.a l.b l.sums l.values
