-- What contracts see of a shelf of real files: how many reads and puts were refused.
use Rattle.std.specs.Prelude.{ℕ}

pub record HostFaults : Type 0 where
  pub reads : ℕ
  pub puts : ℕ
