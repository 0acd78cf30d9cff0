-- What contracts see of an output over a writer: the bytes that the writer holds, where they are known, and the faults.
use Rattle.std.specs.Prelude.{ℕ, List, Option}

pub record HostText : Type 0 where
  pub text : Option (List ℕ)
  pub faults : ℕ
