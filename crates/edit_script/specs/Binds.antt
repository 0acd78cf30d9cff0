-- what follows a value, unless there was a fault
use Rattle.std.specs.Prelude.{Result, Ok, Err}

abbrev pub result_and_then : {A B E : Type 0} → (A → Result B E) → Result A E → Result B E
result_and_then f (Ok x) = f x
result_and_then f (Err e) = Err e

infixl 10 ◌>>=◌
abbrev pub ◌>>=◌ : {A B E : Type 0} → Result A E → (A → Result B E) → Result B E
r >>= f = result_and_then f r
