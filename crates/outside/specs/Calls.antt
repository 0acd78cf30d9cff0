-- Calls of one kind, some of which fail by their numbers.
use Rattle.std.specs.Prelude.{◌==◌, ℕ, Bool, List, refl}
use Rattle.std.specs.List.{list_any}
use Rattle.std.specs.Coded.{Coded, code_by, coded×, coded_ℕ, coded_list}
use Rattle.outside.specs.Faults.{one_more}

-- the numbers that fail, counted from 1, how many calls there were, and how many of them were faults
pub record Calls : Type 0 where
  pub failing : List ℕ
  pub made : ℕ
  pub faults : ℕ

abbrev pub calls_code : Coded Calls
calls_code =
    code_by (List ℕ × (ℕ × ℕ)) (coded× (coded_list coded_ℕ) (coded× coded_ℕ coded_ℕ)) (λ c. (c.failing, (c.made, c.faults))) (λ p. record { failing = p.0; made = p.1.0; faults = p.1.1 }) (λ _. refl)

-- no call so far
abbrev pub no_calls : List ℕ → Calls
no_calls failing = record { failing = failing; made = 0; faults = 0 }

-- whether the next call is to fail by its number
abbrev pub next_fails : Calls → Bool
next_fails c = list_any (λ n. n == one_more c.made) c.failing

-- after a call that was no fault
abbrev pub after_call : Calls → Calls
after_call c = record c { made = one_more c.made }

-- after a call that was a fault
abbrev pub after_fault : Calls → Calls
after_fault c = record c { made = one_more c.made; faults = one_more c.faults }
