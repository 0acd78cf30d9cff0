-- What contracts see of an output in memory, and what each say leaves.
use Rattle.std.specs.Prelude.{ℕ, List, ◌++◌, Result, Ok, Err, refl}
use Rattle.std.specs.Coded.{Coded, code_by, coded×, coded_ℕ, coded_list}
use Rattle.outside.specs.declared.failed.Failed.{Failed}
use Rattle.outside.specs.declared.failed.Failed.TheVariants.{Fault, Memory}
use Rattle.outside.specs.Calls.{Calls, calls_code, after_call, after_fault}

-- all that was said, and the calls
pub record MemoryText : Type 0 where
  pub text : List ℕ
  pub says : Calls

abbrev pub memory_text_code : Coded MemoryText
memory_text_code =
    code_by (List ℕ × Calls) (coded× (coded_list coded_ℕ) calls_code) (λ s. (s.text, s.says)) (λ p. record { text = p.0; says = p.1 }) (λ _. refl)

-- what a say leaves
abbrev pub after_say : List ℕ → Result (Unit {0}) Failed → MemoryText → MemoryText
after_say bytes (Ok _) s = record { text = s.text ++ bytes; says = after_call s.says }
after_say bytes (Err Fault) s = record s { says = after_fault s.says }
after_say bytes (Err Memory) s = record s { says = after_call s.says }
