use Rattle.std.proofs.Common.{◌≡◌, ◌++◌, drop, take, min}
use Rattle.pnm.specs.Fault.{after_digits, front_digits}
use Rattle.pnm.specs.Grammar.{number_from}
use Rattle.pnm.proofs.words.front_number.Given as goal

abbrev pub invariant-loop-k : goal.invariant-loop-k
invariant-loop-k l = record {
  value : l.value ≡ min (number_from 0 (take l.k l.text)) 1000000;
  digits : front_digits l.text ≡ take l.k l.text ++ front_digits (drop l.k l.text);
  rest : after_digits (drop l.k l.text) ≡ after_digits l.text;
}
