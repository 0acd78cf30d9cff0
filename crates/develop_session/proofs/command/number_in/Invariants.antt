use Rattle.std.proofs.Common.{◌≡◌, ◌<◌, ◌^◌, drop}
use Rattle.develop_session.specs.Words.{number_from}
use Rattle.develop_session.proofs.command.number_in.Given as goal

-- the number of the digits so far, with those that are left
abbrev pub invariant-loop-digit : goal.invariant-loop-digit
invariant-loop-digit l = record {
  value : number_from l.number (drop l.digit-index l.digits) ≡ number_from 0 l.digits;
  low : l.number < 10 ^ l.digit-index;
}
