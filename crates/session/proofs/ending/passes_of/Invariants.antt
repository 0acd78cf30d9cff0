use Rattle.std.proofs.Common.{◌≡◌, true, map}
use Rattle.std.specs.List.{All}
use Rattle.session.proofs.ending.passes_of.Given as goal

abbrev pub invariant-loop-pass : goal.invariant-loop-pass
invariant-loop-pass l = record { passes : l.passes.items ≡ map (λ r. r.0) l.yielded; done : All (λ r. r.1 ≡ true) l.yielded }
