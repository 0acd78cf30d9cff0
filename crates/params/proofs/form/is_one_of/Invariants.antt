use Rattle.std.proofs.Common.{◌≡◌, map, drop}
use Rattle.params.specs.Form.{is_one_of}
use Rattle.params.proofs.form.is_one_of.Given as goal

abbrev pub invariant-loop-each : goal.invariant-loop-each
invariant-loop-each l = is_one_of l.key (map (λ k. k.now) (drop l.each-index l.keys)) ≡ is_one_of l.key (map (λ k. k.now) l.keys)
