use Rattle.std.proofs.Common.{◌≡◌, map}
use Rattle.std.specs.Map.{keys_of}
use Rattle.params.proofs.FormLemmas.{all_among}
use Rattle.params.proofs.form.only.Given as goal

abbrev pub invariant-loop-key : goal.invariant-loop-key
invariant-loop-key l = all_among (map (λ k. k.now) l.keys) l.key-iterator ≡ all_among (map (λ k. k.now) l.keys) (keys_of l.members.entries)
