use Rattle.std.proofs.Common.{◌≡◌, ◌++◌, map}
use Rattle.std.specs.Map as maps
use Rattle.params.specs.Stated.{keys_of}
use Rattle.params.proofs.FormLemmas.{all_among}
use Rattle.params.proofs.row_form.only_keys.Given as goal

abbrev pub invariant-loop-key : goal.invariant-loop-key
invariant-loop-key l =
    all_among (map (λ k. k.now) l.beside ++ keys_of l.row) l.key-iterator ≡ all_among (map (λ k. k.now) l.beside ++ keys_of l.row) (maps.keys_of l.members.entries)
