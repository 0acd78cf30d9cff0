use Rattle.std.proofs.Common.{◌≡◌, map, drop}
use Rattle.params.specs.Form.{among}
use Rattle.events.proofs.form.among.Given as goal

abbrev pub invariant-loop-name : goal.invariant-loop-name
invariant-loop-name l = among (map (λ r. (r.0.now, r.1)) (drop l.name-index l.rows)) l.word ≡ among (map (λ r. (r.0.now, r.1)) l.rows) l.word
