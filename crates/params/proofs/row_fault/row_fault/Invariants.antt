use Rattle.std.proofs.Common.{◌≡◌, drop}
use Rattle.params.specs.Rules.{first_fault}
use Rattle.params.specs.Seen.{all_seen}
use Rattle.params.specs.Stated.{cells_entries}
use Rattle.params.proofs.row_fault.row_fault.Given as goal

abbrev pub invariant-loop-at : goal.invariant-loop-at
invariant-loop-at l = first_fault (cells_entries (all_seen l.parts) (drop l.at l.row) (all_seen (drop l.at l.parts))) ≡ first_fault (cells_entries (all_seen l.parts) l.row (all_seen l.parts))
