use Rattle.std.proofs.Common.{◌≡◌, drop}
use Rattle.serde_json.specs.View.{members_view}
use Rattle.params.specs.Seen.{all_seen}
use Rattle.params.specs.Written.{cells_members}
use Rattle.params.proofs.row_data.members.Given as goal

abbrev pub invariant-loop-at : goal.invariant-loop-at
invariant-loop-at l = cells_members (drop l.at l.row) (all_seen (drop l.at l.parts)) (members_view l.members.entries) ≡ cells_members l.row (all_seen l.parts) (members_view l.fn.beside.entries)
