use Rattle.std.proofs.Common.{◌+◌, drop, arith, sym, ◌∙◌}
use Rattle.std.proofs.lemmas.Grind.{common_steps}
use Rattle.serde_json.specs.View.{members_view}
use Rattle.params.specs.Seen.{all_seen}
use Rattle.params.proofs.RowLemmas.{member_put, no_part_put, no_cell_put}
use Rattle.params.proofs.row_data.members.Goals.{then-at-parts+in_ok-value+in_ok-put, else-at-parts}
use Rattle.params.proofs.row_data.members.Goals as goal

pub loop-at-preserved : goal.loop-at-preserved
loop-at-preserved c =
    let at = c.loop-at.at in
    let parts = c.args.parts.now in
    let row = c.args.row.now in
    let ms = members_view c.loop-at.members.entries in
    elim c.if-at-parts.branch [
      | then-at-parts+in_ok-value+in_ok-put w ↦ grind (arith, common_steps, member_put)
      | else-at-parts w ↦ rw w.members-is (no_part_put (drop (at + 1) row) parts (at + 1) ms (omega (arith, w.if-at-parts.false)) ∙ sym (no_part_put (drop at row) parts at ms w.if-at-parts.false) ∙ c.loop-at.invariant)
    ]

pub returns : goal.returns
returns c = sym (no_cell_put c.args.row.now (all_seen (drop c.loop-at.at c.args.parts.now)) c.loop-at.at (members_view c.loop-at.members.entries) c.loop-at-test.false) ∙ c.loop-at.invariant
