use Rattle.std.proofs.Common.{◌+◌, drop, arith, sym, ◌∙◌}
use Rattle.std.proofs.lemmas.Grind.{common_steps}
use Rattle.params.specs.Seen.{all_seen}
use Rattle.params.proofs.RowLemmas.{cell_behind, cell_here, no_part, no_cell}
use Rattle.params.proofs.row_fault.row_fault.Goals.{then-at-parts+in_ok-cell_fault, else-at-parts}
use Rattle.params.proofs.row_fault.row_fault.Goals as goal

pub returns-in_err-cell_fault : goal.returns-in_err-cell_fault
returns-in_err-cell_fault c = grind (arith, common_steps, cell_here)

pub loop-at-preserved : goal.loop-at-preserved
loop-at-preserved c =
    let at = c.loop-at.at in
    let parts = c.args.parts.now in
    let row = c.args.row.now in
    elim c.if-at-parts.branch [
      | then-at-parts+in_ok-cell_fault w ↦ grind (arith, common_steps, cell_behind)
      | else-at-parts w ↦ no_part (all_seen parts) (drop (at + 1) row) parts (at + 1) (omega (arith, w.if-at-parts.false)) ∙ sym (no_part (all_seen parts) (drop at row) parts at w.if-at-parts.false) ∙ c.loop-at.invariant
    ]

pub returns : goal.returns
returns c = sym (no_cell (all_seen c.args.parts.now) c.args.row.now (all_seen (drop c.loop-at.at c.args.parts.now)) c.loop-at.at c.loop-at-test.false) ∙ c.loop-at.invariant
