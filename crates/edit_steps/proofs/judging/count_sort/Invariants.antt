use Rattle.std.specs.Prelude.{◌≡◌, count_by, take}
use Rattle.edit_steps.specs.Sorts.{is_sort}
use Rattle.edit_steps.proofs.judging.count_sort.Given as goal

-- those counted are those of the sort that the loop has passed
abbrev pub invariant-loop-step : goal.invariant-loop-step
invariant-loop-step l = l.count ≡ count_by (is_sort l.fn.sort) (take l.step-index l.fn.steps)
