-- The sorts of steps that have a limit.
use Rattle.std.specs.Prelude.{Bool}
use Rattle.edit_steps.specs.declared.judging.Sort.{Sort}
use Rattle.edit_steps.specs.declared.judging.Sort.TheVariants as sorts
use Rattle.edit_steps.specs.declared.step.Step.{Step}
use Rattle.edit_steps.specs.Changes.{is_change}
use Rattle.edit_steps.specs.Faults.{is_export, is_thumbnail, is_settle}

abbrev pub is_sort : Sort → Step → Bool
is_sort sorts.Change = is_change
is_sort sorts.Export = is_export
is_sort sorts.Thumbnail = is_thumbnail
is_sort sorts.Settle = is_settle
