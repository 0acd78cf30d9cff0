-- The subject that a number makes.
use Rattle.std.specs.Prelude.{ℕ, List}
use Rattle.edit_steps.specs.declared.step.Step.{Step}
use Rattle.edit_steps.specs.Script.{Recipe}
use Rattle.dev_core.specs.Subject.{SubjectSeen}
use Rattle.generator.specs.Picture.{gen_picture, number_behind}
use Rattle.generator.specs.Script.{steps_to, script_of}

abbrev pub gen_steps : ℕ → List Step
gen_steps start = steps_to (number_behind start) 40

abbrev pub gen_script : ℕ → Recipe
gen_script start = script_of (gen_steps start)

abbrev pub gen_subject : ℕ → SubjectSeen
gen_subject start = record { source = gen_picture start; script = gen_script start }
