use Rattle.std.proofs.Common.{ap, sym, ◌∙◌, Some}
use Rattle.std.specs.Option.{option_map}
use Rattle.outside.proofs.KeptFiles.{held-files_of}
use Rattle.outside.proofs.memory_shelf.find_file.Goals as goal

pub returns-in-Some : goal.returns-in-Some
returns-in-Some c = record { value = ap Some c.as_slice.ensures.value ∙ ap (option_map (λ v. v.items)) c.in-Some.ensures.value ∙ sym (held-files_of _ _) }

pub returns-in-None : goal.returns-in-None
returns-in-None c = record { value = ap (option_map (λ v. v.items)) c.in-None.ensures.value ∙ sym (held-files_of _ _) }
