use Rattle.std.proofs.Common.{ap, ◌∙◌}
use Rattle.outside.specs.Shelf.{with_file}
use Rattle.outside.specs.MemoryShelf.{files_of}
use Rattle.outside.proofs.KeptFiles.{files_of-insert_entry}
use Rattle.outside.proofs.memory_shelf.keep_file.Goals as goal

pub returns-clause-ok : goal.returns-clause-ok
returns-clause-ok c =
    let files = files_of c.args.files.now.entries in
    ap files_of c.in_ok-insert.ensures.entries ∙ files_of-insert_entry _ _ _ ∙ (λ i. with_file (c.in_ok-name.ensures.ok i) (c.in_ok-bytes.ensures.items i) files)
