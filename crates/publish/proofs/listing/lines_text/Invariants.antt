use Rattle.std.proofs.Common.{◌≡◌, ◌++◌, drop, string_bytes}
use Rattle.journal.specs.Lines.{lines}
use Rattle.publish.specs.Manifest.{lines_text}
use Rattle.publish.proofs.listing.lines_text.Given as goal

abbrev pub invariant-loop-entry : goal.invariant-loop-entry
invariant-loop-entry l = record {
  same : string_bytes l.text ++ lines_text l.script (lines l.script (drop l.entry-index l.journal)) ≡ lines_text l.script (lines l.script l.journal);
}
