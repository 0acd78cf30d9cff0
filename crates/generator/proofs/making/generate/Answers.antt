use Rattle.std.proofs.Common.{List, length, ap, ◌∙◌}
use Rattle.edit_steps.specs.Script.{changes}
use Rattle.journal.specs.declared.entry.Entry.{Entry}
use Rattle.journal.specs.Lines.{lines}
use Rattle.dev_core.specs.Subject.{SubjectSeen}
use Rattle.generator.specs.Rounds.{frames_sum}
use Rattle.generator.proofs.RunLemmas.{generated_of}
use Rattle.generator.proofs.making.generate.Goals as goal

pub returns : goal.returns
returns g c =
    let core = c.in_ok-play.play.course.outcome.core in
    let told = c.in_ok-made.ensures in
    let js = c.desk.result.now.journal in
    generated_of c.args.n c.in_ok-play.play c.in_ok-made.made c.in_ok-play.ensures.play (told.changes ∙ ap (λ (s : SubjectSeen). changes s.script) c.desk.ensures.subject)
    (told.lines ∙ ap (λ (s : SubjectSeen). length (lines s.script js)) c.desk.ensures.subject ∙ ap (λ (es : List Entry). length (lines core.subject.script es)) c.desk.ensures.journal)
    (told.sum ∙ ap (λ (s : SubjectSeen). frames_sum s js) c.desk.ensures.subject ∙ ap (λ (es : List Entry). frames_sum core.subject es) c.desk.ensures.journal)
