use Rattle.std.proofs.Common.{true, false, refl, sym, ◌∙◌}
use Rattle.journal.specs.declared.entry.Entry.TheVariants.{Stopped}
use Rattle.desk.proofs.StepLemmas.{entered_by, entered_none, entered_stop}
use Rattle.desk.proofs.turns.stop_desk.Goals as goal

pub returns-then-is_stopped : goal.returns-then-is_stopped
returns-then-is_stopped c =
    let v = c.args.state.now in
    entered_stop v v c.args.worker true (sym c.is_stopped.ensures ∙ c.if-is_stopped.true) (entered_none v v refl)

pub returns : goal.returns
returns c =
    let v = c.args.state.now in
    entered_stop v c.stop.new.self c.args.worker false (sym c.is_stopped.ensures ∙ c.if-is_stopped.false) (entered_by v c.stop.new.self (Stopped c.args.worker) c.stop.ensures)
