use Rattle.std.proofs.Common.{◌≡◌, ◌∙◌, ap, length, arith}
use Rattle.edit_steps.proofs.FaultLemmas.{steps-few}
use Rattle.journal.specs.Tickets.{asks_from, numbered}
use Rattle.journal.proofs.AskLemmas.{ask-within, ask-moment}
use Rattle.journal.proofs.asking.ask_of.Goals as goal

pub ask_at-requires : goal.ask_at-requires
ask_at-requires c =
    let r = c.args.script.now in
    omega (arith, ap length c.steps.ensures.value, steps-few r.settings r.opening r.steps c.steps.ensures.valid.allowed)

pub returns : goal.returns
returns c =
    let r = c.args.script.now in
    let ask = c.ask_at.ensures ∙ ap (λ steps. numbered (asks_from 0 steps) c.args.ticket) c.steps.ensures.value in
    record { ask = ask; within = ask-within r c.args.ticket c.ask_at.result c.steps.ensures.valid ask; moment = ask-moment r c.args.ticket c.ask_at.result ask }
