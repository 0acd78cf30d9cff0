use Rattle.std.proofs.Common.{◌≡◌, ap, ◌∙◌}
use Rattle.std.specs.Prelude.{not, is_some}
use Rattle.generator.specs.NextOf.{next_of}
use Rattle.generator.specs.Rounds.{Course, Play, is_at_rest}
use Rattle.generator.proofs.RoundLemmas.{round_told}
use Rattle.generator.proofs.play.Play.round.Goals as goal

pub returns-clause-moved : goal.returns-clause-moved
returns-clause-moved g c =
    let q : Play = record { course = c.self.inside.course; first = c.self.inside.first.items; second = c.self.inside.second.items } in
    let same : q ≡ c.args.self.now = cc in
    let second = c.in_ok-second.ensures.moved ∙ ap (λ (x : Course). is_some (next_of x.outcome.core 2 q.second)) c.in_ok-first.ensures.course in
    c.either.ensures ∙ round_told q c.in_ok-first.first c.in_ok-second.second c.in_ok-first.ensures.moved second ∙ ap (λ (p : Play). not (is_at_rest p)) same
