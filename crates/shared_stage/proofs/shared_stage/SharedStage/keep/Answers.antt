use Rattle.std.proofs.Common.{ap, sym, ◌≡◌, ◌∙◌, ◌++◌}
use Rattle.turn_lock.proofs.Turning.{turned}
use Rattle.shared_stage.specs.Story.{worker_of, keep_adds}
use Rattle.shared_stage.proofs.StoryLemmas.{keep_bears, not_shorter}
use Rattle.shared_stage.proofs.shared_stage.SharedStage.keep.Goals as goal

pub give-requires-clause-story : goal.give-requires-clause-story
give-requires-clause-story g c =
    let adds = keep_adds c.number-worker.result c.args.stage c.keep-answer.result in
    (adds, ap (λ s. s.story) c.keep-answer.ensures.story ∙ ap (λ l. l ++ adds) (ap (λ s. s.story) c.value.ensures.value ∙ sym (ap (λ p. p.seen) c.take-turn.ensures.pass)))

pub returns-clause-turn : goal.returns-clause-turn
returns-clause-turn g c =
    let take = c.take-turn.ensures in
    let before = c.take-turn.result.story in
    let adds = keep_adds c.args.pass.now.number c.args.stage c.keep-answer.result in
    let more : c.keep-answer.new.self.story ≡ before ++ adds =
    ap (λ s. s.story) c.keep-answer.ensures.story ∙ (λ i. (c.value.ensures.value i).story ++ keep_adds (c.number-worker.ensures.number i) c.args.stage c.keep-answer.result) in
    turned worker_of c.args.pass.now _ _ before c.keep-answer.new.self.story adds _ _ c.requires.lock.waits take.pass take.story take.own take.mark c.give.ensures more
    (keep_bears c.args.pass.now.number c.args.stage c.keep-answer.result) (not_shorter before c.keep-answer.new.self.story adds more)
