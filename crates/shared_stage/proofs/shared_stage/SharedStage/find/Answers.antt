use Rattle.std.proofs.Common.{ap, sym, ◌≡◌, ◌∙◌, ◌++◌}
use Rattle.turn_lock.proofs.Turning.{turned}
use Rattle.shared_stage.specs.Story.{worker_of, find_adds}
use Rattle.shared_stage.proofs.StoryLemmas.{find_bears, not_shorter}
use Rattle.shared_stage.proofs.shared_stage.SharedStage.find.Goals as goal

pub give-requires-clause-story : goal.give-requires-clause-story
give-requires-clause-story g c =
    let adds = find_adds c.number-worker.result c.args.list.now c.find-answer.result in
    (adds, ap (λ s. s.story) c.find-answer.ensures.story ∙ ap (λ l. l ++ adds) (ap (λ s. s.story) c.value.ensures.value ∙ sym (ap (λ p. p.seen) c.take-turn.ensures.pass)))

pub returns-clause-turn : goal.returns-clause-turn
returns-clause-turn g c =
    let take = c.take-turn.ensures in
    let before = c.take-turn.result.story in
    let adds = find_adds c.args.pass.now.number c.args.list.now c.find-answer.result in
    let more : c.find-answer.new.self.story ≡ before ++ adds =
    ap (λ s. s.story) c.find-answer.ensures.story ∙ (λ i. (c.value.ensures.value i).story ++ find_adds (c.number-worker.ensures.number i) c.args.list.now c.find-answer.result) in
    turned worker_of c.args.pass.now _ _ before c.find-answer.new.self.story adds _ _ c.requires.lock.waits take.pass take.story take.own take.mark c.give.ensures more
    (find_bears c.args.pass.now.number c.args.list.now c.find-answer.result) (not_shorter before c.find-answer.new.self.story adds more)
