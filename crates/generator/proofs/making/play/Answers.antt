use Rattle.std.proofs.Common.{◌≡◌, ◌*◌, ◌%◌, Bool, ℕ, sym, ap, ◌∙◌}
use Rattle.dev_core.specs.Subject.{SubjectSeen}
use Rattle.generator.specs.Draws.{number_at, after_number, upper_half}
use Rattle.generator.specs.Picture.{number_behind}
use Rattle.generator.specs.Script.{rounds_behind}
use Rattle.generator.specs.Subject.{gen_subject, gen_steps}
use Rattle.generator.specs.Rounds.{Play, settles_at, step_by}
use Rattle.generator.proofs.DrawLemmas.{number_three, numbers_behind}
use Rattle.generator.proofs.RoundLemmas.{play_more, rounds_drawn}
use Rattle.generator.proofs.making.play.Goals as goal

pub loop-i-preserved : goal.loop-i-preserved
loop-i-preserved g c =
    let n = c.args.n in
    let i = c.loop-i.i in
    let from = number_at (number_behind n) (3 * i) in
    let one : c.next-key.new.self.number ≡ after_number from = c.next-key.ensures.number ∙ ap after_number c.loop-i.invariant.number in
    let two : c.next-value.new.self.number ≡ after_number (after_number from) = c.next-value.ensures.number ∙ ap after_number one in
    let three : c.next-rounds.new.self.number ≡ after_number (after_number (after_number from)) = c.next-rounds.ensures.number ∙ ap after_number two in
    let subject : c.deref.result.now ≡ gen_subject n = cc (c.deref.ensures, c.in_ok-subject.ensures.subject) in
    let settles : c.settles-settles.result ≡ settles_at (gen_steps n) i = c.settles-settles.ensures ∙ ap (λ (s : SubjectSeen). settles_at s.script.steps i) subject in
    let rounds : c.next-rounds.result % 12 ≡ rounds_behind (number_behind n) i =
    ap (λ (k : ℕ). k % 12) c.next-rounds.ensures.draw ∙ ap (λ (k : ℕ). upper_half (after_number k) % 12) two ∙ rounds_drawn (number_behind n) i in
    record {
      number = three ∙ sym (number_three from) ∙ numbers_behind (number_behind n) i;
      play =
          c.in_ok-step.ensures ∙ ap (λ (b : Bool). step_by b (c.next-rounds.result % 12) c.loop-i.play) settles
          ∙ ap (λ (k : ℕ). step_by (settles_at (gen_steps n) i) k c.loop-i.play) rounds
          ∙ ap (λ (p : Play). step_by (settles_at (gen_steps n) i) (rounds_behind (number_behind n) i) p) c.loop-i.invariant.play
          ∙ sym (play_more n i);
    }
