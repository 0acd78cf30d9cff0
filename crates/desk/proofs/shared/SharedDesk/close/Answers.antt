use Rattle.std.proofs.Common.{◌≡◌, ℕ, ◌<◌, ◌≤◌, sym, subst}
use Rattle.std.specs.Prelude.{Contains}
use Rattle.desk.specs.Passes.{DeskLock, DeskKnown}
use Rattle.desk.proofs.shared.SharedDesk.close.Goals as goal

pub close-state-requires-clause-all : goal.close-state-requires-clause-all
close-state-requires-clause-all c =
    subst (λ (l : DeskLock). (n : ℕ) → n < l.id.seats → (p : DeskKnown) × Contains c.args.passes.items p × (p.number ≡ n)) (sym c.self.view_is) c.requires.all

pub returns-clause-others : goal.returns-clause-others
returns-clause-others c n beyond = c.close-state.ensures.others n (subst (λ (l : DeskLock). l.id.seats ≤ n) (sym c.self.view_is) beyond)
