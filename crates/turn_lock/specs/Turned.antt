-- What one turn does to the pass that took it.
use Rattle.std.specs.Prelude.{◌≡◌, ℕ, ◌+◌, ◌≤◌, List, ◌++◌}
use Rattle.turn_lock.specs.Known.{Known}
use Rattle.turn_lock.specs.Story.{StartsWith, borne}

module _ {N E : Type 0} (bearer : E → ℕ) where
  -- The pass took one turn. It found a story that begins with what it had seen, and added these elements to it. What bears its
  -- number in the new story is just its own, and its mark didn't fall
  pub record Turned (old new : Known N E) (more : List E) : Type 0 where
    pub pass : new ≡ record old { seen = new.seen; mark = new.mark; own = old.own ++ more; turns = old.turns + 1 }
    pub found : List E
    pub starts : StartsWith found old.seen
    pub grew : new.seen ≡ found ++ more
    pub is_own : borne bearer new.number new.seen ≡ new.own
    pub rises : old.mark ≤ new.mark
