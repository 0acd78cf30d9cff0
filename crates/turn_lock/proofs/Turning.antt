-- What a call says that takes one turn, from what the take and the give say.
use Rattle.std.proofs.Common.{◌≡◌, ℕ, ◌+◌, ◌≤◌, true, false, List, ◌++◌, refl, sym, ap, ◌∙◌, arith}
use Rattle.turn_lock.specs.Known.{Named, Known, IsIdle}
use Rattle.turn_lock.specs.Story.{StartsWith, borne, added, AllBear}
use Rattle.turn_lock.specs.Turned.{Turned}
use Rattle.turn_lock.proofs.Stories.{added_is, added_bear, borne_grown}

module _ {N E : Type 0} (bearer : E → ℕ) where
  -- `mid` is the pass while its turn is out
  pub turned : (old mid new : Known N E) (before after more : List E) (m n : ℕ) → old.out ≡ false
      → mid ≡ record old { out = true; seen = before; mark = m; turns = old.turns + 1 } → StartsWith before old.seen → borne bearer old.number before ≡ old.own → old.mark ≤ m
      → new ≡ record mid { out = false; seen = after; mark = n; own = mid.own ++ added mid.seen after } → after ≡ before ++ more → AllBear bearer old.number more → m ≤ n
      → Turned bearer old new more
  turned old mid new before after more m n waits took starts owned rose gave grew bear rises =
      let full : new ≡ record old { out = false; seen = after; mark = n; own = old.own ++ added before after; turns = old.turns + 1 } = gave ∙ ap (λ (p : Known N E). record p { out = false; seen = after; mark = n; own = p.own ++ added p.seen after }) took in
      let seen = ap (λ p. p.seen) full in
      let marked : new.mark ≡ n = ap (λ p. p.mark) full in record {
        pass = full ∙ (λ i. record old { out = sym waits i; seen = sym seen i; mark = sym marked i; own = old.own ++ added_is before after more grew i; turns = old.turns + 1 });
        found = before;
        starts = starts;
        grew = seen ∙ grew;
        is_own = (λ i. borne bearer (full i).number (full i).seen) ∙ (borne_grown bearer old.number before after (more, grew) (added_bear bearer old.number before after more grew bear)
            ∙ (ap (λ l. l ++ added before after) owned ∙ sym (ap (λ p. p.own) full)));
        rises = omega (arith, rose, rises, marked);
      }

  -- a pass of the lock stays one
  pub turned_idle : (lock : Named N) (old new : Known N E) (more : List E) → IsIdle lock old → Turned bearer old new more → IsIdle lock new
  turned_idle lock old new more idle t = record {
    is_of = record {
      lock_is = ap (λ p. p.lock) t.pass ∙ idle.is_of.lock_is;
      name_is = ap (λ p. p.name) t.pass ∙ idle.is_of.name_is;
    };
    waits = ap (λ p. p.out) t.pass ∙ idle.waits;
  }
