-- Gains over several turns and looks.
use Rattle.std.proofs.Common.{◌≡◌, ℕ, ◌+◌, ◌≤◌, true, List, [], ◌∷◌, ◌++◌, refl, sym, ap, ◌∙◌, append_assoc, append-nil, arith}
use Rattle.turn_lock.specs.Known.{Named, Known, IsOf, IsIdle}
use Rattle.turn_lock.specs.Turned.{Turned}
use Rattle.dev_core.specs.Jobs.{JobSeen}
use Rattle.pipe_worker.specs.Job.{is_pipe_job}
use Rattle.pipe_worker.specs.Grew.{DeskKnown, Grew, Saw}

module _ {N E : Type 0} where
  pub grew_none : (p : Known N E) → Grew p p []
  grew_none p = record { lock = refl; called = refl; out = refl; bears = refl; own = sym (append-nil p.own) }

  -- one turn is a gain
  pub grew_turned : (bearer : E → ℕ) {old new : Known N E} {more : List E} → Turned bearer old new more → Grew old new more
  grew_turned bearer {old} {new} {more} t = record {
    lock = ap (λ (p : Known N E). p.lock) t.pass;
    called = ap (λ (p : Known N E). p.name) t.pass;
    out = ap (λ (p : Known N E). p.out) t.pass;
    bears = ap (λ (p : Known N E). p.number) t.pass;
    own = ap (λ (p : Known N E). p.own) t.pass;
  }

  -- two gains are one
  pub grew_more : {a b c : Known N E} {xs ys : List E} → Grew a b xs → Grew b c ys → Grew a c (xs ++ ys)
  grew_more {a} {b} {c} {xs} {ys} p q = record {
    lock = q.lock ∙ p.lock;
    called = q.called ∙ p.called;
    out = q.out ∙ p.out;
    bears = q.bears ∙ p.bears;
    own = q.own ∙ (ap (λ zs. zs ++ ys) p.own ∙ append_assoc a.own xs ys);
  }

  -- a pass of the lock stays one
  pub grew_idle : (lock : Named N) {a b : Known N E} {xs : List E} → Grew a b xs → IsIdle lock a → IsIdle lock b
  grew_idle lock {a} {b} {xs} g i = record {
    is_of = record { lock_is = g.lock ∙ i.is_of.lock_is; name_is = g.called ∙ i.is_of.name_is };
    waits = g.out ∙ i.waits;
  }

-- two rows of looks are one
pub saw_more : (j : JobSeen) (a b c : DeskKnown) (m n : ℕ) → Saw j a b m → Saw j b c n → Saw j a c (m + n)
saw_more j a b c m n p q = record {
  grew = grew_more p.grew q.grew;
  rises = omega (arith, p.rises, q.rises);
  more = omega (arith, p.more, q.more);
  looks = λ e. omega (arith, p.looks e, q.looks e);
}

pub saw_less : (j : JobSeen) (a b : DeskKnown) (m n : ℕ) → n ≤ m → Saw j a b m → Saw j a b n
saw_less j a b m n less w = record { grew = w.grew; rises = w.rises; more = w.more; looks = λ e. omega (arith, less, w.looks e) }
