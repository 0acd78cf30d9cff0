-- one pipe's slot, or one ticket, after it was put
use Rattle.std.proofs.Common.{◌≡◌, ◌≢◌, ℕ, zero, suc, ◌<◌, ◌≤◌, ◌↔◌, List, [], ◌∷◌, ◌++◌, length, refl, sym, ap, subst, ◌∙◌, arith, true, false, Some, eqb, ⊎_elim, set}
use Rattle.std.specs.Prelude.{slice_get}
use Rattle.std.proofs.lemmas.Bool.Decides.{eqb_tells}
use Rattle.std.proofs.lemmas.List.{get_or-set_same, get_or-set_other, length-set}
use Rattle.std.proofs.lemmas.Option.{slice_get_within, slice_get-get_or}
use Rattle.outside.specs.declared.job_name.JobName.{JobName}
use Rattle.outside.specs.declared.job_name.JobName.TheVariants as job
use Rattle.outside.specs.declared.job_name.Pipe.{Pipe}
use Rattle.outside.specs.declared.job_name.Pipe.TheVariants.{Full, Preview, Second}
use Rattle.journal.specs.declared.desk.Slot.{Slot}
use Rattle.journal.specs.Pipes.{place_of}
use Rattle.journal.specs.Tickets.{numbered, with_numbered}
use Rattle.journal.specs.Desk.{Desk, slot, with_slot, no_slot}

-- ---- which pipe, which job

abbrev pipe_at : ℕ → Pipe
pipe_at zero = Full
pipe_at (suc zero) = Preview
pipe_at (suc (suc n)) = Second

pipe_at-place : (p : Pipe) → pipe_at (place_of p) ≡ p
pipe_at-place Full = refl
pipe_at-place Preview = refl
pipe_at-place Second = refl

pub place-same : (p q : Pipe) → place_of p ≡ place_of q → p ≡ q
place-same p q e = sym (pipe_at-place p) ∙ ap pipe_at e ∙ pipe_at-place q

pub place-small : (p : Pipe) → place_of p < 3
place-small Full = omega arith
place-small Preview = omega arith
place-small Second = omega arith

pub by_number : (m n : ℕ) (G : Type 0) → (m ≡ n → G) → ((m ≡ n → ⊥) → G) → G
by_number m n G same other =
    ⊎_elim (λ (h : (eqb m n ≡ true) × (m ≡ n)). same h.1) (λ (h : (eqb m n ≡ false) × (m ≢ n)). other h.1) (eqb_tells m n)

pub by_pipe : (p q : Pipe) (G : Type 0) → (p ≡ q → G) → ((p ≡ q → ⊥) → G) → G
by_pipe p q G same other = by_number (place_of p) (place_of q) G (λ e. same (place-same p q e)) (λ differ. other (λ e. differ (ap place_of e)))

pub by_job : (a b : JobName) (G : Type 0) → (a ≡ b → G) → ((a ≡ b → ⊥) → G) → G
by_job (job.Pipe p) (job.Pipe q) G same other = by_pipe p q G (λ e. same (ap job.Pipe e)) (λ differ. other (λ (e : job.Pipe p ≡ job.Pipe q). differ cc))
by_job (job.Pipe p) (job.Ticket u) G same other = other (λ (e : job.Pipe p ≡ job.Ticket u). absurd cc)
by_job (job.Ticket t) (job.Pipe q) G same other = other (λ (e : job.Ticket t ≡ job.Pipe q). absurd cc)
by_job (job.Ticket t) (job.Ticket u) G same other = by_number t u G (λ e. same (ap job.Ticket e)) (λ differ. other (λ (e : job.Ticket t ≡ job.Ticket u). differ cc))

-- ---- slots

pub slot_same : (d : Desk) (p : Pipe) (x : Slot) → length d.slots ≡ 3 → slot (with_slot d p x) p ≡ x
slot_same d p x three = get_or-set_same d.slots (place_of p) x no_slot (omega (arith, place-small p, three))

pub slot_other : (d : Desk) (p q : Pipe) (x : Slot) → (q ≡ p → ⊥) → slot (with_slot d p x) q ≡ slot d q
slot_other d p q x differ = get_or-set_other d.slots (place_of p) (place_of q) x no_slot (λ e. differ (place-same q p e))

pub slots_stay : (d : Desk) (p : Pipe) (x : Slot) → length d.slots ≡ 3 → length (with_slot d p x).slots ≡ 3
slots_stay d p x three = length-set d.slots (place_of p) x ∙ three

-- what holds of the slot that was put, and of each other one as before, holds of each
pub slot_at : (d : Desk) (p q : Pipe) (x : Slot) (P : Slot → Type 0) → length d.slots ≡ 3 → (q ≡ p → P x) → ((q ≡ p → ⊥) → P (slot d q)) → P (slot (with_slot d p x) q)
slot_at d p q x P three same other =
    by_pipe q p (P (slot (with_slot d p x) q))
    (λ e. subst P (sym (ap (slot (with_slot d p x)) e ∙ slot_same d p x three)) (same e))
    (λ differ. subst P (sym (slot_other d p q x differ)) (other differ))

-- ---- tickets

pub numbered_within : {A : Type 0} → (xs : List A) (t : ℕ) (y : A) → numbered xs t ≡ Some y → (1 ≤ t) × (t ≤ length xs)
numbered_within xs zero y e = absurd cc
numbered_within xs (suc k) y e = (omega arith, omega (arith, slice_get_within xs k y e))

pub numbered_same : {A : Type 0} → (xs : List A) (t : ℕ) (x y : A) → numbered xs t ≡ Some y → numbered (with_numbered xs t x) t ≡ Some x
numbered_same xs zero x y e = absurd cc
numbered_same xs (suc k) x y e =
    let within = slice_get_within xs k y e in
    slice_get-get_or (set xs k x) k x (omega (arith, within, length-set xs k x)) ∙ ap Some (get_or-set_same xs k x x within)

slice_get-other : {A : Type 0} → (xs : List A) (k j : ℕ) (x : A) → (j ≡ k → ⊥) → slice_get (set xs k x) j ≡ slice_get xs j
slice_get-other [] k j x differ = refl
slice_get-other (y ∷ ys) zero zero x differ = absurd (differ refl)
slice_get-other (y ∷ ys) zero (suc j) x differ = refl
slice_get-other (y ∷ ys) (suc k) zero x differ = refl
slice_get-other (y ∷ ys) (suc k) (suc j) x differ = slice_get-other ys k j x (λ e. differ (ap suc e))

pub numbered_other : {A : Type 0} → (xs : List A) (t u : ℕ) (x : A) → (u ≡ t → ⊥) → numbered (with_numbered xs t x) u ≡ numbered xs u
numbered_other xs zero u x differ = refl
numbered_other xs (suc k) zero x differ = refl
numbered_other xs (suc k) (suc j) x differ = slice_get-other xs k j x (λ e. differ (ap suc e))

slice_get-push : {A : Type 0} → (xs : List A) (k : ℕ) (x y : A) → (x ≡ y → ⊥) → (slice_get (xs ++ x ∷ []) k ≡ Some y) ↔ (slice_get xs k ≡ Some y)
slice_get-push [] zero x y differ = ((λ (h : Some x ≡ Some y). absurd (differ cc)), (λ h. absurd cc))
slice_get-push [] (suc k) x y differ = ((λ h. h), (λ h. h))
slice_get-push (z ∷ zs) zero x y differ = ((λ h. h), (λ h. h))
slice_get-push (z ∷ zs) (suc k) x y differ = slice_get-push zs k x y differ

-- another element in the list with one more was there before
pub numbered_push : {A : Type 0} → (xs : List A) (t : ℕ) (x y : A) → (x ≡ y → ⊥) → (numbered (xs ++ x ∷ []) t ≡ Some y) ↔ (numbered xs t ≡ Some y)
numbered_push xs zero x y differ = ((λ h. h), (λ h. h))
numbered_push xs (suc k) x y differ = slice_get-push xs k x y differ
