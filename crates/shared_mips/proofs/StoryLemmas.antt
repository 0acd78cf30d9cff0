-- Stories with one element more.
use Rattle.std.proofs.Common.{◌≡◌, ◌≢◌, ℕ, ◌<◌, true, false, cond, List, [], ◌∷◌, ◌++◌, length, refl, sym, ap, subst, ◌∙◌, arith, append_assoc, eqb, ⊎_elim, zero, suc, replicate, Option, None}
use Rattle.std.proofs.lemmas.Bool.Decides.{eqb_tells}
use Rattle.std.proofs.lemmas.List.{append-nil, length-set, get_or-set_same, get_or-set_other}
use Rattle.turn_lock.specs.Story.{borne}
use Rattle.mip_cache.specs.declared.entry.Entry.{Entry}
use Rattle.level_store.specs.declared.hold.Hold.{Hold}
use Rattle.level_store.specs.Levels as held
use Rattle.shared_mips.specs.declared.event.MipEvent.{MipEvent}
use Rattle.shared_mips.specs.Story.{worker_of, hold_after, hold_from, hold_of, hold_in, after, entries_from, entries_of, MayFollow, ReplaysFrom, Replays}
use Rattle.shared_mips.specs.Agreed.{no_holds, holds_after, holds_from, holds_of}

pub entries_more : (slots : ℕ) (es : List Entry) (story : List MipEvent) (e : MipEvent) → entries_from slots es (story ++ e ∷ []) ≡ after slots (entries_from slots es story) e
entries_more slots es [] e = refl
entries_more slots es (x ∷ story) e = entries_more slots (after slots es x) story e

pub holds_more : (holds : List (Option Hold)) (story : List MipEvent) (e : MipEvent) → holds_from holds (story ++ e ∷ []) ≡ holds_after (holds_from holds story) e
holds_more holds [] e = refl
holds_more holds (x ∷ story) e = holds_more (holds_after holds x) story e

hold_from-more : (h : Option Hold) (own : List MipEvent) (e : MipEvent) → hold_from h (own ++ e ∷ []) ≡ hold_after (hold_from h own) e
hold_from-more h [] e = refl
hold_from-more h (x ∷ own) e = hold_from-more (hold_after h x) own e

-- what a pass holds that added one element
pub hold_more : (own new : List MipEvent) (e : MipEvent) → new ≡ own ++ e ∷ [] → hold_of new ≡ hold_after (hold_of own) e
hold_more own new e is = ap hold_of is ∙ hold_from-more None own e

-- and one that added none
pub hold_same : (own new : List MipEvent) → new ≡ own ++ [] → hold_of new ≡ hold_of own
hold_same own new is = ap hold_of (is ∙ append-nil own)

replays_from-more : (slots : ℕ) (before : List MipEvent) (es : List Entry) (story : List MipEvent) (e : MipEvent) → ReplaysFrom slots before es story
    → MayFollow slots (before ++ story) (entries_from slots es story) e → ReplaysFrom slots before es (story ++ e ∷ [])
replays_from-more slots before es [] e replays may = (subst (λ b. MayFollow slots b es e) (append-nil before) may, tt)
replays_from-more slots before es (x ∷ story) e replays may = (
  replays.0,
  replays_from-more slots (before ++ x ∷ []) (after slots es x) story e replays.1
      (subst (λ b. MayFollow slots b (entries_from slots (after slots es x) story) e) (sym (append_assoc before (x ∷ []) story)) may),
)

-- a story that replays, with one element more that may follow
pub replays_more : (slots : ℕ) (story : List MipEvent) (e : MipEvent) → Replays slots story → MayFollow slots story (entries_of slots story) e → Replays slots (story ++ e ∷ [])
replays_more slots story e replays may = replays_from-more slots [] [] story e replays may

replays_from-last : (slots : ℕ) (before : List MipEvent) (es : List Entry) (story : List MipEvent) (e : MipEvent) → ReplaysFrom slots before es (story ++ e ∷ [])
    → MayFollow slots (before ++ story) (entries_from slots es story) e
replays_from-last slots before es [] e replays = subst (λ b. MayFollow slots b es e) (sym (append-nil before)) replays.0
replays_from-last slots before es (x ∷ story) e replays =
    subst (λ b. MayFollow slots b (entries_from slots (after slots es x) story) e) (append_assoc before (x ∷ []) story)
    (replays_from-last slots (before ++ x ∷ []) (after slots es x) story e replays.1)

-- the last element of a story that replays could follow the others
pub replays_last : (slots : ℕ) (story : List MipEvent) (e : MipEvent) → Replays slots (story ++ e ∷ []) → MayFollow slots story (entries_of slots story) e
replays_last slots story e replays = replays_from-last slots [] [] story e replays

-- ---- what the list of all holds says of one pass

after_own : (holds : List (Option Hold)) (e : MipEvent) → worker_of e < length holds → held.hold_in (holds_after holds e) (worker_of e) ≡ hold_after (held.hold_in holds (worker_of e)) e
after_own holds e l = get_or-set_same holds (worker_of e) (hold_after (held.hold_in holds (worker_of e)) e) None l

holds_borne : (holds : List (Option Hold)) (story : List MipEvent) (w : ℕ) → w < length holds → held.hold_in (holds_from holds story) w ≡ hold_from (held.hold_in holds w) (borne worker_of w story)
holds_borne holds [] w l = refl
holds_borne holds (e ∷ es) w l =
    let long : length (holds_after holds e) ≡ length holds = length-set holds (worker_of e) (hold_after (held.hold_in holds (worker_of e)) e) in
    let rest = holds_borne (holds_after holds e) es w (omega (arith, l, long)) in
    rest ∙ ⊎_elim
    (λ (here : (eqb (worker_of e) w ≡ true) × (worker_of e ≡ w)).
    ap (λ h. hold_from h (borne worker_of w es)) (subst (λ v. held.hold_in (holds_after holds e) v ≡ hold_after (held.hold_in holds v) e) here.1 (after_own holds e (omega (arith, l, here.1))))
    ∙ ap (λ b. hold_from (held.hold_in holds w) (cond b (e ∷ borne worker_of w es) (borne worker_of w es))) (sym here.0))
    (λ (other : (eqb (worker_of e) w ≡ false) × (worker_of e ≢ w)).
    ap (λ h. hold_from h (borne worker_of w es)) (get_or-set_other holds (worker_of e) w (hold_after (held.hold_in holds (worker_of e)) e) None (λ is. other.1 (sym is)))
    ∙ ap (λ b. hold_from (held.hold_in holds w) (cond b (e ∷ borne worker_of w es) (borne worker_of w es))) (sym other.0))
    (eqb_tells (worker_of e) w)

pub length-no_holds : length no_holds ≡ 16
unfolding no_holds
length-no_holds = refl

none_at : (n w : ℕ) → held.hold_in (replicate n None) w ≡ None
none_at zero w = refl
none_at (suc n) zero = refl
none_at (suc n) (suc w) = none_at n w

pub none_holds : (w : ℕ) → held.hold_in no_holds w ≡ None
unfolding no_holds
none_holds w = none_at 16 w

-- the list of all holds says of a pass what its own elements say
pub holds_in : (story : List MipEvent) (w : ℕ) → w < 16 → held.hold_in (holds_of story) w ≡ hold_in w story
holds_in story w l = holds_borne no_holds story w (omega (arith, l, length-no_holds)) ∙ ap (λ h. hold_from h (borne worker_of w story)) (none_holds w)
