-- What contracts see of the passes that are dealt.
use Rattle.std.proofs.Common.{◌≡◌, ℕ, ◌-◌, ◌<◌, true, false, List, [], ◌∷◌, map, Option, None, Result, Ok, Err, IsOk, is_ok, if◌then◌else◌, insert, zero, suc, sym, ap, ◌∙◌, arith}
use Rattle.std.specs.List.{range_with_len}
use Rattle.atomic_table.specs.Seated.{TableId}
use Rattle.atomic_table.specs.Table.{Me}
use Rattle.turn_lock.specs.declared.view.View.{View}
use Rattle.turn_lock.specs.Known.{fresh}
use Rattle.turn_lock.specs.Rule.{opener}
use Rattle.turn_lock.specs.Steps.{dealt}
use Rattle.turn_lock.specs.Passes.{known_of, IsFirst}

-- the element that was inserted at the front
pub at_front : {A F : Type 0} (r : Result (Unit {0}) F) (old new : List A) (x : A) → IsOk r → new ≡ (if is_ok r then insert old 0 x else old) → new ≡ x ∷ old
at_front (Ok _) old new x ok e = e
at_front (Err f) old new x ok e = let no : false ≡ true = ok in cc

module _ {T N E : Type 0} where
  pub counted : (me : Me (Option T) (View N E)) (n : ℕ) → me.0.count ≡ n → me.1 ≡ [] → me ≡ (record me.0 { count = n }, [])
  counted me n e d = λ i. (record me.0 { count = e i }, d i)

  -- a new pass is the first one with a number of its own
  pub dealt_known : (table there : TableId) (seats n : ℕ) (v : View N E) (me theirs : Me (Option T) (View N E)) → IsFirst v → there ≡ table → me ≡ (record v { count = n }, []) → theirs ≡ (dealt me.0, [])
      → known_of there seats theirs.0 ≡ record (known_of table seats v) { number = n }
  dealt_known table there seats n v me theirs first same is dealt_is =
      let p : theirs.0 ≡ dealt (record v { count = n }) = ap (λ m. m.0) dealt_is ∙ ap (λ m. dealt m.0) is in
      (λ i. known_of (same i) seats (p i))
      ∙ (λ i. record (known_of table seats v) { number = n; out = sym first.out i; own = sym first.own i; turns = sym first.counts.0 i; loads = sym first.counts.1 i; loaded = sym first.counts.2 i })

  -- all passes of a new lock
  pub all_fresh : (table mid there : TableId) (seats : ℕ) (name : N) (mark past : ℕ) (me after : Me (Option T) (View N E)) → 0 < seats → mid ≡ table → there ≡ table
      → me ≡ (record (opener name) { mark = mark; ticket = None; past = past }, []) → after ≡ (record me.0 { count = seats }, [])
      → known_of there seats after.0 ∷ map (λ k. record (known_of mid seats me.0) { number = k }) (range_with_len 1 (seats - 1)) ≡ map (fresh (record { id = record { table = table; seats = seats }; name = name }) mark) (range_with_len 0 seats)
  all_fresh table mid there zero name mark past me after some same same' is is' = absurd (omega arith)
  all_fresh table mid there (suc n) name mark past me after some same same' is is' =
      let v : me.0 ≡ record (opener name) { mark = mark; ticket = None; past = past } = ap (λ m. m.0) is in
      let w : after.0 ≡ record (opener name) { mark = mark; ticket = None; past = past; count = suc n } = ap (λ m. m.0) is' ∙ ap (λ (u : View N E). record u { count = suc n }) v in
      let less : suc n - 1 ≡ n = omega arith in
      λ i. known_of (same' i) (suc n) (w i) ∷ map (λ k. record (known_of (same i) (suc n) (v i)) { number = k }) (range_with_len 1 (less i))
