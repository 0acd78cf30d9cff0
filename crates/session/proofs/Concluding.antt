-- what is known at the end of the passes that were given back
use Rattle.std.proofs.Common.{◌≡◌, ℕ, ◌+◌, ◌<◌, ◌≤◌, Bool, true, List, [], ◌∷◌, ◌++◌, map, sym, ap, subst, ◌∙◌, arith}
use Rattle.std.specs.List.{All, Contains}
use Rattle.std.proofs.lemmas.List.Elements.{All-contains}
use Rattle.turn_lock.specs.Known.{IsIdle}
use Rattle.turn_lock.specs.Story.{StartsWith, borne}
use Rattle.journal.specs.declared.entry.Entry.{Entry}
use Rattle.journal.specs.Desk.{Legal, IsComplete}
use Rattle.journal.specs.Own.{worker_of}
use Rattle.desk.specs.Passes.{DeskLock, DeskKnown}
use Rattle.session.specs.Finished.{IsFinished, Served, AreServed, down_from, HaveServed}
use Rattle.session.proofs.Listing.{in_seats, zip_push, zip_all, zip_beside}
use Rattle.session.proofs.Completing.{completes}

abbrev passes_in : List (DeskKnown × Bool) → List DeskKnown
passes_in rs = map (λ r. r.0) rs

module _ (desk : DeskLock) (count : ℕ) (rs : List (DeskKnown × Bool)) (last : DeskKnown × Bool)
    (served : AreServed desk (down_from count) rs) (edited : Served desk 0 last) (done : All (λ r. r.1 ≡ true) (rs ++ last ∷ [])) where
  all_served : AreServed desk (down_from count ++ 0 ∷ []) (rs ++ last ∷ [])
  all_served = zip_push (Served desk) (down_from count) rs 0 last served edited

  -- the passes that a desk needs to be closed
  all_idle : All (IsIdle desk) (passes_in (rs ++ last ∷ []))
  all_idle = zip_all (Served desk) (λ r. r.1 ≡ true) (IsIdle desk) (λ r. r.0) (down_from count ++ 0 ∷ []) (rs ++ last ∷ []) (λ n r s h. s.idle) all_served done

  all_seats : (n : ℕ) → n < count + 1 → (p : DeskKnown) × Contains (passes_in (rs ++ last ∷ [])) p × (p.number ≡ n)
  all_seats n below =
      zip_beside (Served desk) (λ n p. p.number ≡ n) (λ r. r.0) (down_from count ++ 0 ∷ []) (rs ++ last ∷ []) n (λ n r s. s.bears) all_served (in_seats count n below)

  all_finished : All (IsFinished desk) (passes_in (rs ++ last ∷ []))
  all_finished = zip_all (Served desk) (λ r. r.1 ≡ true) (IsFinished desk) (λ r. r.0) (down_from count ++ 0 ∷ []) (rs ++ last ∷ []) (λ n r s h. s.finished h) all_served done

  -- what is then known of the journal
  is_complete_now : (journal : List Entry) → All (λ (p : DeskKnown). StartsWith journal p.seen × (borne worker_of p.number journal ≡ p.own)) (passes_in (rs ++ last ∷ []))
      → ((n : ℕ) → count + 1 ≤ n → borne worker_of n journal ≡ []) → Legal desk.name.script journal → IsComplete desk.name.script journal
  is_complete_now journal said others legal =
      let ps = passes_in (rs ++ last ∷ []) in
      completes desk (count + 1) journal ps
      (λ p has. All-contains (λ (q : DeskKnown). StartsWith journal q.seen × (borne worker_of q.number journal ≡ q.own)) ps p said has)
      (λ p has. All-contains (IsFinished desk) ps p all_finished has) others all_seats legal (omega arith)

-- what is known of these passes, where each thread did all
pub record Concluded (desk : DeskLock) (ps : List DeskKnown) : Type 0 where
  pub idle : All (IsIdle desk) ps
  pub seats : (n : ℕ) → n < desk.id.seats → (p : DeskKnown) × Contains ps p × (p.number ≡ n)
  pub complete : (journal : List Entry) → All (λ (p : DeskKnown). StartsWith journal p.seen × (borne worker_of p.number journal ≡ p.own)) ps
      → ((n : ℕ) → desk.id.seats ≤ n → borne worker_of n journal ≡ []) → Legal desk.name.script journal → IsComplete desk.name.script journal

of_all : (desk : DeskLock) (rs : List (DeskKnown × Bool)) (last : DeskKnown × Bool) → HaveServed desk rs → Served desk 0 last → All (λ r. r.1 ≡ true) (rs ++ last ∷ [])
    → Concluded desk (passes_in (rs ++ last ∷ []))
of_all desk rs last h edited done = record {
  idle = all_idle desk h.count rs last h.served edited done;
  seats = λ n below. all_seats desk h.count rs last h.served edited done n (let less : n < h.count + 1 = omega (arith, h.seats) in less);
  complete = λ journal said others legal. is_complete_now desk h.count rs last h.served edited done journal said (λ n out. others n (let out_of : desk.id.seats ≤ n = omega (arith, h.seats) in out_of)) legal;
}

pub concluded : (desk : DeskLock) (rs : List (DeskKnown × Bool)) (last : DeskKnown × Bool) (all : List (DeskKnown × Bool)) (ps : List DeskKnown)
    → HaveServed desk rs → Served desk 0 last → all ≡ rs ++ last ∷ [] → ps ≡ map (λ r. r.0) all → All (λ r. r.1 ≡ true) all → Concluded desk ps
concluded desk rs last all ps h edited pushed is done =
    subst (Concluded desk) (sym (is ∙ ap passes_in pushed)) (of_all desk rs last h edited (subst (All (λ (r : DeskKnown × Bool). r.1 ≡ true)) pushed done))
