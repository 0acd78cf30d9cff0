-- What turns of a writer do to the bytes that it holds, where they are known.
use Rattle.std.proofs.Common.{◌≡◌, ℕ, ◌+◌, ◌≤◌, List, [], ◌++◌, length, take, drop, Option, None, Some, Result, Ok, Err, OnErr, sym, ap, subst, ◌∙◌, arith, append-nil, take_all}
use lib.Seq.{take-add, take-take}
use Rattle.std.specs.Io.KnownBytes.{Appends, Keeps, WriteAppends}
use Rattle.std.proofs.KnownBytes.{Appends-trans, Appends-kept}

-- nothing was added
Keeps-nil : (a b : Option (List ℕ)) → Appends a b [] → Keeps a b
Keeps-nil None b p = tt
Keeps-nil (Some x) None p = p
Keeps-nil (Some x) (Some y) p = p ∙ append-nil x

-- a turn that took no byte left what was there
pub Keeps-none : {E : Type 0} (a b : Option (List ℕ)) (r : Result ℕ E) (xs : List ℕ) (n : ℕ) → r ≡ Ok n → n ≡ 0 → WriteAppends a b r xs → Keeps a b
Keeps-none a b r xs n is zero turn =
    let took : Appends a b (take n xs) = subst (λ x. WriteAppends a b x xs) is turn in
    Keeps-nil a b (subst (λ k. Appends a b (take k xs)) zero took)

-- a front of the bytes was taken, and the next turn took n bytes more
pub Appends-turn : (a b c : Option (List ℕ)) (xs : List ℕ) (done n room : ℕ) → n ≤ room → Appends a b (take done xs) → Appends b c (take n (take room (drop done xs))) → Appends a c (take (done + n) xs)
Appends-turn a b c xs done n room fits front turn =
    let joined : take done xs ++ take n (take room (drop done xs)) ≡ take (done + n) xs =
    ap (λ l. take done xs ++ l) (take-take n room (drop done xs) fits) ∙ sym (take-add done n xs) in
    subst (Appends a c) joined (Appends-trans a b c _ _ front turn)

-- all bytes were taken, and what followed left them
pub all_or_part : {T E : Type 0} (r : Result T E) (a b c : Option (List ℕ)) (xs : List ℕ) → Appends a b xs → Keeps b c → OnErr r ((k : ℕ) × Appends a c (take k xs))
all_or_part (Ok x) a b c xs p q = tt
all_or_part (Err e) a b c xs p q = (length xs, subst (Appends a c) (sym (take_all (length xs) xs (omega arith))) (Appends-kept a b c xs p q))
