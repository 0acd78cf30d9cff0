-- The longest front of a list within both budgets.
use Rattle.std.proofs.Common.{◌≡◌, ℕ, zero, suc, ◌-◌, ◌<◌, ◌≤◌, nat_le, true, false, cond, List, [], ◌∷◌, length, take, refl, arith, ap, ◌∙◌}
use Rattle.std.proofs.lemmas.Bool.{le-leb, lt-leb, leb-true, leb-false}
use Rattle.stage_cache.specs.Stages.{Stage, pixels_of, total_pixels, front_within, IsLongestFront}

-- a list within both budgets is its own front
pub front-all : (limit budget : ℕ) (ss : List Stage) → length ss ≤ limit → total_pixels ss ≤ budget → front_within limit budget ss ≡ ss
front-all zero budget [] h t = refl
front-all zero budget (s ∷ ss) h t = absurd (omega arith)
front-all (suc limit) budget [] h t = refl
front-all (suc limit) budget (s ∷ ss) h t =
    rw (le-leb (pixels_of s.1) budget (omega arith)) (ap (λ l. s ∷ l) (front-all limit (budget - pixels_of s.1) ss (omega arith) (omega arith)))

-- nothing past the first `limit` elements counts
pub front-take : (limit budget : ℕ) (ss : List Stage) → front_within limit budget (take limit ss) ≡ front_within limit budget ss
front-take zero budget ss = refl
front-take (suc limit) budget [] = refl
front-take (suc limit) budget (s ∷ ss) = ap (λ l. cond (nat_le (pixels_of s.1) budget) (s ∷ l) []) (front-take limit (budget - pixels_of s.1) ss)

pub front-take_less : (limit n budget : ℕ) (s : Stage) (ss : List Stage) → limit ≡ suc n → front_within limit budget (s ∷ take n ss) ≡ front_within limit budget (s ∷ ss)
front-take_less zero n budget s ss e = absurd (omega arith)
front-take_less (suc m) n budget s ss e =
    let same : n ≡ m = omega arith in
    ap (λ k. cond (nat_le (pixels_of s.1) budget) (s ∷ front_within m (budget - pixels_of s.1) (take k ss)) []) same ∙ ap (λ l. cond (nat_le (pixels_of s.1) budget) (s ∷ l) []) (front-take m (budget - pixels_of s.1) ss)

-- of a list with too many pixels the last doesn't count
front-without_last : (limit budget n : ℕ) (ss : List Stage) → length ss ≡ suc n → budget < total_pixels ss → front_within limit budget (take n ss) ≡ front_within limit budget ss
front-without_last zero budget n ss e h = refl
front-without_last (suc limit) budget n [] e h = absurd (omega arith)
front-without_last (suc limit) budget zero (s ∷ []) e h = rw (lt-leb (pixels_of s.1) budget (omega arith)) refl
front-without_last (suc limit) budget zero (s ∷ r ∷ ss) e h = absurd (omega arith)
front-without_last (suc limit) budget (suc n) (s ∷ ss) e h = (elim (nat_le (pixels_of s.1) budget) as (λ b. nat_le (pixels_of s.1) budget ≡ b → cond b (s ∷ front_within limit (budget - pixels_of s.1) (take n ss)) [] ≡ cond b (s ∷ front_within limit (budget - pixels_of s.1) ss) []) [
  | true ↦ λ t. ap (λ l. s ∷ l) (let le = leb-true (pixels_of s.1) budget t in front-without_last limit (budget - pixels_of s.1) n ss (omega arith) (omega arith))
  | false ↦ λ t. refl
]) refl

pub front-shed : (limit budget : ℕ) (ss : List Stage) → budget < total_pixels ss → front_within limit budget (take (length ss - 1) ss) ≡ front_within limit budget ss
front-shed limit budget [] h = absurd (omega arith)
front-shed limit budget (s ∷ ss) h = front-without_last limit budget (length (s ∷ ss) - 1) (s ∷ ss) (omega arith) h

-- what fits is in front, and what follows it fits in what is left
longest-cons : (limit budget : ℕ) (s : Stage) (list front : List Stage) → pixels_of s.1 ≤ budget → IsLongestFront limit (budget - pixels_of s.1) list front → IsLongestFront (suc limit) budget (s ∷ list) (s ∷ front)
longest-cons limit budget s list front fits rest = record {
  front = ap (λ l. s ∷ l) rest.front;
  few = let few = rest.few in omega arith;
  small = let small = rest.small in omega arith;
  longest = longer;
} where
  longer : (n : ℕ) → length (s ∷ front) < n → n ≤ length (s ∷ list) → n ≤ suc limit → total_pixels (take n (s ∷ list)) ≤ budget → ⊥
  longer zero a b c d = omega arith
  longer (suc n) a b c d = rest.longest n (omega arith) (omega arith) (omega arith) (omega arith)

-- nothing is in front of what doesn't fit
longest-none : (limit budget : ℕ) (s : Stage) (list : List Stage) → budget < pixels_of s.1 → IsLongestFront (suc limit) budget (s ∷ list) []
longest-none limit budget s list over = record {
  front = refl;
  few = omega arith;
  small = omega arith;
  longest = longer;
} where
  longer : (n : ℕ) → length {A = Stage} [] < n → n ≤ length (s ∷ list) → n ≤ suc limit → total_pixels (take n (s ∷ list)) ≤ budget → ⊥
  longer zero a b c d = omega arith
  longer (suc n) a b c d = omega arith

-- `front_within` is the longest front
pub front-longest : (limit budget : ℕ) (list : List Stage) → IsLongestFront limit budget list (front_within limit budget list)
front-longest zero budget list = record { front = refl; few = omega arith; small = omega arith; longest = λ n a b c d. omega arith }
front-longest (suc limit) budget [] = record { front = refl; few = omega arith; small = omega arith; longest = λ n a b c d. omega arith }
front-longest (suc limit) budget (s ∷ ss) = (elim (nat_le (pixels_of s.1) budget) as (λ b. nat_le (pixels_of s.1) budget ≡ b → IsLongestFront (suc limit) budget (s ∷ ss) (cond b (s ∷ front_within limit (budget - pixels_of s.1) ss) [])) [
  | true ↦ λ t. longest-cons limit budget s ss (front_within limit (budget - pixels_of s.1) ss) (leb-true (pixels_of s.1) budget t) (front-longest limit (budget - pixels_of s.1) ss)
  | false ↦ λ t. longest-none limit budget s ss (leb-false (pixels_of s.1) budget t)
]) refl
