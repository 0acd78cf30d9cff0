-- lists of passes and of workers
use Rattle.std.proofs.Common.{◌≡◌, ℕ, zero, suc, ◌+◌, ◌-◌, ◌<◌, ◌≤◌, List, [], ◌∷◌, ◌++◌, length, map, ⊎_elim, refl, sym, ap, subst, ◌∙◌, arith}
use Rattle.std.specs.Prelude.{slice_index_or}
use Rattle.std.specs.List.{All, AllZip, Contains, range_with_len}
use Rattle.std.proofs.lemmas.Bool.{cases_lt}
use Rattle.std.proofs.lemmas.List.{same_from_push}
use Rattle.std.proofs.lemmas.List.Elements.{All-cons, Contains-append_left, Contains-append_right}
use Rattle.session.specs.Finished.{down_from}

-- ---- numbers in order

range_push : {X : Type 0} → (f : ℕ → X) (a n m : ℕ) → m ≡ a + n → map f (range_with_len a (suc n)) ≡ map f (range_with_len a n) ++ f m ∷ []
range_push f a zero m is = let same : a ≡ m = omega arith in ap (λ i. f i ∷ []) same
range_push f a (suc n) m is = let there : m ≡ a + 1 + n = omega arith in ap (λ l. f a ∷ l) (range_push f (a + 1) n m there)

-- the last of the first n + 1, and those before it
pub range_last : {X : Type 0} → (f : ℕ → X) (n : ℕ) (xs : List X) (x : X) → map f (range_with_len 0 (n + 1)) ≡ xs ++ x ∷ [] → (xs ≡ map f (range_with_len 0 n)) × (x ≡ f n)
range_last f n xs x e =
    let one : suc n ≡ n + 1 = omega arith in
    let there : n ≡ 0 + n = omega arith in
    let s = same_from_push (map f (range_with_len 0 n)) xs (f n) x (sym (range_push f 0 n n there) ∙ (ap (λ k. map f (range_with_len 0 k)) one ∙ e)) in
    (sym s.0, sym s.1)

pub down_next : {X : Type 0} → (f : ℕ → X) (n : ℕ) → 0 < n → map f (down_from n) ≡ f n ∷ map f (down_from (n - 1))
down_next f zero some = absurd (omega arith)
down_next f (suc n) some = let one : n ≡ suc n - 1 = omega arith in ap (λ k. f (suc n) ∷ map f (down_from k)) one

pub map_same : {X : Type 0} → (f : ℕ → X) (g : X → ℕ) (ns : List ℕ) → ((n : ℕ) → g (f n) ≡ n) → map g (map f ns) ≡ ns
map_same f g [] same = refl
map_same f g (n ∷ ns) same = ap (λ m. m ∷ map g (map f ns)) (same n) ∙ ap (λ l. n ∷ l) (map_same f g ns same)

in_down : (count n : ℕ) → 0 < n → n ≤ count → Contains (down_from count) n
in_down zero n some few = absurd (omega arith)
in_down (suc count) n some few =
    ⊎_elim (λ (h : count < n). let is : suc count ≡ n = omega arith in (0, omega arith, is))
    (λ (h : n ≤ count). let c = in_down count n some h in (suc c.0, omega arith, c.2)) (cases_lt count n)

-- each number up to count
pub in_seats : (count n : ℕ) → n < count + 1 → Contains (down_from count ++ 0 ∷ []) n
in_seats count zero below = Contains-append_right (down_from count) (0 ∷ []) 0 (0, omega arith, refl)
in_seats count (suc n) below = Contains-append_left (down_from count) (0 ∷ []) (suc n) (in_down count (suc n) (omega arith) (omega arith))

-- ---- what holds of each

pub All-empty : {X : Type 0} → (P : X → Type 0) → All P []
All-empty P k d h = absurd (omega arith)

pub All-tail : {X : Type 0} → (P : X → Type 0) (x : X) (xs : List X) → All P (x ∷ xs) → All P xs
All-tail P x xs ps k d h = ps (suc k) d (omega arith)

pub All-map : {X Y : Type 0} → (P : Y → Type 0) (f : X → Y) (xs : List X) → ((x : X) → P (f x)) → All P (map f xs)
All-map P f [] each = All-empty P
All-map P f (x ∷ xs) each = All-cons P (f x) (map f xs) (each x) (All-map P f xs each)

module _ {A B : Type 0} (R : A → B → Type 0) where
  pub zip_push : (xs : List A) (ys : List B) (x : A) (y : B) → AllZip R xs ys → R x y → AllZip R (xs ++ x ∷ []) (ys ++ y ∷ [])
  zip_push [] [] x y rs r = (r, tt)
  zip_push [] (b ∷ bs) x y rs r = absurd rs
  zip_push (a ∷ ws) [] x y rs r = absurd rs
  zip_push (a ∷ ws) (b ∷ bs) x y rs r = (rs.0, zip_push ws bs x y rs.1 r)

  -- what follows of each of the second list, where something more holds of it
  pub zip_all : {C : Type 0} → (P : B → Type 0) (Q : C → Type 0) (f : B → C) (xs : List A) (ys : List B) → ((x : A) (y : B) → R x y → P y → Q (f y)) → AllZip R xs ys → All P ys → All Q (map f ys)
  zip_all P Q f [] [] each rs ps = All-empty Q
  zip_all P Q f [] (b ∷ bs) each rs ps = absurd rs
  zip_all P Q f (a ∷ ws) [] each rs ps = absurd rs
  zip_all P Q f (a ∷ ws) (b ∷ bs) each rs ps =
      All-cons Q (f b) (map f bs) (each a b rs.0 (ps 0 b (omega arith))) (zip_all P Q f ws bs each rs.1 (All-tail P b bs ps))

  -- the element beside one of the first list
  pub zip_beside : {C : Type 0} → (Q : A → C → Type 0) (f : B → C) (xs : List A) (ys : List B) (x : A) → ((x : A) (y : B) → R x y → Q x (f y)) → AllZip R xs ys → Contains xs x → (c : C) × Contains (map f ys) c × Q x c
  zip_beside Q f [] ys x each rs (k, few, is) = absurd (omega arith)
  zip_beside Q f (a ∷ ws) [] x each rs has = absurd rs
  zip_beside Q f (a ∷ ws) (b ∷ bs) x each rs (zero, few, is) = (f b, (0, omega arith, refl), subst (λ i. Q i (f b)) is (each a b rs.0))
  zip_beside Q f (a ∷ ws) (b ∷ bs) x each rs (suc k, few, is) =
      let c = zip_beside Q f ws bs x each rs.1 (k, omega arith, is) in (c.0, (suc c.1.0, omega arith, c.1.2), c.2)

  -- two lists of one length, by their places
  pub zip_from : {C : Type 0} → (g : C → A) (cs : List C) (ys : List B) → length ys ≡ length cs
      → ((i : ℕ) (d : B) → i < length cs → (c : C) × ((e : C) → slice_index_or cs i e ≡ c) × R (g c) (slice_index_or ys i d)) → AllZip R (map g cs) ys
  zip_from g [] [] same each = tt
  zip_from g [] (y ∷ ys) same each = absurd (omega arith)
  zip_from g (c ∷ cs) [] same each = absurd (omega arith)
  zip_from g (c ∷ cs) (y ∷ ys) same each =
      let first = each 0 y (omega arith) in
      (subst (λ i. R (g i) y) (sym (first.1 c)) first.2, zip_from g cs ys (omega arith) (λ i d h. each (suc i) d (omega arith)))
