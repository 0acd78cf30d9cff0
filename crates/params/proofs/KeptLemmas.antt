-- What a row that is kept says of the numbers at a place.
use Rattle.std.proofs.Common.{◌≡◌, ℕ, zero, suc, ◌+◌, ◌<◌, ◌≤◌, ℤ, negsuc, ◌≤ℤ◌, Bool, true, false, ◌&&◌, List, [], ◌∷◌, ◌++◌, length, get_or, IsTrue, refl, sym, ap, arith, lit≤, true≢false}
use Rattle.std.specs.List.{AllByRecursion}
use Rattle.std.specs.Int.RustNames.{int_le}
use Rattle.std.proofs.lemmas.Int.{ints}
use Rattle.params.specs.Rules.{IsKept}
use Rattle.params.specs.Stated.{part_at, nodes_entries, cell_entries, cells_entries, Fits}
use Rattle.params.specs.Seen.{wide_nodes}
use Rattle.params.specs.Table.{Part, one, three, nine, pairs, flag, Triple}
use Rattle.params.specs.Ranges.{is_range, IsIn, AreIn, AreInputs, pairs_of, nodes_of}
use Rattle.params.specs.declared.fault.Field.{Field}
use Rattle.params.specs.declared.row.Cell.{Cell}
use Rattle.params.proofs.Faults.{int_le-Decides}

pub all_append : {A : Type 0} (P : A → Type 0) (xs ys : List A) → AllByRecursion P (xs ++ ys) → AllByRecursion P xs × AllByRecursion P ys
all_append P [] ys h = (tt, h)
all_append P (x ∷ xs) ys h = let more = all_append P xs ys h.1 in ((h.0, more.0), more.1)

pub all_at : {A : Type 0} (P : A → Type 0) (xs : List A) (i : ℕ) (d : A) → AllByRecursion P xs → i < length xs → P (get_or xs i d)
all_at P [] i d h less = absurd (omega arith)
all_at P (x ∷ xs) zero d h less = h.0
all_at P (x ∷ xs) (suc i) d h less = all_at P xs i d h.1 (omega arith)

two : (a b : Bool) → (a && b) ≡ true → (a ≡ true) × (b ≡ true)
two true b e = (refl, e)
two false b e = absurd (true≢false (sym e))

-- a range within another
pub widened : (low high : ℤ) (c : Cell) (z : ℤ) → IsTrue (int_le low c.low && int_le c.high high) → IsIn c.low c.high z → IsIn low high z
widened low high c z r k =
    let both = two (int_le low c.low) (int_le c.high high) r in
    let f : low ≤ℤ c.low = (int_le-Decides low c.low).0 both.0 in
    let g : c.high ≤ℤ high = (int_le-Decides c.high high).0 both.1 in
    (omega (arith, ints, f, k.0), omega (arith, ints, g, k.1))

pub one_kept : (low high : ℤ) (all : List Part) (row : List Cell) (ps : List Part) (i : ℕ) (z : ℤ) → IsTrue (is_range low high row i) → AllByRecursion IsKept (cells_entries all row ps)
    → part_at ps i ≡ one z → IsIn low high z
one_kept low high all [] ps i z r k e = absurd (true≢false (sym r))
one_kept low high all (c ∷ cs) [] i z r k e = cc
one_kept low high all (c ∷ cs) (one y ∷ ps) zero z r k e = let same : y ≡ z = cc in rw (← same) (widened low high c y r k.0)
one_kept low high all (c ∷ cs) (three t ∷ ps) zero z r k e = cc
one_kept low high all (c ∷ cs) (nine t ∷ ps) zero z r k e = cc
one_kept low high all (c ∷ cs) (pairs ns ∷ ps) zero z r k e = cc
one_kept low high all (c ∷ cs) (flag b ∷ ps) zero z r k e = cc
one_kept low high all (c ∷ cs) (p ∷ ps) (suc i) z r k e = one_kept low high all cs ps i z r (all_append IsKept (cell_entries all c p) (cells_entries all cs ps) k).1 e

pub three_kept : (low high : ℤ) (all : List Part) (row : List Cell) (ps : List Part) (i : ℕ) (t : Triple) → IsTrue (is_range low high row i) → AllByRecursion IsKept (cells_entries all row ps)
    → part_at ps i ≡ three t → AreIn low high t
three_kept low high all [] ps i t r k e = absurd (true≢false (sym r))
three_kept low high all (c ∷ cs) [] i t r k e = cc
three_kept low high all (c ∷ cs) (one y ∷ ps) zero t r k e = cc
three_kept low high all (c ∷ cs) (three s ∷ ps) zero t r k e =
    let same : s ≡ t = cc in
    rw (← same) (widened low high c s.0 r k.0, widened low high c s.1 r k.1.0, widened low high c s.2 r k.1.1.0)
three_kept low high all (c ∷ cs) (nine s ∷ ps) zero t r k e = cc
three_kept low high all (c ∷ cs) (pairs ns ∷ ps) zero t r k e = cc
three_kept low high all (c ∷ cs) (flag b ∷ ps) zero t r k e = cc
three_kept low high all (c ∷ cs) (p ∷ ps) (suc i) t r k e = three_kept low high all cs ps i t r (all_append IsKept (cell_entries all c p) (cells_entries all cs ps) k).1 e

pub nine_kept : (low high : ℤ) (all : List Part) (row : List Cell) (ps : List Part) (i : ℕ) (t : Triple × Triple × Triple) → IsTrue (is_range low high row i) → AllByRecursion IsKept (cells_entries all row ps)
    → part_at ps i ≡ nine t → AreIn low high t.0 × AreIn low high t.1 × AreIn low high t.2
nine_kept low high all [] ps i t r k e = absurd (true≢false (sym r))
nine_kept low high all (c ∷ cs) [] i t r k e = cc
nine_kept low high all (c ∷ cs) (one y ∷ ps) zero t r k e = cc
nine_kept low high all (c ∷ cs) (three s ∷ ps) zero t r k e = cc
nine_kept low high all (c ∷ cs) (nine s ∷ ps) zero t r k e =
    let same : s ≡ t = cc in
    let l = k.1.1.1 in
    let m = l.1.1.1 in
    rw (← same) (
      (widened low high c s.0.0 r k.0, widened low high c s.0.1 r k.1.0, widened low high c s.0.2 r k.1.1.0),
      (widened low high c s.1.0 r l.0, widened low high c s.1.1 r l.1.0, widened low high c s.1.2 r l.1.1.0),
      (widened low high c s.2.0 r m.0, widened low high c s.2.1 r m.1.0, widened low high c s.2.2 r m.1.1.0),
    )
nine_kept low high all (c ∷ cs) (pairs ns ∷ ps) zero t r k e = cc
nine_kept low high all (c ∷ cs) (flag b ∷ ps) zero t r k e = cc
nine_kept low high all (c ∷ cs) (p ∷ ps) (suc i) t r k e = nine_kept low high all cs ps i t r (all_append IsKept (cell_entries all c p) (cells_entries all cs ps) k).1 e

pub nodes_kept : (field : Field) (at : ℕ) (before : ℤ) (ns : List (ℤ × ℤ)) → AllByRecursion IsKept (nodes_entries field at before ns) → AreInputs ns
nodes_kept field at before [] k = tt
nodes_kept field at before (n ∷ ns) k = ((k.0, k.1.0), nodes_kept field (at + 1) n.0 ns k.1.1.1)

pub pairs_kept : (all : List Part) (row : List Cell) (ps : List Part) (i : ℕ) → Fits row ps → AllByRecursion IsKept (cells_entries all row ps) → AreInputs (pairs_of (part_at ps i))
pairs_kept all [] [] i f k = tt
pairs_kept all [] (p ∷ ps) i f k = absurd f
pairs_kept all (c ∷ cs) [] i f k = tt
pairs_kept all (c ∷ cs) (one y ∷ ps) zero f k = tt
pairs_kept all (c ∷ cs) (three s ∷ ps) zero f k = tt
pairs_kept all (c ∷ cs) (nine s ∷ ps) zero f k = tt
pairs_kept all (c ∷ cs) (pairs ms ∷ ps) zero f k = nodes_kept c.field 0 (negsuc 0) ms (all_append IsKept (nodes_entries c.field 0 (negsuc 0) ms) (cells_entries all cs ps) k.1).0
pairs_kept all (c ∷ cs) (flag b ∷ ps) zero f k = tt
pairs_kept all (c ∷ cs) (p ∷ ps) (suc i) f k = pairs_kept all cs ps i f.1 (all_append IsKept (cell_entries all c p) (cells_entries all cs ps) k).1

-- a list of pairs that is kept has at most twenty
pub few_kept : (all : List Part) (row : List Cell) (ps : List Part) (i : ℕ) → Fits row ps → AllByRecursion IsKept (cells_entries all row ps) → length (pairs_of (part_at ps i)) ≤ 20
few_kept all [] [] i f k = lit≤ tt
few_kept all [] (p ∷ ps) i f k = absurd f
few_kept all (c ∷ cs) [] i f k = absurd f
few_kept all (c ∷ cs) (one y ∷ ps) zero f k = lit≤ tt
few_kept all (c ∷ cs) (three s ∷ ps) zero f k = lit≤ tt
few_kept all (c ∷ cs) (nine s ∷ ps) zero f k = lit≤ tt
few_kept all (c ∷ cs) (pairs ms ∷ ps) zero f k = omega (arith, ints, k.0.1)
few_kept all (c ∷ cs) (flag b ∷ ps) zero f k = lit≤ tt
few_kept all (c ∷ cs) (p ∷ ps) (suc i) f k = few_kept all cs ps i f.1 (all_append IsKept (cell_entries all c p) (cells_entries all cs ps) k).1

-- nodes of a type are the same again
pub nodes_back : (ns : List (ℕ × ℕ)) → nodes_of (wide_nodes ns) ≡ ns
nodes_back [] = refl
nodes_back (n ∷ ns) = ap (λ l. n ∷ l) (nodes_back ns)
