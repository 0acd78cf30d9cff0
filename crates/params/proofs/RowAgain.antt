-- What is written for a row's parts is read again as the same.
use Rattle.std.proofs.Common.{◌≡◌, ℕ, ◌^◌, ◌<◌, ℤ, pos, negsuc, ◌≤ℤ◌, List, [], ◌∷◌, ◌++◌, Some, Bool, true, false, not, ◌&&◌, ◌||◌, bytes_eq, IsTrue, refl, sym, ◌∙◌, arith, lt-ltb, true≢false, Ordering, Less, Equal, Greater}
use Rattle.std.specs.Ordering.{match_ordering, nat_cmp}
use Rattle.std.specs.Cmp.Lexicographic.{slice_cmp}
use Rattle.std.specs.List.{AllByRecursion}
use Rattle.std.specs.Int.RustNames.{int_le}
use Rattle.std.proofs.lemmas.Int.{ints}
use Rattle.std.proofs.lemmas.Slice.Eq.{bytes_eq-Decides}
use Rattle.serde_json.specs.Data.{Data, object, Members, no_members, member, put}
use Rattle.serde_json.specs.Find.{get_member}
use Rattle.serde_json.proofs.Views.{get_member-put, get_member-put_other}
use Rattle.params.specs.Form.{integer, only, is_one_of, three_integers}
use Rattle.params.specs.Stated.{part_form, parts_form, row_form, key_of, keys_of, pairs_form, Fits, HasLayout, is_row}
use Rattle.params.specs.Table.{Part, one, three, nine, pairs, flag, Triple}
use Rattle.params.specs.Ranges.{AreInputs}
use Rattle.params.specs.Written.{natural_data, integer_data, three_data, pairs_data, part_data, cells_members}
use Rattle.params.specs.declared.row.Cell.{Cell}
use Rattle.params.specs.declared.row.Layout.{Layout}
use Rattle.params.specs.declared.row.Layout.TheVariants as layouts

-- ---- keys

-- one key is among the rest, or it is another one
among_or : (b : Bool) (rest : Bool) → not (b || rest) ≡ true → (b ≡ false) × (not rest ≡ true)
among_or true rest e = absurd (true≢false (sym e))
among_or false rest e = (refl, e)

pub both : (a b : Bool) → (a && b) ≡ true → (a ≡ true) × (b ≡ true)
both true b e = (refl, e)
both false b e = absurd (true≢false (sym e))

apart : (q k : List ℕ) → bytes_eq q k ≡ false → q ≡ k → ⊥
apart q k e same = true≢false (sym ((bytes_eq-Decides q k).1 same) ∙ e)

-- a key that no cell has keeps its value
pub untouched : (q : List ℕ) (cs : List Cell) (ps : List Part) (ms : Members) → not (is_one_of q (keys_of cs)) ≡ true → get_member q (cells_members cs ps ms) ≡ get_member q ms
untouched q [] ps ms h = refl
untouched q (c ∷ cs) [] ms h = refl
untouched q (c ∷ cs) (p ∷ ps) ms h =
    let split = among_or (bytes_eq q (key_of c)) (is_one_of q (keys_of cs)) h in
    untouched q cs ps (put (key_of c) (part_data p) ms) split.1 ∙ get_member-put_other q (key_of c) (part_data p) ms (apart q (key_of c) split.0)

-- ---- no other key

only_at : (o : Ordering) (keys : List (List ℕ)) (k l : List ℕ) (d e : Data) (ms : Members) → is_one_of k keys ≡ true → (is_one_of l keys && only keys ms) ≡ true → only keys (put k d ms) ≡ true
    → only keys (match_ordering o (member k d (member l e ms)) (member l d ms) (member l e (put k d ms))) ≡ true
only_at Less keys k l d e ms h g later = rw h g
only_at Equal keys k l d e ms h g later = g
only_at Greater keys k l d e ms h g later = rw ((both (is_one_of l keys) (only keys ms) g).0) later

only-put : (keys : List (List ℕ)) (k : List ℕ) (d : Data) (ms : Members) → is_one_of k keys ≡ true → only keys ms ≡ true → only keys (put k d ms) ≡ true
only-put keys k d no_members h g = rw h refl
only-put keys k d (member l e ms) h g = only_at (slice_cmp nat_cmp k l) keys k l d e ms h g (only-put keys k d ms h ((both (is_one_of l keys) (only keys ms) g).1))

abbrev pub AllAmong : List (List ℕ) → List Cell → Type 0
AllAmong keys [] = Unit {0}
AllAmong keys (c ∷ cs) = (is_one_of (key_of c) keys ≡ true) × AllAmong keys cs

only-cells : (keys : List (List ℕ)) (cs : List Cell) (ps : List Part) (ms : Members) → AllAmong keys cs → only keys ms ≡ true → only keys (cells_members cs ps ms) ≡ true
only-cells keys [] ps ms h g = g
only-cells keys (c ∷ cs) [] ms h g = g
only-cells keys (c ∷ cs) (p ∷ ps) ms h g = only-cells keys cs ps (put (key_of c) (part_data p) ms) h.1 (only-put keys (key_of c) (part_data p) ms h.0 g)

or_true : (b c : Bool) → c ≡ true → (b || c) ≡ true
or_true true c e = refl
or_true false c e = e

more_among : (k : List ℕ) (keys : List (List ℕ)) (cs : List Cell) → AllAmong keys cs → AllAmong (k ∷ keys) cs
more_among k keys [] h = tt
more_among k keys (c ∷ cs) h = (or_true (bytes_eq (key_of c) k) (is_one_of (key_of c) keys) h.0, more_among k keys cs h.1)

itself : (k : List ℕ) → bytes_eq k k ≡ true
itself k = (bytes_eq-Decides k k).1 refl

all_among : (cs : List Cell) → AllAmong (keys_of cs) cs
all_among [] = tt
all_among (c ∷ cs) = (rw (itself (key_of c)) refl, more_among (key_of c) (keys_of cs) cs (all_among cs))

-- ---- numbers

-- a natural number that is written is read again
pub natural_again : (n : ℕ) → n < 2 ^ 63 → integer (natural_data n) ≡ Some (pos n)
natural_again n h = rw (lt-ltb n (2 ^ 63) h) refl

pub integer_again : (z : ℤ) → z ≤ℤ pos 1048575 → integer (integer_data z) ≡ Some z
integer_again (pos n) h = rw (lt-ltb n (2 ^ 63) (omega (arith, ints))) refl
integer_again (negsuc n) h = refl

abbrev pub IsLow : ℤ → Type 0
IsLow z = (negsuc 1048574 ≤ℤ z) × (z ≤ℤ pos 1048575)

abbrev pub AreLow : Triple → Type 0
AreLow t = IsLow t.0 × IsLow t.1 × IsLow t.2

abbrev pub IsLowPart : Part → Type 0
IsLowPart (one z) = IsLow z
IsLowPart (three t) = AreLow t
IsLowPart (nine t) = AreLow t.0 × AreLow t.1 × AreLow t.2
IsLowPart (pairs ns) = AreInputs ns
IsLowPart (flag b) = Unit {0}

three_again : (t : Triple) → AreLow t → three_integers (three_data t) ≡ Some t
three_again t h = rw (integer_again t.0 h.0.1, integer_again t.1 h.1.1, integer_again t.2 h.2.1) refl

pairs_again : (ns : List (ℤ × ℤ)) → AreInputs ns → pairs_form (pairs_data ns) ≡ Some ns
pairs_again [] h = refl
pairs_again (n ∷ ns) h = rw (integer_again n.0 h.0.0.1, integer_again n.1 h.0.1.1, pairs_again ns h.1) refl

-- a part is read again, by its shape
part_again : (s : Layout) (p : Part) → HasLayout s p → IsLowPart p → part_form s (part_data p) ≡ Some p
unfolding part_form part_data
part_again layouts.One (one z) f h = rw (integer_again z h.1) refl
part_again layouts.Three (three t) f h = rw (three_again t h) refl
part_again layouts.Nine (nine t) f h = rw (three_again t.0 h.0, three_again t.1 h.1, three_again t.2 h.2) refl
part_again layouts.Pairs (pairs ns) f h = rw (pairs_again ns h) refl
part_again layouts.Flag (flag b) f h = refl
part_again s p f h = absurd f

-- ---- rows

parts_again : (cs : List Cell) (ps : List Part) (ms : Members) → IsTrue (is_row cs) → Fits cs ps → AllByRecursion IsLowPart ps → parts_form cs (object (cells_members cs ps ms)) ≡ Some ps
parts_again [] [] ms r f h = refl
parts_again [] (p ∷ ps) ms r f h = absurd f
parts_again (c ∷ cs) [] ms r f h = absurd f
parts_again (c ∷ cs) (p ∷ ps) ms r f h =
    let new = both (not (is_one_of (key_of c) (keys_of cs))) _ r in
    let low = both (int_le (negsuc 1048574) c.low) _ new.1 in
    let high = both (int_le c.high (pos 1048575)) _ low.1 in
    let here = untouched (key_of c) cs ps (put (key_of c) (part_data p) ms) new.0 ∙ get_member-put (key_of c) (part_data p) ms in
    let rest = parts_again cs ps (put (key_of c) (part_data p) ms) high.1 f.1 h.1 in
    rw here (rw (part_again c.layout p f.0 h.0) (rw rest refl))

among_more : (beside : List (List ℕ)) (keys : List (List ℕ)) (cs : List Cell) → AllAmong keys cs → AllAmong (beside ++ keys) cs
among_more [] keys cs h = h
among_more (k ∷ beside) keys cs h = more_among k (beside ++ keys) cs (among_more beside keys cs h)

-- what is written for the parts of a row, with some members beside them, is read again as the same parts
pub row_again : (beside : List (List ℕ)) (row : List Cell) (ps : List Part) (ms : Members) → only (beside ++ keys_of row) ms ≡ true → IsTrue (is_row row) → Fits row ps → AllByRecursion IsLowPart ps
    → row_form beside row (object (cells_members row ps ms)) ≡ Some ps
row_again beside row ps ms o r f h =
    rw (only-cells (beside ++ keys_of row) row ps ms (among_more beside (keys_of row) row (all_among row)) o) (parts_again row ps ms r f h)
