-- The first fault of a row, cell by cell.
use Rattle.std.proofs.Common.{◌≡◌, ℕ, zero, suc, ◌+◌, ◌<◌, ◌≤◌, List, [], ◌∷◌, ◌++◌, length, get_or, drop, Ok, Err, true, false, IsTrue, nat_le, refl, ap, ◌∙◌, arith}
use Rattle.std.proofs.lemmas.List.{drop_more, at_drop_all}
use Rattle.serde_json.specs.Data.{Members, put}
use Rattle.params.specs.Rules.{first_fault, or_else}
use Rattle.params.specs.Seen.{seen, all_seen}
use Rattle.params.specs.Stated.{is_plain, is_plain_layout, all_plain, key_of, part_at, cell_entries, cells_entries}
use Rattle.params.specs.Table.{Part, flag}
use Rattle.params.specs.Written.{part_data, cells_members}
use Rattle.params.specs.declared.fault.ParamFault.{ParamFault}
use Rattle.params.specs.declared.part.Numbers.{Numbers}
use Rattle.params.specs.declared.row.Cell.{Cell}
use Rattle.params.specs.declared.rules.Entry.{Entry}
use Rattle.std.proofs.lemmas.Bool.Decides.{nat_tests}
use Rattle.params.proofs.Faults.{first_fault-append}
use Rattle.params.proofs.RowAgain.{both}

pub part_there : (ns : List Numbers) (i : ℕ) (d : Numbers) → i < length ns → part_at (all_seen ns) i ≡ seen (get_or ns i d)
part_there [] i d h = absurd (omega arith)
part_there (n ∷ ns) zero d h = refl
part_there (n ∷ ns) (suc i) d h = part_there ns i d (omega arith)

pub part_past : (ns : List Numbers) (i : ℕ) → length ns ≤ i → part_at (all_seen ns) i ≡ flag false
part_past [] i h = refl
part_past (n ∷ ns) zero h = absurd (omega arith)
part_past (n ∷ ns) (suc i) h = part_past ns i (omega arith)

-- an entry that is kept leaves the fault to those behind it
pub tie_behind : (e : Entry) (es : List Entry) → first_fault (e ∷ []) ≡ Ok tt → first_fault (e ∷ es) ≡ first_fault es
tie_behind e es h = first_fault-append (e ∷ []) es ∙ ap (λ r. or_else r (first_fault es)) h

pub tie_before : (e : Entry) (es : List Entry) (f : ParamFault) → first_fault (e ∷ []) ≡ Err f → first_fault (e ∷ es) ≡ Err f
tie_before e es f h = first_fault-append (e ∷ []) es ∙ ap (λ r. or_else r (first_fault es)) h

none_left : (all : List Part) (cs : List Cell) → cells_entries all cs [] ≡ []
none_left all [] = refl
none_left all (c ∷ cs) = refl

at_cell : (all : List Part) (row : List Cell) (parts : List Numbers) (i : ℕ) (d : Cell) (e : Numbers) → i < length row → i < length parts
    → cells_entries all (drop i row) (all_seen (drop i parts)) ≡ cell_entries all (get_or row i d) (seen (get_or parts i e)) ++ cells_entries all (drop (i + 1) row) (all_seen (drop (i + 1) parts))
at_cell all row parts i d e h g = rw (drop_more row i d h, drop_more parts i e g) refl

pub cell_behind : (all : List Part) (row : List Cell) (parts : List Numbers) (i : ℕ) (d : Cell) (e : Numbers) → i < length row → i < length parts
    → first_fault (cell_entries all (get_or row i d) (seen (get_or parts i e))) ≡ Ok tt
    → first_fault (cells_entries all (drop i row) (all_seen (drop i parts))) ≡ first_fault (cells_entries all (drop (i + 1) row) (all_seen (drop (i + 1) parts)))
cell_behind all row parts i d e h g ok =
    let rest = cells_entries all (drop (i + 1) row) (all_seen (drop (i + 1) parts)) in
    ap first_fault (at_cell all row parts i d e h g) ∙ first_fault-append (cell_entries all (get_or row i d) (seen (get_or parts i e))) rest ∙ ap (λ r. or_else r (first_fault rest)) ok

pub cell_here : (all : List Part) (row : List Cell) (parts : List Numbers) (i : ℕ) (d : Cell) (e : Numbers) (f : ParamFault) → i < length row → i < length parts
    → first_fault (cell_entries all (get_or row i d) (seen (get_or parts i e))) ≡ Err f
    → first_fault (cells_entries all (drop i row) (all_seen (drop i parts))) ≡ Err f
cell_here all row parts i d e f h g err =
    let rest = cells_entries all (drop (i + 1) row) (all_seen (drop (i + 1) parts)) in
    ap first_fault (at_cell all row parts i d e h g) ∙ first_fault-append (cell_entries all (get_or row i d) (seen (get_or parts i e))) rest ∙ ap (λ r. or_else r (first_fault rest)) err

-- behind the last part there is no fault
pub no_part : (all : List Part) (row : List Cell) (parts : List Numbers) (i : ℕ) → length parts ≤ i → first_fault (cells_entries all row (all_seen (drop i parts))) ≡ Ok tt
unfolding first_fault
no_part all row parts i h = at_drop_all (λ l. first_fault (cells_entries all row (all_seen l))) parts i h ∙ ap first_fault (none_left all row)

pub no_cell : (all : List Part) (row : List Cell) (parts : List Part) (i : ℕ) → length row ≤ i → first_fault (cells_entries all (drop i row) parts) ≡ Ok tt
unfolding first_fault
no_cell all row parts i h = at_drop_all (λ l. first_fault (cells_entries all l parts)) row i h

-- ---- writing

pub member_put : (row : List Cell) (parts : List Numbers) (i : ℕ) (d : Cell) (e : Numbers) (ms : Members) → i < length row → i < length parts
    → cells_members (drop i row) (all_seen (drop i parts)) ms ≡ cells_members (drop (i + 1) row) (all_seen (drop (i + 1) parts)) (put (key_of (get_or row i d)) (part_data (seen (get_or parts i e))) ms)
member_put row parts i d e ms h g = rw (drop_more row i d h, drop_more parts i e g) refl

nothing_put : (row : List Cell) (ms : Members) → cells_members row [] ms ≡ ms
nothing_put [] ms = refl
nothing_put (c ∷ cs) ms = refl

pub no_part_put : (row : List Cell) (parts : List Numbers) (i : ℕ) (ms : Members) → length parts ≤ i → cells_members row (all_seen (drop i parts)) ms ≡ ms
no_part_put row parts i ms h = at_drop_all (λ l. cells_members row (all_seen l) ms) parts i h ∙ nothing_put row ms

pub no_cell_put : (row : List Cell) (parts : List Part) (i : ℕ) (ms : Members) → length row ≤ i → cells_members (drop i row) parts ms ≡ ms
no_cell_put row parts i ms h = at_drop_all (λ l. cells_members l parts ms) row i h

-- ---- plain rows

pub plain_cells : (row : List Cell) → is_plain row ≡ true → (length row ≤ 7) × (all_plain row ≡ true)
plain_cells row h =
    let b = both (nat_le (length row) 7) (all_plain row) h in
    (grind (arith, nat_tests, b.0), b.1)

each_plain : (row : List Cell) (i : ℕ) (d : Cell) → all_plain row ≡ true → i < length row → IsTrue (is_plain_layout (get_or row i d).layout)
each_plain [] i d h less = absurd (omega arith)
each_plain (c ∷ cs) zero d h less = (both (is_plain_layout c.layout) (all_plain cs) h).0
each_plain (c ∷ cs) (suc i) d h less = each_plain cs i d (both (is_plain_layout c.layout) (all_plain cs) h).1 (omega arith)

-- each cell of a plain row is plain
pub plain_at : (row : List Cell) (i : ℕ) (d : Cell) → IsTrue (is_plain row) → i < length row → IsTrue (is_plain_layout (get_or row i d).layout)
plain_at row i d h less = each_plain row i d (plain_cells row h).1 less
