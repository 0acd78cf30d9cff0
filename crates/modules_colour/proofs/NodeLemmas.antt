-- going along the nodes
use Rattle.std.proofs.Common.{◌≡◌, ℕ, zero, suc, ◌+◌, ◌-◌, ◌<◌, ◌≤◌, Bool, true, false, List, [], ◌∷◌, length, map, drop, get_or, slice_index, nat_lt, if◌then◌else◌, refl, ⊎_elim, arith}
use Rattle.std.specs.Prelude.{ℤ, pos, negsuc}
use Rattle.std.specs.List.{AllByRecursion}
use Rattle.std.specs.List.Sorted.{IsStrictlyIncreasing}
use Rattle.std.proofs.lemmas.List.{drop_more, drop_all, get_or-map, get_or_past, length-map}
use Rattle.std.proofs.lemmas.Bool.{cases_lt, lt-ltb, le-ltb}
use Rattle.px.specs.Number.{clamp}
use Rattle.params.specs.Curve.{IsValue}
use Rattle.modules_colour.specs.Curving.{between, from_node, curved}

clamp_small : (z : ℤ) → clamp z ≤ 1048575
clamp_small (pos a) = omega arith
clamp_small (negsuc a) = omega arith

either_small : (t : Bool) (x y n : ℕ) → x ≤ n → y ≤ n → (if t then x else y) ≤ n
either_small true x y n h k = h
either_small false x y n h k = k

from_node_small : (a : ℕ × ℕ) (rest : List (ℕ × ℕ)) (v : ℕ) → a.1 ≤ 1048575 → AllByRecursion IsValue rest → from_node a rest v ≤ 1048575
from_node_small a [] v h all = h
from_node_small a (b ∷ rest) v h all =
    either_small (nat_lt v b.0) (between a b v) (from_node b rest v) 1048575 (clamp_small _) (from_node_small b rest v all.0.output all.1)

curved_small : (nodes : List (ℕ × ℕ)) (v : ℕ) → v ≤ 1048575 → AllByRecursion IsValue nodes → curved nodes v ≤ 1048575
curved_small [] v h all = h
curved_small (a ∷ rest) v h all = either_small (nat_lt v a.0) a.1 (from_node a rest v) 1048575 all.0.output (from_node_small a rest v all.0.output all.1)

-- the entries are outputs, also past the end
pub entries_small : (nodes : List (ℕ × ℕ)) (table : List ℕ) → AllByRecursion IsValue nodes → length table ≡ 1048576
    → ((v : ℕ) → v < 1048576 → slice_index table v ≡ curved nodes v) → (i : ℕ) → slice_index table i ≤ 1048575
entries_small nodes table all size same i = ⊎_elim
    (λ (below : i < 1048576). let e = same i below in rw e (curved_small nodes i (omega arith) all))
    (λ (past : 1048576 ≤ i). let e : slice_index table i ≡ 0 = get_or_past table i 0 (omega arith) in omega arith)
    (cases_lt i 1048576)

pub node_value : (nodes : List (ℕ × ℕ)) (i : ℕ) → i < length nodes → AllByRecursion IsValue nodes → IsValue (get_or nodes i (0, 0))
node_value [] i h all = absurd (omega arith)
node_value (a ∷ rest) zero h all = all.0
node_value (a ∷ rest) (suc i) h all = node_value rest i (omega arith) all.1

pub node_above : (nodes : List (ℕ × ℕ)) (i : ℕ) → 0 < i → i < length nodes → IsStrictlyIncreasing (map (λ n. n.0) nodes)
    → (get_or nodes (i - 1) (0, 0)).0 < (get_or nodes i (0, 0)).0
node_above nodes i some h rises =
    let len : length (map (λ (n : ℕ × ℕ). n.0) nodes) ≡ length nodes = length-map nodes (λ (n : ℕ × ℕ). n.0) in
    let here : i - 1 + 1 ≡ i = omega arith in
    let up = rises (i - 1) (omega arith) in
    let one = get_or-map (λ (n : ℕ × ℕ). n.0) nodes (i - 1) (0, 0) 0 (omega arith) in
    let two = get_or-map (λ (n : ℕ × ℕ). n.0) nodes i (0, 0) 0 h in
    let up2 = rw here at up in
    omega (arith, up2, one, two)

pub before_first : (nodes : List (ℕ × ℕ)) (v : ℕ) → 2 ≤ length nodes → v < (get_or nodes 0 (0, 0)).0 → (get_or nodes 0 (0, 0)).1 ≡ curved nodes v
before_first [] v h below = absurd (omega arith)
before_first (a ∷ rest) v h below = let t : nat_lt v a.0 ≡ true = lt-ltb v a.0 below in rw t refl

pub from_first : (nodes : List (ℕ × ℕ)) (v : ℕ) → 2 ≤ length nodes → (get_or nodes 0 (0, 0)).0 ≤ v → curved nodes v ≡ from_node (get_or nodes 0 (0, 0)) (drop 1 nodes) v
from_first [] v h past = absurd (omega arith)
from_first (a ∷ rest) v h past = let t : nat_lt v a.0 ≡ false = le-ltb v a.0 past in rw t refl

pub up_to_next : (nodes : List (ℕ × ℕ)) (i : ℕ) (a : ℕ × ℕ) (v : ℕ) → i < length nodes → v < (get_or nodes i (0, 0)).0
    → from_node a (drop i nodes) v ≡ between a (get_or nodes i (0, 0)) v
up_to_next nodes i a v h below =
    let t : nat_lt v (get_or nodes i (0, 0)).0 ≡ true = lt-ltb v _ below in
    rw (drop_more nodes i (0, 0) h) (rw t refl)

pub past_next : (nodes : List (ℕ × ℕ)) (i : ℕ) (a : ℕ × ℕ) (v : ℕ) → i < length nodes → (get_or nodes i (0, 0)).0 ≤ v
    → from_node a (drop i nodes) v ≡ from_node (get_or nodes i (0, 0)) (drop (i + 1) nodes) v
past_next nodes i a v h past =
    let t : nat_lt v (get_or nodes i (0, 0)).0 ≡ false = le-ltb v _ past in
    rw (drop_more nodes i (0, 0) h) (rw t refl)

pub past_last : (nodes : List (ℕ × ℕ)) (i : ℕ) (a : ℕ × ℕ) (v : ℕ) → length nodes ≤ i → from_node a (drop i nodes) v ≡ a.1
past_last nodes i a v h = rw (drop_all i nodes h) refl
