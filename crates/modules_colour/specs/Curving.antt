-- tone curves
use Rattle.std.specs.Prelude.{◌≡◌, ℕ, zero, suc, ◌-◌, ◌≤◌, pos, ◌+ℤ◌, ◌-ℤ◌, ◌*ℤ◌, List, [], ◌∷◌, length, slice_index, nat_lt, if◌then◌else◌}
use Rattle.params.specs.declared.settings.ToneCurve.{ToneCurve}
use Rattle.px.specs.Number.{floor_div, clamp}
use Rattle.px.specs.Picture.{Picture}

-- between two nodes: y + floor((v - x) * (y' - y) / (x' - x))
abbrev pub between : ℕ × ℕ → ℕ × ℕ → ℕ → ℕ
between a b v = clamp (pos a.1 +ℤ floor_div (pos (v - a.0) *ℤ (pos b.1 -ℤ pos a.1)) (b.0 - a.0))

-- from a node on, with those after it: the last one's output holds from there on
abbrev pub from_node : ℕ × ℕ → List (ℕ × ℕ) → ℕ → ℕ
from_node a [] v = a.1
from_node a (b ∷ rest) v = if nat_lt v b.0 then between a b v else from_node b rest v

-- what the curve through these nodes makes of a value: before the first node, that node's output
abbrev pub curved : List (ℕ × ℕ) → ℕ → ℕ
curved [] v = v
curved (a ∷ rest) v = if nat_lt v a.0 then a.1 else from_node a rest v

-- the nodes of one channel: red, green, blue
abbrev pub nodes_of : ToneCurve → ℕ → List (ℕ × ℕ)
nodes_of t zero = t.red
nodes_of t (suc zero) = t.green
nodes_of t (suc (suc c)) = t.blue

-- each value of the picture through the curve of its channel
abbrev pub curved_picture : ToneCurve → Picture → Picture
curved_picture t q = record { kind = q.kind; w = q.w; h = q.h; at = λ x y c. curved (nodes_of t c) (q.at x y c) }

-- ---- tables

-- an entry for each value of a sample
pub record IsTable (entries : List ℕ) : Type 0 where
  pub size : length entries ≡ 1048576
  pub top : (i : ℕ) → slice_index entries i ≤ 1048575

-- each entry is what the curve through these nodes makes of its place
pub record AreEntriesOf (nodes : List (ℕ × ℕ)) (entries : List ℕ) : Type 0 where
  pub same : (v : ℕ) → v ≤ 1048575 → slice_index entries v ≡ curved nodes v

-- the entries for red, green and blue
pub record Tables : Type 0 where
  pub red : List ℕ
  pub green : List ℕ
  pub blue : List ℕ

-- a table for the curve of each channel
pub record IsTableOf (t : ToneCurve) (tables : Tables) : Type 0 where
  pub red : AreEntriesOf t.red tables.red
  pub green : AreEntriesOf t.green tables.green
  pub blue : AreEntriesOf t.blue tables.blue

-- a channel of a pixel looked up: c of red, green and blue
abbrev pub looked_up : Tables → ℕ → ℕ → ℕ → ℕ → ℕ
looked_up tables zero r g b = slice_index tables.red r
looked_up tables (suc zero) r g b = slice_index tables.green g
looked_up tables (suc (suc c)) r g b = slice_index tables.blue b
