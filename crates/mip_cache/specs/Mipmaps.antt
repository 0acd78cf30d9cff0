-- The list of levels that have a slot, and what each call answers and leaves of it.
use Rattle.std.specs.Prelude.{◌≡◌, ◌≢◌, ℕ, ◌+◌, ◌-◌, Bool, false, not, ◌==◌, nat_lt, if◌then◌else◌, List, [], ◌∷◌, length, map, Option, Some, None}
use Rattle.std.specs.List.{filter, last_or}
use Rattle.std.specs.Option.{option_map}
use Rattle.mip_cache.specs.declared.entry.Held.{Held}
use Rattle.mip_cache.specs.declared.entry.Held.TheVariants.{Writing, Ready}
use Rattle.mip_cache.specs.declared.entry.Entry.{Entry}
use Rattle.mip_cache.specs.declared.passes.Reached.{Reached}
use Rattle.mip_cache.specs.declared.passes.Reached.TheVariants.{Read, Pending, Write, Full}
use Rattle.mip_cache.specs.Passes.{write_pass, read_pass}

-- how many slots there are, and the levels that have one, the level last reached for first
pub record Mipmaps : Type 0 where
  pub slots : ℕ
  pub entries : List Entry

abbrev pub entry : ℕ → Held → Entry
entry level held = record { level = level; held = held }

-- whether the entry is of this level
abbrev pub is_of : ℕ → Entry → Bool
is_of level e = e.level == level

-- how the level is held; none where it has no slot
abbrev pub held_at : ℕ → List Entry → Option Held
held_at level [] = None
held_at level (e ∷ es) = if is_of level e then Some e.held else held_at level es

abbrev pub readers_of : Option Held → ℕ
readers_of (Some (Ready readers)) = readers
readers_of (Some (Writing worker)) = 0
readers_of None = 0

-- how many read the level
abbrev pub readers_at : ℕ → List Entry → ℕ
readers_at level entries = readers_of (held_at level entries)

-- the list without the level
abbrev pub without : ℕ → List Entry → List Entry
without level entries = filter (λ e. not (is_of level e)) entries

abbrev pub held_as : ℕ → Held → Entry → Entry
held_as level held e = if is_of level e then entry e.level held else e

-- the list with the level held so, at its place
abbrev pub with_held : ℕ → Held → List Entry → List Entry
with_held level held entries = map (held_as level held) entries

-- whether fewer stand than there are slots
abbrev pub has_room : ℕ → List Entry → Bool
has_room slots entries = nat_lt (length entries) slots

-- what a worker gets that reaches for a level, by how the level is held
abbrev pub reached_by : ℕ → ℕ → Bool → Option Held → Reached
reached_by worker level room (Some (Writing writer)) = Pending writer
reached_by worker level room (Some (Ready readers)) = Read (read_pass level)
reached_by worker level room None = if room then Write (write_pass worker level) else Full

abbrev pub reach_answer : ℕ → ℕ → ℕ → List Entry → Reached
reach_answer slots worker level entries = reached_by worker level (has_room slots entries) (held_at level entries)

-- the list after it: a level that is read or written is at the front
abbrev pub left_by_reach : ℕ → ℕ → List Entry → Bool → Option Held → List Entry
left_by_reach worker level entries room (Some (Writing writer)) = entries
left_by_reach worker level entries room (Some (Ready readers)) = entry level (Ready (readers + 1)) ∷ without level entries
left_by_reach worker level entries room None = if room then entry level (Writing worker) ∷ entries else entries

abbrev pub after_reach : ℕ → ℕ → ℕ → List Entry → List Entry
after_reach slots worker level entries = left_by_reach worker level entries (has_room slots entries) (held_at level entries)

-- the level is written, and its writer is its first reader
abbrev pub after_demote : ℕ → List Entry → List Entry
after_demote level entries = with_held level (Ready 1) entries

-- the level isn't written
abbrev pub after_abandon : ℕ → List Entry → List Entry
after_abandon level entries = without level entries

-- the level has one reader fewer
abbrev pub after_leave : ℕ → List Entry → List Entry
after_leave level entries = with_held level (Ready (readers_at level entries - 1)) entries

abbrev pub is_unread : Held → Bool
is_unread (Ready readers) = readers == 0
is_unread (Writing worker) = false

-- whether the entry's level is written and nobody reads it
abbrev pub is_free : Entry → Bool
is_free e = is_unread e.held

-- the level that goes where a slot is wanted: the last of those that are free
abbrev pub evict_answer : List Entry → Option ℕ
evict_answer entries = option_map (λ (e : Entry). e.level) (last_or None (filter is_free entries))

abbrev pub left_by_evict : List Entry → Option ℕ → List Entry
left_by_evict entries (Some level) = without level entries
left_by_evict entries None = entries

abbrev pub after_evict : List Entry → List Entry
after_evict entries = left_by_evict entries (evict_answer entries)

-- each other level is held as before
abbrev pub KeepsOthers : ℕ → List Entry → List Entry → Type 0
KeepsOthers level old new = (other : ℕ) → other ≢ level → held_at other new ≡ held_at other old
