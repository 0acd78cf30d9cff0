-- The mipmap levels of a source with what each worker holds of them, and what each call makes of these.
use Rattle.std.specs.Prelude.{ℕ, ◌+◌, Bool, true, false, List, [], replicate, slice_set, slice_index_or, Option, Some, None}
use Rattle.px.specs.Cut.{Cut}
use Rattle.mip_cache.specs.declared.entry.Entry.{Entry}
use Rattle.mip_cache.specs.declared.passes.Reached.{Reached}
use Rattle.mip_cache.specs.declared.passes.Reached.TheVariants as reached
use Rattle.mip_cache.specs.Mipmaps.{Mipmaps, reach_answer, after_reach, after_demote, after_abandon, after_leave, after_evict}
use Rattle.level_store.specs.declared.hold.Hold.{Hold}
use Rattle.level_store.specs.declared.hold.Hold.TheVariants.{Writes, Reads}
use Rattle.level_store.specs.declared.hold.ReachAnswer.{ReachAnswer}
use Rattle.level_store.specs.declared.hold.ReachAnswer.TheVariants.{Read, Pending, Write, Full}

-- the slots and the levels that have one; and for each worker, from number 0 on, what it holds
pub record LevelsSeen : Type 0 where
  pub mips : Mipmaps
  pub holds : List (Option Hold)

-- the source whose levels these are
pub record StoreSeen : Type 0 where
  pub source : Cut
  pub levels : LevelsSeen

-- what the worker of this number holds
abbrev pub hold_in : List (Option Hold) → ℕ → Option Hold
hold_in holds w = slice_index_or holds w None

abbrev pub hold_of : LevelsSeen → ℕ → Option Hold
hold_of v w = hold_in v.holds w

abbrev pub is_writing : Option Hold → Bool
is_writing None = false
is_writing (Some (Writes level)) = true
is_writing (Some (Reads level)) = false

abbrev pub is_reading : Option Hold → Bool
is_reading None = false
is_reading (Some (Writes level)) = false
is_reading (Some (Reads level)) = true

-- so many slots, no level in them, and workers from number 0 to this one, which hold nothing
abbrev pub start_levels : ℕ → ℕ → LevelsSeen
start_levels slots workers = record { mips = record { slots = slots; entries = [] }; holds = replicate (workers + 1) None }

abbrev pub with_entries : Mipmaps → List Entry → Mipmaps
with_entries m entries = record { slots = m.slots; entries = entries }

-- the slots have these entries, and the worker holds this
abbrev pub with_levels : LevelsSeen → List Entry → ℕ → Option Hold → LevelsSeen
with_levels v entries w hold = record { mips = with_entries v.mips entries; holds = slice_set v.holds w hold }

-- what a worker holds after it reached
abbrev pub reached_hold : Reached → Option Hold
reached_hold (reached.Read pass) = Some (Reads pass.level)
reached_hold (reached.Pending writer) = None
reached_hold (reached.Write pass) = Some (Writes pass.level)
reached_hold reached.Full = None

-- and what it is told
abbrev pub reached_answer : Reached → ReachAnswer
reached_answer (reached.Read pass) = Read
reached_answer (reached.Pending writer) = Pending writer
reached_answer (reached.Write pass) = Write
reached_answer reached.Full = Full

-- what comes of it where a worker that holds nothing reaches for a level
abbrev pub reach_got : ℕ → ℕ → LevelsSeen → Reached
reach_got w level v = reach_answer v.mips.slots w level v.mips.entries

abbrev pub reach_levels : ℕ → ℕ → LevelsSeen → LevelsSeen
reach_levels w level v = with_levels v (after_reach v.mips.slots w level v.mips.entries) w (reached_hold (reach_got w level v))

-- the level that the worker writes is written, and the worker reads it
abbrev pub demoted_by : ℕ → LevelsSeen → Option Hold → LevelsSeen
demoted_by w v None = v
demoted_by w v (Some (Writes level)) = with_levels v (after_demote level v.mips.entries) w (Some (Reads level))
demoted_by w v (Some (Reads level)) = v

abbrev pub demote_levels : ℕ → LevelsSeen → LevelsSeen
demote_levels w v = demoted_by w v (hold_of v w)

-- the level that the worker writes isn't written after all
abbrev pub abandoned_by : ℕ → LevelsSeen → Option Hold → LevelsSeen
abandoned_by w v None = v
abandoned_by w v (Some (Writes level)) = with_levels v (after_abandon level v.mips.entries) w None
abandoned_by w v (Some (Reads level)) = v

abbrev pub abandon_levels : ℕ → LevelsSeen → LevelsSeen
abandon_levels w v = abandoned_by w v (hold_of v w)

-- the worker doesn't read its level any more
abbrev pub left_by : ℕ → LevelsSeen → Option Hold → LevelsSeen
left_by w v None = v
left_by w v (Some (Writes level)) = v
left_by w v (Some (Reads level)) = with_levels v (after_leave level v.mips.entries) w None

abbrev pub leave_levels : ℕ → LevelsSeen → LevelsSeen
leave_levels w v = left_by w v (hold_of v w)

-- one level goes that is written and that nobody reads, where there is one
abbrev pub evict_levels : LevelsSeen → LevelsSeen
evict_levels v = record { mips = with_entries v.mips (after_evict v.mips.entries); holds = v.holds }
