-- The tickets of a script: its exports and thumbnails, numbered from 1.
use Rattle.std.specs.Prelude.{ℕ, zero, suc, ◌+◌, Bool, true, false, if◌then◌else◌, List, [], ◌∷◌, ◌++◌, slice_get, slice_set, Option, None}
use Rattle.std.specs.Option.{option_map_or}
use Rattle.edit_steps.specs.declared.step.Step.{Step}
use Rattle.edit_steps.specs.declared.step.Step.TheVariants as steps
use Rattle.edit_steps.specs.Changes.{is_change}
use Rattle.edit_steps.specs.Script.{Recipe}
use Rattle.journal.specs.declared.asking.Ask.{Ask}

-- whether the step asks for a picture
abbrev pub is_ask : Step → Bool
is_ask (steps.Edit edit) = false
is_ask steps.Undo = false
is_ask steps.Redo = false
is_ask (steps.View view) = false
is_ask (steps.Second view) = false
is_ask (steps.Export size depth) = true
is_ask (steps.Thumbnail size) = true
is_ask steps.Settle = false

abbrev pub is_settle : Step → Bool
is_settle (steps.Edit edit) = false
is_settle steps.Undo = false
is_settle steps.Redo = false
is_settle (steps.View view) = false
is_settle (steps.Second view) = false
is_settle (steps.Export size depth) = false
is_settle (steps.Thumbnail size) = false
is_settle steps.Settle = true

-- the moment behind a step
abbrev pub moment_behind : ℕ → Step → ℕ
moment_behind m step = if is_change step then m + 1 else m

-- what a step asks for
abbrev pub asked_by : ℕ → Step → List Ask
asked_by m step = if is_ask step then (record { moment = m; step = step }) ∷ [] else []

-- what the steps ask for, the first of them at moment m
abbrev pub asks_from : ℕ → List Step → List Ask
asks_from m [] = []
asks_from m (s ∷ ss) = asked_by m s ++ asks_from (moment_behind m s) ss

-- all that a script asks for, in its order
abbrev pub asks : Recipe → List Ask
asks script = asks_from 0 script.steps

-- the element with this number, counted from 1
abbrev pub numbered : {A : Type 0} → List A → ℕ → Option A
numbered xs zero = None
numbered xs (suc k) = slice_get xs k

-- the list with that element put in its place
abbrev pub with_numbered : {A : Type 0} → List A → ℕ → A → List A
with_numbered xs zero x = xs
with_numbered xs (suc k) x = slice_set xs k x

-- what a ticket asks for
abbrev pub ask_of : Recipe → ℕ → Option Ask
ask_of script t = numbered (asks script) t

-- the moment that a ticket shows: the number of changes before its step
abbrev pub asked_moment : Recipe → ℕ → ℕ
asked_moment script t = option_map_or (λ a. a.moment) (ask_of script t) 0
