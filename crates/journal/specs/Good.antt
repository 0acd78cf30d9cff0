-- What is said of a subject's lines alone, whatever the journal that they are of.
use Rattle.std.specs.Prelude.{◌≡◌, ℕ, ◌<◌, ◌≤◌, ◌==◌, nat_le, Bool, true, false, ◌&&◌, List, [], ◌∷◌, length, take, map, slice_get, count_by, Option, Some, None, option_map}
use Rattle.std.specs.List.{All, AllPairs, filter, take_while, last_or}
use Rattle.outside.specs.declared.job_name.JobName.{JobName}
use Rattle.outside.specs.declared.job_name.JobName.TheVariants as job
use Rattle.outside.specs.declared.job_name.Pipe.{Pipe}
use Rattle.edit_steps.specs.declared.step.Step.TheVariants as steps
use Rattle.edit_steps.specs.Pipes.{has_pipe}
use Rattle.edit_steps.specs.Script.{Recipe, changes, moment_of}
use Rattle.journal.specs.Pipes.{place_of}
use Rattle.journal.specs.Tickets.{asks, asks_from, ask_of}
use Rattle.journal.specs.Desk.{Later}
use Rattle.journal.specs.Lines.{Line}

-- ---- what a line is of

-- the job is the pipe's
abbrev pub is_pipe : Pipe → JobName → Bool
is_pipe p (job.Pipe q) = place_of q == place_of p
is_pipe p (job.Ticket t) = false

-- the job is the ticket's
abbrev pub is_ticket : ℕ → JobName → Bool
is_ticket t (job.Pipe p) = false
is_ticket t (job.Ticket u) = u == t

-- the moments of a pipe's lines, in the order of the lines
abbrev pub moments : Pipe → List Line → List ℕ
moments p ls = map (λ l. l.moment) (filter (λ l. is_pipe p l.job) ls)

-- the moment of a pipe's last line, where it has a line
abbrev pub last_moment : Pipe → List Line → Option ℕ
last_moment p ls = last_or None (moments p ls)

-- how many lines a ticket has
abbrev pub ticket_lines : ℕ → List Line → ℕ
ticket_lines t ls = count_by (λ l. is_ticket t l.job) ls

-- ---- names

-- Jobs at two moments have different names: those of one pipe where the moments differ, and those of one ticket never.
abbrev pub DifferFor : JobName → JobName → ℕ → ℕ → Type 0
DifferFor (job.Pipe p) name m n = name ≡ job.Pipe p → m ≡ n → ⊥
DifferFor (job.Ticket t) name m n = name ≡ job.Ticket t → ⊥

abbrev pub Differ : Line → Line → Type 0
Differ l r = DifferFor l.job r.job l.moment r.moment

-- no two lines have the same pipe and moment, or the same ticket
abbrev pub HaveNames : List Line → Type 0
HaveNames ls = AllPairs Differ ls

-- ---- each line

-- the moment at which a ticket was asked, where the script has the ticket
abbrev pub asked : Recipe → ℕ → Option ℕ
asked script t = option_map (λ a. a.moment) (ask_of script t)

-- a pipe of the subject, at one of the script's moments; or a ticket of the script, at the moment at which it was asked
abbrev pub IsKnownJob : Recipe → JobName → ℕ → Type 0
IsKnownJob script (job.Pipe p) m = (has_pipe script.settings p ≡ true) × (m ≤ changes script)
IsKnownJob script (job.Ticket t) m = asked script t ≡ Some m

abbrev pub IsKnown : Recipe → Line → Type 0
IsKnown script l = IsKnownJob script l.job l.moment

-- ---- each pipe's lines

-- the moment is greater than the one before it, where there is one, and a change between the two concerns the pipe
abbrev pub IsAfter : Recipe → Pipe → Option ℕ → ℕ → Type 0
IsAfter script p None m = Unit {0}
IsAfter script p (Some before) m = (before < m) × Later script p before m

-- each moment is after the one before it
abbrev pub Rises : Recipe → Pipe → Option ℕ → List ℕ → Type 0
Rises script p before [] = Unit {0}
Rises script p before (m ∷ ms) = IsAfter script p before m × Rises script p (Some m) ms

-- the pipe has a line, and no change after its last line's moment, up to this one, concerns the pipe
pub record IsReached (script : Recipe) (p : Pipe) (to : ℕ) (ls : List Line) : Type 0 where
  pub moment : ℕ
  pub is_last : last_moment p ls ≡ Some moment
  pub none_later : Later script p moment to → ⊥

-- ---- a settle

-- how many tickets are asked by the first steps
abbrev pub tickets_before : Recipe → ℕ → ℕ
tickets_before script n = length (asks_from 0 (take n script.steps))

abbrev pub is_ticket_upto : ℕ → JobName → Bool
is_ticket_upto most (job.Pipe p) = true
is_ticket_upto most (job.Ticket t) = nat_le t most

-- no moment above this one, and no ticket above this one
abbrev pub is_within : ℕ → ℕ → Line → Bool
is_within m most l = nat_le l.moment m && is_ticket_upto most l.job

-- the longest front of the lines with neither a moment above m nor a ticket above `most`
abbrev pub front : ℕ → ℕ → List Line → List Line
front m most ls = take_while (is_within m most) ls

-- the front of the lines that the first n steps account for
abbrev pub front_at : Recipe → ℕ → List Line → List Line
front_at script n ls = front (moment_of script n) (tickets_before script n) ls

-- Before the step with this place, each pipe of the subject has reached its moment, and each ticket that was asked has its line.
pub record IsSettledAt (script : Recipe) (n : ℕ) (ls : List Line) : Type 0 where
  pub pipes : (p : Pipe) → has_pipe script.settings p ≡ true → IsReached script p (moment_of script n) (front_at script n ls)
  pub tickets : (t : ℕ) → 1 ≤ t → t ≤ tickets_before script n → ticket_lines t (front_at script n ls) ≡ 1

-- ---- the lines of a whole session

-- Each line is known; each pipe's moments rise, and each pipe of the subject is reached; each ticket of the script has just
-- one line; and each settle of the script waited for what was asked before it.
pub record Good (script : Recipe) (ls : List Line) : Type 0 where
  pub known : All (IsKnown script) ls
  pub rises : (p : Pipe) → Rises script p None (moments p ls)
  pub reached : (p : Pipe) → has_pipe script.settings p ≡ true → IsReached script p (changes script) ls
  pub tickets : (t : ℕ) → 1 ≤ t → t ≤ length (asks script) → ticket_lines t ls ≡ 1
  pub settles : (n : ℕ) → slice_get script.steps n ≡ Some steps.Settle → IsSettledAt script n ls
