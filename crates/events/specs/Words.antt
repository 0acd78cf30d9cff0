-- the words of events: a row for each
use Rattle.std.specs.Prelude.{ℕ, List, [], ◌∷◌, Option, codes}
use Rattle.params.specs.Form.{among}
use Rattle.outside.specs.declared.job_name.Pipe.{Pipe}
use Rattle.outside.specs.declared.job_name.Pipe.TheVariants.{Full, Preview, Second}
use Rattle.events.specs.declared.event.Event.{Event}
use Rattle.events.specs.declared.event.Event.TheVariants.{Look, Restart, Find, Reach, Evict, Demote, Abandon, Load, Leave, Node, Keep, Finish, Publish, FinishTicket, GiveBack}

-- the pipes, each by its word
abbrev pub pipe_words : List (List ℕ × Pipe)
pipe_words = (codes "full", Full) ∷ (codes "preview", Preview) ∷ (codes "second", Second) ∷ []

abbrev pub pipe_named : List ℕ → Option Pipe
pipe_named word = among pipe_words word

-- what a worker does that needs no more than the worker, each by its word
abbrev pub worker_words : ℕ → List (List ℕ × Event)
worker_words w =
    (codes "look", Look w)
    ∷ (codes "restart", Restart w)
    ∷ (codes "find", Find w)
    ∷ (codes "reach", Reach w)
    ∷ (codes "evict", Evict w)
    ∷ (codes "demote", Demote w)
    ∷ (codes "abandon", Abandon w)
    ∷ (codes "load", Load w)
    ∷ (codes "leave", Leave w)
    ∷ (codes "node", Node w)
    ∷ (codes "keep", Keep w)
    ∷ (codes "finish", Finish w)
    ∷ (codes "publish", Publish w)
    ∷ (codes "finish_ticket", FinishTicket w)
    ∷ (codes "give_back", GiveBack w)
    ∷ []

unfoldable pub event_named : List ℕ → ℕ → Option Event
event_named word w = among (worker_words w) word
