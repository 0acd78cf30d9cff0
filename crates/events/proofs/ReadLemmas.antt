-- the events that are read so far, in front of what the rest gives; the front of a longer text
use Rattle.std.proofs.Common.{◌≡◌, ℕ, List, [], ◌∷◌, ◌++◌, length, take, suc, append_assoc, refl, ap, arith}
use Rattle.std.specs.Prelude.{Result, Ok, Err}
use Rattle.std.proofs.lemmas.List.{length-append}
use Rattle.serde_json.specs.Data.{Data, Items, item}
use Rattle.json_form.proofs.FrontLemmas.{text_of_front}
use Rattle.events.specs.declared.event.Event.{Event}
use Rattle.events.specs.declared.fault.EventsFault.{EventsFault}
use Rattle.events.specs.Events.{◌>>=◌, or_text, event_at, events_from, list_of, events_of}

abbrev pub with_front : List Event → Result (List Event) EventsFault → Result (List Event) EventsFault
with_front front read = read >>= λ es. Ok (front ++ es)

one_more : (front : List Event) (e : Event) (read : Result (List Event) EventsFault) → with_front (front ++ e ∷ []) read ≡ with_front front (read >>= λ es. Ok (e ∷ es))
one_more front e (Ok es) = rw append_assoc refl
one_more front e (Err f) = refl

-- one more event, at the place behind those so far
pub next_read : (front : List Event) (e : Event) (d : Data) (ds : Items) → event_at (suc (length front)) d ≡ Ok e
    → with_front (front ++ e ∷ []) (events_from (suc (length (front ++ e ∷ []))) ds) ≡ with_front front (events_from (suc (length front)) (item d ds))
next_read front e d ds h =
    let len : length (front ++ e ∷ []) ≡ suc (length front) = simp length-append (omega arith) in
    rw (len, h) (one_more front e (events_from (suc (suc (length front))) ds))

-- the front of a text, with one byte above the limit, tells what the whole does
pub events_of_front : (text bytes : List ℕ) → take 4194305 text ≡ bytes → events_of text ≡ events_of bytes
events_of_front text bytes front = ap (λ t. or_text t >>= list_of) (text_of_front text bytes front)
