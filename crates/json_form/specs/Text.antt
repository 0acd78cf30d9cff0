-- texts as JSON values
use Rattle.std.specs.Prelude.{◌≡◌, ℕ, List, length, Option, Some, None, Result, Ok, Err, nat_le, if◌then◌else◌, ⊤}
use Rattle.std.specs.Str.{is_utf8}
use Rattle.serde_json.specs.Data.{Data}
use Rattle.serde_json.specs.Read as json
use Rattle.serde_json.specs.View.{view}
use Rattle.serde_json.specs.declared.value.Value.{Value}
use Rattle.json_form.specs.declared.text.TextEnd.{TextEnd}
use Rattle.json_form.specs.declared.text.TextEnd.TheVariants.{TooLong, Text, Memory}

-- the value that a text is, if it is one
abbrev pub json_of : List ℕ → Option Data
json_of bytes = if is_utf8 bytes then json.read bytes else None

abbrev pub or_text : Option Data → Result Data TextEnd
or_text None = Err Text
or_text (Some d) = Ok d

-- the value of a text of at most 4,194,304 bytes
abbrev pub text_of : List ℕ → Result Data TextEnd
text_of bytes = if nat_le (length bytes) 4194304 then or_text (json_of bytes) else Err TooLong

-- what was returned is what reading gives, unless memory ran out
abbrev pub IsRead : Result Value TextEnd → Result Data TextEnd → Type 0
IsRead (Ok v) read = read ≡ Ok (view v)
IsRead (Err TooLong) read = read ≡ Err TooLong
IsRead (Err Text) read = read ≡ Err Text
IsRead (Err Memory) read = ⊤
