use Rattle.std.proofs.Common.{◌≡◌, ◌≤◌, Some, false, ap, subst, ◌∙◌, string_bytes}
use Rattle.std.specs.Str.{IsUtf8}
use Rattle.serde_json.specs.Data.{depth}
use Rattle.serde_json.specs.Read as json
use Rattle.serde_json.specs.Written.{compact_text, has_float}
use Rattle.edit_script.specs.Written.{script_data}
use Rattle.edit_script.proofs.TextLemmas.{text_is, text_back}
use Rattle.edit_script.proofs.writing.write.Goals as goal

pub returns-clause-text : goal.returns-clause-text
returns-clause-text c =
    let r = c.args.script.now in
    let shown = c.in_ok-value.ensures.value in
    let written = λ (e : has_float (script_data r) ≡ false). c.in_ok-text.ensures.text (ap has_float shown ∙ e) ∙ ap compact_text shown in
    rw c.into_bytes.ensures.value (text_is r (string_bytes c.in_ok-text.text) c.in_ok-value.ensures.valid c.in_ok-value.ensures.typed written)

pub returns-clause-again : goal.returns-clause-again
returns-clause-again c =
    let r = c.args.script.now in
    let text = string_bytes c.in_ok-text.text in
    let shown = c.in_ok-value.ensures.value in
    let written = λ (e : has_float (script_data r) ≡ false). c.in_ok-text.ensures.text (ap has_float shown ∙ e) ∙ ap compact_text shown in
    let read = λ (h : depth (script_data r) ≤ json.max_depth). c.in_ok-text.ensures.reads_back (rw shown h) ∙ ap Some shown in
    let utf8 : IsUtf8 text = subst IsUtf8 c.as_str-utf8.ensures.value c.as_str-utf8.utf8 in
    rw c.into_bytes.ensures.value (text_back r text c.in_ok-value.ensures.valid c.in_ok-value.ensures.typed written read utf8)
