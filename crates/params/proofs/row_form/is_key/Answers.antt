use Rattle.std.proofs.Common.{◌≡◌, ◌||◌, true, false, map, sym, ap, ◌∙◌}
use Rattle.params.specs.Form.{is_one_of}
use Rattle.params.specs.Stated.{keys_of}
use Rattle.params.proofs.FormLemmas.{one_of_either}
use Rattle.params.proofs.row_form.is_key.Goals as goal

pub returns-then-is_one_of : goal.returns-then-is_one_of
returns-then-is_one_of c =
    let key = c.args.key.now in
    let beside = map (λ k. k.now) c.args.beside.now in
    let keys = keys_of c.args.row.now in
    let is : is_one_of key beside ≡ true = sym c.is_one_of.ensures ∙ c.if-is_one_of.true in
    c.if-is_one_of.true ∙ sym (one_of_either key beside keys ∙ ap (λ b. b || is_one_of key keys) is)

pub returns-else-is_one_of : goal.returns-else-is_one_of
returns-else-is_one_of c =
    let key = c.args.key.now in
    let beside = map (λ k. k.now) c.args.beside.now in
    let keys = keys_of c.args.row.now in
    let is : is_one_of key beside ≡ false = sym c.is_one_of.ensures ∙ c.if-is_one_of.false in
    c.is_row_key.ensures ∙ sym (one_of_either key beside keys ∙ ap (λ b. b || is_one_of key keys) is)
