use Rattle.json_form.proofs.FrontLemmas.{text_of_front}
use Rattle.json_form.proofs.text.value_of.Goals as goal

pub returns-clause-front : goal.returns-clause-front
returns-clause-front c text front = rw (text_of_front text c.args.bytes.now front) c.text_of.ensures
