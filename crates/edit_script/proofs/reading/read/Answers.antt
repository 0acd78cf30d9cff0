use Rattle.edit_script.proofs.ReadLemmas.{script_of_front}
use Rattle.edit_script.proofs.BlameLemmas.{read_own}
use Rattle.edit_script.proofs.reading.read.Goals as goal

pub returns-clause-front : goal.returns-clause-front
returns-clause-front c text front = rw (script_of_front text c.args.bytes.now front) c.script_of.ensures

pub returns-clause-param : goal.returns-clause-param
returns-clause-param c = read_own c.script_of.result c.args.bytes.now c.script_of.ensures
