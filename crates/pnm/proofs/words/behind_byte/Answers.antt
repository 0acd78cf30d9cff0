use Rattle.std.proofs.Common.{not, ap, ◌∙◌, sym}
use Rattle.pnm.specs.Fault.{after_filling}
use Rattle.pnm.proofs.WordLemmas.{in_comment}
use Rattle.pnm.proofs.words.behind_byte.Goals as goal

pub returns-then-inside : goal.returns-then-inside
returns-then-inside c t =
    rw (c.if-inside.true) (in_comment c.args.byte t ∙ ap (λ s. after_filling (not s) t) (sym c.is_line_end.ensures))
