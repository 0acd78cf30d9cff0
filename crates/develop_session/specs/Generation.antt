-- what `generate` says of the run that a number makes
use Rattle.std.specs.Prelude.{◌≡◌, ◌⊎◌, ℕ, List, ◌++◌, codes, Option}
use Rattle.std.specs.Fmt.{decimal}
use Rattle.outside.specs.Said.{Says, SaysInPart}
use Rattle.generator.specs.declared.making.Generated.{Generated}
use Rattle.generator.specs.declared.making.GenerateEnd.{GenerateEnd}
use Rattle.generator.specs.declared.making.GenerateEnd.TheVariants as end
use Rattle.generator.specs.Picture.{number_behind}
use Rattle.generator.specs.Script.{IsFaultOf}
use Rattle.generator.specs.Rounds.{IsGenerated}
use Rattle.develop_session.specs.declared.status.Status.{Status}
use Rattle.develop_session.specs.declared.status.Status.TheVariants as status
use Rattle.develop_session.specs.Texts.{refusal_text}
use Rattle.develop_session.specs.Failures.{Tells}

-- the number, the sides, and how many steps, changes and lines there are; and the sum of all bytes of the lines' files
abbrev pub generated_text : ℕ → Generated → List ℕ
generated_text n g =
    codes "generated " ++ (decimal n ++ (codes " 1024 768 steps 40 changes " ++ (decimal g.changes ++ (codes " lines " ++ (decimal g.lines ++ (codes " sum " ++ (decimal g.sum ++ codes "\n")))))))

-- the status of a run that wasn't made
abbrev pub end_status : GenerateEnd → Status
end_status (end.Refused f) = status.ScriptRefused f.step f.reason
end_status end.Memory = status.OutOfMemory

-- Each answer of `generate` with its cause. The count of faults is that of this call.
abbrev pub Produces : ℕ → Type 0 → Option (List ℕ) → Option (List ℕ) → Status → Type 0
Produces n said_rose was is status.Ok = (g : Generated) × IsGenerated n g × Says (generated_text n g) was is
Produces n said_rose was is status.SaidFault = (g : Generated) × IsGenerated n g × said_rose × SaysInPart (generated_text n g) was is
Produces n said_rose was is status.OutOfMemory = Tells (refusal_text status.OutOfMemory) said_rose was is ⊎ ((g : Generated) × IsGenerated n g × (is ≡ was))
Produces n said_rose was is (status.ScriptRefused step reason) =
    IsFaultOf (number_behind n) (record { step = step; reason = reason }) × Tells (refusal_text (status.ScriptRefused step reason)) said_rose was is
Produces n said_rose was is _ = ⊥
