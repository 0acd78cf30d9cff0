-- the text of the manifest
use Rattle.std.specs.Prelude.{ℕ, List, [], ◌∷◌, ◌++◌, length, codes}
use Rattle.std.specs.Fmt.{decimal}
use Rattle.outside.specs.declared.job_name.JobName.{JobName}
use Rattle.outside.specs.declared.job_name.JobName.TheVariants as job
use Rattle.outside.specs.declared.job_name.Pipe.{Pipe}
use Rattle.edit_steps.specs.Script.{Recipe}
use Rattle.journal.specs.Lines.{Line}
use Rattle.journal.specs.Pipes.{word_of}
use Rattle.publish.specs.Names.{pipe_file, ticket_word, ticket_file}

-- a pipe, its moment and its file
abbrev pub pipe_text : Pipe → ℕ → List ℕ
pipe_text p m = word_of p ++ (codes " " ++ (decimal m ++ (codes " " ++ (pipe_file p m ++ codes "\n"))))

-- what a ticket asked for, its number, its moment and its file
abbrev pub ticket_text : Recipe → ℕ → ℕ → List ℕ
ticket_text script t m =
    ticket_word script t ++ (codes " " ++ (decimal t ++ (codes " " ++ (decimal m ++ (codes " " ++ (ticket_file script t ++ codes "\n"))))))

-- what was made, its moment and its file
abbrev pub job_text : Recipe → JobName → ℕ → List ℕ
job_text script (job.Pipe p) m = pipe_text p m
job_text script (job.Ticket t) m = ticket_text script t m

abbrev pub lines_text : Recipe → List Line → List ℕ
lines_text script [] = []
lines_text script (l ∷ ls) = job_text script l.job l.moment ++ lines_text script ls

-- the last line, with how many there are before it
abbrev pub end_line : ℕ → List ℕ
end_line count = codes "end " ++ (decimal count ++ codes "\n")

abbrev pub manifest_of : Recipe → List Line → List ℕ
manifest_of script ls = lines_text script ls ++ end_line (length ls)
