-- What is told of a file of noted commits.
use Rattle.std.specs.Prelude.{◌++◌, ◌∷◌, ℕ, List, [], codes, decimal}
use Rattle.pgpast.specs.declared.fault.NotesFault.{NotesFault}
use Rattle.pgpast.specs.declared.fault.NotesFault.TheVariants as notes
use Rattle.pgpast.specs.declared.lines.Counts.{Counts}

abbrev pub fault_text : NotesFault → List ℕ
fault_text notes.Foreign = codes "it is no file of noted commits"
fault_text notes.Refused = codes "it can't be read or written"
fault_text notes.Memory = codes "memory"

-- the line of why the file with this path can't be used
abbrev pub notes_line : List ℕ → NotesFault → List ℕ
notes_line path notes.Memory = codes "pgsub: memory" ++ 10 ∷ []
notes_line path f = codes "pgsub: repeats: can't use " ++ (path ++ (codes ": " ++ (fault_text f ++ 10 ∷ [])))

-- the exit status then: memory has run out, or the file can't be used
abbrev pub status_of_notes : NotesFault → ℕ
status_of_notes notes.Memory = 14
status_of_notes _ = 3

-- how many commits came before, of how many nothing was known, and how many were forgotten
abbrev pub counts_text : Counts → List ℕ
counts_text c =
    decimal c.equal
    ++ (codes " equal, " ++ (decimal c.unknown ++ (codes " unknown, " ++ (decimal c.forgotten ++ codes " forgotten"))))

abbrev pub counts_line : Counts → List ℕ
counts_line c = codes "pgsub: repeats: " ++ (counts_text c ++ 10 ∷ [])
