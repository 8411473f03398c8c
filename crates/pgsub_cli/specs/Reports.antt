-- The line that tells how far a long run is.
use Rattle.std.specs.Prelude.{◌≡◌, ◌≤◌, ◌+◌, ◌-◌, ◌^◌, ◌⊎◌, min, ℕ, List, ◌++◌, Option, Some, None}
use Rattle.std.specs.Prelude.{codes, decimal}
use Rattle.std.specs.Time.{instant_nanos}
use Rattle.std.specs.declared.time.Instant.{Instant}
use Rattle.pglsn.specs.Texts.{lsn_text}
use Rattle.pgorder.specs.declared.Version.{Version}
use Rattle.pgsub_cli.specs.declared.reported.Settling.{Settling}
use Rattle.pgsub_cli.specs.declared.reporting.Progress.{Progress}
use Rattle.pgsub_cli.specs.declared.storing.Incoming.{Incoming}
use Rattle.pgsub_cli.specs.declared.storing.Incoming.TheVariants.{Sessions, Raw}

-- the bytes that were read, and how many there are where that is known
abbrev pub bytes_text : ℕ → Option ℕ → List ℕ
bytes_text read (Some total) = decimal read ++ (codes " of " ++ decimal total)
bytes_text read None = decimal read

abbrev pub progress_line : Progress → List ℕ
progress_line p = codes "pgsub: "
    ++ (bytes_text p.read p.total ++ (codes " bytes read, " ++ (decimal p.commits ++ (codes " commits, " ++ (decimal p.changes
    ++ (codes " changes, position " ++ (lsn_text p.position ++ (codes ", " ++ (decimal p.rate ++ codes " changes/s\n")))))))))

-- of nothing yet, of so many bytes where that is known
abbrev pub nothing_of : Option ℕ → Progress
nothing_of total = record { read = 0; total = total; commits = 0; changes = 0; position = 0; rate = 0 }

-- so many more, at most 2^64 - 1
abbrev pub counted : ℕ → ℕ → ℕ
counted old more = min (old + more) (2 ^ 64 - 1)

abbrev pub with_bytes : ℕ → Progress → Progress
with_bytes count p = record p { read = counted p.read count }

-- commits that were stored together
abbrev pub with_commits : Settling → Progress → Progress
with_commits s p = record p { commits = counted p.commits s.commits; changes = counted p.changes s.changes; position = s.position }

-- the same but for the rate
abbrev pub IsCounted : Progress → Progress → Type 0
IsCounted p q = p ≡ record q { rate = p.rate }

-- Nothing is told, or a second after the last line the line is, as far as it can be written.
module _ {E : Type 0} (takes : E → List ℕ → E → Type 0) (failed : E → Type 0) where
  abbrev pub TellsProgress : Instant → Instant → Progress → E → E → Type 0
  TellsProgress last last' p old new =
      (new ≡ old) ⊎ ((instant_nanos last + 1000000000 ≤ instant_nanos last') × (takes old (progress_line p) new ⊎ failed old))

-- what comes, of the file within another one
abbrev pub incoming_within : {R Q : Type 0} → (Q → R) → Incoming Q → Incoming R
incoming_within inner (Sessions sessions) = Sessions sessions
incoming_within inner (Raw file) = Raw (inner file)

abbrev pub input_within : {R Q : Type 0} → (Q → R) → Option (Version × Incoming Q) → Option (Version × Incoming R)
input_within inner None = None
input_within inner (Some (version, incoming)) = Some (version, incoming_within inner incoming)
