-- What is kept of the transactions that are open. PostgreSQL documentation, Streaming of Large
-- Transactions for Logical Decoding; Logical Replication Message Formats, Stream Abort.
use Rattle.std.specs.Prelude.{ℕ, List, [], ◌∷◌, ◌++◌, ◌-◌, ◌==◌, length, Bool, true, false, nat_le}
use Rattle.std.specs.Prelude.{Option, Some, None, slice_get, if◌then◌else◌}
use Rattle.pgrepeats.specs.declared.digest.Change.{Change}
use Rattle.pgrepeats.specs.declared.digest.Digest.{Digest}
use Rattle.pgrepeats.specs.Digests.{no_changes, with_change}
use Rattle.pgcompared.specs.declared.stream.Point.{Point}

-- A streamed transaction: what its changes come to, and where in them items under another label
-- begin, with what the changes before them come to; or that more such points came than are kept.
pub record Streamed : Type 0 where
  pub top : ℕ
  pub digest : Digest
  pub points : List Point
  pub over : Bool

abbrev pub without_items : ℕ → Streamed
without_items top = record { top = top; digest = no_changes; points = []; over = false }

-- of one item more, which is a change or none
abbrev pub with_item : Digest → Option Change → Digest
with_item d None = d
with_item d (Some change) = with_change d change

abbrev pub is_of : ℕ → Option Point → Bool
is_of label None = false
is_of label (Some p) = p.label == label

-- the last item is under this label
abbrev pub is_under : ℕ → List Point → Bool
is_under label points = is_of label (slice_get points (length points - 1))

-- items under another label begin
abbrev pub with_point : ℕ → ℕ → Streamed → Streamed
with_point limit label s =
    if nat_le limit (length s.points) then record s { points = []; over = true }
    else record s { points = s.points ++ record { label = label; before = s.digest } ∷ [] }

abbrev pub at_label : ℕ → ℕ → Streamed → Streamed
at_label limit label s = if is_under label s.points then s else with_point limit label s

abbrev pub with_digest : Option Change → Streamed → Streamed
with_digest change s = record s { digest = with_item s.digest change }

-- one item more
abbrev pub added : ℕ → ℕ → Option Change → Streamed → Streamed
added limit label change s = if s.over then s else with_digest change (at_label limit label s)

-- a rollback: the points before the first one of this label, and what came before that
abbrev pub points_before : ℕ → List Point → List Point
points_before label [] = []
points_before label (p ∷ ps) = if p.label == label then [] else p ∷ points_before label ps

abbrev pub digest_before : ℕ → Digest → List Point → Digest
digest_before label d [] = d
digest_before label d (p ∷ ps) = if p.label == label then p.before else digest_before label d ps

abbrev pub cut : ℕ → Streamed → Streamed
cut label s = record s { digest = digest_before label s.digest s.points; points = points_before label s.points }

abbrev pub whole_digest : Streamed → Option Digest
whole_digest s = if s.over then None else Some s.digest

-- ---- all that are open

-- what the changes of the pair come to, the transaction of the block, and the other streamed ones
pub record Opened : Type 0 where
  pub limit : ℕ
  pub pair : Digest
  pub block : Option Streamed
  pub streams : List Streamed

abbrev pub none_opened : ℕ → Opened
none_opened limit = record { limit = limit; pair = no_changes; block = None; streams = [] }

-- one of these, else this
abbrev pub found : ℕ → Option Streamed → List Streamed → Option Streamed
found top mine [] = mine
found top mine (s ∷ ss) = found top (if s.top == top then Some s else mine) ss

abbrev pub without : ℕ → List Streamed → List Streamed
without top [] = []
without top (s ∷ ss) = if s.top == top then without top ss else s ∷ without top ss

abbrev pub begun : ℕ → Option Streamed → Streamed
begun top None = without_items top
begun top (Some s) = s

abbrev pub with_block : ℕ → Opened → Opened
with_block top o = record o { block = Some (begun top (found top None o.streams)); streams = without top o.streams }

abbrev pub listed : Option Streamed → List Streamed
listed None = []
listed (Some s) = s ∷ []

abbrev pub without_block : Opened → Opened
without_block o = record o { block = None; streams = o.streams ++ listed o.block }

abbrev pub each_added : ℕ → ℕ → Option Change → Option Streamed → Option Streamed
each_added limit label change None = None
each_added limit label change (Some s) = Some (added limit label change s)

abbrev pub with_block_item : ℕ → Option Change → Opened → Opened
with_block_item label change o = record o { block = each_added o.limit label change o.block }

abbrev pub each_cut : ℕ → Option Streamed → Option Streamed
each_cut label None = None
each_cut label (Some s) = Some (cut label s)

abbrev pub with_cut : ℕ → ℕ → Opened → Opened
with_cut top label o = record o { streams = without top o.streams ++ listed (each_cut label (found top None o.streams)) }

abbrev pub closed : ℕ → Opened → Opened
closed top o = record o { streams = without top o.streams }

abbrev pub digest_found : Option Streamed → Option Digest
digest_found None = Some no_changes
digest_found (Some s) = whole_digest s

-- what the changes of a streamed transaction come to, if all its points were kept
abbrev pub digest_at : ℕ → Opened → Option Digest
digest_at top o = digest_found (found top None o.streams)
