-- Worked rows: the commits of some sessions.
use Rattle.std.proofs.Common.{◌≡◌, ℕ, List, [], ◌∷◌, true, false, None, Some, refl, pos}
use Rattle.pglogical.specs.declared.message.Item.{Item}
use Rattle.pglogical.specs.declared.message.Item.TheVariants.{Insert, Relation}
use Rattle.pglogical.specs.declared.message.Message.TheVariants as message
use Rattle.pglogical.specs.Spelling.{item_spelling}
use Rattle.pgrepeats.specs.declared.commit.Commit.{Commit}
use Rattle.pgrepeats.specs.declared.digest.Change.{Change}
use Rattle.pgrepeats.specs.Digests.{change_of, digest_of}
use Rattle.pgcompared.specs.Commits.{commits_of, first_course}

abbrev row : ℕ → Item
row oid = Insert oid []

abbrev of_row : ℕ → Change
of_row oid = change_of (item_spelling None (row oid))

abbrev description : Item
description = Relation (record { oid = 1; namespace = []; name = []; letter = 100; columns = [] })

abbrev committed : ℕ → List Change → Commit
committed xid changes = record { end = 108; lsn = 100; xid = xid; time = pos 5; digest = digest_of changes }

-- a pair with two rows and a description, which is no change
in_a_pair : commits_of first_course (message.Begin 100 (pos 5) 7 ∷ message.Item None description ∷ message.Item None (row 1)
    ∷ message.Item None (row 2) ∷ message.Commit 100 108 (pos 5) ∷ []) ≡ committed 7 (of_row 1 ∷ of_row 2 ∷ []) ∷ []
in_a_pair = refl

-- the same transaction, streamed in two blocks
in_blocks : commits_of first_course (message.StreamStart 7 true ∷ message.Item (Some 7) (row 1) ∷ message.StreamStop
    ∷ message.StreamStart 7 false ∷ message.Item (Some 8) (row 2) ∷ message.StreamStop ∷ message.StreamCommit 7 100 108 (pos 5) ∷ [])
    ≡ committed 7 (of_row 1 ∷ of_row 2 ∷ []) ∷ []
in_blocks = refl

-- a subtransaction that is rolled back, with the one that began in it, and a row after that
rolled_back : commits_of first_course (message.StreamStart 7 true ∷ message.Item (Some 7) (row 1) ∷ message.Item (Some 8) (row 3)
    ∷ message.Item (Some 9) (row 4) ∷ message.StreamStop ∷ message.StreamAbort 7 8 ∷ message.StreamStart 7 false
    ∷ message.Item (Some 7) (row 2) ∷ message.StreamStop ∷ message.StreamCommit 7 100 108 (pos 5) ∷ [])
    ≡ committed 7 (of_row 1 ∷ of_row 2 ∷ []) ∷ []
rolled_back = refl

-- another transaction is streamed and rolled back whole, and a pair comes between the blocks
between : commits_of first_course (message.StreamStart 7 true ∷ message.Item (Some 7) (row 1) ∷ message.StreamStop
    ∷ message.StreamStart 6 true ∷ message.Item (Some 6) (row 5) ∷ message.StreamStop ∷ message.StreamAbort 6 6
    ∷ message.Begin 100 (pos 5) 5 ∷ message.Item None (row 6) ∷ message.Commit 100 108 (pos 5)
    ∷ message.StreamStart 7 false ∷ message.Item (Some 7) (row 2) ∷ message.StreamStop ∷ message.StreamCommit 7 100 108 (pos 5) ∷ [])
    ≡ committed 5 (of_row 6 ∷ []) ∷ committed 7 (of_row 1 ∷ of_row 2 ∷ []) ∷ []
between = refl
