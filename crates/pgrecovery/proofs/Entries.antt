-- The entries of a run are the history's transactions.
use Rattle.std.proofs.Common.{◌≡◌, ◌++◌, ◌∷◌, [], ℕ, List, Bool, ap, subst, ◌∙◌}
use Rattle.pgapply.specs.Tallies.{TakenCommit, Tally, nothing_taken}
use Rattle.pgledger.specs.Entries.{Entry, LeadTo}
use Rattle.pgledger.specs.Records.{TellTo, tally_since}
use Rattle.pgsub_core.specs.Subscriber.Tallied.{ended_between, taken_of}
use Rattle.pgsub_core.proofs.TalliedBetween.{tally_has_transactions}
use Rattle.pgrecovery.specs.Entries.{EntriesAreTransactions}

abbrev first_end : List TakenCommit → ℕ
first_end [] = 0
first_end (c ∷ cs) = c.end

abbrev others : List TakenCommit → List TakenCommit
others [] = []
others (c ∷ cs) = cs

module _ {L : Type 0} (begins : L → ℕ) (keeps : L → List Entry → Type 0) (outlasts : L → ℕ → Type 0) (is_stuck : L → Bool) where
  pub entries_are_transactions : EntriesAreTransactions begins keeps outlasts is_stuck
  entries_are_transactions history l begun since place reach tally were tables is up at to tallied r =
      let all : (tally_since since tally).commits
      ≡ (tally_since begun nothing_taken).commits ++ taken_of (ended_between begun place history) =
      ap (λ (t : Tally). t.commits) tallied
      ∙ tally_has_transactions history begun place were tables (tally_since begun nothing_taken) is up at to in
      let from : since ≡ begun = ap first_end all in
      let commits : tally.commits ≡ taken_of (ended_between begun place history) = ap others all in
      let k = r.records in
      let s = r.since in
      record {
        base = k.base;
        before = s.before;
        since = s.since;
        later = k.later;
        kept = subst (λ (es : List Entry). keeps l (es ++ k.later)) s.are k.kept;
        mid = s.mid;
        leads = subst (λ f. LeadTo k.base (begins l) s.before s.mid f) from s.leads;
        tells = subst (λ f. TellTo s.mid f s.since (taken_of (ended_between begun place history)) tables place) from
            (subst (λ cs. TellTo s.mid since s.since cs tables place) commits s.tells);
        above = k.above;
      }
