-- Two recordings that were read, and the comparison of what they leave.
use Rattle.std.specs.Prelude.{IsErrAnd}
use Rattle.std.proofs.Common.{◌≡◌, inl, inr, List, ℕ, true, false, Option, Some, None, Result, Ok}
use Rattle.std.proofs.Common.{Err, refl, sym, ap, subst}
use Rattle.pgsub_core.specs.declared.converging.Side.TheVariants.{Right}
use Rattle.pgorder.specs.declared.Version.{Version}
use Rattle.pgwire.specs.declared.session.Session.{Session}
use Rattle.pgsub_cli.specs.declared.fault.Ending.{Ending}
use Rattle.pgsub_cli.specs.declared.fault.RunFault.{RunFault}
use Rattle.pgsub_cli.specs.declared.fault.RunFault.TheVariants as run
use Rattle.pgsub_cli.specs.Recorded.{Records, IsUnread}
use Rattle.pgsub_cli.specs.Runs.{AreUnread, Compares, ComparesSessions}

module _ {R W : Type 0} (gives begins : R → List ℕ → Type 0) (read_failed : R → Type 0) (takes : W → List ℕ → W → Type 0)
    (write_failed : W → Type 0) where
  pub compares_read : (version : Version) (left right : Option R) (old new : W) (ended : Result Ending RunFault)
      (sessions others shown shown' : List Session)
      → Records gives left sessions → Records gives right others → shown ≡ sessions → shown' ≡ others
      → ComparesSessions takes write_failed version shown shown' old new ended
      → Compares gives begins read_failed takes write_failed version left right old new ended
  compares_read version left right old new ended sessions others shown shown' read read' is is' compares =
      inr (
        sessions,
        others,
        read,
        read',
        subst (λ (ss : List Session). ComparesSessions takes write_failed version sessions ss old new ended) is'
            (subst (λ (ss : List Session). ComparesSessions takes write_failed version ss shown' old new ended) is compares),
      )

  unopened : (f : RunFault) → IsUnread gives read_failed Right None f → f ≡ run.CannotRead Right
  unopened (run.Stream f) unread = absurd (let no : false ≡ true = unread.1 in cc)
  unopened (run.OfSide side f) unread = absurd unread
  unopened (run.NotHexadecimal line) unread = absurd (let none : ◌≡◌ {A = Option R} None (Some unread.1.0.0) = unread.1.0.1 in cc)
  unopened run.TooLong unread = absurd (let none : ◌≡◌ {A = Option R} None (Some unread.1.0) = unread.1.1 in cc)
  unopened (run.CannotRead side) unread = ap run.CannotRead unread.0
  unopened run.CannotWrite unread = absurd unread
  unopened run.NotAnLsn unread = absurd unread

  right_unread : (left right : Option R) (sessions : List Session) (f : RunFault) → Records gives left sessions
      → IsUnread gives read_failed Right right f → AreUnread gives begins read_failed takes write_failed left right f
  right_unread None right sessions f read unread = absurd (let none : ◌≡◌ {A = Option R} None (Some read.1.0.0) = read.1.0.1 in cc)
  right_unread (Some left) None sessions f read unread = unopened f unread
  right_unread (Some left) (Some right) sessions f read unread = inr (sessions, read, unread)

  pub compares_unread : (version : Version) (left right : Option R) (same : W) (ended : Result Ending RunFault) (sessions : List Session)
      (f : RunFault) → IsErrAnd ended (λ y. y ≡ f)
      → Records gives left sessions → IsUnread gives read_failed Right right f
      → Compares gives begins read_failed takes write_failed version left right same same ended
  compares_unread version left right same (Ok e) sessions f is read unread = absurd is
  compares_unread version left right same (Err y) sessions f is read unread =
      inl (
        y,
        refl,
        subst (λ (g : RunFault). AreUnread gives begins read_failed takes write_failed left right g) (sym is)
            (right_unread left right sessions f read unread),
        refl,
      )
