-- What spools are that are in memory or over a file.
use Rattle.std.specs.Prelude.{◌≤◌, ℕ, Bool, length, true}
use Rattle.pgspool.specs.Labels.{HeldMap, held_of}
use Rattle.pgfilespools.specs.Spooled.{IsLoaded, IsReady, IsPart, HasPart}
use Rattle.pgspooled.specs.declared.live_spools.LiveSpools.{LiveSpools}
use Rattle.pgspooled.specs.declared.live_spools.LiveSpools.TheVariants.{Memory, File}

module _ {D : Type 0} where
  abbrev pub held_live : LiveSpools D → HeldMap
  held_live (Memory s) = s.held
  held_live (File s) = s.held

  abbrev pub most_live : LiveSpools D → ℕ
  most_live (Memory s) = s.most
  most_live (File s) = s.most

  -- what is in memory always is
  abbrev pub is_honest_live : LiveSpools D → Bool
  is_honest_live (Memory s) = true
  is_honest_live (File s) = s.is_honest

  abbrev pub IsReadyLive : LiveSpools D → ℕ → Type 0
  IsReadyLive (Memory s) xid = Unit {0}
  IsReadyLive (File s) xid = IsReady s xid

  abbrev pub IsLoadedLive : LiveSpools D → ℕ → Type 0
  IsLoadedLive (Memory s) xid = Unit {0}
  IsLoadedLive (File s) xid = IsLoaded s xid

  -- of what is in memory each item always is there
  abbrev pub HasPartLive : LiveSpools D → ℕ → ℕ → ℕ → Type 0
  HasPartLive (Memory s) xid from to = to ≤ length (held_of s.held xid)
  HasPartLive (File s) xid from to = HasPart s xid from to

  abbrev pub IsPartLive : LiveSpools D → ℕ → ℕ → ℕ → Type 0
  IsPartLive (Memory s) xid from to = to ≤ length (held_of s.held xid)
  IsPartLive (File s) xid from to = IsPart s xid from to
