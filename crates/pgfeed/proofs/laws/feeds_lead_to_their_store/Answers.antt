use Rattle.pgfeed.proofs.Beside.{begins_with, goes_on, left_is_reopened, rests_lead}
use Rattle.pgfeed.proofs.laws.feeds_lead_to_their_store.Goals as goal

pub returns : goal.returns
returns g c = record {
  begin = begins_with g.F.File.Disk.seen g.F.File.Disk.may_leave g.F.File.Disk.is_clean g.F.Folder.is_true g.F.Folder.places g.F.Folder.has;
  reopened = left_is_reopened g.F.File.Disk.seen g.F.File.Disk.may_leave g.F.File.Disk.is_clean
      g.F.Folder.is_true g.F.Folder.places g.F.Folder.has;
  go_on = goes_on g.F.File.Disk.seen g.F.File.Disk.may_leave g.F.File.Disk.is_clean g.F.Folder.is_true g.F.Folder.places g.F.Folder.has
      g.met.F.File.Disk.seen_may_stay;
  lead = rests_lead g.F.File.Disk.seen g.F.File.Disk.may_leave g.F.File.Disk.is_clean g.F.Folder.is_true g.F.Folder.places g.F.Folder.has;
}
