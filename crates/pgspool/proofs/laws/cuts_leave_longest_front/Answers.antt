use Rattle.pgspool.proofs.Cuts.{cut_is_longest_front, cut-cut, cuts_commute, cut-lacks}
use Rattle.pgspool.proofs.laws.cuts_leave_longest_front.Goals as goal

pub returns : goal.returns
returns c = record {
  longest = cut_is_longest_front;
  once = cut-cut;
  any_order = cuts_commute;
  unseen = cut-lacks;
}
