use Rattle.std.proofs.Common.{subst}
use Rattle.sqlite.specs.Files.{image_of, over_files}
use Rattle.pgopening.specs.Found.{IsFound}
use Rattle.pgstore.specs.Trees.{HoldsOpened, StaysOpened}
use Rattle.pgstore.proofs.TreesRead.{both_back, both_ok, if_err, if_ok, if_some, still_holds}
use Rattle.pgstore.proofs.TreesRead.{still_stays}
use Rattle.pgstore.proofs.reopening.Store+FileStore+D.open_left.Goals as goal

pub returns-in-Ok-Trees-clause-stood : goal.returns-in-Ok-Trees-clause-stood
returns-in-Ok-Trees-clause-stood g c =
    let content = image_of g.D.Disk c.args.files in
    let found = subst (IsFound g.D.Disk content) c.in-Ok-Trees.field-0-is c.in-Ok-Trees.ensures.found in
    if_ok c.of_trusted.result (HoldsOpened over_files c.in-Ok-Trees.store) _
    (λ it held honest. let h = held honest in h.1 content (found h.0)) c.of_trusted.ensures.holds

pub returns-in-Ok-Trees-clause-unchanged : goal.returns-in-Ok-Trees-clause-unchanged
returns-in-Ok-Trees-clause-unchanged g c =
    let content = image_of g.D.Disk c.args.files in
    let found = subst (IsFound g.D.Disk content) c.in-Ok-Trees.field-0-is c.in-Ok-Trees.ensures.found in
    if_err c.of_trusted.result _ _
    (λ e stays. if_some e.1 (StaysOpened over_files c.in-Ok-Trees.store) _
    (λ conn held clean. let h = held clean in h.1 content (found h.0)) stays) c.of_trusted.ensures.stays

pub returns-in-Ok-Others-clause-stood : goal.returns-in-Ok-Others-clause-stood
returns-in-Ok-Others-clause-stood g c =
    let content = image_of g.D.Disk c.args.files in
    let left = c.in-Ok-Others.files in
    let found = subst (IsFound g.D.Disk content) c.in-Ok-Others.field-0-is c.in-Ok-Others.ensures.found in
    both_ok c.adopt_files.result _ _ _
    (λ it held clean honest. still_holds over_files content (image_of g.D.Disk left) it (found.still (clean honest)) (held honest))
    c.adopt_files.ensures.stood c.adopt_files.ensures.disks

pub returns-in-Ok-Others-clause-unchanged : goal.returns-in-Ok-Others-clause-unchanged
returns-in-Ok-Others-clause-unchanged g c =
    let content = image_of g.D.Disk c.args.files in
    let left = c.in-Ok-Others.files in
    let found = subst (IsFound g.D.Disk content) c.in-Ok-Others.field-0-is c.in-Ok-Others.ensures.found in
    both_back c.adopt_files.result _ _ _
    (λ conn stays clean honest.
    still_stays over_files content (image_of g.D.Disk left) conn (found.still (clean honest)) (stays honest))
    c.adopt_files.ensures.unchanged c.adopt_files.ensures.disks_refused

pub of_trusted-requires-clause-left : goal.of_trusted-requires-clause-left
of_trusted-requires-clause-left g c clean =
    let found = subst (IsFound g.D.Disk (image_of g.D.Disk c.args.files)) c.in-Ok-Trees.field-0-is c.in-Ok-Trees.ensures.found in
    c.requires.left _ (found clean).found
