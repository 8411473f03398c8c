use Rattle.std.proofs.Common.{◌≡◌, ◌≤◌, ◌+◌, ◌∙◌, ℕ, List, length, take, drop, sym, subst, arith}
use Rattle.std.proofs.Common.{length-drop}
use Rattle.std.proofs.lemmas.List.{take-append-drop}
use Rattle.std.proofs.Math.Seq.{take-add}
use Rattle.pgsub_core.proofs.FeedSteps.{rest_of}
use Rattle.pgfollow.specs.Live.{FollowsPiece, IsFollowedPart, StopsFront}
use Rattle.pgfollow.proofs.Telling.{piece_and}
use Rattle.pgfollow.proofs.live.follow_piece.Goals as goal

pub loop-taken-preserved : goal.loop-taken-preserved
loop-taken-preserved g c =
    let it = g.C.ReplicaStore in
    let loop = c.loop-taken.invariant in
    let piece = c.args.piece.now in
    let taken = c.loop-taken.taken in
    let count = c.in-Ok.count in
    let read = c.follow_part.ensures.read in
    let part = c.in-Ok.ensures in
    let within : taken ≤ length piece = loop.0 in
    let rest : length (drop taken piece) + taken ≡ length piece = (let l = length-drop taken piece in omega (arith, l, within)) in
    let some : count ≤ length (drop taken piece) = subst (λ (bytes : List ℕ). count ≤ length bytes) (rest_of piece taken) part.some.0 in (
      omega (arith, rest, some),
      part.sound,
      part.unclosed,
      read.0 ∙ loop.3,
      read.1 ∙ loop.4,
      read.2 ∙ loop.5,
      λ honest. loop.6 (c.follow_part.ensures.honest honest),
      λ honest serves. part.still_serves honest (loop.7 (c.follow_part.ensures.honest honest) serves),
      λ honest serves.
          let was = c.follow_part.ensures.honest honest in
          let before = g.W.Write.contents c.args.link.now.writer in
          let wrote = g.W.Write.contents c.loop-taken.link.writer in
          let wrote' = g.W.Write.contents c.follow_part.new.link.writer in
          let old = c.args.subscriber.now in
          let mid = c.loop-taken.subscriber in
          let new = c.follow_part.new.subscriber in
          subst (λ (p : List ℕ). FollowsPiece it.holds it.place it.reopens it.serves it.tally before wrote' p old new)
          (sym (take-add taken count piece))
          (piece_and it.holds it.place it.reopens it.serves it.tally before wrote wrote' (take taken piece) (take count (drop taken piece))
          old mid new (loop.8 was serves)
          (subst (λ (bytes : List ℕ).
          IsFollowedPart it.holds it.place it.reopens it.serves it.tally wrote wrote' (take count bytes) mid new) (rest_of piece taken)
          (part.followed honest (loop.7 was serves)))),
    )

pub returns-in-Err-clause-stopped : goal.returns-in-Err-clause-stopped
returns-in-Err-clause-stopped g c honest serves =
    let it = g.C.ReplicaStore in
    let loop = c.loop-taken.invariant in
    let piece = c.args.piece.now in
    let taken = c.loop-taken.taken in
    let was = c.follow_part.ensures.honest honest in
    let wrote = g.W.Write.contents c.loop-taken.link.writer in (
      c.loop-taken.subscriber,
      wrote,
      take taken piece,
      drop taken piece,
      sym (take-append-drop taken piece),
      loop.8 was serves,
      subst (λ (bytes : List ℕ).
          StopsFront it.holds it.place it.reopens it.serves it.tally wrote (g.W.Write.contents c.follow_part.new.link.writer) bytes
          c.loop-taken.subscriber c.follow_part.new.subscriber c.in-Err.fault) (rest_of piece taken)
          (c.in-Err.ensures.stopped honest (loop.7 was serves)),
    )
