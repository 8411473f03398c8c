use Rattle.std.proofs.Common.{◌∙◌, ◌++◌, ◌-◌, ap, sym, subst, take, drop}
use Rattle.std.proofs.Common.{List, ℕ, [], arith}
use Rattle.pgpast.specs.Handing.{IsHanded, contradicts}
use Rattle.pgpast.proofs.Handings.{both, compared_now, goes_on, next_part, not_both}
use Rattle.pgpast.proofs.Handings.{rest_part, some_part, stops_here}
use Rattle.pgpast.proofs.comparing.Comparing.hear_front.Goals as goal

pub returns-then-stops_at-clause-stops : goal.returns-then-stops_at-clause-stops
returns-then-stops_at-clause-stops g c v limit max past reached first given k none =
    let holds = g.F.NotesFile.holds in
    let hears = g.L.RepeatListener.hears in
    let loses = g.L.RepeatListener.loses in
    let self = c.args.self.now in
    let stops = self.stops in
    let room = self.room.items in
    let ahead = take c.args.taken room in
    let told = c.hear_front-count.new.told in
    let n = c.hear_front-count.result in
    let now = c.hear_front-count.new.self in
    let piece = take (c.args.len - c.args.taken) (drop c.args.taken c.deref.result.now) in
    let is = ap (λ (xs : List ℕ). take (c.args.len - c.args.taken) (drop c.args.taken xs)) c.deref.ensures.value in
    let w = compared_now holds hears loses v limit max past reached first stops given ahead self.compared (self.notes, self.listener) k in
    let next = c.hear_front-count.ensures.compared v limit max past reached (given ++ ahead) _ w in
    let asked = both stops (contradicts told.found) (sym c.stops_at.ensures ∙ c.if-stops_at.true) in
    subst (λ (behind : List ℕ). IsHanded holds hears loses v limit max past reached first stops given ahead behind now
    (self.notes, c.tell.new.listener))
    (rest_part c.args.taken n c.args.len room piece is (omega (arith, c.requires.0)))
    (stops_here holds hears loses v limit max past reached first stops given ahead self.compared (self.notes, self.listener) k
    (take n piece)
    (drop n piece) now told
    c.tell.new.listener
    (some_part c.args.taken n c.args.len room piece is c.hear_front-count.ensures.count.1 c.hear_front-count.ensures.count.0) next
    asked.0 asked.1 c.tell.ensures)

pub returns-clause-goes_on : goal.returns-clause-goes_on
returns-clause-goes_on g c v limit max past reached first given k =
    let holds = g.F.NotesFile.holds in
    let hears = g.L.RepeatListener.hears in
    let loses = g.L.RepeatListener.loses in
    let self = c.args.self.now in
    let stops = self.stops in
    let room = self.room.items in
    let ahead = take c.args.taken room in
    let told = c.hear_front-count.new.told in
    let n = c.hear_front-count.result in
    let now = c.hear_front-count.new.self in
    let piece = take (c.args.len - c.args.taken) (drop c.args.taken c.deref.result.now) in
    let is = ap (λ (xs : List ℕ). take (c.args.len - c.args.taken) (drop c.args.taken xs)) c.deref.ensures.value in
    let w = compared_now holds hears loses v limit max past reached first stops given ahead self.compared (self.notes, self.listener) k in
    let next = c.hear_front-count.ensures.compared v limit max past reached (given ++ ahead) _ w in
    let agreed = not_both stops (contradicts told.found) (sym c.stops_at.ensures ∙ c.if-stops_at.false) in
    subst (λ (xs : List ℕ). IsHanded holds hears loses v limit max past reached first stops given xs [] now (
      c.keep.new.notes,
      c.keep.new.listener,
    ))
    (next_part c.args.taken n c.args.len room piece is c.hear_front-count.ensures.count.0)
    (goes_on holds hears loses v limit max past reached first stops given ahead self.compared (self.notes, self.listener) k
    (take n piece) now told c.tell.new.listener (c.keep.new.notes, c.keep.new.listener)
    next agreed c.tell.ensures c.keep.ensures)
