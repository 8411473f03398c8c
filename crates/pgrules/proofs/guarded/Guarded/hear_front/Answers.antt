use Rattle.std.proofs.Common.{◌≡◌, ◌∙◌, ◌++◌, ◌-◌, ap, sym, subst, true≢false, true}
use Rattle.std.proofs.Common.{take, drop, List, ℕ, Option}
use Rattle.std.proofs.Common.{[], arith, refl}
use Rattle.std.specs.Option.{is_some}
use Rattle.pgrules.specs.declared.rules.Rule.{Rule}
use Rattle.pgrules.specs.Guarding.{IsGuarded, IsUnbroken}
use Rattle.pgrules.specs.Live.{IsWatched, list_of}
use Rattle.pgrules.proofs.Guards.{goes_on, goes_on_told, next_part, none_rule}
use Rattle.pgrules.proofs.Guards.{rest_part, some_part, stops_here, watched_now}
use Rattle.pgrules.proofs.guarded.Guarded.hear_front.Goals as goal
use Rattle.pgrules.proofs.guarded.Guarded.hear_front.Goals.{else-self-via-then-self+else-is_some}
use Rattle.pgrules.proofs.guarded.Guarded.hear_front.Goals.{else-self-via-else-self}

pub returns-then-is_some-clause-stops : goal.returns-then-is_some-clause-stops
returns-then-is_some-clause-stops g c v limit max first given most k none =
    let hears = g.L.FindingListener.hears in
    let room = c.args.buf.now in
    let ahead = take c.args.taken room in
    let n = c.hear_front-count.result.count in
    let piece = take (c.args.len - c.args.taken) (drop c.args.taken room) in
    let w = watched_now hears v limit max first c.args.self.now.stops given ahead c.args.self.now.watch c.args.self.now.listener k in
    let next = c.hear_front-count.ensures.watched v limit max (given ++ ahead) k.well most w in
    let told = subst (λ o. IsWatched v limit max ((given ++ ahead) ++ take n piece) c.hear_front-count.new.self (k.well ++ list_of o))
    c.in-Some.is
    next in
    subst (λ (behind : List ℕ). IsGuarded hears v limit max first c.args.self.now.stops given ahead behind c.hear_front-count.new.self
    c.hear.new.self)
    (rest_part c.args.taken n c.args.len room piece refl (omega (arith, c.requires.0)))
    (stops_here hears v limit max first c.args.self.now.stops given ahead c.args.self.now.watch c.args.self.now.listener k (take n piece)
    (drop n piece) c.hear_front-count.new.self c.hear.new.self c.in-Some.found
    (some_part c.args.taken n c.args.len room piece refl c.hear_front-count.ensures.count.1 c.hear_front-count.ensures.count.0) told
    c.hear.ensures
    c.if-self.true
    (ap (λ (o : Option Rule). is_some o) (sym c.broken.ensures) ∙ sym c.is_some.ensures ∙ c.if-is_some.true))

pub returns-else-self-clause-goes_on : goal.returns-else-self-clause-goes_on
returns-else-self-clause-goes_on g c v limit max first given most k =
    let hears = g.L.FindingListener.hears in
    let room = c.args.buf.now in
    let ahead = take c.args.taken room in
    let n = c.hear_front-count.result.count in
    let piece = take (c.args.len - c.args.taken) (drop c.args.taken room) in
    let w = watched_now hears v limit max first c.args.self.now.stops given ahead c.args.self.now.watch c.args.self.now.listener k in
    let next = c.hear_front-count.ensures.watched v limit max (given ++ ahead) k.well most w in
    let told = subst (λ o. IsWatched v limit max ((given ++ ahead) ++ take n piece) c.hear_front-count.new.self (k.well ++ list_of o))
    c.in-Some.is
    next in
    let unbroken : c.args.self.now.stops ≡ true → IsUnbroken c.in-Some.found =
    elim c.else-self.branch [
      | else-self-via-then-self+else-is_some b ↦
          λ asked. sym b.broken.ensures ∙ none_rule b.broken.result (sym b.is_some.ensures ∙ b.if-is_some.false)
      | else-self-via-else-self b ↦ λ asked. absurd (true≢false (sym asked ∙ b.if-self.false))
    ] in
    subst (λ (xs : List ℕ). IsGuarded hears v limit max first c.args.self.now.stops given xs [] c.hear_front-count.new.self c.hear.new.self)
    (next_part c.args.taken n c.args.len room piece refl c.hear_front-count.ensures.count.0)
    (goes_on_told hears v limit max first c.args.self.now.stops given ahead c.args.self.now.watch c.args.self.now.listener k (take n piece)
    c.hear_front-count.new.self c.hear.new.self c.in-Some.found told c.hear.ensures unbroken)

pub returns-in_default-clause-goes_on : goal.returns-in_default-clause-goes_on
returns-in_default-clause-goes_on g c v limit max first given most k =
    let hears = g.L.FindingListener.hears in
    let room = c.args.buf.now in
    let ahead = take c.args.taken room in
    let n = c.hear_front-count.result.count in
    let piece = take (c.args.len - c.args.taken) (drop c.args.taken room) in
    let w = watched_now hears v limit max first c.args.self.now.stops given ahead c.args.self.now.watch c.args.self.now.listener k in
    let next = c.hear_front-count.ensures.watched v limit max (given ++ ahead) k.well most w in
    let told = subst (λ o. IsWatched v limit max ((given ++ ahead) ++ take n piece) c.hear_front-count.new.self (k.well ++ list_of o))
    c.in_default.is next in
    subst (λ (xs : List ℕ). IsGuarded hears v limit max first c.args.self.now.stops given xs [] c.hear_front-count.new.self
    c.args.self.now.listener)
    (next_part c.args.taken n c.args.len room piece refl c.hear_front-count.ensures.count.0)
    (goes_on hears v limit max first c.args.self.now.stops given ahead c.args.self.now.watch c.args.self.now.listener k (take n piece)
    c.hear_front-count.new.self told)
