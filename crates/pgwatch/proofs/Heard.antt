-- A message that comes in order is heard as it is meant.
use Rattle.std.proofs.Common.{◌≡◌, ◌≢◌, ℕ, Result, Ok, Err, sym, ap, ◌∙◌}
use Rattle.std.specs.Prelude.{IfOk, IfErr}
use Rattle.pglogical.specs.declared.message.Message.{Message as LogicalMessage}
use Rattle.pgorder.specs.declared.Event.{Event}
use Rattle.pgorder.specs.States.{StreamOrder}
use Rattle.pgorder.specs.Steps.{order_step}
use Rattle.pgwatch.specs.declared.fault.Breach.{Breach}
use Rattle.pgwatch.specs.declared.fault.Breach.TheVariants.{Memory}
use Rattle.pgwatch.specs.declared.watch.Watch.{Watch}
use Rattle.pgwatch.specs.Hearing.{Message, Hears, by_order, meant}

in_order : (w : Watch) (order : StreamOrder) (at : ℕ) (m : LogicalMessage) (event : Event)
    → order_step w.order.version w.order.state m ≡ Ok (order.state, event) → order.version ≡ w.order.version
    → by_order w at m (order_step w.order.version w.order.state m) ≡ meant (record w { order = order }) at m event
in_order w order at m event step same =
    ap (by_order w at m) step ∙ ap (λ v. meant (record w { order = record { version = v; state = order.state } }) at m event) (sym same)

pub heard : {A : Type 0} (w new : Watch) (order : StreamOrder) (at : ℕ) (m : LogicalMessage) (event : Event) (r : Result A Breach)
    → order_step w.order.version w.order.state m ≡ Ok (order.state, event) → order.version ≡ w.order.version
    → IfOk r (λ _. meant (record w { order = order }) at m event ≡ Ok new)
    → IfErr r (λ b. b ≢ Memory at → meant (record w { order = order }) at m event ≡ Err b)
    → Hears w (Message at m) new r
heard w new order at m event (Ok x) step same ok err = in_order w order at m event step same ∙ ok
heard w new order at m event (Err b) step same ok err = λ other. in_order w order at m event step same ∙ err other
