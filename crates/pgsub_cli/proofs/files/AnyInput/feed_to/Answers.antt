use Rattle.std.proofs.Common.{ap, sym, subst}
use Rattle.std.specs.FinMap as map
use Rattle.pgsub_core.specs.Subscriber.Subscribed.{Subscribed}
use Rattle.pgsub_core.specs.declared.pumping.Source.{Source}
use Rattle.pgsub_cli.specs.declared.files.Heard.{Heard}
use Rattle.pgsub_cli.proofs.FedBytes.{file_fed, file_stands, file_left}
use Rattle.pgsub_cli.proofs.LeftStores.{stands_read}
use Rattle.pgsub_cli.proofs.files.AnyInput.feed_to.Goals as goal

pub returns-clause-fed : goal.returns-clause-fed
returns-clause-fed g c serves =
    let new = c.new-source.ensures in
    file_fed g.C.ReplicaStore.holds g.C.ReplicaStore.place c.args.subscriber.now c.disconnect.new.self c.disconnect.ensures.store
    c.disconnect.ensures.state g.R.Read.remaining c.args.self
    (g.R.Read.remaining c.new-source.result.reader.reader) (g.R.Read.remaining c.pump.new.source.reader.reader) c.new-source.result.reads
    c.pump.new.source.reads c.pump.new.subscriber c.pump.result
    (ap (λ (s : Source (Heard g.row.R.Denot g.row.L.Denot)). g.R.Read.remaining s.reader.reader) new)
    (ap (λ (s : Source (Heard g.row.R.Denot g.row.L.Denot)). s.reads) new)
    (c.pump.ensures.fed serves) c.pump.ensures.read_out (c.pump.ensures.failed serves) (c.pump.ensures.refused serves)

pub returns-clause-served : goal.returns-clause-served
returns-clause-served g c serves = subst g.C.ReplicaStore.serves c.disconnect.ensures.store (c.pump.ensures.served serves)

pub returns-clause-stands : goal.returns-clause-stands
returns-clause-stands g c honest serves =
    let own = subst g.C.ReplicaStore.serves (sym c.disconnect.ensures.store) serves in
    stands_read g.C.ReplicaStore.place g.C.ReplicaStore.serves _ c.pump.new.subscriber c.pump.result
    (c.pump.ensures.still_serves honest own) (c.pump.ensures.failed_serves honest own) (returns-clause-fed g c)
    (file_stands g.C.ReplicaStore.holds g.C.ReplicaStore.place c.args.subscriber.now c.disconnect.new.self c.disconnect.ensures.store
    c.disconnect.ensures.state g.R.Read.remaining c.args.self (g.R.Read.remaining c.new-source.result.reader.reader)
    (g.R.Read.remaining c.pump.new.source.reader.reader) c.pump.new.subscriber
    (ap (λ (s : Source (Heard g.row.R.Denot g.row.L.Denot)). g.R.Read.remaining s.reader.reader) c.new-source.ensures) c.pump.result
    (c.pump.ensures.stands honest own (ap (λ (s : Subscribed). s.closed) (c.disconnect.ensures.state map.empty))))

pub returns-clause-left : goal.returns-clause-left
returns-clause-left g c honest =
    file_left g.C.ReplicaStore.holds g.C.ReplicaStore.place c.args.subscriber.now c.disconnect.new.self c.disconnect.ensures.store
    c.disconnect.ensures.state g.R.Read.remaining c.args.self (g.R.Read.remaining c.new-source.result.reader.reader)
    (g.R.Read.remaining c.pump.new.source.reader.reader) c.pump.new.subscriber
    (ap (λ (s : Source (Heard g.row.R.Denot g.row.L.Denot)). g.R.Read.remaining s.reader.reader) c.new-source.ensures)
    g.C.ReplicaStore.reopens g.C.ReplicaStore.serves (c.pump.ensures.crash honest)
