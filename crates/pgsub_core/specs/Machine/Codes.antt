-- The code of what a subscriber is seen as.
use Rattle.std.specs.Prelude.{ℕ, List, Bool, refl}
use Rattle.std.specs.Coded.{Coded, code_by, coded×, coded_ℕ, coded_bool, coded_list}
use Rattle.std.specs.FinMap as map
use Rattle.pglogical.specs.contracts.message.Item as item
use Rattle.pglogical.specs.contracts.message.RelationDef as definition
use Rattle.pgorder.specs.contracts.Version as version
use Rattle.pgorder.specs.declared.Version.{Version}
use Rattle.pgorder.specs.States.{order_state_code}
use Rattle.pgorder.specs.Steps.{OrderState}
use Rattle.pgspool.specs.Labels.{HeldMap}
use Rattle.pgapply.specs.Codes.{tables_code}
use Rattle.pgapply.specs.Value.{Tables}
use Rattle.pgsub_core.specs.Machine.Replica.{RelationCache}
use Rattle.pgsub_core.specs.Subscriber.Subscribed.{Subscribed}

abbrev pub held_code : Coded HeldMap
held_code = map.code coded_ℕ (coded_list (coded× coded_ℕ item.the_row.coded))

abbrev pub relations_code : Coded RelationCache
relations_code = map.code coded_ℕ definition.the_row.coded

-- what a disconnection keeps, and what it forgets
abbrev Kept : Type 0
Kept = Tables × (ℕ × (ℕ × (Version × (ℕ × ℕ))))

abbrev Forgotten : Type 0
Forgotten = ℕ × (Bool × (OrderState × (HeldMap × (RelationCache × (List ℕ × (Bool × List ℕ))))))

abbrev kept_code : Coded Kept
kept_code = coded× tables_code (coded× coded_ℕ (coded× coded_ℕ (coded× version.the_row.coded (coded× coded_ℕ coded_ℕ))))

abbrev forgotten_code : Coded Forgotten
forgotten_code = coded× coded_ℕ
    (coded× coded_bool (coded× order_state_code
    (coded× held_code (coded× relations_code (coded× (coded_list coded_ℕ) (coded× coded_bool (coded_list coded_ℕ)))))))

abbrev kept_of : Subscribed → Kept
kept_of s = (s.tables, (s.position, (s.confirmed, (s.version, (s.max_frame, s.limit)))))

abbrev forgotten_of : Subscribed → Forgotten
forgotten_of s = (s.received, (s.closed, (s.order, (s.held, (s.relations, (s.partial, (s.copy_done, s.replies)))))))

abbrev of_both : Kept × Forgotten → Subscribed
of_both p = record {
  tables = p.0.0;
  position = p.0.1.0;
  confirmed = p.0.1.1.0;
  version = p.0.1.1.1.0;
  max_frame = p.0.1.1.1.1.0;
  limit = p.0.1.1.1.1.1;
  received = p.1.0;
  closed = p.1.1.0;
  order = p.1.1.1.0;
  held = p.1.1.1.1.0;
  relations = p.1.1.1.1.1.0;
  partial = p.1.1.1.1.1.1.0;
  copy_done = p.1.1.1.1.1.1.1.0;
  replies = p.1.1.1.1.1.1.1.1;
}

abbrev pub subscribed_code : Coded Subscribed
subscribed_code = code_by (Kept × Forgotten) (coded× kept_code forgotten_code) (λ s. (kept_of s, forgotten_of s)) of_both (λ _. refl)
