-- The example is one.
use Rattle.std.proofs.Common.{◌++◌, List, [], ◌∷◌, None, inl, refl, arith}
use Rattle.pglogical.specs.declared.message.Item.{Item}
use Rattle.pglogical.specs.declared.message.Item.TheVariants.{Relation, Insert, Truncate}
use Rattle.pgorder.specs.declared.Version.TheVariants.{Two}
use Rattle.pgsub_core.specs.Server.Stream.{messages_in}
use Rattle.pgsub_core.specs.Server.Delivers.{Delivers}
use Rattle.pgadding.specs.Around.{IsAround}
use Rattle.pgadding.specs.Worked.{t, u, row, adding_t, below, above, session, IsExample}
use Rattle.pgadding.proofs.Ordered.{InOrder, shaped}

around : IsAround adding_t.point [] below above
around = record {
  history = (
    omega arith,
    omega arith,
    (tt, refl, (tt, refl, (tt, refl, (tt, refl, tt)))),
    (refl, tt),
    (omega arith, omega arith, (tt, refl, tt), (refl, tt), tt),
  );
  some = omega arith;
  stored = tt;
  seen = (omega arith, tt);
  unseen = (omega arith, tt);
}

order : InOrder None (messages_in session)
order = (tt, (tt, (tt, (tt, (tt, (tt, (tt, (refl, (tt, (tt, (refl, tt)))))))))))

items_seen : List Item
items_seen = Relation t ∷ Relation u ∷ Insert 16384 (row 49) ∷ Insert 16385 (row 50) ∷ Truncate 0 (16384 ∷ 16385 ∷ [])
    ∷ Truncate 0 (16384 ∷ []) ∷ []

delivered : Delivers Two (below ++ above) 900 session
unfolding items_seen
delivered = record {
  shaped = shaped Two (messages_in session) order;
  commits = (
    ((λ _. omega arith), ((λ _. omega arith), tt)),
    (
      ((λ _. omega arith), ((λ _. omega arith), tt)),
      (
        [],
        _,
        above,
        items_seen,
        refl,
        tt,
        (refl, refl, refl, refl, refl),
        refl,
        (
          ((λ _. omega arith), tt),
          (
            ((λ _. omega arith), tt),
            (((λ _. omega arith), tt), ([], _, [], Insert 16384 (row 51) ∷ [], refl, tt, (refl, refl, refl, refl, refl), refl, tt)),
          ),
        ),
      ),
    ),
  );
}

pub is_example : IsExample
is_example = record {
  around = around;
  whole = record {
    delivered = delivered;
    whole = (tt, (tt, (tt, (tt, (tt, (tt, (tt, (tt, (tt, (tt, (tt, tt)))))))))));
    ends = refl;
    read = (
      (omega arith, (tt, (tt, (tt, (tt, (tt, (tt, (tt, (omega arith, (tt, (tt, tt))))))))))),
      ((omega arith, (tt, (tt, tt))), ((omega arith, (tt, (tt, tt))), tt)),
    );
  };
  keeps = inl refl;
}
