use Rattle.std.proofs.Common.{◌≡◌, ◌<◌, length, vec_capacity, ◌+◌, ◌-◌, ◌++◌, ℕ, List, arith, take}
use Rattle.std.proofs.Common.{drop, min, true, false, Option, Some, None, Result, Ok, Err, OnErr}
use Rattle.std.proofs.Common.{length-append, ap, sym, ◌∙◌, subst}
use Rattle.std.specs.Result.{is_ok}
use Rattle.std.proofs.lemmas.List.{length-take, length-drop}
use Rattle.pgwire.specs.declared.fault.WireFault.TheVariants.{Memory}
use Rattle.pgwire.specs.Deframed.{Deframed, IsFed, payload_come}
use Rattle.pgwire.specs.Held.{come}
use Rattle.pgwire.proofs.Holding.{IsStep, fed_ok, fed_header, fed_memory, fed_again}
use Rattle.pgwire.proofs.Holding.{payload_counted}
use Rattle.pgwire.proofs.deframer.Deframer.feed.Goals as goal

when_refused : {E : Type 0} (result : Result (Unit {0}) E) (P : Type 0) → OnErr result P → is_ok result ≡ false → P
when_refused (Ok done) P h refused = absurd cc
when_refused (Err e) P h refused = h

none_and_some : {X : Type 0} (o : Option X) (x : X) → o ≡ None → o ≡ Some x → ⊥
none_and_some o x none some = cc

pub returns-in-Some-clause-fed : goal.returns-in-Some-clause-fed
returns-in-Some-clause-fed c =
    let d = c.self.inside in
    let piece = c.args.piece.now in
    let family : Deframed → Type 0 = λ x. IsFed x piece (Err c.in-Some.fault) x in
    subst family c.self.view_is
    (fed_again d.max_frame d.header d.payload.items piece d.done d.fault (vec_capacity d.payload) c.in-Some.fault c.in-Some.is
    c.self.invariant)

pub returns-then-more-eq0-clause-fed : goal.returns-then-more-eq0-clause-fed
returns-then-more-eq0-clause-fed c =
    let d = c.self.inside in
    let next = c.in-Ok.next in
    let piece = c.args.piece.now in
    let step : IsStep d.max_frame d.header next.0 d.payload.items piece d.done c.self.invariant.payload_len next.1 c.min-more.result =
    record {
      with_piece = c.in-Ok.ensures.0;
      was = c.self.invariant.good;
      is = c.in-Ok.ensures.1;
      within = c.self.invariant.within;
      last = c.self.invariant.last;
      empty = c.in-Ok.ensures.2;
      count = omega (arith, c.min-more.ensures, c.len.ensures);
    } in
    let new : Deframed = record
    { max = d.max_frame; held = come next.0 ++ d.payload.items; done = d.done; fault = d.fault; room = vec_capacity d.payload } in
    let family : Deframed → Type 0 = λ x. IsFed x piece (Ok (next.0.len - d.header.len)) new in
    subst family c.self.view_is
    (fed_header d.max_frame d.header next.0 d.payload.items piece d.done c.self.invariant.payload_len next.1 c.min-more.result d.fault
    (vec_capacity d.payload) c.in_default.is step c.if-more-eq0.true)

pub returns-then-is_err-clause-fed : goal.returns-then-is_err-clause-fed
returns-then-is_err-clause-fed c =
    let d = c.self.inside in
    let next = c.in-Ok.next in
    let piece = c.args.piece.now in
    let step : IsStep d.max_frame d.header next.0 d.payload.items piece d.done c.self.invariant.payload_len next.1 c.min-more.result =
    record {
      with_piece = c.in-Ok.ensures.0;
      was = c.self.invariant.good;
      is = c.in-Ok.ensures.1;
      within = c.self.invariant.within;
      last = c.self.invariant.last;
      empty = c.in-Ok.ensures.2;
      count = omega (arith, c.min-more.ensures, c.len.ensures);
    } in
    let refused : is_ok c.append.result ≡ false = c.if-is_err.ensures.negation in
    let same = rw refused at c.append.ensures.items in
    let fed = fed_memory d.max_frame d.header next.0 d.payload.items piece d.done c.self.invariant.payload_len next.1 c.min-more.result
    d.fault (vec_capacity d.payload) c.in_default.is step (omega arith) in
    let held : List ℕ → ℕ → Deframed =
    λ payload room. record { max = d.max_frame; held = come d.header ++ payload; done = d.done; fault = d.fault; room = room } in
    let was = held d.payload.items (vec_capacity d.payload) in
    let room = when_refused c.append.result (vec_capacity c.append.new.payload ≡ vec_capacity d.payload) c.append.ensures.err refused in
    let family : Deframed → Type 0 =
    λ x. IsFed x piece (Err Memory) (held c.append.new.payload.items (vec_capacity c.append.new.payload)) in
    let grown : List ℕ → Type 0 = λ payload. IsFed was piece (Err Memory) (held payload (vec_capacity c.append.new.payload)) in
    let with_room : ℕ → Type 0 = λ r. IsFed was piece (Err Memory) (held d.payload.items r) in
    subst family c.self.view_is (subst grown (sym same) (subst with_room (sym room) fed))

pub returns-then-is_err-clause-full : goal.returns-then-is_err-clause-full
returns-then-is_err-clause-full c = λ memory.
    let d = c.self.inside in
    let next = c.in-Ok.next in
    let piece = c.args.piece.now in
    let step : IsStep d.max_frame d.header next.0 d.payload.items piece d.done c.self.invariant.payload_len next.1 c.min-more.result =
    record {
      with_piece = c.in-Ok.ensures.0;
      was = c.self.invariant.good;
      is = c.in-Ok.ensures.1;
      within = c.self.invariant.within;
      last = c.self.invariant.last;
      empty = c.in-Ok.ensures.2;
      count = omega (arith, c.min-more.ensures, c.len.ensures);
    } in
    let counted = payload_counted d.max_frame d.header next.0 d.payload.items piece d.done c.self.invariant.payload_len next.1
    c.min-more.result step (omega arith) in
    let refused : is_ok c.append.result ≡ false = c.if-is_err.ensures.negation in
    let full = when_refused c.append.result _ c.append.ensures.full refused in
    let family : Deframed → Type 0 = λ x. x.room < payload_come (x.held ++ piece) in
    subst family c.self.view_is (omega arith)

pub returns-clause-fed : goal.returns-clause-fed
returns-clause-fed c =
    let d = c.self.inside in
    let next = c.in-Ok.next in
    let piece = c.args.piece.now in
    let more = c.min-more.result in
    let count = next.0.len - d.header.len in
    let step : IsStep d.max_frame d.header next.0 d.payload.items piece d.done c.self.invariant.payload_len next.1 more = record {
      with_piece = c.in-Ok.ensures.0;
      was = c.self.invariant.good;
      is = c.in-Ok.ensures.1;
      within = c.self.invariant.within;
      last = c.self.invariant.last;
      empty = c.in-Ok.ensures.2;
      count = omega (arith, c.min-more.ensures, c.len.ensures);
    } in
    let taken : is_ok c.append.result ≡ true = c.if-is_err.ensures.negation in
    let appended = rw taken at c.append.ensures.items in
    let long : count + more - count ≡ more = omega arith in
    let same : c.append.new.payload.items ≡ d.payload.items ++ take more (drop count piece) =
    appended ∙ ap (λ n. d.payload.items ++ take n (drop count piece)) long in
    let fed = fed_ok d.max_frame d.header next.0 d.payload.items piece d.done c.self.invariant.payload_len next.1 more d.fault
    (vec_capacity d.payload) (vec_capacity c.append.new.payload) c.in_default.is step in
    let held : List ℕ → Deframed =
    λ payload. record {
      max = d.max_frame;
      held = come next.0 ++ payload;
      done = d.done;
      fault = d.fault;
      room = vec_capacity c.append.new.payload;
    } in
    let old : Deframed = record
    { max = d.max_frame; held = come d.header ++ d.payload.items; done = d.done; fault = d.fault; room = vec_capacity d.payload } in
    let family : Deframed → Type 0 = λ x. IsFed x piece (Ok (count + more)) (held c.append.new.payload.items) in
    let grown : List ℕ → Type 0 = λ payload. IsFed old piece (Ok (count + more)) (held payload) in
    subst family c.self.view_is (subst grown (sym same) fed)

pub invariant_of-self-2 : goal.invariant_of-self-2
invariant_of-self-2 c =
    let d = c.self.inside in
    let next = c.in-Ok.next in
    let piece = c.args.piece.now in
    let more = c.min-more.result in
    let count = next.0.len - d.header.len in
    let some : 0 < more = omega arith in
    let least : more ≡ min (next.1 - length d.payload.items) (length piece - count) = omega (arith, c.min-more.ensures, c.len.ensures) in
    let taken : is_ok c.append.result ≡ true = c.if-is_err.ensures.negation in
    let appended = rw taken at c.append.ensures.items in
    let long : count + more - count ≡ more = omega arith in
    let same : c.append.new.payload.items ≡ d.payload.items ++ take more (drop count piece) =
    appended ∙ ap (λ n. d.payload.items ++ take n (drop count piece)) long in
    let size : length c.append.new.payload.items ≡ length d.payload.items + length (take more (drop count piece)) =
    ap length same ∙ length-append d.payload.items (take more (drop count piece)) in
    record {
      payload_len = next.1;
      good = c.in-Ok.ensures.1;
      within = omega (arith, size, least, some, length-take more (drop count piece), length-drop count piece);
      last = λ done. absurd (omega (arith, ap length (c.in-Ok.ensures.2 done), least, some));
      waits = λ x is. absurd (none_and_some d.fault x c.in_default.is is);
    }
