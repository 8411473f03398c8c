use Rattle.std.proofs.Common.{◌≡◌, vec_capacity, arith, length, None, sym, ◌∙◌, ⊎_elim}
use Rattle.std.proofs.lemmas.List.{get_or-take}
use Rattle.pgwire.specs.Frames.{tag_of}
use Rattle.pgwire.specs.Held.{come}
use Rattle.pgwire.proofs.Holding.{data_stands, done_stands, no_fault_yet, same_payload_len}
use Rattle.pgwire.proofs.Holding.{length-come}
use Rattle.pgwire.proofs.deframer.Deframer.whole.Goals as goal

pub returns-then-self-eq-COPY_DONE_TAG : goal.returns-then-self-eq-COPY_DONE_TAG
returns-then-self-eq-COPY_DONE_TAG c =
    let d = c.self.inside in
    let n = c.in-Ok.payload_len in
    let five : d.header.len ≡ 5 = omega (arith, d.header.within) in
    let same = same_payload_len d.max_frame n c.self.invariant.payload_len (come d.header) c.in-Ok.ensures c.self.invariant.good
    (omega (arith, length-come d.header)) in
    let size : length d.payload.items ≡ n = omega (arith, same, c.self.invariant.within) in
    let none : d.fault ≡ None = no_fault_yet d.fault (λ x e. omega (arith, (c.self.invariant.waits x e).1 five)) in
    let tag : tag_of (come d.header) ≡ 99 = get_or-take d.header.len d.header.bytes 0 0 (omega arith) ∙ c.if-self-eq-COPY_DONE_TAG.true in
    rw (← c.self.view_is) (done_stands d.max_frame n d.header d.payload.items d.done d.fault (vec_capacity d.payload) none
    c.self.invariant.last c.in-Ok.ensures five size tag)

pub returns : goal.returns
returns c =
    let d = c.self.inside in
    let n = c.in-Ok.payload_len in
    let five : d.header.len ≡ 5 = omega (arith, d.header.within) in
    let same = same_payload_len d.max_frame n c.self.invariant.payload_len (come d.header) c.in-Ok.ensures c.self.invariant.good
    (omega (arith, length-come d.header)) in
    let size : length d.payload.items ≡ n = omega (arith, same, c.self.invariant.within) in
    let none : d.fault ≡ None = no_fault_yet d.fault (λ x e. omega (arith, (c.self.invariant.waits x e).1 five)) in
    let first = get_or-take d.header.len d.header.bytes 0 0 (omega arith) in
    let tag : tag_of (come d.header) ≡ 100 =
    ⊎_elim (λ is_data. is_data) (λ is_done. absurd (c.if-self-eq-COPY_DONE_TAG.false (sym first ∙ is_done)))
    (c.in-Ok.ensures.tag (omega (arith, length-come d.header))) in
    rw (← c.self.view_is, c.deref.ensures.value)
    (data_stands d.max_frame n d.header d.payload.items d.done d.fault (vec_capacity d.payload) none c.self.invariant.last
    c.in-Ok.ensures five size tag)
