use Rattle.std.proofs.Common.{◌≡◌, ◌<◌, ap, sym, ◌∙◌, rules, arith, length, List, ℕ, string_bytes}
use Rattle.std.proofs.Common.{subst}
use Rattle.sqlite_disk.specs.Disk.{Only}
use Rattle.pgfeed.proofs.Calls.{head_keeps, head_lasts}
use Rattle.pgfeed.proofs.segment.Segment.create.Goals as goal

pub returns-clause-keeps : goal.returns-clause-keeps
returns-clause-keeps g c =
    let head : List ℕ = string_bytes c.in_ok-head.head in
    let is : c.as_str.result.now ≡ head = c.as_str.ensures.value in
    let size : length head ≡ 1024 = c.in_ok-head.ensures.size in
    let some : 0 < length c.as_str.result.now = omega (arith, ap length is) in
    let put = c.in_ok-put_head.ensures.put some in
    let file : g.D.Disk.seen c.of.result.disk ≡ head = ap g.D.Disk.seen c.of.ensures.disk ∙ put.0 ∙ is in
    head_keeps c.args.base _ _ _ _ head _ _ _ _ c.in_ok-head.ensures.head size (search rules) c.of.ensures.base c.of.ensures.last
    c.of.ensures.size c.of.ensures.untold file

pub returns-clause-lasts : goal.returns-clause-lasts
returns-clause-lasts g c =
    let head : List ℕ = string_bytes c.in_ok-head.head in
    let is : c.as_str.result.now ≡ head = c.as_str.ensures.value in
    let size : length head ≡ 1024 = c.in_ok-head.ensures.size in
    let some : 0 < length c.as_str.result.now = omega (arith, ap length is) in
    let put = c.in_ok-put_head.ensures.put some in
    let only : Only head (g.D.Disk.may_leave c.of.result.disk) =
    subst (λ d. Only head (g.D.Disk.may_leave d)) (sym c.of.ensures.disk)
    (subst (λ text. Only text (g.D.Disk.may_leave c.put_head.new.disk)) is put.1) in
    head_lasts c.args.base _ _ head _ _ _ _ c.in_ok-head.ensures.head size (search rules) c.of.ensures.base c.of.ensures.size only

pub returns-clause-told : goal.returns-clause-told
returns-clause-told g c =
    let head : List ℕ = string_bytes c.in_ok-head.head in
    let is : c.as_str.result.now ≡ head = c.as_str.ensures.value in
    let some : 0 < length c.as_str.result.now = omega (arith, ap length is, c.in_ok-head.ensures.size) in
    let put = c.in_ok-put_head.ensures.put some in
    ap g.D.Disk.seen c.of.ensures.disk ∙ put.0 ∙ is ∙ c.in_ok-head.ensures.head
