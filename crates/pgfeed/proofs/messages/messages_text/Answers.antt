use Rattle.std.proofs.Common.{◌≡◌, ◌+◌, ◌++◌, ◌∷◌, List, drop, ap, sym, ◌∙◌, string_bytes, rules}
use Rattle.std.proofs.lemmas.List.{drop_more}
use Rattle.pgledger.specs.declared.heard.Heard.{Heard}
use Rattle.pgfeed.specs.Texts.{message_line}
use Rattle.pgfeed.proofs.Heard.{one_more}
use Rattle.pgfeed.proofs.messages.messages_text.Goals as goal

pub loop-message-preserved : goal.loop-message-preserved
loop-message-preserved c =
    let all : List Heard = c.args.messages.now in
    let i = c.loop-message.message-index in
    let m : Heard = c.message-item.result in
    let split : drop i all ≡ m ∷ drop (i + 1) all =
    drop_more all i m c.loop-message-test.true ∙ ap (λ x. x ∷ drop (i + 1) all) (sym c.message-item.is) in
    let adds : string_bytes c.push_str.new.self ≡ string_bytes c.loop-message.text ++ message_line m = search rules in
    one_more _ _ _ (drop i all) m (drop (i + 1) all) c.loop-message.invariant split adds
