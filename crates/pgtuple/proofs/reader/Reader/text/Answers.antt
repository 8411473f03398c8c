use Rattle.pgtuple.proofs.Readers.{text_read, text_refused}
use Rattle.pgtuple.proofs.reader.Reader.text.Goals as goal

pub returns-in-Some : goal.returns-in-Some
returns-in-Some c = text_read c.args.count c.args.self.now c.in_ok-bytes.bytes.now c.in-Some.text.now c.bytes.new.self
    c.in_ok-bytes.ensures.read c.in-Some.ensures.0 c.in-Some.ensures.1

pub returns-in-None : goal.returns-in-None
returns-in-None c = rw c.offset-offset.ensures
    (text_refused c.args.count c.args.self.now c.in_ok-bytes.bytes.now c.bytes.new.self c.in_ok-bytes.ensures.read c.in-None.ensures)
