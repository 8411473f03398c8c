use Rattle.pgsystem.proofs.NewPage.{new_page_is_empty}
use Rattle.pgruns.proofs.laws.new_files_are_empty.Goals as goal

pub returns : goal.returns
returns c = new_page_is_empty
