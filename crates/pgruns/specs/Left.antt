-- Files without bytes are as a run leaves them.
use Rattle.std.specs.Prelude.{[], refl}
use Rattle.pgstore.specs.Reopened.{IsAsLeft}
use Rattle.pgstore.proofs.Unwritten.{unwritten_are_left}

pub nothing_is_left : IsAsLeft (record { log = []; db = [] })
nothing_is_left = unwritten_are_left (record { log = []; db = [] }) refl
