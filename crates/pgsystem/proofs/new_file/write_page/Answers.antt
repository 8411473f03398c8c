use Rattle.std.proofs.Common.{List, ℕ, subst}
use Rattle.std.proofs.KnownBytes.{Appends-trans}
use Rattle.std.specs.Io.KnownBytes.{Appends}
use Rattle.pgsystem.proofs.NewPage.{headers, if_ok, whole}
use Rattle.pgsystem.proofs.new_file.write_page.Goals as goal

pub returns : goal.returns
returns g c = if_ok c.write_all-2.result _ _ (λ rest.
    subst (λ (bytes : List ℕ). Appends (g.W.Write.contents c.args.out.now) (g.W.Write.contents c.write_all-2.new.self) bytes) whole
    (Appends-trans _ _ _ headers _ c.in_ok-write_all.ensures.bytes rest)) c.write_all-2.ensures.bytes
