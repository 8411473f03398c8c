-- What the parse of the words comes to.
use Rattle.std.proofs.Common.{◌≡◌, ◌∙◌, inl, inr, ⊎_elim, true, refl, sym, ap, subst, List, []}
use Rattle.std.proofs.Common.{Option, Some, None, unwrap_or}
use Rattle.std.specs.Option.{option_map}
use Rattle.clap.specs.Kinds.{HasKind, IsAmong}
use Rattle.clap.specs.Words.{App, HasMatchesOf, Row, Text, fault_of, is_simple, is_simple_and_free}
use Rattle.clap.specs.Words.{kind_of, subcommand_of, subcommand_rows_of}
use Rattle.clap.specs.declared.error.Error.{Error}
use Rattle.clap.specs.declared.parser.matches.ArgMatches.{ArgMatches}
use Rattle.clap.proofs.OnLiterals.{clap_on_literals}
use Rattle.pgcommand.specs.declared.fault.CommandFault.{CommandFault}
use Rattle.pgcommand.specs.declared.fault.CommandFault.TheVariants.{Usage, Memory}
use Rattle.clap.specs.declared.error.kind.ErrorKind.TheVariants.{InvalidValue}
use Rattle.clap.specs.declared.error.kind.ErrorKind.TheVariants.{MissingRequiredArgument}
use Rattle.pgcommand.specs.Asked.{IsCommandName, IsRefusalOf, IsUsage, LacksWord, MisnamesWatch}
use Rattle.pgcommand.specs.Asked.{pgsub_app}
use Rattle.pgcommand.proofs.Meeting.{names_one}

simple_pgsub : is_simple pgsub_app ≡ true
unfolding clap_on_literals
simple_pgsub = refl

free_pgsub : is_simple_and_free pgsub_app ≡ true
unfolding clap_on_literals
free_pgsub = refl

-- what holds of the matches
pub record IsParsed (words : List Text) (m : ArgMatches) : Type 0 where
  pub none : fault_of pgsub_app words ≡ []
  pub found : Text × List Row
  pub met : subcommand_rows_of m ≡ Some found
  pub is : subcommand_of pgsub_app words ≡ Some found
  pub named : IsCommandName found.0

pub parsed : (words : List Text) (app : App) (m : ArgMatches) → app ≡ pgsub_app → HasMatchesOf app words m
    → (is_simple_and_free app ≡ true → fault_of app words ≡ []) → IsParsed words m
parsed words app m same has free =
    let none = subst (λ (a : App). fault_of a words ≡ []) same (free (ap is_simple_and_free same ∙ free_pgsub)) in
    let one = names_one words none in
    record {
      none = none;
      found = one.0;
      met = (has (ap is_simple same ∙ simple_pgsub)).1 ∙ ap (λ (a : App). subcommand_of a words) same ∙ one.1;
      is = one.1;
      named = one.2;
    }

pub refused_as : (words : List Text) (app : App) (error : Error) (told : CommandFault) → app ≡ pgsub_app → IsUsage error told
    → (is_simple_and_free app ≡ true → HasKind (fault_of app words) error) → IsRefusalOf words told
refused_as words app error Memory same is kinds = tt
refused_as words app error (Usage told) same is kinds =
    let has = subst (λ (a : App). HasKind (fault_of a words) error) same (kinds (ap is_simple_and_free same ∙ free_pgsub)) in
    inl (subst (λ e. IsAmong (kind_of e) (fault_of pgsub_app words)) (sym is.0) (⊎_elim (λ e. absurd (is.1 e)) (λ a. a) has))

-- where a word is missing
pub refused_without : (words : List Text) (error : Error) (told : CommandFault) → LacksWord words → kind_of error ≡ MissingRequiredArgument
    → IsUsage error told → IsRefusalOf words told
refused_without words error Memory lacks kind is = tt
refused_without words error (Usage told) lacks kind is = inr (inl (lacks, ap kind_of is.0 ∙ kind))

-- where a word isn't known
pub refused_misnamed : (words : List Text) (error : Error) (told : CommandFault) → MisnamesWatch words → kind_of error ≡ InvalidValue
    → IsUsage error told → IsRefusalOf words told
refused_misnamed words error Memory misnames kind is = tt
refused_misnamed words error (Usage told) misnames kind is = inr (inr (misnames, ap kind_of is.0 ∙ kind))

some-inj : {X : Type 0} {x y : X} → Some x ≡ Some y → x ≡ y
some-inj {X} {x} {y} e = ap (λ (o : Option X). unwrap_or o x) e

-- the subcommand that was met is the one that the words name
pub is_named : (words : List Text) (m : ArgMatches) (name : Text) (rows : List Row) (p : IsParsed words m)
    → subcommand_rows_of m ≡ Some (name, rows) → (subcommand_of pgsub_app words ≡ Some (name, rows)) × IsCommandName name
is_named words m name rows p e =
    let same : p.found ≡ (name, rows) = some-inj (sym p.met ∙ e) in
    (p.is ∙ ap Some same, subst (λ (q : Text × List Row). IsCommandName q.0) same p.named)

pub none_met : {A : Type 0} (words : List Text) (m : ArgMatches) (o : Option A) (f : A → List Row) → IsParsed words m → o ≡ None
    → option_map f o ≡ option_map (λ p. p.1) (subcommand_rows_of m) → ⊥
none_met words m o f p none rows =
    let e : option_map f None ≡ option_map (λ q. q.1) (Some p.found) =
    ap (option_map f) (sym none) ∙ rows ∙ ap (option_map (λ (q : Text × List Row). q.1)) p.met in
    cc
