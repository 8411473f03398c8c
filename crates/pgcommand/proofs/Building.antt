-- Commands that are built up, and what their matches give.
use Rattle.std.proofs.Common.{◌≡◌, ◌∙◌, ◌||◌, ◌↔◌, ◌≤◌, ◌<◌, ◌^◌, ℕ, true, false, refl, nat_eq, sym}
use Rattle.std.proofs.Common.{ap, ap₂, subst, arith, true≢false, List, Option, Some, None, Result}
use Rattle.std.proofs.Common.{Ok, Err, unwrap_or, Bor, Bool, ◌&&◌, not, codes}
use Rattle.std.specs.Option.{option_and_then, option_map, is_some}
use Rattle.std.proofs.lemmas.Bool.{eqb-true}
use Rattle.std.specs.Str.Parse.{IsNumeral, ParsesUnsigned, digits_value, without_leading_plus}
use Rattle.clap.specs.Words.{AddsArg, AddsSubcommand, App, ReadsOne, Row, Rule, first_of, rule_of}
use Rattle.clap.specs.Words.{with_rule, with_subcommand}
use Rattle.clap.specs.declared.builder.arg.Arg.{Arg}
use Rattle.clap.specs.declared.builder.command.Command.{Command}
use Rattle.pgcommand.specs.declared.watching.Watching.{Watching}
use Rattle.pgcommand.specs.Asked.{IsCommand, ReadsAsOne, ReadsIfGiven, ReadsOr, ReadsUpTo}
use Rattle.pgcommand.specs.Asked.{misnames_watch, watching_of}

pub none≢some : {X : Type 0} {x : X} → None ≡ Some x → ⊥
none≢some e = true≢false (sym (ap is_some e))

pub some-inj : {X : Type 0} {x y : X} → Some x ≡ Some y → x ≡ y
some-inj {X} {x} {y} e = ap (λ (o : Option X). unwrap_or o x) e

pub with_arg : (old new : Command) (a : Arg) (x : App) (r : Rule) → IsCommand x old → rule_of a ≡ r → a.global ≡ false → AddsArg old a new
    → IsCommand (with_rule x r) new
with_arg old new a x r is rule local adds =
    (adds.shape local ∙ ap₂ with_rule is.0 rule, adds.globals ∙ ap₂ (λ p q. p || q) is.1 local)

pub with_sub : (old new sub : Command) (x y : App) → IsCommand x old → IsCommand y sub → AddsSubcommand old sub new
    → IsCommand (with_subcommand x y.top) new
with_sub old new sub x y is is_sub adds =
    (adds.shape is_sub.1 ∙ ap₂ with_subcommand is.0 (ap (λ (a : App). a.top) is_sub.0), adds.globals ∙ ap₂ (λ p q. p || q) is.1 is_sub.1)

pub default_text : (o : Option (Bor (List ℕ))) (d : Bor (List ℕ)) → (unwrap_or o d).now ≡ unwrap_or (option_map (λ s. s.now) o) d.now
default_text None d = refl
default_text (Some s) d = refl

-- a number that is read by its text is 1 exactly where the text reads so
pub reads_as_one : (E : Type 0) (G : List ℕ → Result ℕ E → Type 0) (t : Option (List ℕ)) (r : Option ℕ)
    → ((u : List ℕ) (x : Result ℕ E) → G u x → ParsesUnsigned 8 10 u x) → (t ≡ None → r ≡ None)
    → ((u : List ℕ) → t ≡ Some u → ReadsOne G u r)
    → (r ≡ Some 1) ↔ ReadsAsOne t
reads_as_one E G None r only none value =
    (λ e. absurd (none≢some (sym (none refl) ∙ e)), λ h. absurd (none≢some h.1))
reads_as_one E G (Some u) (Some n) only none value =
    let parsed = only u (Ok n) (value u refl) in (
      λ e. (u, refl, parsed.0.0, sym parsed.1 ∙ some-inj e),
      λ h. let same = some-inj h.1 in
          ap Some (parsed.1 ∙ ap (λ text. digits_value 10 (without_leading_plus text)) same ∙ h.3),
    )
reads_as_one E G (Some u) None only none value =
    let failed = value u refl in (
      λ e. absurd (none≢some e),
      λ h. let same = some-inj h.1 in
          absurd (only u (Err failed.0) failed.1 (
            subst (λ text. IsNumeral 10 (without_leading_plus text)) (sym same) h.2,
            rw (ap (λ text. digits_value 10 (without_leading_plus text)) same ∙ h.3) (omega arith),
          )),
    )

pub pair_of : {X A B : Type 0} (o : Option X) (f : X → A) (g : X → B) (a : A) (b : B) → Some a ≡ option_map f o
    → Some b ≡ option_map (λ (p : A × B). p.1) (option_map {U = A × B} (λ x. (f x, g x)) o)
    → option_map {U = A × B} (λ x. (f x, g x)) o ≡ Some (a, b)
pair_of None f g a b ea eb = absurd (none≢some (sym ea))
pair_of (Some x) f g a b ea eb = ap₂ (λ p q. Some (p, q)) (sym (some-inj ea)) (sym (some-inj eb))

pub is_one : (r : Option ℕ) (n : ℕ) (P : Type 0) → r ≡ Some n → ((r ≡ Some 1) ↔ P) → (nat_eq n 1 ≡ true) ↔ P
is_one r n P is both =
    (λ e. both.0 (is ∙ ap Some (eqb-true n 1 e)), λ h. rw (some-inj (sym is ∙ both.1 h)) refl)

pub none_is_not_one : (r : Option ℕ) (P : Type 0) → r ≡ None → ((r ≡ Some 1) ↔ P) → (false ≡ true) ↔ P
none_is_not_one r P is both =
    (λ e. absurd (true≢false (sym e)), λ h. absurd (none≢some (sym is ∙ both.1 h)))

-- a number that is read by its text is what the text reads as, where that is at most so much
pub reads_up_to : (E : Type 0) (G : List ℕ → Result ℕ E → Type 0) (k most : ℕ) (t : Option (List ℕ)) (r : Option ℕ) → most < 2 ^ k
    → ((u : List ℕ) (x : Result ℕ E) → G u x → ParsesUnsigned k 10 u x) → ((u : List ℕ) → t ≡ Some u → ReadsOne G u r)
    → (n : ℕ) → ((m : ℕ) → r ≡ Some m → m ≤ most → n ≡ m) → ReadsUpTo most t n
reads_up_to E G k most t (Some m) below only value n is text same numeral small =
    let parsed = only text (Ok m) (value text same) in
    is m refl (rw parsed.1 small) ∙ parsed.1
reads_up_to E G k most t None below only value n is text same numeral small =
    let failed = value text same in
    absurd (only text (Err failed.0) failed.1 (numeral, omega (arith, small, below)))

-- the same of a number that need not be given
pub reads_or : (E : Type 0) (G : List ℕ → Result ℕ E → Type 0) (k most default : ℕ) (t : Option (List ℕ)) (r : Option ℕ) → most < 2 ^ k
    → ((u : List ℕ) (x : Result ℕ E) → G u x → ParsesUnsigned k 10 u x) → (t ≡ None → r ≡ None)
    → ((u : List ℕ) → t ≡ Some u → ReadsOne G u r)
    → ReadsOr default most t (unwrap_or r default)
reads_or E G k most default None r below only none value = ap (λ (o : Option ℕ). unwrap_or o default) (none refl)
reads_or E G k most default (Some u) r below only none value =
    reads_up_to E G k most (Some u) r below only value (unwrap_or r default) (λ m e small. ap (λ (o : Option ℕ). unwrap_or o default) e)

-- and the same where it is none then
pub reads_if_given : (E : Type 0) (G : List ℕ → Result ℕ E → Type 0) (k most : ℕ) (t : Option (List ℕ)) (r : Option ℕ) → most < 2 ^ k
    → ((u : List ℕ) (x : Result ℕ E) → G u x → ParsesUnsigned k 10 u x) → (t ≡ None → r ≡ None)
    → ((u : List ℕ) → t ≡ Some u → ReadsOne G u r)
    → ReadsIfGiven most t r
reads_if_given E G k most None r below only none value = none refl
reads_if_given E G k most (Some u) (Some m) below only none value = λ numeral small. ap Some (only u (Ok m) (value u refl)).1
reads_if_given E G k most (Some u) None below only none value = λ numeral small.
    let failed = value u refl in
    absurd (only u (Err failed.0) failed.1 (numeral, omega (arith, small, below)))

pub is_some_text : (o : Option (Bor (List ℕ))) → is_some o ≡ is_some (option_map (λ s. s.now) o)
is_some_text None = refl
is_some_text (Some s) = refl

-- ---- the word of `--watch`

abbrev misnames : Option (List ℕ) → Bool
misnames o = is_some o && not (is_some (option_and_then watching_of o))

pub not_given : (rows : List Row) → None ≡ first_of (codes "watch") rows → false ≡ misnames_watch rows
not_given rows none = ap misnames none

pub well_named : (rows : List Row) (word : List ℕ) (how : Watching) → Some word ≡ first_of (codes "watch") rows → watching_of word ≡ Some how
    → false ≡ misnames_watch rows
well_named rows word how given says = ap (λ (o : Option Watching). not (is_some o)) (sym says) ∙ ap misnames given

pub misnamed : (rows : List Row) (word : List ℕ) → Some word ≡ first_of (codes "watch") rows → watching_of word ≡ None
    → true ≡ misnames_watch rows
misnamed rows word given says = ap (λ (o : Option Watching). not (is_some o)) (sym says) ∙ ap misnames given
