-- Words without a fault name one of the commands.
use Rattle.std.proofs.Common.{◌≡◌, ◌∙◌, ◌&&◌, ◌||◌, ◌⊎◌, inl, inr, ℕ, not, Bool, true, false, cond}
use Rattle.std.proofs.Common.{refl, sym, ap, subst, List, [], ◌∷◌, ◌++◌, Option, Some, None, codes}
use Rattle.std.proofs.Common.{true≢false}
use Rattle.std.specs.Prelude.{find, fold, option_map, is_some, bytes_eq}
use Rattle.std.proofs.lemmas.Slice.Eq.{bytes_eq-Decides}
use Rattle.clap.specs.Kinds.{Kinds, check_kinds, or_else}
use Rattle.clap.specs.Faults.{built_fault, check_fault, defaults_fault, entered_fault, fault_of}
use Rattle.clap.specs.Faults.{other_fault, settle_fault, turn_fault, walk_fault, word_fault}
use Rattle.clap.specs.Simple.{App, Shape, argument_words, built, entered, label_of, names_of}
use Rattle.clap.specs.Simple.{rows_at, subcommand_of}
use Rattle.clap.specs.Walk.{Held, Names, Outcome, done, waits, plain, refused, Row, Rule, Step}
use Rattle.clap.specs.Walk.{next, trailing, subcommand, value, Text, Waiting, idle, option}
use Rattle.clap.specs.Walk.{positional, Walk, after_flag, after_step, answers_to, arg_by_index}
use Rattle.clap.specs.Walk.{finished, long_or_other, nothing_held, plain_word, settled}
use Rattle.clap.specs.Walk.{short_or_plain, subcommand_met, subcommand_or_other, to_positional}
use Rattle.clap.specs.Walk.{walk, walk_from, walked, word_met}
use Rattle.clap.specs.Lexer.{long_of, short_of}
use Rattle.clap.proofs.OnLiterals.{clap_on_literals}
use Rattle.pgcommand.specs.Asked.{IsCommandName, pgsub_app}

none_first : (a b : Kinds) → or_else a b ≡ [] → (a ≡ []) × (b ≡ [])
none_first [] b e = (refl, e)
none_first (k ∷ ks) b e = absurd (cc)

-- ---- a walk without a fault doesn't stop at `help`

abbrev IsNotHelp : Option (Text × List Text) → Type 0
IsNotHelp None = Unit {0}
IsNotHelp (Some p) = bytes_eq p.0 (codes "help") ≡ false

abbrev NamesNoHelp : Step → Type 0
NamesNoHelp (subcommand name) = bytes_eq name (codes "help") ≡ false
NamesNoHelp (next waiting) = Unit {0}
NamesNoHelp (trailing position) = Unit {0}
NamesNoHelp value = Unit {0}

plain_step : (c : List Rule) (waiting : Waiting) (word : Text) (h : Held) → NamesNoHelp (plain_word c waiting word h).1
plain_step c (option id) word h = tt
plain_step c idle word h = tt
plain_step c positional word h = tt

flag_step : (c : List Rule) (waiting : Waiting) (word : Text) (h : Held) (o : Outcome) → NamesNoHelp (after_flag c waiting word h o).1
flag_step c waiting word h done = tt
flag_step c waiting word h (waits id) = tt
flag_step c waiting word h plain = plain_step c waiting word h
flag_step c waiting word h refused = plain_step c waiting word h

short_step : (c : List Rule) (waiting : Waiting) (word : Text) (flags : Option Text) (h : Held)
    → NamesNoHelp (short_or_plain c waiting word flags h).1
short_step c waiting word (Some flags) h = flag_step c waiting word _ _
short_step c waiting word None h = plain_step c waiting word h

long_step : (c : List Rule) (waiting : Waiting) (word : Text) (p : Option (Text × Option Text)) (h : Held)
    → NamesNoHelp (long_or_other c waiting word p h).1
long_step c waiting word (Some p) h = flag_step c waiting word _ _
long_step c waiting word None h = short_step c waiting word (short_of word) h

not_help : (b off : Bool) (kinds : Kinds) → off ≡ false → (kinds ≡ [] → ⊥) → cond (b && not off) kinds [] ≡ [] → b ≡ false
not_help false off kinds has some none = refl
not_help true false kinds has some none = absurd (some none)
not_help true true kinds has some none = absurd (true≢false has)

dashes_step : (b : Bool) (c : List Rule) (waiting : Waiting) (position : ℕ) (word : Text) (h : Held)
    → NamesNoHelp (cond b (h, trailing position) (long_or_other c waiting word (long_of word) h)).1
dashes_step true c waiting position word h = tt
dashes_step false c waiting position word h = long_step c waiting word (long_of word) h

other_step : (s : Shape) (name : Option Text) (waiting : Waiting) (position : ℕ) (word : Text) (h : Held)
    → s.disable_help_subcommand ≡ false → other_fault s name word h ≡ []
    → NamesNoHelp (subcommand_or_other s.rules name waiting position word h).1
other_step s (Some name) waiting position word h has none =
    not_help (bytes_eq name (codes "help")) s.disable_help_subcommand _ has (λ e. cc) none
other_step s None waiting position word h has none = dashes_step (bytes_eq word (45 ∷ 45 ∷ [])) s.rules waiting position word h

met_step : (s : Shape) (names : Names) (is_trailing : Bool) (waiting : Waiting) (position : ℕ) (word : Text) (h : Held)
    → s.disable_help_subcommand ≡ false → word_fault s names is_trailing waiting word h ≡ []
    → NamesNoHelp (word_met s.rules names is_trailing waiting position word h).1
met_step s names true waiting position word h has none = tt
met_step s names false waiting position word h has none = other_step s (subcommand_met names waiting word) waiting position word h has none

placed : (c : List Rule) (a : Option Rule) (word : Text) (w : Walk) (h : Held) → w.stopped ≡ None
    → IsNotHelp (to_positional c a word w h).stopped
placed c None word w h going = subst IsNotHelp (sym going) tt
placed c (Some a) word w h going = tt

step_stops : (c : List Rule) (word : Text) (w : Walk) (h : Held) (step : Step) → w.stopped ≡ None → NamesNoHelp step
    → IsNotHelp (after_step c word w h step).stopped
step_stops c word w h (next waiting) going it = subst IsNotHelp (sym going) tt
step_stops c word w h (trailing position) going it = subst IsNotHelp (sym going) tt
step_stops c word w h (subcommand name) going it = it
step_stops c word w h value going it = placed c (arg_by_index c w.position) word w h going

-- the walk over one word, by where it stands
turn_stops : (s : Shape) (names : Names) (word : Text) (held : Held) (waiting : Waiting) (position : ℕ) (is_trailing : Bool)
    → s.disable_help_subcommand ≡ false
    → turn_fault s names (record { held = held; waiting = waiting; position = position; is_trailing = is_trailing; stopped = None }) word
    ≡ []
    → IsNotHelp (walked s.rules names
    (record { held = held; waiting = waiting; position = position; is_trailing = is_trailing; stopped = None }) word).stopped
unfolding walked
turn_stops s names word held waiting position is_trailing has none =
    step_stops s.rules word (record { held = held; waiting = waiting; position = position; is_trailing = is_trailing; stopped = None }) _ _
    refl
    (met_step s names is_trailing waiting position word held has (none_first _ _ none).0)

-- where it stopped it stays
stays : (c : List Rule) (names : Names) (words : List Text) (w : Walk) (p : Text × List Text) → w.stopped ≡ Some p
    → bytes_eq p.0 (codes "help") ≡ false → IsNotHelp (fold (walked c names) w words).stopped
unfolding walked
stays c names [] w p stopped it = subst IsNotHelp (sym stopped) it
stays c names (word ∷ words) w p stopped it =
    stays c names words (walked c names w word) (p.0, p.1 ++ word ∷ [])
    (rw stopped refl) it

turn_here : (s : Shape) (names : Names) (word : Text) (v : Walk) → s.disable_help_subcommand ≡ false → v.stopped ≡ None
    → turn_fault s names v word ≡ [] → IsNotHelp (walked s.rules names v word).stopped
turn_here s names word v has e fault =
    let same : v ≡ record v { stopped = None } = ap (λ (o : Option (Text × List Text)). record v { stopped = o }) e in
    subst (λ (u : Walk). IsNotHelp (walked s.rules names u word).stopped) (sym same)
    (turn_stops s names word v.held v.waiting v.position v.is_trailing has
    (subst (λ (u : Walk). turn_fault s names u word ≡ []) same fault))

-- behind a word, where the walk goes on or has stopped
goes_or_stays : (c : List Rule) (names : Names) (words : List Text) (w : Walk) (o : Option (Text × List Text)) → w.stopped ≡ o
    → IsNotHelp w.stopped → (w.stopped ≡ None → IsNotHelp (fold (walked c names) w words).stopped)
    → IsNotHelp (fold (walked c names) w words).stopped
goes_or_stays c names words w None e it on = on e
goes_or_stays c names words w (Some p) e it on = stays c names words w p e (subst IsNotHelp e it)

walk_stops : (s : Shape) (names : Names) (words : List Text) (w : Walk) → s.disable_help_subcommand ≡ false → w.stopped ≡ None
    → walk_fault s names w words ≡ [] → IsNotHelp (fold (walked s.rules names) w words).stopped
unfolding walk_fault
walk_stops s names [] w has going none = subst IsNotHelp (sym going) tt
walk_stops s names (word ∷ words) w has going none =
    let two = none_first (turn_fault s names w word) (walk_fault s names (walked s.rules names w word) words) none in
    goes_or_stays s.rules names words (walked s.rules names w word) (walked s.rules names w word).stopped refl
    (turn_here s names word w has going two.0)
    (λ e. walk_stops s names words (walked s.rules names w word) has e two.1)

-- ---- what it stops at is one of the subcommands

abbrev IsIn : Shape → List Shape → Type 0
IsIn s [] = ⊥
IsIn s (x ∷ xs) = (s ≡ x) ⊎ IsIn s xs

found_one : (f : Shape → Bool) (subs : List Shape) → is_some (find f subs) ≡ true
    → (s : Shape) × (find f subs ≡ Some s) × IsIn s subs × (f s ≡ true)
found_one f [] some = absurd (true≢false (sym some))
found_one f (x ∷ xs) some = go (f x) refl some (found_one f xs)
  where
    go : (b : Bool) → f x ≡ b → is_some (cond b (Some x) (find f xs)) ≡ true
        → (is_some (find f xs) ≡ true → (s : Shape) × (find f xs ≡ Some s) × IsIn s xs × (f s ≡ true))
        → (s : Shape) × (cond b (Some x) (find f xs) ≡ Some s) × IsIn s (x ∷ xs) × (f s ≡ true)
    go true e h rest = (x, refl, inl refl, e)
    go false e h rest = let at = rest h in (at.0, at.1, inr at.2, at.3)

-- what is met where there is no fault
record Meets (a : App) (stop : Option (Text × List Text)) : Type 0 where
  word : Text
  words : List Text
  sub : Shape
  enters : entered a stop ≡ Some (rows_at sub words)
  among : IsIn sub a.subs
  named : answers_to word (label_of sub) ≡ true
  not_help : bytes_eq word (codes "help") ≡ false

mapped : {X Y : Type 0} (f : X → Y) (o : Option X) → is_some (option_map f o) ≡ is_some o
mapped f None = refl
mapped f (Some x) = refl

enters_one : (a : App) (stop : Option (Text × List Text)) → IsNotHelp stop → is_some (entered a stop) ≡ true → Meets a stop
enters_one a None it some = absurd (true≢false (sym some))
enters_one a (Some p) it some =
    let at = found_one (λ s. answers_to p.0 (label_of s)) a.subs
    (sym (mapped (λ s. rows_at s p.1) (find (λ s. answers_to p.0 (label_of s)) a.subs)) ∙ some) in
    record {
      word = p.0;
      words = p.1;
      sub = at.0;
      enters = ap (option_map (λ s. rows_at s p.1)) at.1;
      among = at.2;
      named = at.3;
      not_help = it;
    }

kinds_some : (help wanted argument : Bool) → wanted ≡ true → check_kinds help wanted argument ≡ [] → ⊥
kinds_some true wanted argument e none = cc
kinds_some false true argument e none = cc
kinds_some false false argument e none = true≢false (sym e)

wants_one : (s : Shape) (rows : List Row) (has : Bool) → s.subcommand_required ≡ true → check_fault s rows has ≡ [] → has ≡ true
wants_one s rows true wanted none = refl
wants_one s rows false wanted none = absurd (kinds_some _ s.subcommand_required _ wanted none)

ends : (a b c d e : Kinds) → or_else a (or_else b (or_else c (or_else d e))) ≡ [] → (a ≡ []) × (e ≡ [])
ends a b c d e none =
    let first = none_first a (or_else b (or_else c (or_else d e))) none in
    let second = none_first b (or_else c (or_else d e)) first.1 in
    let third = none_first c (or_else d e) second.1 in
    (first.0, (none_first d e third.1).1)

meets : (a : App) (words : List Text) → a.top.disable_help_subcommand ≡ false → a.top.subcommand_required ≡ true
    → built_fault a nothing_held words ≡ []
    → Meets a (walk a.top.rules (names_of a) nothing_held words).stopped
meets a words has wanted none =
    let stop : Option (Text × List Text) = (walk a.top.rules (names_of a) nothing_held words).stopped in
    let held : Held = (walk a.top.rules (names_of a) nothing_held words).held in
    let both = ends (walk_fault a.top (names_of a) (walk_from nothing_held) words) (entered_fault a stop)
    (settle_fault a.top.rules a.top.args_override_self held) (defaults_fault (settled a.top.rules held).rows a.top.rules)
    (check_fault a.top (finished a.top.rules held) (is_some (entered a stop))) none in
    enters_one a stop (walk_stops a.top (names_of a) words (walk_from nothing_held) has refl both.0)
    (wants_one a.top (finished a.top.rules held) (is_some (entered a stop)) wanted both.1)

help_word : (b : Bool) (word : Text) → bytes_eq (codes "help") word ≡ b → (b || false) ≡ true → bytes_eq word (codes "help") ≡ false → ⊥
help_word false word e is isnt = true≢false (sym is)
help_word true word e is isnt =
    let same : word ≡ codes "help" = sym ((bytes_eq-Decides (codes "help") word).0 e) in
    true≢false (sym ((bytes_eq-Decides word (codes "help")).1 same) ∙ isnt)

is_command : (s : Shape) (word : Text) → IsIn s (built pgsub_app).subs → answers_to word (label_of s) ≡ true
    → bytes_eq word (codes "help") ≡ false → IsCommandName s.name
unfolding clap_on_literals
is_command s word (inl e) named isnt = inl (ap (λ (x : Shape). x.name) e)
is_command s word (inr (inl e)) named isnt = inr (inl (ap (λ (x : Shape). x.name) e))
is_command s word (inr (inr (inl e))) named isnt = inr (inr (inl (ap (λ (x : Shape). x.name) e)))
is_command s word (inr (inr (inr (inl e)))) named isnt = inr (inr (inr (inl (ap (λ (x : Shape). x.name) e))))
is_command s word (inr (inr (inr (inr (inl e))))) named isnt = inr (inr (inr (inr (inl (ap (λ (x : Shape). x.name) e)))))
is_command s word (inr (inr (inr (inr (inr (inl e)))))) named isnt = inr (inr (inr (inr (inr (inl (ap (λ (x : Shape). x.name) e))))))
is_command s word (inr (inr (inr (inr (inr (inr (inl e))))))) named isnt =
    inr (inr (inr (inr (inr (inr (inl (ap (λ (x : Shape). x.name) e)))))))
is_command s word (inr (inr (inr (inr (inr (inr (inr (inl e)))))))) named isnt =
    inr (inr (inr (inr (inr (inr (inr (ap (λ (x : Shape). x.name) e)))))))
is_command s word (inr (inr (inr (inr (inr (inr (inr (inr (inl e))))))))) named isnt =
    absurd (help_word (bytes_eq (codes "help") word) word refl (subst (λ (x : Shape). answers_to word (label_of x) ≡ true) e named) isnt)
is_command s word (inr (inr (inr (inr (inr (inr (inr (inr (inr none))))))))) named isnt = absurd none

-- Words without a fault name one of the commands.
pub names_one : (words : List Text) → fault_of pgsub_app words ≡ []
    → (p : Text × List Row) × (subcommand_of pgsub_app words ≡ Some p) × IsCommandName p.0
unfolding clap_on_literals
names_one words none =
    let m = meets (built pgsub_app) (argument_words pgsub_app words) refl refl none in
    (rows_at m.sub m.words, m.enters, is_command m.sub m.word m.among m.named m.not_help)
