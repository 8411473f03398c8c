-- What the words of a command line ask for.
use Rattle.std.specs.Prelude.{◌≡◌, ◌≢◌, ◌≤◌, ◌↔◌, ◌⊎◌, ◌||◌, not, if◌then◌else◌, ℕ, List, [], ◌∷◌}
use Rattle.std.specs.Prelude.{Some, None, is_some, true, codes, string_bytes, Bool, false, Option}
use Rattle.std.specs.Prelude.{unwrap_or, option_map, option_and_then, pos, String, ◌&&◌, bytes_eq}
use Rattle.std.specs.declared.alloc.Global.{Global}
use Rattle.std.specs.Str.Parse.{IsNumeral, digits_value, without_leading_plus}
use Rattle.clap.specs.declared.builder.command.Command.{Command}
use Rattle.clap.specs.declared.builder.command.Command.TheViews.{out-Command}
use Rattle.clap.specs.Words.{App, app_of, Row, Rule, Text, IsAmong, fault_of, first_of, one_of}
use Rattle.clap.specs.Words.{new_app, new_rule, subcommand_of, with_rule, with_subcommand, kind_of}
use Rattle.clap.specs.Simple.{on_top}
use Rattle.clap.specs.declared.error.Error.{Error}
use Rattle.clap.specs.declared.error.kind.ErrorKind.TheVariants.{MissingRequiredArgument}
use Rattle.clap.specs.declared.error.kind.ErrorKind.TheVariants.{InvalidValue, OutOfMemory}
use Rattle.clap.specs.declared.builder.action.ArgAction.TheVariants.{SetTrue}
use Rattle.clap.specs.declared.builder.value_parser.ValueParser.TheVariants.{Signed, Unsigned}
use Rattle.pgcommand.specs.declared.feed.FeedOptions.{FeedOptions}
use Rattle.pgcommand.specs.declared.limits.Limits.{Limits}
use Rattle.pgcommand.specs.declared.spool.SpoolOptions.{SpoolOptions}
use Rattle.pgcommand.specs.declared.task.Task.{Task}
use Rattle.pgcommand.specs.declared.task.Task.TheVariants.{Show, Apply, Dump, Follow, Same, Resume}
use Rattle.pgcommand.specs.declared.task.Task.TheVariants.{Lsn, Watch}
use Rattle.pgcommand.specs.declared.watching.Watching.{Watching}
use Rattle.pgcommand.specs.declared.watching.Watching.TheVariants.{Tell, Stop}
use Rattle.pgcommand.specs.declared.fault.CommandFault.{CommandFault}
use Rattle.pgcommand.specs.declared.fault.CommandFault.TheVariants.{Usage, Memory}
use Rattle.pgorder.specs.declared.Version.{Version}
use Rattle.pgorder.specs.declared.Version.TheVariants.{One}

-- ---- the command line of the program

abbrev pub word_rule : Text → Rule
word_rule name = record (new_rule name) { required = true }

abbrev pub proto_rule : Rule
proto_rule = record (new_rule (codes "proto")) {
  long = Some (codes "proto");
  value_names = 1;
  parser = Some (Signed (pos 1) (pos 2));
  defaults = codes "2" ∷ [];
}

abbrev pub raw_rule : Rule
raw_rule = record (new_rule (codes "raw")) { long = Some (codes "raw"); action = Some SetTrue }

abbrev pub progress_rule : Rule
progress_rule = record (new_rule (codes "progress")) { long = Some (codes "progress"); action = Some SetTrue }

-- the file of a store, which some commands require
abbrev pub store_rule : Bool → Rule
store_rule required = record (new_rule (codes "store")) { long = Some (codes "store"); value_names = 1; required = required }

abbrev pub max_buffered_rule : Rule
max_buffered_rule = record (new_rule (codes "max-buffered")) {
  long = Some (codes "max-buffered");
  value_names = 1;
  parser = Some (Unsigned 0 18446744073709551615);
}

abbrev pub max_frame_rule : Rule
max_frame_rule = record (new_rule (codes "max-frame")) {
  long = Some (codes "max-frame");
  value_names = 1;
  parser = Some (Signed (pos 0) (pos 2147483643));
  defaults = codes "16777216" ∷ [];
}

abbrev pub cache_rule : Rule
cache_rule = record (new_rule (codes "cache")) {
  long = Some (codes "cache");
  value_names = 1;
  parser = Some (Signed (pos 100) (pos 4294967294));
  defaults = codes "20000" ∷ [];
}

-- how the server is watched
abbrev pub watch_rule : Rule
watch_rule = record (new_rule (codes "watch")) { long = Some (codes "watch"); value_names = 1 }

-- the file in which commits are noted
abbrev pub repeats_rule : Rule
repeats_rule = record (new_rule (codes "repeats")) { long = Some (codes "repeats"); value_names = 1 }

-- tables come first
abbrev pub load_rule : Rule
load_rule = record (new_rule (codes "load")) { long = Some (codes "load"); action = Some SetTrue }

-- the store is trusted
abbrev pub trust_rule : Rule
trust_rule = record (new_rule (codes "trust-store")) { long = Some (codes "trust-store"); action = Some SetTrue }

-- the folder of a feed
abbrev pub feed_rule : Rule
feed_rule = record (new_rule (codes "feed")) { long = Some (codes "feed"); value_names = 1 }

-- what the feed is of: the system's identifier, the database and the slot
abbrev pub feed_text_rule : Text → Rule
feed_text_rule name = record (new_rule name) { long = Some name; value_names = 1 }

-- when a segment of the feed ends
abbrev pub feed_bytes_rule : Rule
feed_bytes_rule = record (new_rule (codes "feed-segment-bytes")) {
  long = Some (codes "feed-segment-bytes");
  value_names = 1;
  parser = Some (Unsigned 0 18446744073709551615);
}

abbrev pub feed_seconds_rule : Rule
feed_seconds_rule = record (new_rule (codes "feed-segment-seconds")) {
  long = Some (codes "feed-segment-seconds");
  value_names = 1;
  parser = Some (Signed (pos 0) (pos 4294967295));
}

-- how many bytes the messages of a transaction have at most
abbrev pub messages_rule : Rule
messages_rule = record (new_rule (codes "messages")) {
  long = Some (codes "messages");
  value_names = 1;
  parser = Some (Unsigned 0 18446744073709551615);
}

abbrev pub with_feed : App → App
with_feed a = with_rule (with_rule (with_rule
    (with_rule (with_rule (with_rule (with_rule a feed_rule) (feed_text_rule (codes "feed-system")))
    (feed_text_rule (codes "feed-database"))) (feed_text_rule (codes "feed-slot"))) feed_bytes_rule) feed_seconds_rule) messages_rule

-- the file in which the changes of open transactions go on
abbrev pub spool_rule : Rule
spool_rule = record (new_rule (codes "spool")) { long = Some (codes "spool"); value_names = 1 }

-- how many bytes of them stay in memory
abbrev pub spool_memory_rule : Rule
spool_memory_rule = record (new_rule (codes "spool-memory")) {
  long = Some (codes "spool-memory");
  value_names = 1;
  parser = Some (Unsigned 0 18446744073709551615);
}

abbrev pub with_spool : App → App
with_spool a = with_rule (with_rule a spool_rule) spool_memory_rule

abbrev pub with_watch : App → App
with_watch a = with_rule (with_rule a watch_rule) repeats_rule

abbrev pub with_start : App → App
with_start a = with_rule (with_rule a load_rule) trust_rule

abbrev pub show_app : App
show_app = with_rule (with_rule (new_app (codes "show")) proto_rule) (word_rule (codes "FILE"))

abbrev pub apply_app : App
apply_app = with_rule (with_feed
    (with_rule (with_rule (with_rule
    (with_rule (with_rule (with_rule (with_rule (new_app (codes "apply")) proto_rule) raw_rule) progress_rule) (store_rule false))
    cache_rule) max_buffered_rule) max_frame_rule)) (word_rule (codes "FILE"))

abbrev pub dump_app : App
dump_app = with_rule (with_rule (new_app (codes "dump")) (store_rule true)) cache_rule

abbrev pub follow_app : App
follow_app = with_spool (with_feed (with_start (with_watch
    (with_rule (with_rule (with_rule (with_rule (with_rule (new_app (codes "follow")) proto_rule) max_buffered_rule) max_frame_rule)
    (store_rule true)) cache_rule))))

abbrev pub same_app : App
same_app = with_rule (with_rule (with_rule (new_app (codes "same")) proto_rule) (word_rule (codes "LEFT"))) (word_rule (codes "RIGHT"))

abbrev pub resume_app : App
resume_app = with_rule (new_app (codes "resume")) (word_rule (codes "FILE"))

abbrev pub lsn_app : App
lsn_app = with_rule (new_app (codes "lsn")) (word_rule (codes "TEXT"))

abbrev pub watch_app : App
watch_app = with_rule (with_rule (new_app (codes "watch")) proto_rule) (word_rule (codes "FILE"))

abbrev pub bare_app : App
bare_app = on_top (λ s. record s { has_version = true; subcommand_required = true }) (new_app (codes "pgsub"))

abbrev pub pgsub_app : App
pgsub_app = with_subcommand (with_subcommand (with_subcommand
    (with_subcommand (with_subcommand (with_subcommand (with_subcommand (with_subcommand bare_app
    show_app.top) apply_app.top) dump_app.top) follow_app.top) same_app.top) resume_app.top) lsn_app.top) watch_app.top

-- the command is read as this one, and none of its arguments is global
abbrev pub IsCommand : App → Command → Type 0
IsCommand a c = (app_of c ≡ a) × ((out-Command c).has_globals ≡ false)

-- ---- the task of a subcommand and its matches

abbrev pub text_in : Text → List Row → Text
text_in name rows = unwrap_or (first_of name rows) []

-- version 1 is asked for where the value of `--proto` reads as 1
abbrev pub ReadsAsOne : Option Text → Type 0
ReadsAsOne value = (text : Text) × (value ≡ Some text) × IsNumeral 10 (without_leading_plus text)
    × (digits_value 10 (without_leading_plus text) ≡ 1)

abbrev pub IsVersion : List Row → Version → Type 0
IsVersion rows version = (version ≡ One) ↔ ReadsAsOne (one_of (codes "proto") rows)

-- The number that the value of an option reads as, where that is at most so much. Another text is a
-- fault of the words.
abbrev pub ReadsUpTo : ℕ → Option Text → ℕ → Type 0
ReadsUpTo most value n =
    (text : Text) → value ≡ Some text → IsNumeral 10 (without_leading_plus text) → digits_value 10 (without_leading_plus text) ≤ most
    → n ≡ digits_value 10 (without_leading_plus text)

-- the number that the value of an option reads as, or this one where it isn't given
abbrev pub ReadsOr : ℕ → ℕ → Option Text → ℕ → Type 0
ReadsOr default most None n = n ≡ default
ReadsOr default most (Some text) n = ReadsUpTo most (Some text) n

abbrev pub is_given : Text → List Row → Bool
is_given name rows = is_some (first_of name rows)

-- What all open transactions may cost where `--max-buffered` isn't given: 64 MiB in memory, and
-- with a spool in a file the greatest number of 64 bits, no limit.
abbrev pub default_buffered : List Row → ℕ
default_buffered rows = if is_given (codes "spool") rows then 18446744073709551615 else 67108864

pub record IsLimits (rows : List Row) (limits : Limits) : Type 0 where
  pub buffered : ReadsOr (default_buffered rows) 18446744073709551615 (one_of (codes "max-buffered") rows) limits.max_buffered
  pub frame : ReadsUpTo 2147483643 (one_of (codes "max-frame") rows) limits.max_frame

-- How many pages of the store's file are kept in memory. A file of SQLite has at most 4294967294.
abbrev pub IsCache : List Row → ℕ → Type 0
IsCache rows cache = ReadsUpTo 4294967294 (one_of (codes "cache") rows) cache

-- whether the flag of this name is given
abbrev pub IsFlag : Text → List Row → Bool → Type 0
IsFlag name rows flag = (one_of name rows ≡ Some (codes "true") → flag ≡ true) × (one_of name rows ≡ Some (codes "false") → flag ≡ false)

-- the file that the option of this name names, and none where it isn't given
abbrev pub NamesFile : Text → List Row → Option (String Global) → Type 0
NamesFile name rows file = option_map string_bytes file ≡ first_of name rows

-- the number that the value of an option reads as, and none where it isn't given
abbrev pub ReadsIfGiven : ℕ → Option Text → Option ℕ → Type 0
ReadsIfGiven most None number = number ≡ None
ReadsIfGiven most (Some text) number =
    IsNumeral 10 (without_leading_plus text) → digits_value 10 (without_leading_plus text) ≤ most
    → number ≡ Some (digits_value 10 (without_leading_plus text))

-- a feed in the folder that `--feed` names, of what the other options tell, which are empty where
-- they aren't given
pub record IsFeed (rows : List Row) (feed : FeedOptions) : Type 0 where
  pub folder : first_of (codes "feed") rows ≡ Some (string_bytes feed.folder)
  pub system : string_bytes feed.system ≡ text_in (codes "feed-system") rows
  pub database : string_bytes feed.database ≡ text_in (codes "feed-database") rows
  pub slot : string_bytes feed.slot ≡ text_in (codes "feed-slot") rows
  pub bytes : ReadsOr 67108864 18446744073709551615 (one_of (codes "feed-segment-bytes") rows) feed.segment_bytes
  pub seconds : ReadsOr 0 4294967295 (one_of (codes "feed-segment-seconds") rows) feed.segment_seconds
  pub messages : ReadsIfGiven 18446744073709551615 (one_of (codes "messages") rows) feed.messages

-- the feed that is asked for, and none where `--feed` isn't given
abbrev pub AsksFeed : List Row → Option FeedOptions → Type 0
AsksFeed rows None = first_of (codes "feed") rows ≡ None
AsksFeed rows (Some feed) = IsFeed rows feed

-- a spool in the file that `--spool` names, with so much of it in memory
pub record IsSpool (rows : List Row) (spool : SpoolOptions) : Type 0 where
  pub file : first_of (codes "spool") rows ≡ Some (string_bytes spool.file)
  pub memory : ReadsOr 67108864 18446744073709551615 (one_of (codes "spool-memory") rows) spool.memory

-- the spool in a file that is asked for, and none where `--spool` isn't given
abbrev pub AsksSpool : List Row → Option SpoolOptions → Type 0
AsksSpool rows None = first_of (codes "spool") rows ≡ None
AsksSpool rows (Some spool) = IsSpool rows spool

-- what a word says of how the server is watched
abbrev pub watching_of : Text → Option Watching
watching_of word = if bytes_eq word (codes "tell") then Some Tell else (if bytes_eq word (codes "stop") then Some Stop else None)

-- how `--watch` asks for the server to be watched, and not at all where it isn't given
abbrev pub watching_in : List Row → Option Watching
watching_in rows = option_and_then watching_of (first_of (codes "watch") rows)

abbrev pub IsAsked : Text → List Row → Task → Type 0
IsAsked name rows (Show version file) = (name ≡ codes "show") × IsVersion rows version × (string_bytes file ≡ text_in (codes "FILE") rows)
IsAsked name rows (Apply version limits raw progress store cache feed file) =
    (name ≡ codes "apply") × IsVersion rows version × IsLimits rows limits × IsFlag (codes "raw") rows raw
    × IsFlag (codes "progress") rows progress × NamesFile (codes "store") rows store × IsCache rows cache × AsksFeed rows feed
    × (string_bytes file ≡ text_in (codes "FILE") rows)
IsAsked name rows (Dump store cache) = (name ≡ codes "dump") × IsCache rows cache × (string_bytes store ≡ text_in (codes "store") rows)
IsAsked name rows (Follow version limits store cache feed spool watch repeats load trust) =
    (name ≡ codes "follow") × IsVersion rows version × IsLimits rows limits × IsCache rows cache × AsksFeed rows feed
    × AsksSpool rows spool × (watch ≡ watching_in rows) × NamesFile (codes "repeats") rows repeats × IsFlag (codes "load") rows load
    × IsFlag (codes "trust-store") rows trust × (string_bytes store ≡ text_in (codes "store") rows)
IsAsked name rows (Same version left right) =
    (name ≡ codes "same") × IsVersion rows version × (string_bytes left ≡ text_in (codes "LEFT") rows)
    × (string_bytes right ≡ text_in (codes "RIGHT") rows)
IsAsked name rows (Resume file) = (name ≡ codes "resume") × (string_bytes file ≡ text_in (codes "FILE") rows)
IsAsked name rows (Lsn text) = (name ≡ codes "lsn") × (string_bytes text ≡ text_in (codes "TEXT") rows)
IsAsked name rows (Watch version file) = (name ≡ codes "watch") × IsVersion rows version × (string_bytes file ≡ text_in (codes "FILE") rows)

-- the name of a subcommand
abbrev pub IsCommandName : Text → Type 0
IsCommandName name = (name ≡ codes "show")
    ⊎ ((name ≡ codes "apply")
    ⊎ ((name ≡ codes "dump")
    ⊎ ((name ≡ codes "follow")
    ⊎ ((name ≡ codes "same") ⊎ ((name ≡ codes "resume") ⊎ ((name ≡ codes "lsn") ⊎ (name ≡ codes "watch")))))))

-- something of a feed is told
abbrev pub tells_of_feed : List Row → Bool
tells_of_feed rows =
    is_given (codes "feed-system") rows
    || (is_given (codes "feed-database") rows
    || (is_given (codes "feed-slot") rows
    || (is_given (codes "feed-segment-bytes") rows
    || (is_given (codes "feed-segment-seconds") rows || is_given (codes "messages") rows))))

-- a feed without a store is asked for, or something is told of a feed that isn't asked for
abbrev pub lacks_of_feed : List Row → Bool
lacks_of_feed rows = if is_given (codes "feed") rows then not (is_given (codes "store") rows) else tells_of_feed rows

-- or something is told of a spool in a file that isn't asked for
abbrev pub lacks_of_spool : List Row → Bool
lacks_of_spool rows = is_given (codes "spool-memory") rows && not (is_given (codes "spool") rows)

-- or commits are to be compared with the noted ones, and the server isn't watched
abbrev pub lacks_word : List Row → Bool
lacks_word rows = lacks_of_feed rows || (lacks_of_spool rows || (is_given (codes "repeats") rows && not (is_given (codes "watch") rows)))

-- `--watch` is given with a word that says nothing of it
abbrev pub misnames_watch : List Row → Bool
misnames_watch rows = is_given (codes "watch") rows && not (is_some (watching_in rows))

-- The words have no fault, and their subcommand, which lacks none, asks for the task.
abbrev pub IsTaskOf : List Text → Task → Type 0
IsTaskOf words task = (fault_of pgsub_app words ≡ []) × (name : Text) × (rows : List Row)
    × (subcommand_of pgsub_app words ≡ Some (name, rows)) × (lacks_word rows ≡ false) × (misnames_watch rows ≡ false)
    × IsAsked name rows task

-- the words have no fault, but their subcommand lacks one
abbrev pub LacksWord : List Text → Type 0
LacksWord words = (fault_of pgsub_app words ≡ []) × (name : Text) × (rows : List Row) × (subcommand_of pgsub_app words ≡ Some (name, rows))
    × (lacks_word rows ≡ true)

-- the words have no fault, but the one of `--watch` isn't known
abbrev pub MisnamesWatch : List Text → Type 0
MisnamesWatch words = (fault_of pgsub_app words ≡ []) × (name : Text) × (rows : List Row) × (subcommand_of pgsub_app words ≡ Some
    (name, rows))
    × (misnames_watch rows ≡ true)

-- Why no task is given: an error of one of the kinds that the command line has at these words, a
-- word that is missing or isn't known, or memory ran out.
abbrev pub IsRefusalOf : List Text → CommandFault → Type 0
IsRefusalOf words (Usage error) =
    IsAmong (kind_of error) (fault_of pgsub_app words)
    ⊎ ((LacksWord words × (kind_of error ≡ MissingRequiredArgument)) ⊎ (MisnamesWatch words × (kind_of error ≡ InvalidValue)))
IsRefusalOf words Memory = Unit {0}

-- out of memory is told apart from the other kinds
abbrev pub IsUsage : Error → CommandFault → Type 0
IsUsage error (Usage told) = (told ≡ error) × (kind_of error ≢ OutOfMemory)
IsUsage error Memory = kind_of error ≡ OutOfMemory

-- The exit status where there is no memory for the task of a command line with this command:
-- where that is `follow`, 14, which no reader takes for a rejected stream.
abbrev pub status_without_memory : Option Text → ℕ
status_without_memory None = 1
status_without_memory (Some word) = if bytes_eq word (codes "follow") then 14 else 1
