-- Behind each message items are held of the transactions that are then under way.
use Rattle.std.proofs.Common.{◌≡◌, ℕ, Bool, true, false, not, cond, ◌||◌, ◌&&◌, Option, Some, None}
use Rattle.std.proofs.Common.{Ok, Err, refl, sym, ap, subst, ◌∙◌, arith, List}
use Rattle.std.specs.Prelude.{◌==◌, is_some}
use Rattle.std.proofs.lemmas.Bool.Decides.{nat_tests}
use Rattle.std.specs.Ordering.{nat_cmp, eq_by_cmp}
use Rattle.std.specs.Cmp.{nat_cmp_total}
use Rattle.std.specs.FinMap as map
use Rattle.std.specs.FinMap.{get-insert, get-remove}
use Rattle.pglogical.specs.declared.message.Message.{Message}
use Rattle.pglogical.specs.declared.message.Message.TheVariants as message
use Rattle.pgorder.specs.declared.Version.{Version}
use Rattle.pgorder.specs.declared.Version.TheVariants.{One, Two}
use Rattle.pgorder.specs.declared.Event.{Event}
use Rattle.pgorder.specs.declared.Event.TheVariants as event
use Rattle.pgorder.specs.OpenXids.{OpenXids, is_open, is_open-with_open, is_open-without}
use Rattle.pgorder.specs.OpenXids.{is_open-opened}
use Rattle.pgorder.specs.Steps.{Context, Outside, InPair, InBlock, OrderState, StepResult}
use Rattle.pgorder.specs.Steps.{order_step, in_version_2, step_inner, step_item, step_begin}
use Rattle.pgorder.specs.Steps.{step_commit, step_stream_start, step_stream_stop}
use Rattle.pgorder.specs.Steps.{step_stream_commit, step_stream_abort}
use Rattle.pgspool.specs.Labels.{HeldMap, LabelledItem}
use Rattle.pgsub_core.specs.Machine.Opened.{is_under_way, IsSoundContext, AreOpened, Fits}
use Rattle.pgsub_core.specs.Machine.Opened.{under_way_behind}

same_xid : (x : ℕ) → (x == x) ≡ true
same_xid x = grind (arith, nat_tests)

pub one_xid : (x y : ℕ) → (x == y) ≡ true → x ≡ y
one_xid x y h = grind (arith, nat_tests)

-- what is open isn't made more open
open_stays : (b : Bool) (x y : ℕ) (opens : OpenXids) → (x == y) ≡ b → is_open x opens ≡ true → (b || is_open y opens) ≡ is_open y opens
open_stays true x y opens same is = sym (ap (λ z. is_open z opens) (sym (one_xid x y same)) ∙ is)
open_stays false x y opens same is = refl

closed_goes : (b : Bool) (x y : ℕ) (opens : OpenXids) → (x == y) ≡ b → is_open x opens ≡ false
    → (not b && (b || is_open y opens)) ≡ is_open y opens
closed_goes true x y opens same isnt = sym (ap (λ z. is_open z opens) (sym (one_xid x y same)) ∙ isnt)
closed_goes false x y opens same isnt = refl

once : (b c : Bool) → (b || (b || c)) ≡ (b || c)
once true c = refl
once false c = refl

-- where the message is taken, what is held fits its event, and behind the event it is held of what
-- is under way
abbrev pub Opens : HeldMap → StepResult → Type 0
Opens held (Ok step) = Fits held step.1
    × ((new : HeldMap) → ((x : ℕ) → map.contains_key new x ≡ under_way_behind step.1 (map.contains_key held) x) → AreOpened step.0 new)
Opens held (Err f) = Unit {0}

either : (held : HeldMap) (b : Bool) (x y : StepResult) → (b ≡ true → Opens held x) → (b ≡ false → Opens held y) → Opens held (cond b x y)
either held true x y h k = h refl
either held false x y h k = k refl

versions : (held : HeldMap) (v : Version) (x : StepResult) → Opens held x → Opens held (in_version_2 v x)
versions held One x h = tt
versions held Two x h = h

abbrev at : Context → OpenXids → OrderState
at context opens = record { context = context; open_xids = opens }

module _ (held : HeldMap) (o : OpenXids) where
  abbrev Each : Context → Type 0
  Each c = (x : ℕ) → map.contains_key held x ≡ is_under_way c o x

  stays : (c : Context) → Each c → IsSoundContext c o → (new : HeldMap) → ((x : ℕ) → map.contains_key new x ≡ map.contains_key held x)
      → AreOpened (at c o) new
  stays c each sound new h = record { each = λ x. h x ∙ each x; sound = sound }

  inner_opens : (c : Context) → Each c → IsSoundContext c o → Opens held (step_inner (at c o) c)
  inner_opens Outside each sound = tt
  inner_opens (InPair lsn xid) each sound = (tt, stays (InPair lsn xid) each sound)
  inner_opens (InBlock xid) each sound = (tt, stays (InBlock xid) each sound)

  ignored : (c : Context) → Each c → IsSoundContext c o → Opens held (Ok (at c o, event.Ignore))
  ignored c each sound = (tt, stays c each sound)

  item_opens : (c : Context) (label : Option ℕ) → Each c → IsSoundContext c o → Opens held (step_item (at c o) c label)
  item_opens Outside label each sound = tt
  item_opens (InPair lsn xid) label each sound = (
    each xid ∙ ap (λ b. b || is_open xid o) (same_xid xid),
    λ new h. record { each = λ x. h x ∙ ap (λ b. (xid == x) || b) (each x) ∙ once (xid == x) (is_open x o); sound = sound },
  )
  item_opens (InBlock xid) label each sound = (
    each xid ∙ sound,
    λ new h. record { each = λ x. h x ∙ ap (λ b. (xid == x) || b) (each x) ∙ open_stays (xid == x) xid x o refl sound; sound = sound },
  )

  begin_opens : (c : Context) (l x : ℕ) → Each c → IsSoundContext c o → Opens held (step_begin (at c o) c l x)
  begin_opens Outside l x each sound = either held (is_open x o) _ _ (λ is. tt) (λ isnt. (
    each x ∙ isnt,
    λ new h. record { each = λ y. h y ∙ ap (λ b. (x == y) || b) (each y); sound = isnt },
  ))
  begin_opens (InPair lsn xid) l x each sound = tt
  begin_opens (InBlock xid) l x each sound = tt

  commit_opens : (c : Context) (l end : ℕ) → Each c → IsSoundContext c o → Opens held (step_commit (at c o) c l end)
  commit_opens Outside l end each sound = tt
  commit_opens (InPair lsn xid) l end each sound = either held (l == lsn) _ _ (λ is. (
    tt,
    λ new h. record { each = λ y. h y ∙ ap (λ b. not (xid == y) && b) (each y) ∙ closed_goes (xid == y) xid y o refl sound; sound = tt },
  )) (λ isnt. tt)
  commit_opens (InBlock xid) l end each sound = tt

  start_opens : (c : Context) (x : ℕ) (first : Bool) → Each c → IsSoundContext c o → Opens held (step_stream_start (at c o) c x first)
  start_opens Outside x true each sound = either held (is_open x o) _ _ (λ is. tt) (λ isnt. (
    each x ∙ isnt,
    λ new h. record { each = λ y. h y ∙ ap (λ b. (x == y) || b) (each y) ∙ sym (is_open-with_open y x o); sound = is_open-opened x o },
  ))
  start_opens Outside x false each sound =
      either held (is_open x o) _ _ (λ is. (tt, λ new h. record { each = λ y. h y ∙ each y; sound = is })) (λ isnt. tt)
  start_opens (InPair lsn xid) x first each sound = tt
  start_opens (InBlock xid) x first each sound = tt

  stop_opens : (c : Context) → Each c → IsSoundContext c o → Opens held (step_stream_stop (at c o) c)
  stop_opens Outside each sound = tt
  stop_opens (InPair lsn xid) each sound = tt
  stop_opens (InBlock xid) each sound = (tt, λ new h. record { each = λ y. h y ∙ each y; sound = tt })

  commit_stream_opens : (c : Context) (x l end : ℕ) → Each c → IsSoundContext c o → Opens held (step_stream_commit (at c o) c x l end)
  commit_stream_opens Outside x l end each sound = either held (is_open x o) _ _ (λ is. (
    tt,
    λ new h. record { each = λ y. h y ∙ ap (λ b. not (x == y) && b) (each y) ∙ sym (is_open-without y x o); sound = tt },
  )) (λ isnt. tt)
  commit_stream_opens (InPair lsn xid) x l end each sound = tt
  commit_stream_opens (InBlock xid) x l end each sound = tt

  abort_opens : (c : Context) (x label : ℕ) → Each c → IsSoundContext c o → Opens held (step_stream_abort (at c o) c x label)
  abort_opens Outside x label each sound = either held (is_open x o) _ _
      (λ is. either held (x == label) _ _
      (λ same. (tt, λ new h. record { each = λ y. h y ∙ ap (λ b. not (x == y) && b) (each y) ∙ sym (is_open-without y x o); sound = tt }))
      (λ other. (
        each x ∙ is,
        λ new h.
            record { each = λ y. h y ∙ ap (λ b. (x == y) || b) (each y) ∙ open_stays (x == y) x y o refl is; sound = tt },
      )))
      (λ isnt. ignored Outside each sound)
  abort_opens (InPair lsn xid) x label each sound = tt
  abort_opens (InBlock xid) x label each sound = tt

  step_opens : (v : Version) (c : Context) (m : Message) → Each c → IsSoundContext c o → Opens held (order_step v (at c o) m)
  step_opens v c (message.Begin lsn time xid) each sound = begin_opens c lsn xid each sound
  step_opens v c (message.Commit lsn end time) each sound = commit_opens c lsn end each sound
  step_opens v c (message.Origin lsn name) each sound = inner_opens c each sound
  step_opens v c (message.TypeName xid oid namespace name) each sound = inner_opens c each sound
  step_opens v c (message.Logical xid transactional lsn prefix content) each sound = ignored c each sound
  step_opens v c (message.Item xid item) each sound = item_opens c xid each sound
  step_opens v c (message.StreamStart xid first) each sound = versions held v _ (start_opens c xid first each sound)
  step_opens v c message.StreamStop each sound = versions held v _ (stop_opens c each sound)
  step_opens v c (message.StreamCommit xid lsn end time) each sound = versions held v _ (commit_stream_opens c xid lsn end each sound)
  step_opens v c (message.StreamAbort xid label) each sound = versions held v _ (abort_opens c xid label each sound)

module _ (v : Version) (old new : OrderState) (m : Message) (e : Event) (held : HeldMap) (is : AreOpened old held)
    (taken : order_step v old m ≡ Ok (new, e)) where
  pub event_fits : Fits held e
  event_fits = (subst (Opens held) taken (step_opens held old.open_xids v old.context m is.each is.sound)).0

  pub event_opens : (next : HeldMap) → ((x : ℕ) → map.contains_key next x ≡ under_way_behind e (map.contains_key held) x)
      → AreOpened new next
  event_opens = (subst (Opens held) taken (step_opens held old.open_xids v old.context m is.each is.sound)).1

-- ---- the keys of what is held

same_test : (x y : ℕ) → eq_by_cmp nat_cmp x y ≡ (y == x)
same_test x y = grind (arith, nat_tests)

in_either : {A : Type 0} (b : Bool) (a : A) (o : Option A) → is_some (cond b (Some a) o) ≡ (b || is_some o)
in_either true a o = refl
in_either false a o = refl

not_either : {A : Type 0} (b : Bool) (o : Option A) → is_some (cond b None o) ≡ (not b && is_some o)
not_either true o = refl
not_either false o = refl

pub key_inserted : (held : HeldMap) (xid : ℕ) (items : List LabelledItem) (x : ℕ)
    → map.contains_key (map.insert held xid items) x ≡ ((xid == x) || map.contains_key held x)
key_inserted held xid items x =
    ap is_some (get-insert nat_cmp_total held xid items x) ∙ in_either (eq_by_cmp nat_cmp x xid) items (map.get held x)
    ∙ ap (λ b. b || map.contains_key held x) (same_test x xid)

pub key_removed : (held : HeldMap) (xid x : ℕ) → map.contains_key (map.remove held xid) x ≡ (not (xid == x) && map.contains_key held x)
key_removed held xid x =
    ap is_some (get-remove nat_cmp_total held xid x) ∙ not_either (eq_by_cmp nat_cmp x xid) (map.get held x)
    ∙ ap (λ b. not b && map.contains_key held x) (same_test x xid)
