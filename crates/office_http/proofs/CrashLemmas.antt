-- The office that a later opening finds after messages that a desk answered.
use Rattle.std.proofs.Common.{◌≡◌, ◌∙◌, ◌⊎◌, ℕ, List, [], ◌∷◌, ◌++◌, All, IfErr, IfOk, Ok, Err, Option, Result, ap, append-nil, append_assoc, inl, inr, refl, subst, sym}
use Rattle.std.proofs.lemmas.List.Elements.{All-append, All-cons, All-nil}
use Rattle.sqlite.specs.Effect.{Database, IsDatabase}
use Rattle.sqlite.specs.Held.{Held, state}
use Rattle.sqlite.specs.State.{HasCleanDisk, State}
use Rattle.sqlite.specs.Store.{Ghosts}
use Rattle.sqlite_trees.specs.Tree.{Trees}
use Rattle.office_messages.specs.Messages.{Item, asks, fails}
use Rattle.office_messages.specs.Reply.{PlainReply}
use Rattle.office_messages.specs.Serve.{AnswersItems, Serves, ServesFront}
use Rattle.office_messages.specs.Visits.{ServesVisits, Visit}
use Rattle.office_messages.specs.declared.connection.Served.{Served}
use Rattle.office_messages.specs.declared.connection.ServeFault.{ServeFault}
use Rattle.office_messages.specs.declared.statuses.Status.{Status}
use Rattle.office_messages.specs.declared.statuses.Status.TheVariants as status
use Rattle.office_requests.specs.Requests.{PlainCallerCommand, command_or_refusal}
use Rattle.office_requests.specs.declared.requests.Refusal.{Refusal}
use Rattle.office_model.specs.Office.{OfficeState}
use Rattle.office_model.specs.Step.{step}
use Rattle.office_records.specs.Representation.{RepresentsOffice}
use Rattle.office_store.specs.Crashes.{OpenedAfter}
use Rattle.office_store.specs.Running.{IsCommitted, Represents}
use Rattle.office_store.proofs.CrashLemmas.{before_is, same_found}
use Rattle.office_http.specs.Crashes.{Exchanged, IsAfterFront, IsAfterStep, IsCarriedOut, IsThereOrNext, RepliesAll, all_exchanges, exchanges, exchanges_to}
use Rattle.office_http.specs.Replying.{Answered, IsDone, MayCommitReply}

-- the message wasn't done
abbrev IsUndone : Exchanged → Type 0
IsUndone e = IsDone e.1.status → ⊥

-- a message was done, or not
is_done : (s : Status) → IsDone s ⊎ (IsDone s → ⊥)
is_done status.Done = inl tt
is_done status.Created = inl tt
is_done status.BadRequest = inr (λ n. n)
is_done status.Forbidden = inr (λ n. n)
is_done status.NotFound = inr (λ n. n)
is_done status.MethodNotAllowed = inr (λ n. n)
is_done status.Conflict = inr (λ n. n)
is_done status.PayloadTooLarge = inr (λ n. n)
is_done status.NotImplemented = inr (λ n. n)
is_done status.ServiceUnavailable = inr (λ n. n)

-- two databases of offices with the same trees are one
same_file : (one other : Database) (x y : OfficeState) → RepresentsOffice one x
    → RepresentsOffice other y → one.trees ≡ other.trees → RepresentsOffice one y
same_file one other x y first second same =
    subst (λ trees. RepresentsOffice (record { schema = one.schema; trees = trees }) y) (sym same)
    (subst (λ s. RepresentsOffice (record { schema = s; trees = other.trees }) y)
    (second.tables.schema ∙ sym first.tables.schema) second)

-- ---- the messages of a run, one after another

module _ {S : Type 0} (store : Ghosts S) where
  -- the desk answered these messages so, one after another
  abbrev Answers : List Exchanged → Held S → Held S → Type 0
  Answers [] old new = new ≡ old
  Answers (e ∷ es) old new = (mid : Held S) × Answered store old e.0 e.1 mid × Answers es mid new

  answers_then : (es more : List Exchanged) (a b c : Held S) → Answers es a b → Answers more b c
      → Answers (es ++ more) a c
  answers_then [] more a b c same next = subst (λ h. Answers more h c) same next
  answers_then (e ∷ es) more a b c first next =
      (first.0, first.1, answers_then es more first.0 b c first.2 next)

  items_answered : (items : List Item) (old : Held S) (output : List ℕ) (new : Held S)
      (trace : AnswersItems (Answered store) items old output new)
      → Answers (exchanges (Answered store) items old output new trace) old new
  items_answered [] old output new trace = trace.1
  items_answered (fails fault form ∷ items) old output new (rest, is, trace) =
      items_answered items old rest new trace
  items_answered (asks request ∷ items) old output new (mid, reply, rest, answered, is, trace) =
      (mid, answered, items_answered items mid rest new trace)

  ended_answered : (ended : Result Served ServeFault) (input before after : Option (List ℕ))
      (old new : Held S)
      (whole : IfOk ended (λ served. Serves (Answered store) input before after old new served))
      (front : IfErr ended (λ fault. ServesFront (Answered store) input before after old new fault))
      → Answers (exchanges_to (Answered store) ended input before after old new whole front) old new
  ended_answered (Ok served) input before after old new run none =
      items_answered run.items old run.output new run.trace
  ended_answered (Err fault) input before after old new none run =
      items_answered run.items old run.output new run.trace

  visits_answered : (visits : List Visit) (old new : Held S)
      (run : ServesVisits (Answered store) visits old new)
      → Answers (all_exchanges (Answered store) visits old new run) old new
  visits_answered [] old new run = run
  visits_answered (v ∷ vs) old new (mid, served, rest) =
      answers_then (exchanges_to (Answered store) v.ended v.input v.before v.after old mid served.0
      served.1) (all_exchanges (Answered store) vs mid new rest) old mid new
      (ended_answered v.ended v.input v.before v.after old mid served.0 served.1)
      (visits_answered vs mid new rest)

  clean_then : (es : List Exchanged) (old new : Held S) → Answers es old new
      → HasCleanDisk (state store new) → HasCleanDisk (state store old)
  clean_then [] old new same clean = subst (λ h. HasCleanDisk (state store h)) same clean
  clean_then (e ∷ es) old new run clean = run.1.clean (clean_then es run.0 new run.2 clean)

-- ---- offices, one after another

leads_then : (es : List Exchanged) (e : Exchanged) (a b c : OfficeState) → RepliesAll es a b
    → RepliesAll (e ∷ []) b c → RepliesAll (es ++ e ∷ []) a c
leads_then [] e a b c same next = subst (λ o. RepliesAll (e ∷ []) o c) same next
leads_then (x ∷ es) e a b c first next =
    (first.0, first.1, leads_then es e first.0 b c first.2 next)

-- a message more that wasn't done
there_still : (others : List Exchanged) (e : Exchanged) (office : OfficeState) (db : Database)
    → IsThereOrNext others office db → IsThereOrNext (others ++ e ∷ []) office db
there_still [] e office db there = inl there
there_still (x ∷ others) e office db there = there

-- the office, whichever message it is after
some_office : (others : List Exchanged) (office : OfficeState) (db : Database)
    → IsThereOrNext others office db → (o : OfficeState) × RepresentsOffice db o
some_office [] office db there = (office, there)
some_office (e ∷ others) office db (inl there) = (office, there)
some_office (e ∷ others) office db (inr next) = (next.0, next.2)

module _ (start : OfficeState) (db : Database) where
  -- exactly these messages
  after_all : (all : List Exchanged) (office : OfficeState) → RepliesAll all start office
      → RepresentsOffice db office → IsAfterFront all start db
  after_all all office leads there = record {
    front = all;
    others = [];
    whole = sym (append-nil all);
    undone = All-nil IsUndone;
    office = office;
    leads = leads;
    found = there;
  }

  -- and perhaps one more, which wasn't done
  after_next : (all : List Exchanged) (e : Exchanged) (office : OfficeState)
      → RepliesAll all start office → (IsDone e.1.status → ⊥)
      → IsThereOrNext (e ∷ []) office db → IsAfterFront (all ++ e ∷ []) start db
  after_next all e office leads undone found = record {
    front = all;
    others = e ∷ [];
    whole = refl;
    undone = All-cons IsUndone e [] undone (All-nil IsUndone);
    office = office;
    leads = leads;
    found = found;
  }

  -- a message more that wasn't done changes nothing
  after_still : (all : List Exchanged) (e : Exchanged) → (IsDone e.1.status → ⊥)
      → IsAfterFront all start db → IsAfterFront (all ++ e ∷ []) start db
  after_still all e undone x = record {
    front = x.front;
    others = x.others ++ e ∷ [];
    whole = ap (λ l. l ++ e ∷ []) x.whole ∙ append_assoc x.front x.others (e ∷ []);
    undone = All-append IsUndone x.others (e ∷ []) x.undone (All-cons IsUndone e [] undone (All-nil IsUndone));
    office = x.office;
    leads = x.leads;
    found = there_still x.others e x.office db x.found;
  }

-- ---- after a crash

module _ {S : Type 0} (store : Ghosts S)
    (settled : (h : Held S) (found : Trees) → IsCommitted (state store h)
    → (state store h).may_leave found → found ≡ (state store h).now.trees)
    (start : OfficeState) (opened : State) (sound : IsDatabase opened.now) where
  -- what a later opening may find after the messages so far
  abbrev Finds : List Exchanged → Held S → Type 0
  Finds es h = (state store h).may_leave opened.now.trees → IsAfterFront es start opened.now

  next_found : (asked : Result PlainCallerCommand Refusal) (old : Held S) (reply : PlainReply)
      (office : OfficeState) → Represents (state store old) office
      → MayCommitReply asked (state store old) reply opened.now.trees
      → (next : OfficeState) × IsAfterStep asked office next × RepresentsOffice opened.now next
  next_found (Ok asked) old reply office kept may =
      let made = may.2.2 in
      let after = (step office asked.caller asked.command).0 in (
        after,
        refl,
        subst (λ db. RepresentsOffice db after)
            (same_found opened.now _ sound made.sound refl) (made.holds office (kept made.was_open)),
      )
  next_found (Err refusal) old reply office kept may = absurd may

  -- one message
  finds_next : (es : List Exchanged) (e : Exchanged) (old mid : Held S) (office next : OfficeState)
      → RepliesAll es start office → RepliesAll (e ∷ []) office next
      → Represents (state store old) office → Represents (state store mid) next
      → HasCleanDisk (state store mid) → Answered store old e.0 e.1 mid → Finds es old
      → Finds (es ++ e ∷ []) mid
  finds_next es e old mid office next leads step kept after clean answered before may =
      elim (is_done e.1.status) [
        | inl done ↦ after_done done
        | inr undone ↦ elim found [
          | inl there ↦ after_still start opened.now es e undone there
          | inr more ↦ after_next start opened.now es e office leads undone (inr more)
        ]
      ]
    where
      found : IsAfterFront es start opened.now
          ⊎ ((o : OfficeState) × IsCarriedOut e.0 office o × RepresentsOffice opened.now o)
      found = elim (answered.survives.crash clean opened.now.trees may)
          as (λ _. IsAfterFront es start opened.now
          ⊎ ((o : OfficeState) × IsCarriedOut e.0 office o × RepresentsOffice opened.now o)) [
            | inl left ↦ inl (before left)
            | inr made ↦ inr (next_found
                (command_or_refusal e.0.method e.0.target e.0.caller e.0.body) old e.1 office kept
                made)
          ]

      some : (o : OfficeState) × RepresentsOffice opened.now o
      some = elim found as (λ _. (o : OfficeState) × RepresentsOffice opened.now o) [
        | inl there ↦ some_office there.others there.office opened.now there.found
        | inr more ↦ (more.0, more.2)
      ]

      after_done : IsDone e.1.status → IsAfterFront (es ++ e ∷ []) start opened.now
      after_done done =
          let committed = answered.all_committed clean done in
          after_all start opened.now (es ++ e ∷ []) next (leads_then es e start office next leads step)
          (same_file opened.now (state store mid).now some.0 next some.1 (after committed.0)
          (settled mid opened.now.trees committed may))

  -- messages, one after another
  finds_all : (es more : List Exchanged) (old new : Held S) (office : OfficeState)
      → RepliesAll es start office → Represents (state store old) office
      → Answers store more old new → HasCleanDisk (state store new) → Finds es old
      → Finds (es ++ more) new
  finds_all es [] old new office leads kept same clean before =
      subst (λ all. Finds all new) (sym (append-nil es))
      (subst (Finds es) (sym same) before)
  finds_all es (e ∷ more) old new office leads kept run clean before =
      let mid = run.0 in
      let clean_mid = clean_then store more mid new run.2 clean in
      let led = run.1.step clean_mid office kept in
      let step : RepliesAll (e ∷ []) office led.0 = (led.0, led.1, refl) in
      subst (λ all. Finds all new) (append_assoc es (e ∷ []) more)
      (finds_all (es ++ e ∷ []) more mid new led.0 (leads_then es e start office led.0 leads step)
      led.2 run.2 clean
      (finds_next es e old mid office led.0 leads step kept led.2 clean_mid run.1 before))

-- after connections, whatever their messages were
pub found_after : {S : Type 0} (store : Ghosts S)
    → ((h : Held S) (found : Trees) → IsCommitted (state store h)
    → (state store h).may_leave found → found ≡ (state store h).now.trees)
    → (visits : List Visit) (old new : Held S) (office : OfficeState) (opened : State)
    (run : ServesVisits (Answered store) visits old new) → IsCommitted (state store old)
    → IsDatabase (state store old).now → RepresentsOffice (state store old).now office
    → HasCleanDisk (state store new) → OpenedAfter (state store new) opened
    → IsAfterFront (all_exchanges (Answered store) visits old new run) office opened.now
found_after store settled visits old new office opened run committed live kept clean found =
    finds_all store settled office opened found.sound []
    (all_exchanges (Answered store) visits old new run) old new office refl (λ _. kept)
    (visits_answered store visits old new run) clean
    (λ may. after_all office opened.now [] office refl
    (subst (λ db. RepresentsOffice db office)
    (sym (before_is store old committed live (λ trees. settled old trees committed) opened
    found.sound may)) kept)) found.may
