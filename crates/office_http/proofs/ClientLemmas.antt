-- Many clients, one after another: the office serves what the desk serves, and each candidate gets
-- the text of their view.
use Rattle.std.proofs.Common.{◌≡◌, ◌∙◌, ℕ, List, [], ◌∷◌, ◌++◌, Option, Result, Ok, Err, IfOk, IfErr, All}
use Rattle.std.proofs.Common.{ap, refl, subst, sym}
use Rattle.std.proofs.lemmas.List.Elements.{All-append, All-cons, All-head, All-nil, All-tail, All-weaker}
use Rattle.exam_lists.proofs.Parts.{All-append_left, All-append_right}
use Rattle.sqlite.specs.Held.{Held, state}
use Rattle.sqlite.specs.State.{HasCleanDisk}
use Rattle.sqlite.specs.Store.{Ghosts}
use Rattle.office_messages.specs.Serve.{Serves, ServesFront}
use Rattle.office_messages.specs.Visits.{Visit, ServesVisits}
use Rattle.office_messages.specs.declared.connection.Served.{Served}
use Rattle.office_messages.specs.declared.connection.ServeFault.{ServeFault}
use Rattle.office_messages.specs.declared.connection.ServeFault.TheVariants.{Read, Write, TooMany, NoMemory}
use Rattle.office_model.specs.Office.{OfficeState}
use Rattle.office_model.specs.Views.{view_of}
use Rattle.office_store.specs.Running.{Represents}
use Rattle.office_http.specs.Clients.{ServesAll, ServesAllByView, ServesTo, all_entries, entries_to}
use Rattle.office_http.specs.Isolation.{GetSameBytes, GetBytesByView, IsOwnOrQuiet, RepliesView}
use Rattle.office_http.specs.Replying.{Answered}
use Rattle.office_http.specs.Serving.{LeadsOffice}
use Rattle.office_http.specs.Transcripts.{Entry, RepliesOwnView, transcript}
use Rattle.office_http.proofs.IsolationLemmas.{Sees, all_alike, all_by_view, both_all, each_by_view, quiet_each, quiet_end}
use Rattle.office_http.proofs.ServingLemmas.{serves_front_leads, serves_leads}

-- ---- the office serves what the desk serves

module _ {S : Type 0} (store : Ghosts S) where
  ended_leads : (ended : Result Served ServeFault) (input before after : Option (List ℕ))
      (old new : Held S)
      → IfOk ended (λ served. Serves (Answered store) input before after old new served)
      → IfErr ended (λ fault. ServesFront (Answered store) input before after old new fault)
      → LeadsOffice store (ServesTo ended input before after) old new
  ended_leads (Ok served) input before after old new x y =
      serves_leads store input before after old new (Ok served) x
  ended_leads (Err fault) input before after old new x y =
      serves_front_leads store input before after old new (Err fault) y

  pub visits_lead : (vs : List Visit) (old new : Held S) → ServesVisits (Answered store) vs old new
      → LeadsOffice store (ServesAll vs) old new
  visits_lead [] old new is = record {
    clean = subst (λ h. HasCleanDisk (state store h)) is;
    runs = λ clean office now.
        (office, refl, subst (λ h. Represents (state store h) office) (sym is) now);
  }
  visits_lead (v ∷ vs) old new (mid, served, rest) =
      let first = ended_leads v.ended v.input v.before v.after old mid served.0 served.1 in
      let last = visits_lead vs mid new rest in
      record {
        clean = λ clean. first.clean (last.clean clean);
        runs = λ clean office now.
            let here = first.runs (last.clean clean) office now in
            let later = last.runs clean here.0 here.2 in
            (later.0, (here.0, here.1, later.1), later.2);
      }

-- ---- each candidate gets the text of their view

-- in runs of messages, each run ordered in itself
trace_to : (ended : Result Served ServeFault) (input before after : Option (List ℕ))
    (old new : OfficeState) (run : ServesTo ended input before after old new)
    → All RepliesOwnView (entries_to ended input before after old new run)
trace_to (Ok served) input before after old new run =
    each_by_view run.items old new run.output run.trace
trace_to (Err Read) input before after old new (items, output, begins, trace, written) =
    each_by_view items old new output trace
trace_to (Err Write) input before after old new (items, output, begins, x) =
    All-append RepliesOwnView (transcript x.whole old x.front x.mid x.trace)
    (transcript (x.last ∷ []) x.mid (x.sent ++ x.unsent) new x.last_trace)
    (each_by_view x.whole old x.mid x.front x.trace)
    (each_by_view (x.last ∷ []) x.mid new (x.sent ++ x.unsent) x.last_trace)
trace_to (Err TooMany) input before after old new (items, output, begins, trace, written) =
    each_by_view items old new output trace
trace_to (Err NoMemory) input before after old new (items, output, begins, trace, written) =
    each_by_view items old new output trace

pub all_given_trace : (vs : List Visit) (old new : OfficeState) (run : ServesAll vs old new)
    → All RepliesOwnView (all_entries vs old new run)
all_given_trace [] old new run = All-nil RepliesOwnView
all_given_trace (v ∷ vs) old new (mid, served, rest) =
    All-append RepliesOwnView (entries_to v.ended v.input v.before v.after old mid served)
    (all_entries vs mid new rest) (trace_to v.ended v.input v.before v.after old mid served)
    (all_given_trace vs mid new rest)

pub visits_by_view : {S : Type 0} (store : Ghosts S) (vs : List Visit) (old new : Held S)
    → ServesVisits (Answered store) vs old new → LeadsOffice store (ServesAllByView vs) old new
visits_by_view store vs old new served =
    let leads = visits_lead store vs old new served in
    record {
      clean = leads.clean;
      runs = λ clean office now.
          let led = leads.runs clean office now in
          (led.0, (led.1, all_given_trace vs office led.0 led.1), led.2);
    }

-- ---- if others' messages are quiet for the candidate

end_to : (s : ℕ) (ended : Result Served ServeFault) (input before after : Option (List ℕ))
    (old new : OfficeState) (run : ServesTo ended input before after old new)
    → All (IsOwnOrQuiet s) (entries_to ended input before after old new run)
    → view_of s new ≡ view_of s old
end_to s (Ok served) input before after old new run q =
    quiet_end s run.items old new run.output run.trace q
end_to s (Err Read) input before after old new (items, output, begins, trace, written) q =
    quiet_end s items old new output trace q
end_to s (Err Write) input before after old new (items, output, begins, x) q =
    let first = transcript x.whole old x.front x.mid x.trace in
    let last = transcript (x.last ∷ []) x.mid (x.sent ++ x.unsent) new x.last_trace in
    quiet_end s (x.last ∷ []) x.mid new (x.sent ++ x.unsent) x.last_trace
    (All-append_right (IsOwnOrQuiet s) first last q)
    ∙ quiet_end s x.whole old x.mid x.front x.trace (All-append_left (IsOwnOrQuiet s) first last q)
end_to s (Err TooMany) input before after old new (items, output, begins, trace, written) q =
    quiet_end s items old new output trace q
end_to s (Err NoMemory) input before after old new (items, output, begins, trace, written) q =
    quiet_end s items old new output trace q

pub all_end : (s : ℕ) (vs : List Visit) (old new : OfficeState) (run : ServesAll vs old new)
    → All (IsOwnOrQuiet s) (all_entries vs old new run) → view_of s new ≡ view_of s old
all_end s [] old new run q = ap (view_of s) run
all_end s (v ∷ vs) old new (mid, served, rest) q =
    let first = entries_to v.ended v.input v.before v.after old mid served in
    let later = all_entries vs mid new rest in
    all_end s vs mid new rest (All-append_right (IsOwnOrQuiet s) first later q)
    ∙ end_to s v.ended v.input v.before v.after old mid served
    (All-append_left (IsOwnOrQuiet s) first later q)

-- entries that see a view, then entries that see the same view of a later office
seen_on : (s : ℕ) (old mid : OfficeState) (first later : List Entry)
    → view_of s mid ≡ view_of s old → All (Sees s (view_of s old)) first
    → All (Sees s (view_of s mid)) later → All (Sees s (view_of s old)) (first ++ later)
seen_on s old mid first later same here there =
    All-append (Sees s (view_of s old)) first later here
    (All-weaker (Sees s (view_of s mid)) (Sees s (view_of s old)) (λ e h. h ∙ same) later there)

each_to : (s : ℕ) (ended : Result Served ServeFault) (input before after : Option (List ℕ))
    (old new : OfficeState) (run : ServesTo ended input before after old new)
    → All (IsOwnOrQuiet s) (entries_to ended input before after old new run)
    → All (Sees s (view_of s old)) (entries_to ended input before after old new run)
each_to s (Ok served) input before after old new run q =
    quiet_each s run.items old new run.output run.trace q
each_to s (Err Read) input before after old new (items, output, begins, trace, written) q =
    quiet_each s items old new output trace q
each_to s (Err Write) input before after old new (items, output, begins, x) q =
    let first = transcript x.whole old x.front x.mid x.trace in
    let last = transcript (x.last ∷ []) x.mid (x.sent ++ x.unsent) new x.last_trace in
    let here = All-append_left (IsOwnOrQuiet s) first last q in
    seen_on s old x.mid first last (quiet_end s x.whole old x.mid x.front x.trace here)
    (quiet_each s x.whole old x.mid x.front x.trace here)
    (quiet_each s (x.last ∷ []) x.mid new (x.sent ++ x.unsent) x.last_trace
    (All-append_right (IsOwnOrQuiet s) first last q))
each_to s (Err TooMany) input before after old new (items, output, begins, trace, written) q =
    quiet_each s items old new output trace q
each_to s (Err NoMemory) input before after old new (items, output, begins, trace, written) q =
    quiet_each s items old new output trace q

pub all_each : (s : ℕ) (vs : List Visit) (old new : OfficeState) (run : ServesAll vs old new)
    → All (IsOwnOrQuiet s) (all_entries vs old new run)
    → All (Sees s (view_of s old)) (all_entries vs old new run)
all_each s [] old new run q = All-nil (Sees s (view_of s old))
all_each s (v ∷ vs) old new (mid, served, rest) q =
    let first = entries_to v.ended v.input v.before v.after old mid served in
    let later = all_entries vs mid new rest in
    let here = All-append_left (IsOwnOrQuiet s) first later q in
    seen_on s old mid first later (end_to s v.ended v.input v.before v.after old mid served here)
    (each_to s v.ended v.input v.before v.after old mid served here)
    (all_each s vs mid new rest (All-append_right (IsOwnOrQuiet s) first later q))

pub all_quiet_by_view : (s : ℕ) (vs : List Visit) (old new : OfficeState)
    (run : ServesAll vs old new)
    → All (IsOwnOrQuiet s) (all_entries vs old new run)
    → All (RepliesView s (view_of s old)) (all_entries vs old new run)
all_quiet_by_view s vs old new run q =
    both_all s (view_of s old) (all_entries vs old new run) (all_given_trace vs old new run)
    (all_each s vs old new run q)

-- ---- two offices

pub two_agree : (s : ℕ) (vs ws : List Visit) (one next other last : OfficeState)
    (first : ServesAll vs one next) (second : ServesAll ws other last)
    → GetBytesByView s (all_entries vs one next first) (all_entries ws other last second)
two_agree s vs ws one next other last first second =
    all_by_view s (all_entries vs one next first) (all_entries ws other last second)
    (all_given_trace vs one next first) (all_given_trace ws other last second)

pub two_quiet : (s : ℕ) (vs ws : List Visit) (one next other last : OfficeState)
    (first : ServesAll vs one next) (second : ServesAll ws other last)
    → view_of s one ≡ view_of s other
    → All (IsOwnOrQuiet s) (all_entries vs one next first)
    → All (IsOwnOrQuiet s) (all_entries ws other last second)
    → GetSameBytes s (all_entries vs one next first) (all_entries ws other last second)
two_quiet s vs ws one next other last first second same q k =
    let here = all_entries vs one next first in
    let there = all_entries ws other last second in
    all_alike s (view_of s other) here there (two_agree s vs ws one next other last first second)
    (subst (λ view. All (Sees s view) here) same (all_each s vs one next first q))
    (all_each s ws other last second k)
