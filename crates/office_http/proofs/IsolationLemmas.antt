-- A candidate's replies over whole connections depend only on their view, which quiet messages
-- keep.
use Rattle.std.proofs.Common.{◌≡◌, ◌≢◌, ◌⊎◌, ◌∙◌, ℕ, Bool, false, List, [], ◌∷◌, ◌++◌, Option, Some, None, Result, Ok, Err, IfOk, IfSome, All, ap, get_or, inl, inr, refl, subst, sym, true≢false}
use Rattle.std.specs.Prelude.{◌==◌}
use Rattle.std.proofs.lemmas.Bool.{cases_eq, eq-eqb, ne_eqb}
use Rattle.std.proofs.lemmas.List.Elements.{All-cons, All-head, All-nil, All-tail, All-weaker}
use Rattle.exam_model.specs.declared.change.Change.{Change}
use Rattle.sqlite.specs.Held.{Held}
use Rattle.sqlite.specs.Store.{Ghosts}
use Rattle.office_messages.specs.Form.{form_of}
use Rattle.office_messages.specs.Reply.{PlainReply, reply_text}
use Rattle.office_messages.specs.FixedReplies.{fault_reply, unavailable}
use Rattle.office_messages.specs.Messages.{Item, asks, fails}
use Rattle.office_messages.specs.Serve.{Serves, AnswersItems}
use Rattle.office_messages.specs.Stream.{PlainRequest}
use Rattle.office_messages.specs.declared.connection.ServeFault.{ServeFault}
use Rattle.office_messages.specs.declared.connection.Served.{Served}
use Rattle.office_policy.specs.Commands.{PlainCommand}
use Rattle.office_policy.specs.declared.callers.Caller.{Caller}
use Rattle.office_policy.specs.declared.callers.Caller.TheVariants.{Cand, Dept, Office}
use Rattle.office_requests.specs.Methods.{verb_of}
use Rattle.office_requests.specs.Requests.{PlainCallerCommand, caller_in, own_command, command_or_refusal}
use Rattle.office_requests.specs.declared.requests.Refusal.{Refusal}
use Rattle.office_model.specs.Office.{OfficeState}
use Rattle.office_model.specs.Quiet.{IsQuiet, KeepsPublication}
use Rattle.office_model.specs.Runs.{Exchange, RunWith}
use Rattle.office_model.specs.Step.{Outcome}
use Rattle.office_model.specs.Views.{View, view_of}
use Rattle.office_model.proofs.ChangeLemmas.{alike}
use Rattle.office_model.proofs.QuietLemmas.{quiet_one}
use Rattle.office_model.proofs.AnswerLemmas as model
use Rattle.office_http.specs.CandidateMessages.{HaveSameBytes, AreFrom, AsksTheSame, IsFrom, bytes_of, output_from_view, reply_from_view}
use Rattle.office_http.specs.Isolation.{AreAvailable, GetSameBytes, GetBytesByView, IsOwnOrQuiet, IsQuietFor, GetsSameBytes, LeavesPublication, RepliesView, changes_by, changes_to_candidate}
use Rattle.office_http.specs.Transcripts.{Entry, ServesByView, RepliesOwnView, exchange_in, entry, transcript}
use Rattle.office_http.specs.Replying.{Answered, Replies, RepliesTo, view_or_denial}
use Rattle.office_http.specs.Serving.{LeadsOffice}
use Rattle.office_http.proofs.CandidateLemmas.{own_reading, said_by, replies_view}
use Rattle.office_http.proofs.ServingLemmas.{serves_leads}

-- ---- one message

stays_by : (s : ℕ) (command : Option PlainCommand) (old new : OfficeState) (reply : PlainReply)
    → RepliesTo (said_by s command) old reply new → new ≡ old
stays_by s None old new reply h = h.0
stays_by s (Some command) old new reply (answer, step, is) = elim step [
  | inl same ↦ ap (λ (o : Outcome). o.0) same
      ∙ ap (λ (o : Outcome). o.0) (model.candidate_answer s old command)
  | inr h ↦ h.0
]

-- a candidate's own message changes nothing
pub stays : (s : ℕ) (old new : OfficeState) (request : PlainRequest) (reply : PlainReply)
    → Replies old request reply new → IsFrom s request → new ≡ old
stays s old new request reply h is =
    stays_by s (own_command (verb_of request.method) request.target) old new reply
    (subst (λ said. RepliesTo said old reply new) (own_reading s request is) h)

-- two replies that depend on one view, unless the office is unavailable for one of them
both_by : (said : PlainReply) (one other : PlainRequest) (reply answer : PlainReply)
    → one.method ≡ other.method → (reply ≡ said) ⊎ (reply ≡ unavailable)
    → (answer ≡ said) ⊎ (answer ≡ unavailable) → HaveSameBytes (one, reply) (other, answer)
both_by said one other reply answer method (inl r) (inl a) =
    inl (ap (λ m. reply_text (form_of m) reply) method
    ∙ ap (reply_text (form_of other.method)) (r ∙ sym a))
both_by said one other reply answer method (inr r) a = inr (inl r)
both_by said one other reply answer method r (inr a) = inr (inr a)

-- two offices that agree on a candidate's view
pub same_bytes : (s : ℕ) (one other next last : OfficeState) (request : PlainRequest)
    (reply answer : PlainReply) → view_of s one ≡ view_of s other → IsFrom s request
    → Replies one request reply next → Replies other request answer last
    → HaveSameBytes (request, reply) (request, answer)
same_bytes s one other next last request reply answer same is h k =
    both_by (reply_from_view s request (view_of s other)) request request reply answer refl
    (subst (λ view. (reply ≡ reply_from_view s request view) ⊎ (reply ≡ unavailable)) same
    (replies_view one next request reply h s is))
    (replies_view other last request answer k s is)

quiet_said : (s : ℕ) (said : Result PlainCallerCommand Refusal) (old new : OfficeState)
    (reply : PlainReply)
    → (trace : RepliesTo said old reply new)
    → IfSome (exchange_in said old reply new trace) (λ x. IsQuiet s old x.command x.answer)
    → view_of s new ≡ view_of s old
quiet_said s (Ok asked) old new reply trace q =
    quiet_one s old new asked.caller asked.command trace.0 trace.1 q
quiet_said s (Err refusal) old new reply trace q = ap (view_of s) trace.0

-- a message that is quiet for a candidate
pub quiet_leaves : (s : ℕ) (old new : OfficeState) (request : PlainRequest) (reply : PlainReply)
    → (trace : Replies old request reply new) → IsQuietFor s (entry old request reply new trace)
    → view_of s new ≡ view_of s old
quiet_leaves s old new request reply trace q =
    quiet_said s (command_or_refusal request.method request.target request.caller request.body) old new reply
    trace q

-- ---- whether a message is the candidate's

abbrev is_candidate : ℕ → Option Caller → Bool
is_candidate s None = false
is_candidate s (Some Office) = false
is_candidate s (Some (Dept d)) = false
is_candidate s (Some (Cand t)) = t == s

not_own : (s : ℕ) (found : Option Caller) → is_candidate s found ≡ false
    → ¬ (found ≡ Some (Cand s))
not_own s found other is =
    true≢false (sym (ap (is_candidate s) is ∙ eq-eqb s s refl) ∙ other)

own_or_not : (s : ℕ) (found : Option Caller)
    → (found ≡ Some (Cand s)) ⊎ (¬ (found ≡ Some (Cand s)))
own_or_not s None = inr (not_own s None refl)
own_or_not s (Some Office) = inr (not_own s (Some Office) refl)
own_or_not s (Some (Dept d)) = inr (not_own s (Some (Dept d)) refl)
own_or_not s (Some (Cand t)) = elim (cases_eq t s) [
  | inl is ↦ inl (ap (λ n. Some (Cand n)) is)
  | inr other ↦ inr (not_own s (Some (Cand t)) (ne_eqb t s other))
]

-- a message of the candidate's, or one quiet for them, leaves their view unchanged
leaves : (s : ℕ) (old new : OfficeState) (request : PlainRequest) (reply : PlainReply)
    → (trace : Replies old request reply new) → IsOwnOrQuiet s (entry old request reply new trace)
    → view_of s new ≡ view_of s old
leaves s old new request reply trace q = elim (own_or_not s (caller_in request.caller)) [
  | inl is ↦ ap (view_of s) (stays s old new request reply trace is)
  | inr other ↦ quiet_leaves s old new request reply trace (q other)
]

-- ---- runs

pub each_by_view : (items : List Item) (old new : OfficeState) (output : List ℕ)
    (trace : AnswersItems Replies items old output new)
    → All RepliesOwnView (transcript items old output new trace)
each_by_view [] old new output trace = All-nil RepliesOwnView
each_by_view (fails fault form ∷ items) old new output (rest, is, trace) =
    each_by_view items old new rest trace
each_by_view (asks request ∷ items) old new output (mid, reply, rest, step, is, trace) =
    All-cons RepliesOwnView (entry old request reply mid step) (transcript items mid rest new trace)
    (replies_view old mid request reply step) (each_by_view items mid new rest trace)

pub quiet_end : (s : ℕ) (items : List Item) (old new : OfficeState) (output : List ℕ)
    (trace : AnswersItems Replies items old output new)
    → All (IsOwnOrQuiet s) (transcript items old output new trace) → view_of s new ≡ view_of s old
quiet_end s [] old new output trace q = ap (view_of s) trace.1
quiet_end s (fails fault form ∷ items) old new output (rest, is, trace) q =
    quiet_end s items old new rest trace q
quiet_end s (asks request ∷ items) old new output (mid, reply, rest, step, is, trace) q =
    let first = entry old request reply mid step in
    let later = transcript items mid rest new trace in
    quiet_end s items mid new rest trace (All-tail (IsOwnOrQuiet s) first later q)
    ∙ leaves s old mid request reply step (All-head (IsOwnOrQuiet s) first later q)

abbrev pub Sees : ℕ → View → Entry → Type 0
Sees s view e = view_of s e.office ≡ view

pub quiet_each : (s : ℕ) (items : List Item) (old new : OfficeState) (output : List ℕ)
    (trace : AnswersItems Replies items old output new)
    → All (IsOwnOrQuiet s) (transcript items old output new trace)
    → All (Sees s (view_of s old)) (transcript items old output new trace)
quiet_each s [] old new output trace q = All-nil (Sees s (view_of s old))
quiet_each s (fails fault form ∷ items) old new output (rest, is, trace) q =
    quiet_each s items old new rest trace q
quiet_each s (asks request ∷ items) old new output (mid, reply, rest, step, is, trace) q =
    let first = entry old request reply mid step in
    let later = transcript items mid rest new trace in
    All-cons (Sees s (view_of s old)) first later refl
    (All-weaker (Sees s (view_of s mid)) (Sees s (view_of s old))
    (λ e h. h ∙ leaves s old mid request reply step (All-head (IsOwnOrQuiet s) first later q))
    later
    (quiet_each s items mid new rest trace (All-tail (IsOwnOrQuiet s) first later q)))

trace_one : (s : ℕ) (view : View) (e : Entry) → RepliesOwnView e → Sees s view e
    → RepliesView s view e
trace_one s view e trace same is =
    subst (λ v. (e.reply ≡ reply_from_view s e.request v) ⊎ (e.reply ≡ unavailable)) same
    (trace s is)

-- if each message finds this view, the candidate gets its text
pub both_all : (s : ℕ) (view : View) (es : List Entry) → All RepliesOwnView es
    → All (Sees s view) es
    → All (RepliesView s view) es
both_all s view es trace same = λ k d lt. trace_one s view (get_or es k d) (trace k d lt)
    (same k d lt)

pub quiet_by_view : (s : ℕ) (items : List Item) (old new : OfficeState) (output : List ℕ)
    (trace : AnswersItems Replies items old output new)
    → All (IsOwnOrQuiet s) (transcript items old output new trace)
    → All (RepliesView s (view_of s old)) (transcript items old output new trace)
quiet_by_view s items old new output trace q =
    both_all s (view_of s old) (transcript items old output new trace)
    (each_by_view items old new output trace) (quiet_each s items old new output trace q)

-- ---- two connections

asks_same : (s : ℕ) (view : View) (one other : PlainRequest) → AsksTheSame one other
    → reply_from_view s one view ≡ reply_from_view s other view
asks_same s view one other same =
    λ i. view_or_denial s (own_command (verb_of (same.method i)) (same.target i)) view

-- two messages of a candidate that ask for the same, in offices that agree on their view
pair_alike : (s : ℕ) (x y : Entry) → RepliesOwnView x → RepliesOwnView y
    → view_of s x.office ≡ view_of s y.office → GetsSameBytes s x y
pair_alike s x y trace said view is also same =
    let replied = subst (λ v. RepliesView s v x) view (trace s) in
    both_by (reply_from_view s y.request (view_of s y.office)) x.request y.request x.reply y.reply
    same.method
    (subst (λ r. (x.reply ≡ r) ⊎ (x.reply ≡ unavailable))
    (asks_same s (view_of s y.office) x.request y.request same) (replied is))
    (said s also)

pub all_by_view : (s : ℕ) (xs ys : List Entry) → All RepliesOwnView xs → All RepliesOwnView ys
    → GetBytesByView s xs ys
all_by_view s xs ys trace said =
    λ k d lt i e in'. pair_alike s (get_or xs k d) (get_or ys i e) (trace k d lt) (said i e in')

pub all_alike : (s : ℕ) (view : View) (xs ys : List Entry) → GetBytesByView s xs ys
    → All (Sees s view) xs → All (Sees s view) ys → GetSameBytes s xs ys
all_alike s view xs ys alike one other =
    λ k d lt i e in'. alike k d lt i e in' (one k d lt ∙ sym (other i e in'))

pub both_quiet : (s : ℕ) (items others : List Item) (one next other last : OfficeState)
    (output text : List ℕ) (first : AnswersItems Replies items one output next)
    (second : AnswersItems Replies others other text last) → view_of s one ≡ view_of s other
    → All (IsOwnOrQuiet s) (transcript items one output next first)
    → All (IsOwnOrQuiet s) (transcript others other text last second)
    → GetSameBytes s (transcript items one output next first)
    (transcript others other text last second)
both_quiet s items others one next other last output text first second same q k =
    let here = transcript items one output next first in
    let there = transcript others other text last second in
    all_alike s (view_of s other) here there
    (all_by_view s here there (each_by_view items one next output first)
    (each_by_view others other last text second))
    (subst (λ view. All (Sees s view) here) same (quiet_each s items one next output first q))
    (quiet_each s others other last text second k)

-- ---- connections with only a candidate's messages

pub stays_all : (s : ℕ) (items : List Item) (old new : OfficeState) (output : List ℕ)
    → AnswersItems Replies items old output new → AreFrom s items → new ≡ old
stays_all s [] old new output trace own_items = trace.1
stays_all s (fails fault form ∷ items) old new output (rest, is, trace) own_items =
    stays_all s items old new rest trace own_items
stays_all s (asks request ∷ items) old new output (mid, reply, rest, step, is, trace) own_items =
    stays_all s items mid new rest trace own_items.1
    ∙ stays s old mid request reply step own_items.0

not_unavailable : (reply said : PlainReply) → (reply ≡ said) ⊎ (reply ≡ unavailable)
    → reply ≢ unavailable → reply ≡ said
not_unavailable reply said (inl is) other = is
not_unavailable reply said (inr none) other = absurd (other none)

pub written : (s : ℕ) (items : List Item) (old new : OfficeState) (output : List ℕ)
    (trace : AnswersItems Replies items old output new) → AreFrom s items
    → AreAvailable (transcript items old output new trace)
    → output ≡ output_from_view s (view_of s old) items
written s [] old new output trace own_items fine = trace.0
written s (fails fault form ∷ items) old new output (rest, is, trace) own_items fine =
    is ∙ ap (λ bytes. reply_text form (fault_reply fault) ++ bytes)
    (written s items old new rest trace own_items fine)
written s (asks request ∷ items) old new output (mid, reply, rest, step, is, trace) own_items fine =
    let first = entry old request reply mid step in
    let later = transcript items mid rest new trace in
    let here : reply ≡ reply_from_view s request (view_of s old) =
    not_unavailable reply (reply_from_view s request (view_of s old))
    (replies_view old mid request reply step s own_items.0)
    (All-head (λ e. e.reply ≢ unavailable) first later fine) in
    let there : rest ≡ output_from_view s (view_of s old) items =
    written s items mid new rest trace own_items.1
    (All-tail (λ e. e.reply ≢ unavailable) first later fine)
    ∙ ap (λ office. output_from_view s (view_of s office) items)
    (stays s old mid request reply step own_items.0) in
    is ∙ (λ i. bytes_of (request, here i) ++ there i)

-- two of them with the same messages, to offices that agree on the view
pub same_output : (s : ℕ) (items others : List Item) (one next other last : OfficeState)
    (output text : List ℕ) (first : AnswersItems Replies items one output next)
    (second : AnswersItems Replies others other text last) → view_of s one ≡ view_of s other
    → items ≡ others → AreFrom s items → AreAvailable (transcript items one output next first)
    → AreAvailable (transcript others other text last second) → output ≡ text
same_output s items others one next other last output text first second same is own_items fine fit =
    written s items one next output first own_items fine ∙ (λ i. output_from_view s (same i) (is i))
    ∙ sym (written s others other last text second (subst (AreFrom s) is own_items) fit)

-- ---- the same changes

-- one more exchange, if a command was asked for
abbrev with_asked : Option Exchange → List Exchange → List Exchange
with_asked None xs = xs
with_asked (Some x) xs = x ∷ xs

abbrev exchanges : List Entry → List Exchange
exchanges [] = []
exchanges (e ∷ es) = with_asked e.asked (exchanges es)

one_more : (s : ℕ) (said : Result PlainCallerCommand Refusal) (old mid new : OfficeState)
    (reply : PlainReply) (trace : RepliesTo said old reply mid) (later : List Change)
    (xs : List Exchange)
    → IfSome (exchange_in said old reply mid trace) (λ x. KeepsPublication x.answer)
    → RunWith s later mid xs new
    → RunWith s (changes_by s old (exchange_in said old reply mid trace) ++ later) old
    (with_asked (exchange_in said old reply mid trace) xs) new
one_more s (Ok asked) old mid new reply trace later xs keeps run =
    (mid, later, trace.1, keeps, refl, run)
one_more s (Err refusal) old mid new reply trace later xs keeps run =
    subst (λ office. RunWith s later office xs new) trace.0 run

-- a run over messages is one over what they ask for
runs : (s : ℕ) (items : List Item) (old new : OfficeState) (output : List ℕ)
    (trace : AnswersItems Replies items old output new)
    → All LeavesPublication (transcript items old output new trace)
    → RunWith s (changes_to_candidate s (transcript items old output new trace)) old
    (exchanges (transcript items old output new trace)) new
runs s [] old new output trace keeps = (refl, trace.1)
runs s (fails fault form ∷ items) old new output (rest, is, trace) keeps =
    runs s items old new rest trace keeps
runs s (asks request ∷ items) old new output (mid, reply, rest, step, is, trace) keeps =
    let first = entry old request reply mid step in
    let later = transcript items mid rest new trace in
    one_more s (command_or_refusal request.method request.target request.caller request.body) old mid new reply
    step (changes_to_candidate s later) (exchanges later)
    (All-head LeavesPublication first later keeps)
    (runs s items mid new rest trace (All-tail LeavesPublication first later keeps))

pub same_changes : (s : ℕ) (old one other : OfficeState) (items others : List Item)
    (output text : List ℕ) (first : AnswersItems Replies items old output one)
    (second : AnswersItems Replies others old text other)
    → All LeavesPublication (transcript items old output one first)
    → All LeavesPublication (transcript others old text other second)
    → changes_to_candidate s (transcript items old output one first)
    ≡ changes_to_candidate s (transcript others old text other second) → view_of s one
    ≡ view_of s other
same_changes s old one other items others output text first second keeps too same =
    let here = transcript items old output one first in
    let there = transcript others old text other second in
    alike s (changes_to_candidate s here) old one other (exchanges here) (exchanges there)
    (runs s items old one output first keeps)
    (subst (λ changes. RunWith s changes old (exchanges there) other) (sym same)
    (runs s others old other text second too))

pub same_changes_bytes : (s : ℕ) (old one other next last : OfficeState) (items others : List Item)
    (output text : List ℕ) (request : PlainRequest) (reply answer : PlainReply)
    (first : AnswersItems Replies items old output one)
    (second : AnswersItems Replies others old text other)
    → All LeavesPublication (transcript items old output one first)
    → All LeavesPublication (transcript others old text other second)
    → changes_to_candidate s (transcript items old output one first)
    ≡ changes_to_candidate s (transcript others old text other second)
    → IsFrom s request → Replies one request reply next → Replies other request answer last
    → HaveSameBytes (request, reply) (request, answer)
same_changes_bytes s old one other next last items others output text request reply answer first
    second keeps too same is h k =
    same_bytes s one other next last request reply answer
    (same_changes s old one other items others output text first second keeps too same) is h k

-- ---- the replies of a connection, whatever office the file represents

by_view : {S : Type 0} (store : Ghosts S) (input before after : Option (List ℕ))
    (old new : Held S) (result : Result Served ServeFault)
    → IfOk result (λ served. LeadsOffice store
    (λ office next. Serves Replies input before after office next served) old new)
    → IfOk result (λ served. LeadsOffice store
    (λ office next. ServesByView input before after office next served) old new)
by_view store input before after old new (Err fault) h = tt
by_view store input before after old new (Ok served) h = record {
  clean = h.clean;
  runs = λ clean office now.
      let run = h.runs clean office now in
      let trace = each_by_view (run.1).items office run.0 (run.1).output (run.1).trace in
      (run.0, (run.1, trace), run.2);
}

pub serves_by_view : {S : Type 0} (store : Ghosts S) (input before after : Option (List ℕ))
    (old new : Held S) (result : Result Served ServeFault)
    → IfOk result (λ served. Serves (Answered store) input before after old new served)
    → IfOk result (λ served. LeadsOffice store
    (λ office next. ServesByView input before after office next served) old new)
serves_by_view store input before after old new result x =
    by_view store input before after old new result
    (serves_leads store input before after old new result x)
