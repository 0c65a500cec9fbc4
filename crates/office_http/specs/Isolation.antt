-- The replies to candidates over whole connections, and the messages that leave their views
-- unchanged.
use Rattle.std.specs.Prelude.{◌≡◌, ◌≢◌, ◌⊎◌, ℕ, List, [], All, flat_map, Option, Some, None, IfSome}
use Rattle.exam_model.specs.declared.change.Change.{Change}
use Rattle.office_messages.specs.FixedReplies.{unavailable}
use Rattle.office_model.specs.Batches.{changes_to}
use Rattle.office_model.specs.Office.{OfficeState}
use Rattle.office_model.specs.Quiet.{IsQuiet, KeepsPublication, new_changes}
use Rattle.office_model.specs.Runs.{Exchange}
use Rattle.office_model.specs.Views.{View, view_of}
use Rattle.office_http.specs.Transcripts.{Entry, request_and_reply}
use Rattle.office_http.specs.CandidateMessages.{IsFrom, reply_from_view, AsksTheSame, HaveSameBytes}

-- ---- views

-- the candidate gets the text of this view, or the reply that the office is unavailable
abbrev pub RepliesView : ℕ → View → Entry → Type 0
RepliesView s view e =
    IsFrom s e.request → (e.reply ≡ reply_from_view s e.request view) ⊎ (e.reply ≡ unavailable)

-- the message is quiet for a candidate: the command that it asks for leaves their view unchanged
abbrev pub IsQuietFor : ℕ → Entry → Type 0
IsQuietFor s e = IfSome e.asked (λ x. IsQuiet s e.office x.command x.answer)

-- it is the candidate's own message, or quiet for them
abbrev pub IsOwnOrQuiet : ℕ → Entry → Type 0
IsOwnOrQuiet s e = ¬ (IsFrom s e.request) → IsQuietFor s e

-- if the candidate asks for the same in both, they get the same bytes
abbrev pub GetsSameBytes : ℕ → Entry → Entry → Type 0
GetsSameBytes s x y =
    IsFrom s x.request → IsFrom s y.request → AsksTheSame x.request y.request
    → HaveSameBytes (request_and_reply x) (request_and_reply y)

-- the same for each message of one list and each message of the other
abbrev pub GetSameBytes : ℕ → List Entry → List Entry → Type 0
GetSameBytes s xs ys = All (λ x. All (GetsSameBytes s x) ys) xs

-- the same, if both messages were received by offices that agree on the candidate's view
abbrev pub GetBytesByView : ℕ → List Entry → List Entry → Type 0
GetBytesByView s xs ys =
    All (λ x. All (λ y. view_of s x.office ≡ view_of s y.office → GetsSameBytes s x y) ys) xs

-- no reply says that the office is unavailable
abbrev pub AreAvailable : List Entry → Type 0
AreAvailable es = All (λ e. e.reply ≢ unavailable) es

-- ---- changes

-- neither an accepted load nor an accepted publication
abbrev pub LeavesPublication : Entry → Type 0
LeavesPublication e = IfSome e.asked (λ x. KeepsPublication x.answer)

-- the changes to a candidate that a command made for the first time
abbrev pub changes_by : ℕ → OfficeState → Option Exchange → List Change
changes_by s office None = []
changes_by s office (Some x) = changes_to s (new_changes office x.command x.answer)

-- the changes to a candidate that a run made for the first time, in their order
abbrev pub changes_to_candidate : ℕ → List Entry → List Change
changes_to_candidate s es = flat_map (λ e. changes_by s e.office e.asked) es
