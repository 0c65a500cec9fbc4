-- The reply to each refusal of the office.
use Rattle.std.specs.Prelude.{ℕ, List, [], ◌∷◌, codes}
use Rattle.exam_rules.specs.declared.breach.Breach.{Breach}
use Rattle.exam_draft.specs.declared.fault.EditFault.{EditFault}
use Rattle.exam_draft.specs.declared.fault.EditFault.TheVariants as edit
use Rattle.exam_publish.specs.declared.fault.PublishFault.{PublishFault}
use Rattle.exam_publish.specs.declared.fault.PublishFault.TheVariants as publish
use Rattle.office_files.specs.declared.fault.FileFault.{FileFault}
use Rattle.office_reports.specs.Reports.{rule_name}
use Rattle.office_messages.specs.Reply.{PlainReply, json_reply}
use Rattle.office_messages.specs.FixedReplies.{unavailable}
use Rattle.office_messages.specs.declared.statuses.Status.TheVariants.{BadRequest, Conflict}
use Rattle.office_requests.specs.Texts.{error_reply}
use Rattle.office_requests.specs.declared.texts.FixedError.TheVariants as error
use Rattle.office_model.specs.Numbers.{kind_number}
use Rattle.office_model.specs.declared.fault.Refusal.{Refusal}
use Rattle.office_model.specs.declared.fault.Refusal.TheVariants as refusal
use Rattle.office_model.specs.declared.fault.StoreFault.{StoreFault}
use Rattle.office_model.specs.declared.fault.StoreFault.TheVariants as fault
use Rattle.office_replies.specs.Objects.{number, word, object_text}

-- a refusal with a name, and its other members
abbrev pub broken_text : Breach → List ℕ
broken_text b = object_text (word (codes "error") (codes "broken"))
    (number (codes "exam") b.exam ∷ number (codes "other") b.other
    ∷ word (codes "rule") (rule_name b.rule) ∷ [])

-- an exam that has no place
abbrev pub unplaced_text : ℕ → List ℕ
unplaced_text e =
    object_text (word (codes "error") (codes "unplaced")) (number (codes "exam") e ∷ [])

-- the fault of a file, and its line
abbrev pub file_text : FileFault → List ℕ
file_text f = object_text (word (codes "error") (codes "file"))
    (number (codes "fault") (kind_number f.what) ∷ number (codes "line") f.line ∷ [])

-- out of memory is not a refusal of an edit or a publication
abbrev pub edit_reply : EditFault → PlainReply
edit_reply edit.NoSuch = error_reply error.Number
edit_reply edit.AlreadyPlaced = error_reply error.AlreadyPlaced
edit_reply edit.NotPlaced = error_reply error.NotPlaced
edit_reply edit.SameExam = error_reply error.SameExam
edit_reply (edit.Broken b) = json_reply Conflict (broken_text b)
edit_reply edit.NoMemory = unavailable

-- why a draft was not published
abbrev pub publish_reply : PublishFault → PlainReply
publish_reply (publish.Unplaced e) = json_reply Conflict (unplaced_text e)
publish_reply (publish.Broken b) = json_reply Conflict (broken_text b)
publish_reply publish.NoMemory = unavailable

-- why a command was refused: an edit, a publication, a file
abbrev pub refused_reply : Refusal → PlainReply
refused_reply (refusal.Edit f) = edit_reply f
refused_reply (refusal.Publish f) = publish_reply f
refused_reply (refusal.File f) = json_reply BadRequest (file_text f)

-- the reply to a refusal of a command; a failed statement is not a refusal
abbrev pub fault_reply_of : StoreFault → PlainReply
fault_reply_of fault.Loaded = error_reply error.Loaded
fault_reply_of fault.NotLoaded = error_reply error.NotLoaded
fault_reply_of fault.NoDraft = error_reply error.Draft
fault_reply_of fault.DraftTaken = error_reply error.DraftTaken
fault_reply_of fault.BatchDiffers = error_reply error.BatchDiffers
fault_reply_of fault.TooMany = error_reply error.TooMany
fault_reply_of (fault.Refused why) = refused_reply why
fault_reply_of fault.Store = unavailable
fault_reply_of fault.BadSchema = unavailable
