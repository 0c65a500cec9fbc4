-- The bytes of a reply.
use Rattle.std.specs.Prelude.{ℕ, List, [], ◌++◌, length, Option, Some, None, option_map, codes}
use Rattle.std.specs.Prelude.{decimal}
use Rattle.office_messages.specs.declared.form.Form.{Form}
use Rattle.office_messages.specs.declared.form.Form.TheVariants.{Full, Bare}
use Rattle.office_messages.specs.declared.allow_field.Allow.{Allow}
use Rattle.office_messages.specs.declared.replies.Content.{Content}
use Rattle.office_messages.specs.declared.replies.Content.TheVariants.{Json, Text}
use Rattle.office_messages.specs.declared.replies.Payload.{Payload}
use Rattle.office_messages.specs.declared.replies.Payload.TheVariants.{Fixed, Made}
use Rattle.office_messages.specs.declared.replies.Reply.{Reply}
use Rattle.office_messages.specs.Statuses.{status_line}
use Rattle.office_messages.specs.declared.statuses.Status.{Status}

-- a reply without its place in memory
pub record PlainReply : Type 0 where
  pub status : Status
  pub allow : Option (List ℕ)
  pub content : Content
  pub body : List ℕ

-- the bytes of a body
abbrev pub payload_bytes : Payload → List ℕ
payload_bytes (Fixed bytes) = bytes.now
payload_bytes (Made bytes) = bytes.items

-- the methods that the field Allow names
abbrev pub allow_text : Allow → List ℕ
allow_text allow = allow.methods.now

-- a reply without the place of its bytes in memory
abbrev pub plain_reply : Reply → PlainReply
plain_reply r = record {
  status = r.status;
  allow = option_map allow_text r.allow;
  content = r.content;
  body = payload_bytes r.body;
}

-- the header for the type of the body, JSON or a text
unfoldable pub content_line : Content → List ℕ
content_line Json = codes "Content-Type: application/json\r\n"
content_line Text = codes "Content-Type: text/plain\r\n"

-- the header Allow, if the reply names methods
unfoldable pub allow_line : Option (List ℕ) → List ℕ
allow_line None = []
allow_line (Some methods) = codes "Allow: " ++ methods ++ codes "\r\n"

-- the header for the number of bytes of the body
unfoldable pub length_line : ℕ → List ℕ
length_line n = codes "Content-Length: " ++ decimal n ++ codes "\r\n"

-- the text before the body
unfoldable pub head_text : Form → PlainReply → List ℕ
head_text Full r =
    status_line r.status ++ content_line r.content ++ allow_line r.allow
    ++ length_line (length r.body) ++ codes "\r\n"
head_text Bare r = status_line r.status ++ allow_line r.allow ++ codes "\r\n"

-- the text after the head
abbrev pub sent_body : Form → List ℕ → List ℕ
sent_body Full body = body
sent_body Bare body = []

-- the bytes of a reply
unfoldable pub reply_text : Form → PlainReply → List ℕ
reply_text form r = head_text form r ++ sent_body form r.body

-- a reply with that status and this body
abbrev pub json_reply : Status → List ℕ → PlainReply
json_reply s body = record { status = s; allow = None; content = Json; body = body }
