-- The two forms of a reply.
use Rattle.std.specs.Prelude.{ℕ, List, if◌then◌else◌, codes, bytes_eq}
use Rattle.office_messages.specs.declared.form.Form.{Form}
use Rattle.office_messages.specs.declared.form.Form.TheVariants.{Full, Bare}

-- the form of the reply to a method
abbrev pub form_of : List ℕ → Form
form_of method = if bytes_eq method (codes "HEAD") then Bare else Full
