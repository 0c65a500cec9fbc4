-- The bodies of replies to changes, as text.
use Rattle.std.specs.Prelude.{ℕ, List, [], ◌∷◌, codes}
use Rattle.office_model.specs.declared.counts.Counts.{Counts}
use Rattle.office_model.specs.declared.counts.Loaded as counts
use Rattle.office_model.specs.declared.counts.Published.{Published}
use Rattle.office_replies.specs.Objects.{number, object_text}

-- how much was loaded
abbrev pub loaded_text : counts.Loaded → List ℕ
loaded_text l = object_text (number (codes "exams") l.exams)
    (number (codes "pairs") l.pairs ∷ number (codes "periods") l.periods
    ∷ number (codes "rooms") l.rooms ∷ [])

-- an exam and the department that owns it now
abbrev pub owner_text : ℕ → ℕ → List ℕ
owner_text e dept = object_text (number (codes "dept") dept) (number (codes "exam") e ∷ [])

-- a draft and its penalty
abbrev pub draft_penalty_text : ℕ → ℕ → List ℕ
draft_penalty_text d penalty =
    object_text (number (codes "draft") d) (number (codes "penalty") penalty ∷ [])

-- the deleted draft
abbrev pub dropped_text : ℕ → List ℕ
dropped_text d = object_text (number (codes "draft") d) []

-- a draft that is published; a batch
abbrev pub published_text : ℕ → Published → List ℕ
published_text d p = object_text (number (codes "changed") p.changed)
    (number (codes "draft") d ∷ number (codes "penalty") p.penalty ∷ [])

-- the counts of a batch
abbrev pub enrolled_text : ℕ → Counts → List ℕ
enrolled_text batch c = object_text (number (codes "added") c.added)
    (number (codes "batch") batch ∷ number (codes "dropped") c.dropped
    ∷ number (codes "unchanged") c.unchanged ∷ [])
