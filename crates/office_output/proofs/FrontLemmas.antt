-- Fronts of texts that are written in pieces.
use Rattle.std.proofs.Common.{◌≡◌, ℕ, List, [], ◌++◌, Option, refl, sym, ap, ◌∙◌}
use Rattle.std.proofs.Common.{append_assoc, append-nil}
use Rattle.std.specs.Io.KnownBytes.{Appends}
use Rattle.std.proofs.KnownBytes.{Appends-nil, Appends-trans}
use Rattle.office_output.specs.Writing.{WritesFront}

-- nothing was written
pub front_none : (known : Option (List ℕ)) (text : List ℕ) → WritesFront known known text
front_none known text = record {
  sent = [];
  unsent = text;
  whole = refl;
  written = Appends-nil known;
}

-- all was written, as when only the flush fails
pub front_whole : (old new : Option (List ℕ)) (text : List ℕ) → Appends old new text
    → WritesFront old new text
front_whole old new text all = record {
  sent = text;
  unsent = [];
  whole = sym (append-nil text);
  written = all;
}

-- a front of the first piece is one of both
pub front_first : (old new : Option (List ℕ)) (first rest : List ℕ)
    → WritesFront old new first → WritesFront old new (first ++ rest)
front_first old new first rest x = record {
  sent = x.sent;
  unsent = x.unsent ++ rest;
  whole = ap (λ l. l ++ rest) x.whole ∙ append_assoc x.sent x.unsent rest;
  written = x.written;
}

-- so is the first piece with a front of the rest
pub front_rest : (old mid new : Option (List ℕ)) (first rest : List ℕ) → Appends old mid first
    → WritesFront mid new rest → WritesFront old new (first ++ rest)
front_rest old mid new first rest begun x = record {
  sent = first ++ x.sent;
  unsent = x.unsent;
  whole = ap (λ l. first ++ l) x.whole ∙ sym (append_assoc first x.sent x.unsent);
  written = Appends-trans old mid new first x.sent begun x.written;
}
