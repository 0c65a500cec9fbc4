-- A list of values that are sent one by one is one array.
use Rattle.std.proofs.Common.{◌≡◌, suc, List, [], ◌∷◌, map, length, Some, refl, sym, ap, subst}
use Rattle.serde.specs.Event.{Log, Logs, seq_begins, seq_ends, WritesEach, WritesSeq}
use Rattle.serde_json.specs.Data.{Data, array}
use Rattle.serde_json.specs.Events.{SendsValue, SendsItems, items_len}
use Rattle.serde_json.specs.View.{items_of}

items_len_of : {X : Type 0} (f : X → Data) (xs : List X)
    → items_len (items_of (map f xs)) ≡ length xs
items_len_of f [] = refl
items_len_of f (x ∷ xs) = ap suc (items_len_of f xs)

sends_items : {X : Type 0} (f : X → Data) (xs : List X) (first last new : Log)
    → WritesEach (λ x. SendsValue (f x)) xs first last → Logs last new seq_ends
    → SendsItems (items_of (map f xs)) first new
sends_items f [] first last new h e = subst (λ l. Logs l new seq_ends) h e
sends_items f (x ∷ xs) first last new h e = (h.0, h.1, sends_items f xs h.0 last new h.2 e)

-- sending each value in a sequence sends the array of them
pub sends_array : {X : Type 0} (f : X → Data) (xs : List X) (old new : Log)
    → WritesSeq (λ x. SendsValue (f x)) xs old new → SendsValue (array (items_of (map f xs))) old new
sends_array f xs old new h = (
  h.0,
  subst (λ n. Logs old h.0 (seq_begins (Some n))) (sym (items_len_of f xs)) h.2,
  sends_items f xs h.0 h.1 new h.3 h.4,
)
