-- A stream has one reading, except for the one choice.
use Rattle.std.proofs.lemmas.Grind.{common_steps}
use Rattle.std.proofs.Common.{◌≡◌, ℕ, ◌+◌, ◌<◌, true, false, Bool, List, [], ◌∷◌, ◌++◌, length}
use Rattle.std.proofs.Common.{take, drop, Result, Ok, Err, refl, sym, ap, subst, ◌∙◌, append-nil}
use Rattle.std.proofs.Common.{arith, inl, inr, ◌⊎◌}
use Rattle.httparse.specs.Grammar.{RequestHead}
use Rattle.httparse.proofs.GrammarLemmas.{request_unique}
use Rattle.office_messages.specs.declared.form.Form.{Form}
use Rattle.office_messages.specs.declared.form.Form.TheVariants.{Full}
use Rattle.office_messages.specs.declared.framing.Fault.{Fault}
use Rattle.office_messages.specs.declared.framing.Fault.TheVariants as faults
use Rattle.office_messages.specs.declared.connection.End.{End}
use Rattle.office_messages.specs.declared.connection.End.TheVariants.{Closed, Cut, Refused, Asked}
use Rattle.office_messages.specs.declared.connection.End.TheVariants.{Limit}
use Rattle.office_messages.specs.Framing.{framing}
use Rattle.office_messages.specs.Form.{form_of}
use Rattle.office_messages.specs.Stream.{PlainRequest, HasHead, RequestAt}
use Rattle.office_messages.specs.StreamFaults.{HeadFault, FaultAt}
use Rattle.office_messages.specs.Stream.{fields_of, request_of, is_last_message}
use Rattle.office_messages.specs.HeadEnds.{HasEnd}
use Rattle.office_messages.specs.StreamFaults.{Unfinished}
use Rattle.office_messages.specs.Messages.{Item, asks, fails, Ends, Messages, Begins, Differs}
use Rattle.office_messages.specs.Messages.{Agree}
use Rattle.office_messages.proofs.HeadEndLemmas.{no_end_lacks}
use Rattle.office_messages.proofs.HeadLemmas.{nothing_lacks}

-- one head, and one rest
one_head : (s : List ℕ) (h k : RequestHead) (r q : List ℕ) → HasHead s h r → HasHead s k q → (h ≡ k)
    × (r ≡ q)
one_head s h k r q x y = request_unique s h k r q x.reads y.reads

-- a stream with a head has no fault of the head
no_fault : (s : List ℕ) (h : RequestHead) (r : List ℕ) → HasHead s h r → HeadFault s → ⊥
no_fault s h r x (some, inl y) = y.1 h r x
no_fault s h r x (some, inr over) = let e =
    over [] h r (x.reads.0, append-nil s ∙ x.reads.1) in omega (arith, e, x.room)

-- the framing of one head is that of the other
same_framing : (s : List ℕ) (h k : RequestHead) (r q : List ℕ) (a b : Result ℕ Fault)
    → HasHead s h r → HasHead s k q
    → framing h.minor (fields_of h) ≡ a → framing k.minor (fields_of k) ≡ b → a ≡ b
same_framing s h k r q a b x y e f =
    sym e ∙ ap (λ (z : RequestHead). framing z.minor (fields_of z)) (one_head s h k r q x y).0 ∙ f

-- a stream that begins with a request doesn't begin with a fault
asks_not_fails : (r : PlainRequest) (last : Bool) (f : Fault) (form : Form) (s rest : List ℕ)
    → RequestAt r last s rest → FaultAt f form s → ⊥
asks_not_fails r last f form s rest x (inl y) = no_fault s x.head x.after x.has_head y.2
asks_not_fails r last f form s rest x (inr y) =
    let e = same_framing s x.head y.head x.after y.after (Ok x.size)
    (Err f) x.has_head y.has_head x.framed y.framed in cc

-- nor with less than a message
asks_not_cut : (r : PlainRequest) (last : Bool) (s rest : List ℕ) → RequestAt r last s rest
    → Unfinished s → ⊥
asks_not_cut r last s rest x (inl y) = no_end_lacks s y.1 x.head x.after x.has_head
asks_not_cut r last s rest x (inr y) =
    let e = same_framing s x.head y.head x.after y.after (Ok x.size)
    (Ok y.size) x.has_head y.has_head x.framed y.framed in
    let size : x.size ≡ y.size = cc in
    let after = (one_head s x.head y.head x.after y.after x.has_head y.has_head).1 in
    omega (arith, size, ap length after, x.whole, y.short)

asks_some : (r : PlainRequest) (last : Bool) (rest : List ℕ) → RequestAt r last [] rest → ⊥
asks_some r last rest x = nothing_lacks x.head x.after x.has_head

fails_some : (f : Fault) (form : Form) → FaultAt f form [] → ⊥
fails_some f form (inl x) = omega (arith, x.2.0)
fails_some f form (inr x) = nothing_lacks x.head x.after x.has_head

-- if a fault may also be a cut, it is one of the head, which has no end
fails_or_cut : (f : Fault) (form : Form) (s : List ℕ) → FaultAt f form s → Unfinished s
    → (f ≡ faults.Head) × (form ≡ Full) × (length s < 16384) × ¬ (HasEnd s)
fails_or_cut f form s (inl x) (inl u) = (x.0, x.1, u.0, u.1)
fails_or_cut f form s (inl x) (inr u) = absurd (no_fault s u.head u.after u.has_head x.2)
fails_or_cut f form s (inr x) (inl u) = absurd (no_end_lacks s u.1 x.head x.after x.has_head)
fails_or_cut f form s (inr x) (inr u) =
    absurd (let e =
    same_framing s x.head u.head x.after u.after (Err f)
    (Ok u.size) x.has_head u.has_head x.framed u.framed in let no : ⊥ = cc in no)

one_fault : (f g : Fault) (form other : Form) (s : List ℕ) → FaultAt f form s → FaultAt g other s
    → (f ≡ g) × (form ≡ other)
one_fault f g form other s (inl x) (inl y) = (x.0 ∙ sym y.0, x.1 ∙ sym y.1)
one_fault f g form other s (inl x) (inr y) = absurd (no_fault s y.head y.after y.has_head x.2)
one_fault f g form other s (inr x) (inl y) = absurd (no_fault s x.head x.after x.has_head y.2)
one_fault f g form other s (inr x) (inr y) =
    let e = same_framing s x.head y.head x.after y.after (Err f)
    (Err g) x.has_head y.has_head x.framed y.framed in
    let same = (one_head s x.head y.head x.after y.after x.has_head y.has_head).0 in
    (cc, x.form_is ∙ ap (λ (h : RequestHead). form_of h.method) same ∙ sym y.form_is)

-- two requests at the front are one, and both are the last or neither is
one_request : (r q : PlainRequest) (a b : Bool) (s rest left : List ℕ) → RequestAt r a s rest
    → RequestAt q b s left → (r ≡ q) × (a ≡ b) × (rest ≡ left)
one_request r q a b s rest left x y =
    let same = one_head s x.head y.head x.after y.after x.has_head y.has_head in
    let e = same_framing s x.head y.head x.after y.after (Ok x.size)
    (Ok y.size) x.has_head y.has_head x.framed y.framed in
    let size : x.size ≡ y.size = cc in (
      x.request ∙ ap (λ (p : RequestHead × (ℕ × List ℕ)). request_of p.0 (take p.1.0 p.1.1))
          (let t : ◌≡◌ {A = RequestHead × (ℕ × List ℕ)} (x.head, (x.size, x.after))
          (y.head, (y.size, y.after)) = cc in t) ∙ sym y.request,
      x.closing ∙ ap (λ (h : RequestHead). is_last_message h) same.0 ∙ sym y.closing,
      x.rest_is ∙ ap (λ (p : ℕ × List ℕ). drop p.0 p.1)
          (let t : ◌≡◌ {A = ℕ × List ℕ} (x.size, x.after) (y.size, y.after) = cc in t)
          ∙ sym y.rest_is,
    )

swap : (s : List ℕ) (items : List Item) (end : End) (others : List Item) (last : End)
    → Agree s items end others last → Agree s others last items end
swap s items end others last (inl x) = inl (sym x.0, sym x.1)
swap s items end others last (inr (inl x)) = inr (inr x)
swap s items end others last (inr (inr x)) = inr (inl x)

-- one more request at the front of both
differs_after : (r : PlainRequest) (s rest : List ℕ) (items : List Item) (end : End)
    (others : List Item) (last : End) → RequestAt r false s rest
    → Differs rest items end others last → Differs s (asks r ∷ items) end (asks r ∷ others) last
differs_after r s rest items end others last at x = record {
  refused = ap (λ (l : List Item). asks r ∷ l) x.refused;
  ends = x.ends;
  cut = x.cut;
  rest = x.rest;
  left = (rest, at, x.left);
  some = x.some;
  short = x.short;
  endless = x.endless;
}

after_request : (r : PlainRequest) (s rest : List ℕ) (items : List Item) (end : End)
    (others : List Item) (last : End) → RequestAt r false s rest
    → Agree rest items end others last → Agree s (asks r ∷ items) end (asks r ∷ others) last
after_request r s rest items end others last at (inl x) =
    inl (ap (λ (l : List Item). asks r ∷ l) x.0, x.1)
after_request r s rest items end others last at (inr (inl x)) =
    inr (inl (differs_after r s rest items end others last at x))
after_request r s rest items end others last at (inr (inr x)) =
    inr (inr (differs_after r s rest others last items end at x))

one_end : (end last : End) (n : ℕ) (s : List ℕ) → Ends end n s → Ends last n s → end ≡ last
one_end Closed Closed n s x y = refl
one_end Closed Cut n s x y = absurd (omega (arith, ap length x.1, y.1))
one_end Closed Limit n s x y = absurd (omega (arith, x.0, y))
one_end Closed Refused n s x y = absurd y
one_end Closed Asked n s x y = absurd y
one_end Cut Closed n s x y = absurd (omega (arith, ap length y.1, x.1))
one_end Cut Cut n s x y = refl
one_end Cut Limit n s x y = absurd (omega (arith, x.0, y))
one_end Cut Refused n s x y = absurd y
one_end Cut Asked n s x y = absurd y
one_end Limit Closed n s x y = absurd (omega (arith, y.0, x))
one_end Limit Cut n s x y = absurd (omega (arith, y.0, x))
one_end Limit Limit n s x y = refl
one_end Limit Refused n s x y = absurd y
one_end Limit Asked n s x y = absurd y
one_end Refused last n s x y = absurd x
one_end Asked last n s x y = absurd x

-- an end against a fault: the one choice
end_or_fault : (end : End) (n : ℕ) (s : List ℕ) (f : Fault) (form : Form) (items : List Item)
    (last : End) → Ends end n s → n < 100
    → FaultAt f form s → items ≡ [] → last ≡ Refused → Agree s [] end (fails f form ∷ items) last
end_or_fault Closed n s f form items last x lt y e l =
    absurd (fails_some f form (subst (FaultAt f form) x.1 y))
end_or_fault Cut n s f form items last x lt y e l = grind (arith, common_steps, fails_or_cut)
end_or_fault Limit n s f form items last x lt y e l = absurd (omega (arith, x, lt))
end_or_fault Refused n s f form items last x lt y e l = absurd x
end_or_fault Asked n s f form items last x lt y e l = absurd x

end_or_request : (end : End) (n : ℕ) (s : List ℕ) (r : PlainRequest) (a : Bool) (rest : List ℕ)
    → Ends end n s → n < 100 → RequestAt r a s rest → ⊥
end_or_request Closed n s r a rest x lt y =
    asks_some r a rest (subst (λ (l : List ℕ). RequestAt r a l rest) x.1 y)
end_or_request Cut n s r a rest x lt y = asks_not_cut r a s rest y x.2
end_or_request Limit n s r a rest x lt y = omega (arith, x, lt)
end_or_request Refused n s r a rest x lt y = x
end_or_request Asked n s r a rest x lt y = x

-- the continuation after a request
abbrev Goes : PlainRequest → List Item → End → ℕ → List ℕ → List ℕ → Type 0
Goes r items end n s rest =
    (RequestAt r true s rest × (items ≡ []) × (end ≡ Asked))
    ⊎ (RequestAt r false s rest × Messages items end (n + 1) rest)

-- the request is there, and is the last or not
request_there : (r : PlainRequest) (items : List Item) (end : End) (n : ℕ) (s rest : List ℕ)
    → Goes r items end n s rest → (a : Bool) × RequestAt r a s rest
request_there r items end n s rest (inl x) = (true, x.0)
request_there r items end n s rest (inr x) = (false, x.0)

both_go : (r q : PlainRequest) (items others : List Item) (end last : End) (n : ℕ)
    (s rest left : List ℕ) → Goes r items end n s rest → Goes q others last n s left
    → (Messages items end (n + 1) rest → Messages others last (n + 1) rest
    → Agree rest items end others last) → Agree s (asks r ∷ items) end (asks q ∷ others) last
both_go r q items others end last n s rest left (inl x) (inl y) more =
    grind (arith, common_steps, one_request r q true true s rest left x.0 y.0)
both_go r q items others end last n s rest left (inl x) (inr y) more =
    absurd (let e = (one_request r q true false s rest left x.0 y.0).1 in let no : ⊥ = cc in no)
both_go r q items others end last n s rest left (inr x) (inl y) more =
    absurd (let e = (one_request r q false true s rest left x.0 y.0).1 in let no : ⊥ = cc in no)
both_go r q items others end last n s rest left (inr x) (inr y) more =
    let same = one_request r q false false s rest left x.0 y.0 in
    subst (λ (z : PlainRequest). Agree s (asks r ∷ items) end (asks z ∷ others) last) same.0
    (after_request r s rest items end others last x.0
    (more x.1 (subst (λ (l : List ℕ). Messages others last (n + 1) l) (sym same.2) y.1)))

pub one_reading : (items others : List Item) (end last : End) (n : ℕ) (s : List ℕ)
    → Messages items end n s → Messages others last n s → Agree s items end others last
one_reading [] [] end last n s m o = inl (refl, one_end end last n s m o)
one_reading [] (fails f form ∷ others) end last n s m o =
    end_or_fault end n s f form others last m o.0 o.1 o.2 o.3
one_reading [] (asks r ∷ others) end last n s m o =
    let there = request_there r others last n s o.1.0 o.1.1 in
    absurd (end_or_request end n s r there.0 o.1.0 m o.0 there.1)
one_reading (fails f form ∷ items) [] end last n s m o =
    grind (arith, common_steps, end_or_fault, swap)
one_reading (fails f form ∷ items) (fails g other ∷ others) end last n s m o =
    grind (arith, common_steps, one_fault f g form other s m.1 o.1, fails f form, fails g other)
one_reading (fails f form ∷ items) (asks r ∷ others) end last n s m o =
    let there = request_there r others last n s o.1.0 o.1.1 in
    absurd (asks_not_fails r there.0 f form s o.1.0 there.1 m.1)
one_reading (asks r ∷ items) [] end last n s m o =
    let there = request_there r items end n s m.1.0 m.1.1 in
    absurd (end_or_request last n s r there.0 m.1.0 o m.0 there.1)
one_reading (asks r ∷ items) (fails g form ∷ others) end last n s m o =
    let there = request_there r items end n s m.1.0 m.1.1 in
    absurd (asks_not_fails r there.0 g form s m.1.0 there.1 o.1)
one_reading (asks r ∷ items) (asks q ∷ others) end last n s m o =
    both_go r q items others end last n s m.1.0 o.1.0 m.1.1 o.1.1
    (λ a b. one_reading items others end last (n + 1) m.1.0 a b)

-- ---- the answers before a fault are a front of the messages

-- the continuation of a front
abbrev Begun : PlainRequest → List Item → ℕ → List ℕ → List ℕ → Type 0
Begun r front n s rest =
    (RequestAt r true s rest × (front ≡ []))
    ⊎ (RequestAt r false s rest × Begins front (n + 1) rest)

begun_there : (r : PlainRequest) (front : List Item) (n : ℕ) (s rest : List ℕ)
    → Begun r front n s rest → (a : Bool) × RequestAt r a s rest
begun_there r front n s rest (inl x) = (true, x.0)
begun_there r front n s rest (inr x) = (false, x.0)

front_goes : (r q : PlainRequest) (front items : List Item) (end : End) (n : ℕ)
    (s rest left : List ℕ) → Begun r front n s rest → Goes q items end n s left
    → (Begins front (n + 1) rest → Messages items end (n + 1) rest
    → (more : List Item) × (items ≡ front ++ more))
    → (more : List Item) × (asks q ∷ items ≡ asks r ∷ (front ++ more))
front_goes r q front items end n s rest left (inl x) (inl y) step =
    grind (arith, common_steps, one_request r q true true s rest left x.0 y.0)
front_goes r q front items end n s rest left (inl x) (inr y) step =
    absurd (let e = (one_request r q true false s rest left x.0 y.0).1 in let no : ⊥ = cc in no)
front_goes r q front items end n s rest left (inr x) (inl y) step =
    absurd (let e = (one_request r q false true s rest left x.0 y.0).1 in let no : ⊥ = cc in no)
front_goes r q front items end n s rest left (inr x) (inr y) step =
    grind (arith, common_steps, one_request r q false false s rest left x.0 y.0)

pub front_of_messages : (front items : List Item) (end : End) (n : ℕ) (s : List ℕ)
    → Begins front n s → Messages items end n s → (more : List Item) × (items ≡ front ++ more)
front_of_messages [] items end n s b m = (items, refl)
front_of_messages (fails f form ∷ front) items end n s b m = absurd b
front_of_messages (asks r ∷ front) [] end n s b m =
    let there = begun_there r front n s b.1.0 b.1.1 in
    absurd (end_or_request end n s r there.0 b.1.0 m b.0 there.1)
front_of_messages (asks r ∷ front) (fails f form ∷ items) end n s b m =
    let there = begun_there r front n s b.1.0 b.1.1 in
    absurd (asks_not_fails r there.0 f form s b.1.0 there.1 m.1)
front_of_messages (asks r ∷ front) (asks q ∷ items) end n s b m =
    front_goes r q front items end n s b.1.0 m.1.0 b.1.1 m.1.1
    (λ x y. front_of_messages front items end (n + 1) b.1.0 x y)
