-- The progress of a connection.
use Rattle.std.proofs.lemmas.Grind.{common_steps}
use Rattle.std.proofs.Common.{◌≡◌, ◌≢◌, ℕ, ◌+◌, ◌<◌, ◌≤◌, Bool, true, false, List, [], ◌∷◌, ◌++◌}
use Rattle.std.proofs.Common.{length, Option, Some, None, IfSome, refl, sym, ap, subst, ◌∙◌}
use Rattle.std.proofs.Common.{append_assoc, append-nil, arith, length-append, inl, inr, ◌⊎◌}
use Rattle.std.proofs.lemmas.List.{take-append-le}
use Rattle.std.specs.Io.KnownBytes.{Appends, Consumes, IsAtEnd}
use Rattle.std.proofs.KnownBytes.{Consumes-nil, Appends-nil, Consumes-trans, Appends-trans}
use Rattle.office_messages.specs.declared.form.Form.{Form}
use Rattle.office_messages.specs.declared.framing.Fault.{Fault}
use Rattle.office_messages.specs.declared.connection.End.{End}
use Rattle.office_messages.specs.declared.connection.End.TheVariants.{Closed, Cut, Refused, Asked}
use Rattle.office_messages.specs.declared.connection.End.TheVariants.{Limit}
use Rattle.office_messages.specs.declared.connection.Served.{Served}
use Rattle.office_messages.specs.declared.connection.ServeFault.{ServeFault}
use Rattle.office_messages.specs.declared.connection.ServeFault.TheVariants as serve_faults
use Rattle.office_messages.specs.declared.look.Stage.{Stage}
use Rattle.office_messages.specs.declared.look.Stage.TheVariants.{Searching, Reading}
use Rattle.office_messages.specs.Form.{form_of}
use Rattle.office_messages.specs.Looks.{Knows}
use Rattle.office_messages.specs.Reply.{PlainReply, reply_text}
use Rattle.office_messages.specs.FixedReplies.{fault_reply}
use Rattle.office_messages.specs.Stream.{PlainRequest, RequestAt}
use Rattle.office_messages.specs.StreamFaults.{FaultAt, Unfinished}
use Rattle.office_messages.specs.HeadEnds.{HasEnd}
use Rattle.office_messages.specs.Messages.{Item, asks, fails, Messages, Begins}
use Rattle.office_messages.specs.Serve.{AnswersItems, Serves, ServesFront}
use Rattle.office_output.specs.Writing.{WritesFront}
use Rattle.office_messages.proofs.HeadEndLemmas.{no_end}
use Rattle.office_messages.proofs.HeadLemmas.{head_at_more}
use Rattle.office_messages.proofs.MoreLemmas.{request_more, fault_more}

-- facts about the front stay true if more bytes come
pub knows_more : (stage : Stage) (buffer more : List ℕ) → Knows buffer stage
    → Knows (buffer ++ more) stage
knows_more (Searching n) buffer more k = (
  omega (arith, k.0, length-append buffer more),
  k.1,
  subst (λ (l : List ℕ). ¬ (HasEnd l))
      (sym (take-append-le n buffer more k.0)) k.2,
)
knows_more (Reading x) buffer more k = head_at_more buffer more x k

-- nothing needs to be known of a message that was not looked at yet
pub knows_nothing : (buffer : List ℕ) → Knows buffer (Searching 0)
knows_nothing buffer = (omega arith, omega arith, no_end)

-- a fact about the bytes read, with any continuation, holds for the input
with_input : (P : List ℕ → Type 0) (input now : Option (List ℕ)) (taken : List ℕ)
    → Consumes input now taken → ((more : List ℕ) → P (taken ++ more)) → IfSome input P
with_input P None now taken c h = tt
with_input P (Some xs) None taken c h = absurd c
with_input P (Some xs) (Some ys) taken c h = subst P (sym c) (h ys)

with_end : (P : List ℕ → Type 0) (input now : Option (List ℕ)) (taken : List ℕ)
    → Consumes input now taken → IsAtEnd now → P (taken ++ []) → IfSome input P
with_end P None now taken c e h = tt
with_end P (Some xs) None taken c e h = absurd c
with_end P (Some xs) (Some ys) taken c e h = subst P (sym (c ∙ ap (λ l. taken ++ l) e)) h

-- a request that is or isn't the last
ends_or_not : (r : PlainRequest) (last : Bool) (n : ℕ) (buffer rest more : List ℕ) → n < 100
    → RequestAt r last buffer rest
    → (RequestAt r true (buffer ++ more) (rest ++ more) × (◌≡◌ {A = List Item} [] []))
    ⊎ (RequestAt r false (buffer ++ more) (rest ++ more) × (n + 1 ≤ 100))
ends_or_not r true n buffer rest more lt at = inl (request_more r true buffer rest more at, refl)
ends_or_not r false n buffer rest more lt at =
    inr (request_more r false buffer rest more at, omega arith)

module _ {S : Type 0} (Answers : S → PlainRequest → PlainReply → S → Type 0) where
  -- after n messages; buffer has the bytes received and not answered yet
  pub record Progress (input now before after : Option (List ℕ)) (old new : S) (n : ℕ)
      (buffer : List ℕ) : Type 0 where
    pub items : List Item
    pub output : List ℕ
    pub taken : List ℕ
    pub consumed : Consumes input now taken
    pub written : Appends before after output
    pub count : length items ≡ n
    pub small : n ≤ 100
    pub messages : (later : List Item) (end : End) (more : List ℕ)
        → Messages later end n (buffer ++ more) → Messages (items ++ later) end 0 (taken ++ more)
    pub begins : (later : List Item) (more : List ℕ) → Begins later n (buffer ++ more)
        → Begins (items ++ later) 0 (taken ++ more)
    pub trace : (later : List Item) (out : List ℕ) (last : S)
        → AnswersItems Answers later new out last
        → AnswersItems Answers (items ++ later) old (output ++ out) last

  pub start : (input before : Option (List ℕ)) (old : S)
      → Progress input input before before old old 0 []
  start input before old = record {
    items = [];
    output = [];
    taken = [];
    consumed = Consumes-nil input;
    written = Appends-nil before;
    count = refl;
    small = omega arith;
    messages = λ later end more m. m;
    begins = λ later more m. m;
    trace = λ later out last t. t;
  }

  module _ (input now before after : Option (List ℕ)) (old new : S) (n : ℕ) (buffer : List ℕ)
      (p : Progress input now before after old new n buffer) where
    -- more bytes were received
    pub grown : (then : Option (List ℕ)) (bytes wider : List ℕ) → Consumes now then bytes
        → wider ≡ buffer ++ bytes → Progress input then before after old new n wider
    grown then bytes wider c e =
        let joined : (more : List ℕ) → wider ++ more ≡ buffer ++ (bytes ++ more) =
        λ more. ap (λ l. l ++ more) e ∙ append_assoc buffer bytes more in
        record {
          items = p.items;
          output = p.output;
          taken = p.taken ++ bytes;
          consumed = Consumes-trans input now then p.taken bytes p.consumed c;
          written = p.written;
          count = p.count;
          small = p.small;
          messages = λ later end more m.
              subst (Messages (p.items ++ later) end 0) (sym (append_assoc p.taken bytes more))
              (p.messages later end (bytes ++ more)
              (subst (Messages later end n) (joined more) m));
          begins = λ later more m.
              subst (Begins (p.items ++ later) 0) (sym (append_assoc p.taken bytes more))
              (p.begins later (bytes ++ more) (subst (Begins later n) (joined more) m));
          trace = p.trace;
        }

    -- a message was answered, and the connection stays open
    pub answered : (r : PlainRequest) (rest : List ℕ) (reply : PlainReply) (next : S)
        (then : Option (List ℕ)) → n < 100 → RequestAt r false buffer rest
        → Answers new r reply next → Appends after then (reply_text (form_of r.method) reply)
        → Progress input now before then old next (n + 1) rest
    answered r rest reply next then lt at step sent = let text =
        reply_text (form_of r.method) reply in record {
          items = p.items ++ asks r ∷ [];
          output = p.output ++ text;
          taken = p.taken;
          consumed = p.consumed;
          written = Appends-trans before after then p.output text p.written sent;
          count = omega (arith, length-append p.items (asks r ∷ []), p.count);
          small = omega arith;
          messages = λ later end more m.
              let P : List Item → Type 0 = λ items. Messages items end 0 (p.taken ++ more) in
              subst P (sym (append_assoc p.items (asks r ∷ []) later))
              (p.messages (asks r ∷ later) end more
              (lt, (rest ++ more, inr (request_more r false buffer rest more at, m))));
          begins = λ later more m.
              let P : List Item → Type 0 = λ items. Begins items 0 (p.taken ++ more) in
              subst P (sym (append_assoc p.items (asks r ∷ []) later))
              (p.begins (asks r ∷ later) more
              (lt, (rest ++ more, inr (request_more r false buffer rest more at, m))));
          trace = λ later out last t.
              let P : List Item → Type 0 =
              λ items. AnswersItems Answers items old ((p.output ++ text) ++ out) last in
              let Q : List ℕ → Type 0 = λ o. AnswersItems Answers
              (p.items ++ asks r ∷ later) old o last in
              subst P (sym (append_assoc p.items (asks r ∷ []) later))
              (subst Q (sym (append_assoc p.output text out))
              (p.trace (asks r ∷ later) (text ++ out) last (next, reply, out, step, refl, t)));
        }

    -- a message was answered that closes the connection
    pub asked : (r : PlainRequest) (rest : List ℕ) (reply : PlainReply) (next : S)
        (then : Option (List ℕ)) (served : Served) → n < 100 → RequestAt r true buffer rest
        → Answers new r reply next → Appends after then (reply_text (form_of r.method) reply)
        → served.answered ≡ n + 1 → served.end ≡ Asked
        → Serves Answers input before then old next served
    asked r rest reply next then served lt at step sent count end = let text =
        reply_text (form_of r.method) reply in record {
          items = p.items ++ asks r ∷ [];
          output = p.output ++ text;
          messages =
              with_input (Messages (p.items ++ asks r ∷ []) served.end 0)
              input now p.taken p.consumed
              (λ more. p.messages (asks r ∷ []) served.end more
              (lt, (rest ++ more, inl (request_more r true buffer rest more at, refl, end))));
          trace = let Q : List ℕ → Type 0 =
              λ o. AnswersItems Answers (p.items ++ asks r ∷ []) old (p.output ++ o) next in
              subst Q (append-nil text)
              (p.trace (asks r ∷ []) (text ++ []) next (next, reply, [], step, refl, (refl, refl)));
          count = omega (arith, length-append p.items (asks r ∷ []), p.count, count);
          written = Appends-trans before after then p.output text p.written sent;
        }

    -- a fault was answered
    pub refused : (f : Fault) (form : Form) (then : Option (List ℕ)) (served : Served) → n < 100
        → FaultAt f form buffer
        → Appends after then (reply_text form (fault_reply f)) → served.answered ≡ n + 1
        → served.end ≡ Refused
        → Serves Answers input before then old new served
    refused f form then served lt at sent count end = let text =
        reply_text form (fault_reply f) in record {
          items = p.items ++ fails f form ∷ [];
          output = p.output ++ text;
          messages =
              with_input
              (Messages (p.items ++ fails f form ∷ []) served.end 0) input now p.taken p.consumed
              (λ more. p.messages (fails f form ∷ []) served.end more
              (lt, fault_more f form buffer more at, refl, end));
          trace = let Q : List ℕ → Type 0 =
              λ o. AnswersItems Answers (p.items ++ fails f form ∷ []) old (p.output ++ o) new in
              subst Q (append-nil (text))
              (p.trace (fails f form ∷ []) (text ++ []) new ([], refl, (refl, refl)));
          count = omega (arith, length-append p.items (fails f form ∷ []), p.count, count);
          written = Appends-trans before after then p.output (text) p.written sent;
        }

    -- the end without a further answer
    finished : (served : Served) → IfSome input (Messages (p.items ++ []) served.end 0)
        → served.answered ≡ n → Serves Answers input before after old new served
    finished served m count = record {
      items = p.items ++ [];
      output = p.output ++ [];
      messages = m;
      trace = p.trace [] [] new (refl, refl);
      count = omega (arith, length-append p.items [], p.count, count);
      written = subst (Appends before after) (sym (append-nil p.output)) p.written;
    }

    -- the last message allowed was answered
    pub limit : (served : Served) → n ≡ 100 → served.answered ≡ n → served.end ≡ Limit
        → Serves Answers input before after old new served
    limit served full count end = grind (arith, common_steps, finished, with_input)

    -- the input is at its end
    pub closed : (served : Served) → n < 100 → IsAtEnd now → buffer ≡ [] → served.answered ≡ n
        → served.end ≡ Closed → Serves Answers input before after old new served
    closed served lt done empty count end =
        grind (arith, common_steps, append-nil, finished, with_end)

    pub cut : (served : Served) → n < 100 → IsAtEnd now → 0 < length buffer → Unfinished buffer
        → served.answered ≡ n → served.end ≡ Cut → Serves Answers input before after old new served
    cut served lt done some short count end =
        grind (arith, common_steps, append-nil, finished, with_end)

    -- the bytes written, and a front of one more reply
    gone_out : (then : Option (List ℕ)) (text : List ℕ) → (part : WritesFront after then text)
        → Appends before then ((p.output ++ []) ++ part.sent)
    gone_out then text part = grind (arith, common_steps, Appends-trans, append-nil)

    -- a fault of the connection doesn't change the answers before it
    pub front : (fault : ServeFault) → fault ≢ serve_faults.Write
        → ServesFront Answers input before after old new fault
    front fault other = record {
      items = p.items ++ [];
      output = p.output ++ [];
      begins = with_input (Begins (p.items ++ []) 0) input now p.taken p.consumed
          (λ more. p.begins [] more p.small);
      trace = p.trace [] [] new (refl, refl);
      written = λ _. subst (Appends before after) (sym (append-nil p.output)) p.written;
      broken = λ is. absurd (other is);
    }

    -- a fault of the writer, after the last command
    pub unsent : (r : PlainRequest) (last : Bool) (rest : List ℕ) (reply : PlainReply) (next : S)
        (then : Option (List ℕ)) → n < 100
        → RequestAt r last buffer rest → Answers new r reply next
        → WritesFront after then (reply_text (form_of r.method) reply)
        → ServesFront Answers input before then old next serve_faults.Write
    unsent r last rest reply next then lt at step part = let text =
        reply_text (form_of r.method) reply in record {
          items = p.items ++ asks r ∷ [];
          output = p.output ++ (text ++ []);
          begins = with_input (Begins (p.items ++ asks r ∷ []) 0) input now p.taken p.consumed
              (λ more. p.begins (asks r ∷ []) more
              (lt, (rest ++ more, ends_or_not r last n buffer rest more lt at)));
          trace = p.trace (asks r ∷ []) (text ++ []) next
              (next, reply, [], step, refl, (refl, refl));
          written = λ different. absurd (different refl);
          broken = λ _. record {
            whole = p.items ++ [];
            front = p.output ++ [];
            mid = new;
            trace = p.trace [] [] new (refl, refl);
            last = asks r;
            sent = part.sent;
            unsent = part.unsent;
            last_trace = (
              next,
              reply,
              [],
              step,
              sym part.whole ∙ sym (append-nil text),
              (refl, refl),
            );
            next = inl (
              ap (λ (l : List Item). l ++ asks r ∷ []) (sym (append-nil p.items)),
              ap (λ (l : List ℕ). p.output ++ l) (append-nil text ∙ part.whole)
                  ∙ ap (λ (l : List ℕ). l ++ (part.sent ++ part.unsent))
                  (sym (append-nil p.output)),
            );
            written = gone_out then text part;
          };
        }

    -- the same for the reply to a fault
    pub unrefused : (f : Fault) (form : Form) (then : Option (List ℕ)) → n < 100
        → FaultAt f form buffer → WritesFront after then (reply_text form (fault_reply f))
        → ServesFront Answers input before then old new serve_faults.Write
    unrefused f form then lt at part = let text = reply_text form (fault_reply f) in record {
      items = p.items ++ [];
      output = p.output ++ [];
      begins = with_input (Begins (p.items ++ []) 0) input now p.taken p.consumed
          (λ more. p.begins [] more p.small);
      trace = p.trace [] [] new (refl, refl);
      written = λ different. absurd (different refl);
      broken = λ _. record {
        whole = p.items ++ [];
        front = p.output ++ [];
        mid = new;
        trace = p.trace [] [] new (refl, refl);
        last = fails f form;
        sent = part.sent;
        unsent = part.unsent;
        last_trace = ([], sym part.whole ∙ sym (append-nil text), (refl, refl));
        next = inr (
          refl,
          refl,
          with_input (Messages ((p.items ++ []) ++ fails f form ∷ []) Refused 0) input now p.taken
              p.consumed
              (λ more. subst (λ (l : List Item). Messages (l ++ fails f form ∷ []) Refused 0
              (p.taken ++ more)) (sym (append-nil p.items))
              (p.messages (fails f form ∷ []) Refused more
              (lt, fault_more f form buffer more at, refl, refl))),
        );
        written = gone_out then text part;
      };
    }
