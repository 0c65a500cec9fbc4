-- A run of one machine is a run of another, and has the invariants of its answers.
use Rattle.std.proofs.lemmas.Grind.{common_steps}
use Rattle.std.proofs.Common.{◌≡◌, ℕ, List, [], ◌∷◌, ◌++◌, Option, Result, Ok, Err, IfOk, IfErr, arith}
use Rattle.std.proofs.Common.{refl, sym, ap, subst, ◌∙◌}
use Rattle.office_messages.specs.declared.connection.Served.{Served}
use Rattle.office_messages.specs.declared.connection.ServeFault.{ServeFault}
use Rattle.office_messages.specs.Reply.{PlainReply}
use Rattle.office_messages.specs.Stream.{PlainRequest}
use Rattle.office_messages.specs.Messages.{Item, asks, fails}
use Rattle.office_messages.specs.Serve.{AnswersItems, Serves, ServesFront, WriterFailed}

-- ---- along a map of states that carries each answer

module _ {S T : Type 0} (f : S → T) (Answers : S → PlainRequest → PlainReply → S → Type 0)
    (Others : T → PlainRequest → PlainReply → T → Type 0)
    (carried : (old : S) (r : PlainRequest) (reply : PlainReply) (new : S)
    → Answers old r reply new → Others (f old) r reply (f new)) where
  pub trace_along : (items : List Item) (old : S) (output : List ℕ) (new : S)
      → AnswersItems Answers items old output new → AnswersItems Others items (f old) output (f new)
  trace_along [] old output new t = (t.0, ap f t.1)
  trace_along (fails fault form ∷ items) old output new (rest, is, t) =
      (rest, is, trace_along items old rest new t)
  trace_along (asks r ∷ items) old output new (mid, reply, rest, step, is, t) =
      (f mid, reply, rest, carried old r reply mid step, is, trace_along items mid rest new t)

  pub serves_along : (input before after : Option (List ℕ)) (old new : S) (served : Served)
      → Serves Answers input before after old new served
      → Serves Others input before after (f old) (f new) served
  serves_along input before after old new served x = record {
    items = x.items;
    output = x.output;
    messages = x.messages;
    trace = trace_along x.items old x.output new x.trace;
    count = x.count;
    written = x.written;
  }

  breaks_along : (input before after : Option (List ℕ)) (items : List Item) (output : List ℕ)
      (old new : S) → WriterFailed Answers input before after items output old new
      → WriterFailed Others input before after items output (f old) (f new)
  breaks_along input before after items output old new x = record {
    whole = x.whole;
    front = x.front;
    last = x.last;
    sent = x.sent;
    unsent = x.unsent;
    mid = f x.mid;
    trace = trace_along x.whole old x.front x.mid x.trace;
    last_trace = trace_along (x.last ∷ []) x.mid (x.sent ++ x.unsent) new x.last_trace;
    next = x.next;
    written = x.written;
  }

  pub serves_front_along : (input before after : Option (List ℕ)) (old new : S)
      (fault : ServeFault) → ServesFront Answers input before after old new fault
      → ServesFront Others input before after (f old) (f new) fault
  serves_front_along input before after old new fault x = record {
    items = x.items;
    output = x.output;
    begins = x.begins;
    trace = trace_along x.items old x.output new x.trace;
    written = x.written;
    broken = λ is. breaks_along input before after x.items x.output old new (x.broken is);
  }

-- ---- invariants of each answer

module _ {S : Type 0} (Answers : S → PlainRequest → PlainReply → S → Type 0) (Holds : S → Type 0)
  where
    pub trace_keeps : ((old : S) (r : PlainRequest) (reply : PlainReply) (new : S)
        → Answers old r reply new → Holds old → Holds new)
        → (items : List Item) (old : S) (output : List ℕ) (new : S)
        → AnswersItems Answers items old output new → Holds old → Holds new
    trace_keeps keeps [] old output new t h = subst Holds (sym t.1) h
    trace_keeps keeps (fails fault form ∷ items) old output new (rest, is, t) h =
        trace_keeps keeps items old rest new t h
    trace_keeps keeps (asks r ∷ items) old output new (mid, reply, rest, step, is, t) h =
        trace_keeps keeps items mid rest new t (keeps old r reply mid step h)

    -- a fact after the run held before it
    pub trace_kept : ((old : S) (r : PlainRequest) (reply : PlainReply) (new : S)
        → Answers old r reply new → Holds new → Holds old)
        → (items : List Item) (old : S) (output : List ℕ) (new : S)
        → AnswersItems Answers items old output new → Holds new → Holds old
    trace_kept kept [] old output new t h = subst Holds t.1 h
    trace_kept kept (fails fault form ∷ items) old output new (rest, is, t) h =
        trace_kept kept items old rest new t h
    trace_kept kept (asks r ∷ items) old output new (mid, reply, rest, step, is, t) h =
        kept old r reply mid step (trace_kept kept items mid rest new t h)

-- ---- a machine that lends another's state, under one name

module _ {F S : Type 0} (name : F → ℕ) (now : F → S)
    (Answers : S → PlainRequest → PlainReply → S → Type 0) where
  -- the name doesn't change, and the borrowed machine answers
  abbrev pub Lends : F → PlainRequest → PlainReply → F → Type 0
  Lends old r reply new = (name new ≡ name old) × Answers (now old) r reply (now new)

  name_kept : (items : List Item) (old : F) (output : List ℕ) (new : F)
      → AnswersItems Lends items old output new → name old ≡ name new
  name_kept items old output new t =
      trace_keeps Lends (λ m. name old ≡ name m) (λ o r reply n x h. h ∙ sym x.0) items old output
      new t refl

  module _ (input before after : Option (List ℕ)) (old new : F) (last : S)
      (given : name old ≡ name new → last ≡ now new) where
    pub lent_serves : (result : Result Served ServeFault)
        → IfOk result (λ served. Serves Lends input before after old new served)
        → IfOk result (λ served. Serves Answers input before after (now old) last served)
    lent_serves (Err fault) x = tt
    lent_serves (Ok served) x = grind (arith, common_steps, name_kept, serves_along)

    pub lent_serves_front : (result : Result Served ServeFault)
        → IfErr result (λ fault. ServesFront Lends input before after old new fault)
        → IfErr result (λ fault. ServesFront Answers input before after (now old) last fault)
    lent_serves_front (Ok served) x = tt
    lent_serves_front (Err fault) x = grind (arith, common_steps, name_kept, serves_front_along)
