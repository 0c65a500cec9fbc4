-- A run of the desk is a run of the office that its file represents.
use Rattle.std.proofs.Common.{◌≡◌, ◌≢◌, ◌∙◌, ℕ, Bool, true, false, List, [], ◌∷◌, ◌++◌, Option, Result, Ok, Err, IfOk, IfErr, IfSome, refl, sym, subst, ap, true≢false}
use Rattle.std.specs.Io.KnownBytes.{Appends}
use Rattle.sqlite.specs.Held.{Held, state}
use Rattle.sqlite.specs.State.{HasCleanDisk}
use Rattle.sqlite.specs.Store.{Ghosts}
use Rattle.office_messages.specs.declared.connection.Served.{Served}
use Rattle.office_messages.specs.declared.connection.ServeFault.{ServeFault}
use Rattle.office_messages.specs.declared.connection.ServeFault.TheVariants.{Read, Write, TooMany, NoMemory}
use Rattle.office_messages.specs.Messages.{Item, asks, fails, Begins}
use Rattle.office_messages.specs.Serve.{WriterFailed, AnswersItems, Serves, ServesFront}
use Rattle.office_messages.proofs.RunLemmas.{trace_kept}
use Rattle.office_model.specs.Office.{OfficeState}
use Rattle.office_store.specs.Running.{Represents}
use Rattle.office_http.specs.Replying.{Answered, Replies}
use Rattle.office_http.specs.Serving.{AnswersFront, LeadsOffice}

abbrev is_write : ServeFault → Bool
is_write Write = true
is_write _ = false

not_write : (fault : ServeFault) → is_write fault ≡ false → fault ≢ Write
not_write fault other e = true≢false (sym (ap is_write e) ∙ other)

module _ {S : Type 0} (store : Ghosts S) where
  -- a disk that is clean after a run was clean before it
  trace_clean : (items : List Item) (old : Held S) (output : List ℕ) (new : Held S)
      → AnswersItems (Answered store) items old output new
      → HasCleanDisk (state store new) → HasCleanDisk (state store old)
  trace_clean items old output new t =
      trace_kept (Answered store) (λ h. HasCleanDisk (state store h)) (λ o r reply n x. x.clean)
      items old output new t

  trace_leads : (items : List Item) (old : Held S) (output : List ℕ) (new : Held S)
      → AnswersItems (Answered store) items old output new → HasCleanDisk (state store new)
      → (office : OfficeState) → Represents (state store old) office
      → (next : OfficeState) × AnswersItems Replies items office output next
      × Represents (state store new) next
  trace_leads [] old output new t clean office now =
      (office, (t.0, refl), subst (λ h. Represents (state store h) office) (sym t.1) now)
  trace_leads (fails fault form ∷ items) old output new (rest, is, t) clean office now =
      let later = trace_leads items old rest new t clean office now in
      (later.0, (rest, is, later.1), later.2)
  trace_leads (asks r ∷ items) old output new (mid, reply, rest, step, is, t) clean office now =
      let here = step.step (trace_clean items mid rest new t clean) office now in
      let later = trace_leads items mid rest new t clean here.0 here.2 in
      (later.0, (here.0, reply, rest, here.1, is, later.1), later.2)

  module _ (input before after : Option (List ℕ)) (old new : Held S) where
    pub serves_leads : (result : Result Served ServeFault)
        → IfOk result (λ served. Serves (Answered store) input before after old new served)
        → IfOk result (λ served. LeadsOffice store
        (λ office next. Serves Replies input before after office next served) old new)
    serves_leads (Err fault) x = tt
    serves_leads (Ok served) x = record {
      clean = trace_clean x.items old x.output new x.trace;
      runs = λ clean office now.
          let run = trace_leads x.items old x.output new x.trace clean office now in (
            run.0,
            record {
              items = x.items;
              output = x.output;
              messages = x.messages;
              trace = run.1;
              count = x.count;
              written = x.written;
            },
            run.2,
          );
    }

    -- no write of a reply failed
    whole_front : (items : List Item) (output : List ℕ) → IfSome input (Begins items 0)
        → AnswersItems (Answered store) items old output new → Appends before after output
        → LeadsOffice store (λ office next. (its : List Item) × (out : List ℕ)
        × IfSome input (Begins its 0) × AnswersItems Replies its office out next
        × Appends before after out) old new
    whole_front items output begins trace written = record {
      clean = trace_clean items old output new trace;
      runs = λ clean office now.
          let run = trace_leads items old output new trace clean office now in
          (run.0, (items, output, begins, run.1, written), run.2);
    }

    broken_front : (items : List Item) (output : List ℕ) → IfSome input (Begins items 0)
        → WriterFailed (Answered store) input before after items output old new
        → LeadsOffice store (AnswersFront input before after Write) old new
    broken_front items output begins x = record {
      clean = λ clean. trace_clean x.whole old x.front x.mid x.trace (kept clean);
      runs = λ clean office now.
          let first = trace_leads x.whole old x.front x.mid x.trace (kept clean) office now in
          let last = trace_leads (x.last ∷ []) x.mid
          (x.sent ++ x.unsent) new x.last_trace clean first.0 first.2 in (
            last.0,
            (
              items,
              output,
              begins,
              record {
                whole = x.whole;
                front = x.front;
                mid = first.0;
                trace = first.1;
                last = x.last;
                sent = x.sent;
                unsent = x.unsent;
                last_trace = last.1;
                next = x.next;
                written = x.written;
              },
            ),
            last.2,
          );
    }
      where
        kept : HasCleanDisk (state store new) → HasCleanDisk (state store x.mid)
        kept = trace_clean (x.last ∷ []) x.mid (x.sent ++ x.unsent) new x.last_trace

    front_leads : (fault : ServeFault)
        → ServesFront (Answered store) input before after old new fault
        → LeadsOffice store (AnswersFront input before after fault) old new
    front_leads Read x =
        whole_front x.items x.output x.begins x.trace (x.written (not_write Read refl))
    front_leads Write x = broken_front x.items x.output x.begins (x.broken refl)
    front_leads TooMany x =
        whole_front x.items x.output x.begins x.trace (x.written (not_write TooMany refl))
    front_leads NoMemory x =
        whole_front x.items x.output x.begins x.trace (x.written (not_write NoMemory refl))

    pub serves_front_leads : (result : Result Served ServeFault)
        → IfErr result (λ fault. ServesFront (Answered store) input before after old new fault)
        → IfErr result (λ fault. LeadsOffice store (AnswersFront input before after fault) old new)
    serves_front_leads (Ok served) x = tt
    serves_front_leads (Err fault) x = front_leads fault x
