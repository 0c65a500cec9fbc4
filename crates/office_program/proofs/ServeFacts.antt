-- Facts of an office, from the connections that it served.
use Rattle.std.proofs.Common.{◌≡◌, ◌≢◌, ◌⊎◌, ◌∙◌, ℕ, Bool, true, false, List, [], Option}
use Rattle.std.proofs.Common.{Some, Result, Ok, Err, IfErr, IfOk, IsTrue, arith, inl, inr, refl, subst, sym}
use Rattle.std.proofs.lemmas.List.Elements.{All-nil}
use Rattle.std.specs.Io.KnownBytes.{Appends, Keeps}
use Rattle.exam_lists.proofs.Booleans.{MatchBool_true}
use Rattle.sqlite.specs.Held.{Held, state}
use Rattle.sqlite.specs.Store.{Ghosts}
use Rattle.sqlite.proofs.StateLemmas.{survives_then}
use Rattle.office_connections.specs.Clients.{AreOfClients, ServesWhileOpen}
use Rattle.office_connections.specs.Lines.{IsPortOf, PrintsFaults, listening_line}
use Rattle.office_connections.proofs.ClientLemmas.{prints_faults, served_open}
use Rattle.office_connections.proofs.ClientLemmas.{visits_keep}
use Rattle.office_http.specs.Clients.{ServesAllByView}
use Rattle.office_http.specs.Replying.{Answered, IsDone}
use Rattle.office_http.specs.Transcripts.{RepliesOwnView}
use Rattle.office_http.proofs.ClientLemmas.{visits_by_view}
use Rattle.office_messages.specs.Reply.{PlainReply}
use Rattle.office_messages.specs.Stream.{PlainRequest}
use Rattle.office_messages.specs.Visits.{Visit}
use Rattle.office_messages.specs.declared.statuses.Status.{Status}
use Rattle.office_messages.specs.declared.statuses.Status.TheVariants as status
use Rattle.office_messages.proofs.RunLemmas.{Lends}
use Rattle.office_messages.proofs.VisitLemmas.{lent_visits, visits_along}
use Rattle.office_model.specs.Office.{OfficeState}
use Rattle.office_model.specs.declared.fault.StoreFault.{StoreFault}
use Rattle.office_store.specs.Leaving.{LeavesAsItWas}
use Rattle.office_store.specs.Running.{IsCommitted}
use Rattle.office_store.proofs.LeavingLemmas.{survives_same}
use Rattle.office_store.proofs.RunLemmas.{now_still}
use Rattle.office_program.specs.Serve.{AreOfPort, AsksWhetherShut, IsStoreShut, IsUnserved, LeavesPort}
use Rattle.office_output.specs.Writing.{WritesFront}
use Rattle.office_program.specs.Serve.{OfficeServes}
use Rattle.office_program.specs.Serve.{PrintsServed, SaysWhetherShut, ServesTerms, is_said_shut}
use Rattle.office_program.specs.declared.ending.Ending.{Ending}
use Rattle.office_program.specs.declared.faults.ProgramFault.{ProgramFault}
use Rattle.office_program.specs.declared.faults.ProgramFault.TheVariants.{CannotListen, CannotWrite}
use Rattle.office_program.specs.declared.words.Terms.{Terms}

-- an office that served no client
pub nobody_served : (office : OfficeState) → ServesAllByView [] office office
nobody_served office = (refl, All-nil RepliesOwnView)

pub desk_serves_nobody : {S : Type 0} (store : Ghosts S) (desk : Held S)
    → OfficeServes store desk desk []
desk_serves_nobody store desk = record {
  answered = refl;
  leads = record {
    clean = λ clean. clean;
    runs = λ clean office now. (office, nobody_served office, now);
  };
}

module _ (AreTheirs : Bool → List Visit → Type 0) (Serve : List Visit → Type 0)
    (IsClosed : Type 0) (terms : Terms) (errors : Option (List ℕ)) where
  -- no client was served, because memory ran out, or the port could not be printed
  pub serves_nobody : AreTheirs false [] → Serve [] → (shown : ProgramFault) → IsUnserved shown
      → ServesTerms AreTheirs Serve IsClosed terms (Err shown) errors errors
  serves_nobody theirs served shown unserved = record {
    service = record { accepted = 0; unwritten = 0 };
    most = omega arith;
    serves = record {
      visits = [];
      has_failed = false;
      theirs = theirs;
      count = refl;
      served = served;
      printed = (refl, refl);
    };
    all = tt;
    fewer = inl (unserved, refl, refl);
  }

  -- no client was served, because listening failed
  pub nobody_comes : AreTheirs true [] → Serve []
      → ServesTerms AreTheirs Serve IsClosed terms (Err CannotListen) errors errors
  nobody_comes theirs served = record {
    service = record { accepted = 0; unwritten = 0 };
    most = omega arith;
    serves = record {
      visits = [];
      has_failed = true;
      theirs = theirs;
      count = refl;
      served = served;
      printed = (refl, refl);
    };
    all = tt;
    fewer = inr (inl (refl, refl, inl refl));
  }

-- consequences for the connections, and for a closed store, hold for a run
pub terms_follow : (AreTheirs Those : Bool → List Visit → Type 0)
    (Serve Others : List Visit → Type 0) (IsClosed IsGone : Type 0)
    → ((has_failed : Bool) (vs : List Visit) → AreTheirs has_failed vs → Those has_failed vs)
    → ((vs : List Visit) → Serve vs → Others vs) → (IsClosed → IsGone)
    → (terms : Terms) (outcome : Result Ending ProgramFault) (errors_old errors_new : Option (List ℕ))
    → ServesTerms AreTheirs Serve IsClosed terms outcome errors_old errors_new
    → ServesTerms Those Others IsGone terms outcome errors_old errors_new
terms_follow AreTheirs Those Serve Others IsClosed IsGone those follows gone terms (Ok ending)
    errors_old errors_new x = record {
      service = x.service;
      most = x.most;
      serves = record {
        visits = x.serves.visits;
        has_failed = x.serves.has_failed;
        theirs = those x.serves.has_failed x.serves.visits x.serves.theirs;
        count = x.serves.count;
        served = follows x.serves.visits x.serves.served;
        printed = x.serves.printed;
      };
      all = x.all;
      fewer = tt;
    }
terms_follow AreTheirs Those Serve Others IsClosed IsGone those follows gone terms (Err shown)
    errors_old errors_new x = record {
      service = x.service;
      most = x.most;
      serves = record {
        visits = x.serves.visits;
        has_failed = x.serves.has_failed;
        theirs = those x.serves.has_failed x.serves.visits x.serves.theirs;
        count = x.serves.count;
        served = follows x.serves.visits x.serves.served;
        printed = x.serves.printed;
      };
      all = tt;
      fewer = elim x.fewer [
        | inl nobody ↦ inl nobody
        | inr (inl failed) ↦ inr (inl failed)
        | inr (inr closed) ↦ inr (inr (closed.0, closed.1, gone closed.2))
      ];
    }

-- the clients of a port that was listened on, who were given back
pub came_to : {N I R W : Type 0} (opens : N → Option I → N → Type 0) (closes : N → I → N → Type 0)
    (accepts : I → Option (R × W) → I → Type 0) (takes_back : I → W → I → Type 0)
    (remaining : R → Option (List ℕ)) (contents : W → Option (List ℕ)) (old during new : N)
    (first last : I) → opens old (Some first) during → closes during last new
    → (has_failed : Bool) (visits : List Visit)
    → AreOfClients accepts takes_back remaining contents first last has_failed visits
    → AreOfPort opens closes accepts takes_back remaining contents old new has_failed visits
came_to opens closes accepts takes_back remaining contents old during new first last opened closed
    false visits theirs =
    record { first = first; during = during; opened = opened; last = last; theirs = theirs; closed = closed }
came_to opens closes accepts takes_back remaining contents old during new first last opened closed
    true visits theirs =
    inr (record { first = first; during = during; opened = opened; last = last; theirs = theirs; closed = closed })

module _ {S : Type 0} (store : Ghosts S) where
  -- a request that was answered is still answered after the check of the store
  answered_on : (old mid new : Held S) (request : PlainRequest) (reply : PlainReply)
      → Answered store old request reply mid → (IsDone reply.status → new ≡ mid)
      → LeavesAsItWas store mid new
      → Answered store old request reply new
  answered_on old mid new request reply x done same = record {
    clean = λ k. x.clean (same.unchanged.clean k);
    step = λ k office now.
        let led = x.step (same.unchanged.clean k) office now in (
          led.0,
          led.1,
          now_still (state store mid) (state store new) led.0 (same.unchanged.unchanged k) led.2,
        );
    all_committed = λ k is. subst (λ h. IsCommitted (state store h)) (sym (done is))
        (x.all_committed (same.unchanged.clean k) is);
    unchanged = λ question k opened.
        let now = same.unchanged.unchanged k opened in
        let was = x.unchanged question (same.unchanged.clean k) now.0 in
        (was.0, now.1 ∙ was.1);
    survives = survives_then (state store old) (state store mid) (state store new) _ (λ _. ⊥) _
        (λ _ db may. may) (λ _ db none. absurd none) x.survives same.survives;
  }

  -- a store that counts as closed is closed
  said_right : (old new : Held S) (said : Result Bool StoreFault) (b : Bool)
      → SaysWhetherShut store old said new → b ≡ is_said_shut said → IsTrue b
      → IsStoreShut store new
  said_right old new (Ok is_shut) b x is shut clean =
      MatchBool_true is_shut (sym is ∙ shut) _ _ (x.right clean)
  said_right old new (Err fault) b x is shut clean =
      let never : true ≡ false = sym shut ∙ is in absurd cc

  -- what holds after the desk was asked, or wasn't
  record AfterAsking (status : Status) (mid new : Held S) (b : Bool) : Type 0 where
    done : IsDone status → new ≡ mid
    leaves : LeavesAsItWas store mid new
    shut : IsTrue b → IsStoreShut store new

  unasked : (status : Status) (mid new : Held S) (b : Bool) → (b ≡ false) × (new ≡ mid)
      → AfterAsking status mid new b
  unasked status mid new b x = record {
    done = λ is. x.1;
    leaves = subst (LeavesAsItWas store mid) (sym x.1) (record {
      unchanged = record { clean = λ k. k; unchanged = λ k opened. (opened, refl) };
      survives = survives_same (state store mid);
    });
    shut = λ is. let never : true ≡ false = sym is ∙ x.0 in absurd cc;
  }

  asked : (status : Status) → (IsDone status → ⊥) → (mid new : Held S) (b : Bool)
      → (said : Result Bool StoreFault) × SaysWhetherShut store mid said new
      × (b ≡ is_said_shut said)
      → AfterAsking status mid new b
  asked status refused mid new b x = record {
    done = λ is. absurd (refused is);
    leaves = x.1.leaves;
    shut = said_right mid new x.0 b x.1 x.2;
  }

  after_asking : (status : Status) (mid new : Held S) (b : Bool)
      → AsksWhetherShut (SaysWhetherShut store) status mid b new → AfterAsking status mid new b
  after_asking status.Done mid new b x = unasked status.Done mid new b x
  after_asking status.Created mid new b x = unasked status.Created mid new b x
  after_asking status.BadRequest mid new b x = asked status.BadRequest (λ n. n) mid new b x
  after_asking status.Forbidden mid new b x = asked status.Forbidden (λ n. n) mid new b x
  after_asking status.NotFound mid new b x = asked status.NotFound (λ n. n) mid new b x
  after_asking status.MethodNotAllowed mid new b x =
      asked status.MethodNotAllowed (λ n. n) mid new b x
  after_asking status.Conflict mid new b x = asked status.Conflict (λ n. n) mid new b x
  after_asking status.PayloadTooLarge mid new b x =
      asked status.PayloadTooLarge (λ n. n) mid new b x
  after_asking status.NotImplemented mid new b x =
      asked status.NotImplemented (λ n. n) mid new b x
  after_asking status.ServiceUnavailable mid new b x =
      asked status.ServiceUnavailable (λ n. n) mid new b x

  -- an answer of the machine is one of its desk, which is then asked whether its store is closed
  abbrev pub Answering : {F : Type 0} → (name : F → ℕ) → (now : F → Held S) → (is_shut : F → Bool)
      → F → PlainRequest → PlainReply → F → Type 0
  Answering name now is_shut old request reply new =
      (name new ≡ name old)
      × ((mid : Held S) × Answered store (now old) request reply mid
      × AsksWhetherShut (SaysWhetherShut store) reply.status mid (is_shut new) (now new))

  -- the clients that the machine serves are served by the office
  module _ {F : Type 0} (name : F → ℕ) (now : F → Held S) (is_shut : F → Bool) (old new : F)
      (last : Held S) (given : name old ≡ name new → last ≡ now new) where
    abbrev Answers : F → PlainRequest → PlainReply → F → Type 0
    Answers = Answering name now is_shut

    answers_lent : (o : F) (r : PlainRequest) (reply : PlainReply) (n : F) → Answers o r reply n
        → Lends name now (Answered store) o r reply n
    answers_lent o r reply n y =
        let after = after_asking reply.status y.1.0 (now n) (is_shut n) y.1.2 in
        (y.0, answered_on (now o) y.1.0 (now n) r reply y.1.1 after.done after.leaves)

    pub desk_serves : (vs : List Visit) → ServesWhileOpen Answers is_shut old new vs
        → OfficeServes store (now old) last vs
    desk_serves vs run =
        let answered = lent_visits name now (Answered store) old new last given vs
        (visits_along (λ m. m) Answers (Lends name now (Answered store)) answers_lent vs old new
        (served_open Answers is_shut vs old new run)) in
        record {
          answered = answered;
          leads = visits_by_view store vs (now old) last answered;
        }

    -- a store that was found closed is closed
    pub desk_shut : (vs : List Visit) → ServesWhileOpen Answers is_shut old new vs
        → is_shut old ≡ false → IsTrue (is_shut new) → IsStoreShut store last
    desk_shut vs run opened shut =
        let kept = visits_keep Answers
        (λ m. (name old ≡ name m) × (IsTrue (is_shut m) → IsStoreShut store (now m)))
        (λ o r reply n y h. (
          h.0 ∙ sym y.0,
          (after_asking reply.status y.1.0 (now n) (is_shut n) y.1.2).shut,
        )) vs old new
        (served_open Answers is_shut vs old new run)
        (refl, λ is. let never : true ≡ false = sym is ∙ opened in absurd cc) in
        subst (IsStoreShut store) (sym (given kept.0)) (kept.1 shut)

-- the port was printed, and the faults of connections were
pub prints_served : (AreTheirs : Bool → List Visit → Type 0) (Serve : List Visit → Type 0)
    (IsClosed : Type 0) (terms : Terms) (port : ℕ)
    → IsPortOf terms.port port → (outcome : Result Ending ProgramFault)
    (before after errors_old errors_new : Option (List ℕ))
    → ServesTerms AreTheirs Serve IsClosed terms outcome errors_old errors_new
    → IfOk outcome (λ ending. ending.status ≡ 0)
    → IfOk outcome (λ _. Appends before after (listening_line port))
    → IfOk outcome (PrintsServed terms before after errors_old errors_new)
prints_served AreTheirs Serve IsClosed terms port is (Err shown) before after errors_old errors_new x
    status line = tt
prints_served AreTheirs Serve IsClosed terms port is (Ok ending) before after errors_old errors_new x
    status line = record {
      status = status;
      port = (port, is, line);
      err_line = λ err_line. subst (λ n. PrintsFaults n errors_old errors_new) x.all.0
          (prints_faults AreTheirs Serve x.service errors_old errors_new x.serves
          (x.all.2 err_line));
    }

-- what a fault leaves of the port's line
pub leaves_port : (terms : Terms) (port : ℕ) → IsPortOf terms.port port
    → (outcome : Result Ending ProgramFault) (before after : Option (List ℕ))
    → IfErr outcome (λ shown. shown ≢ CannotWrite
    → Keeps before after ⊎ Appends before after (listening_line port))
    → IfErr outcome (λ shown. shown ≡ CannotWrite → WritesFront before after (listening_line port))
    → IfErr outcome (LeavesPort terms before after)
leaves_port terms port is (Ok ending) before after kept front = tt
leaves_port terms port is (Err shown) before after kept front = record {
  other = λ other. elim (kept other) [
    | inl same ↦ inl same
    | inr line ↦ inr (port, is, line)
  ];
  front = λ write. (port, is, front write);
}
