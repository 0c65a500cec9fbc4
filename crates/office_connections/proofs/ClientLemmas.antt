-- Clients one after another, and the lines of their connections' faults.
use Rattle.std.proofs.Common.{◌≡◌, ℕ, ◌+◌, ◌<◌, ◌≤◌, ◌⊎◌, Bool, false, true, List, [], ◌∷◌, ◌++◌, length}
use Rattle.std.proofs.Common.{Option, None, Result, Ok, Err, IfOk, IfErr, IsTrue, refl, sym, subst}
use Rattle.std.proofs.Common.{◌∙◌, arith, inl, inr}
use Rattle.office_messages.specs.declared.connection.Served.{Served}
use Rattle.office_messages.specs.declared.connection.ServeFault.{ServeFault}
use Rattle.office_messages.specs.Reply.{PlainReply}
use Rattle.office_messages.specs.Serve.{Serves, ServesFront}
use Rattle.office_messages.specs.Stream.{PlainRequest}
use Rattle.office_messages.specs.Visits.{ServesVisit, ServesVisits, Visit, faults_of, with_fault}
use Rattle.office_messages.proofs.RunLemmas.{trace_keeps}
use Rattle.office_messages.proofs.VisitLemmas.{faults_more}
use Rattle.office_connections.specs.Clients.{AreOfClients, CameBetween, IsNextConnection, ServesClients}
use Rattle.office_connections.specs.Clients.{ServesPlan, ServesPlanned, ServesWhileOpen}
use Rattle.office_connections.specs.Lines.{PrintsFaults, PrintsLines}
use Rattle.office_connections.specs.declared.accepting.Service.{Service}
use Rattle.office_connections.specs.declared.running.RunFault.{RunFault}
use Rattle.office_connections.specs.declared.running.RunFault.TheVariants.{Listen, Shut}
use Rattle.office_connections.proofs.LineLemmas.{more_lines, whole_lines}

module _ {I R W : Type 0} (accepts : I → Option (R × W) → I → Type 0)
    (takes_back : I → W → I → Type 0)
    (remaining : R → Option (List ℕ)) (contents : W → Option (List ℕ)) where
  -- one more client
  pub came_more : (start last next : I) (vs : List Visit) (v : Visit)
      → CameBetween accepts takes_back remaining contents start vs last
      → IsNextConnection accepts takes_back remaining contents last v next
      → CameBetween accepts takes_back remaining contents start (vs ++ v ∷ []) next
  came_more start last next [] v is y = (
    next,
    subst (λ i. IsNextConnection accepts takes_back remaining contents i v next) is y,
    refl,
  )
  came_more start last next (w ∷ vs) v (mid, first, rest) y =
      (mid, first, came_more mid last next vs v rest y)

  module _ (Serve : List Visit → Type 0) (is_shut : Bool) (connections : ℕ) (service : Service)
      (errors_old errors_new : Option (List ℕ)) where
    abbrev Came : I → I → Type 0
    Came start last = ServesClients
        (λ has_failed visits. CameBetween accepts takes_back remaining contents start visits last)
        Serve service errors_old errors_new

    abbrev Planned : I → I → Type 0
    Planned start new = ServesPlanned (AreOfClients accepts takes_back remaining contents start new)
        Serve is_shut connections service errors_old errors_new

    -- no accept failed
    pub all_accepted : (start new : I) → Came start new → service.accepted ≤ connections
        → (service.accepted < connections → IsTrue is_shut) → Planned start new
    all_accepted start new x most all = record {
      serves = record {
        visits = x.visits;
        has_failed = false;
        theirs = x.theirs;
        count = x.count;
        served = x.served;
        printed = x.printed;
      };
      most = most;
      all = λ none fewer. all fewer;
      failed = λ is. let never : true ≡ false = sym is in cc;
    }

    -- the last accept failed
    pub last_failed : (start last new : I) → Came start last → accepts last None new
        → service.accepted < connections → is_shut ≡ false → Planned start new
    last_failed start last new x none fewer opened = record {
      serves = record {
        visits = x.visits;
        has_failed = true;
        theirs = (last, x.theirs, none);
        count = x.count;
        served = x.served;
        printed = x.printed;
      };
      most = omega (arith, fewer);
      all = λ is. let never : true ≡ false = is in cc;
      failed = λ is. (fewer, opened);
    }

module _ {S : Type 0} (Answers : S → PlainRequest → PlainReply → S → Type 0) where
  module _ (is_shut : S → Bool) where
    -- one more connection
    pub open_more : (vs : List Visit) (v : Visit) (old mid new : S)
        → ServesWhileOpen Answers is_shut old mid vs → is_shut mid ≡ false
        → ServesVisit Answers v mid new → ServesWhileOpen Answers is_shut old new (vs ++ v ∷ [])
    open_more [] v old mid new is opened served = (
      subst (λ (s : S). is_shut s ≡ false) is opened,
      new,
      subst (λ (s : S). ServesVisit Answers v s new) is served,
      refl,
    )
    open_more (w ∷ vs) v old mid new (was, next, first, rest) opened served =
        (was, next, first, open_more vs v next mid new rest opened served)

    -- they were served
    pub served_open : (vs : List Visit) (old new : S)
        → ServesWhileOpen Answers is_shut old new vs → ServesVisits Answers vs old new
    served_open [] old new is = is
    served_open (v ∷ vs) old new (was, mid, first, rest) =
        (mid, first, served_open vs mid new rest)

  -- an invariant of each answer is an invariant of connections
  module _ (Holds : S → Type 0)
      (keeps : (old : S) (r : PlainRequest) (reply : PlainReply) (new : S)
      → Answers old r reply new → Holds old → Holds new) where
    ended_keeps : (ended : Result Served ServeFault) (input before after : Option (List ℕ))
        (old new : S)
        → IfOk ended (λ served. Serves Answers input before after old new served)
        → IfErr ended (λ fault. ServesFront Answers input before after old new fault)
        → Holds old → Holds new
    ended_keeps (Ok served) input before after old new x y =
        trace_keeps Answers Holds keeps x.items old x.output new x.trace
    ended_keeps (Err fault) input before after old new x y =
        trace_keeps Answers Holds keeps y.items old y.output new y.trace

    pub visits_keep : (vs : List Visit) (old new : S) → ServesVisits Answers vs old new
        → Holds old → Holds new
    visits_keep [] old new is h = subst Holds (sym is) h
    visits_keep (v ∷ vs) old new (mid, served, rest) h =
        visits_keep vs mid new rest
        (ended_keeps v.ended v.input v.before v.after old mid served.0 served.1 h)

-- the lines of one more connection
pub printed_more : (vs : List Visit) (v : Visit) (n m : ℕ) (old mid new : Option (List ℕ))
    → PrintsLines (faults_of vs) n old mid → PrintsLines (with_fault v.ended []) m mid new
    → PrintsLines (faults_of (vs ++ v ∷ [])) (n + m) old new
printed_more vs v n m old mid new first more =
    subst (λ fs. PrintsLines fs (n + m) old new) (sym (faults_more vs v))
    (more_lines (faults_of vs) (with_fault v.ended []) n m old mid new first more)

one_fault : (ended : Result Served ServeFault) (fs : List ServeFault)
    → length (with_fault ended fs) ≤ length fs + 1
one_fault (Ok served) fs = omega arith
one_fault (Err fault) fs = omega arith

few_faults : (vs : List Visit) → length (faults_of vs) ≤ length vs
few_faults [] = omega arith
few_faults (v ∷ vs) = omega (arith, one_fault v.ended (faults_of vs), few_faults vs)

none_failed : (b is_shut : Bool) (n most : ℕ) → (IsTrue b → (n < most) × (is_shut ≡ false))
    → (n ≡ most) ⊎ IsTrue is_shut → b ≡ false
none_failed false is_shut n most failed other = refl
none_failed true is_shut n most failed (inl all) = absurd (omega (arith, (failed refl).0, all))
none_failed true is_shut n most failed (inr shut) =
    let never : true ≡ false = sym shut ∙ (failed refl).1 in absurd cc

one_failed : (b is_shut : Bool) (n most : ℕ) → (b ≡ false → n < most → IsTrue is_shut)
    → n < most → is_shut ≡ false → IsTrue b
one_failed true is_shut n most all fewer opened = refl
one_failed false is_shut n most all fewer opened =
    let never : true ≡ false = sym (all refl fewer) ∙ opened in absurd cc

module _ (AreTheirs : Bool → List Visit → Type 0) (Serve : List Visit → Type 0) (is_shut : Bool)
    (connections : ℕ) (service : Service) (errors_old errors_new : Option (List ℕ))
    (x : ServesPlanned AreTheirs Serve is_shut connections service errors_old errors_new) where
  -- the run of a machine that is open
  pub ran : is_shut ≡ false → (outcome : Result ℕ RunFault)
      → IfOk outcome (λ unwritten.
      (service.accepted ≡ connections) × (service.unwritten ≡ unwritten))
      → IfErr outcome (λ fault. (fault ≡ Listen) × (service.accepted < connections))
      → ServesPlan AreTheirs Serve is_shut connections outcome errors_old errors_new
  ran opened (Ok unwritten) all fewer = record {
    service = service;
    most = x.most;
    serves = x.serves;
    all = (all.0, all.1, none_failed _ _ _ _ x.failed (inl all.0), opened);
    fewer = tt;
  }
  ran opened (Err fault) all fewer = record {
    service = service;
    most = x.most;
    serves = x.serves;
    all = tt;
    fewer = inr (inl (fewer.0, fewer.1, one_failed _ _ _ _ x.all fewer.1 opened, opened));
  }

  -- the run of a machine that is shut
  pub ran_shut : IsTrue is_shut
      → ServesPlan AreTheirs Serve is_shut connections (Err Shut) errors_old errors_new
  ran_shut shut = record {
    service = service;
    most = x.most;
    serves = x.serves;
    all = tt;
    fewer = inr (inr (refl, none_failed _ _ _ _ x.failed (inr shut), shut));
  }

-- the lines that were printed are those of at most as many faults as clients were served
pub prints_faults : (AreTheirs : Bool → List Visit → Type 0) (Serve : List Visit → Type 0)
    (service : Service) (errors_old errors_new : Option (List ℕ))
    → ServesClients AreTheirs Serve service errors_old errors_new
    → service.unwritten ≡ 0 → PrintsFaults service.accepted errors_old errors_new
prints_faults AreTheirs Serve service errors_old errors_new x none = (
  faults_of x.visits,
  omega (arith, few_faults x.visits, x.count),
  whole_lines (faults_of x.visits) service.unwritten errors_old errors_new x.printed none,
)
