-- Connections one after another: one more, along a map of states, and of a borrowed machine.
use Rattle.std.proofs.lemmas.Grind.{common_steps}
use Rattle.std.proofs.Common.{◌≡◌, ℕ, List, [], ◌∷◌, ◌++◌, Option, Result, Ok, Err, IfOk, IfErr, arith}
use Rattle.std.proofs.Common.{refl, sym, ap, ◌∙◌}
use Rattle.office_messages.specs.declared.connection.Served.{Served}
use Rattle.office_messages.specs.declared.connection.ServeFault.{ServeFault}
use Rattle.office_messages.specs.Reply.{PlainReply}
use Rattle.office_messages.specs.Serve.{Serves, ServesFront}
use Rattle.office_messages.specs.Stream.{PlainRequest}
use Rattle.office_messages.specs.Visits.{Visit, ServesVisits, faults_of, with_fault}
use Rattle.office_messages.proofs.RunLemmas.{Lends, serves_along, serves_front_along, trace_keeps}

with_fault-append : (ended : Result Served ServeFault) (fs gs : List ServeFault)
    → with_fault ended (fs ++ gs) ≡ with_fault ended fs ++ gs
with_fault-append (Ok served) fs gs = refl
with_fault-append (Err fault) fs gs = refl

-- the faults with one more connection
pub faults_more : (vs : List Visit) (v : Visit)
    → faults_of (vs ++ v ∷ []) ≡ faults_of vs ++ with_fault v.ended []
faults_more [] v = refl
faults_more (w ∷ vs) v =
    ap (with_fault w.ended) (faults_more vs v) ∙ with_fault-append w.ended (faults_of vs) _

-- ---- along a map of states that carries each answer

module _ {S T : Type 0} (f : S → T) (Answers : S → PlainRequest → PlainReply → S → Type 0)
    (Others : T → PlainRequest → PlainReply → T → Type 0)
    (carried : (old : S) (r : PlainRequest) (reply : PlainReply) (new : S)
    → Answers old r reply new → Others (f old) r reply (f new)) where
  ended_along : (ended : Result Served ServeFault) (input before after : Option (List ℕ))
      (old new : S)
      → IfOk ended (λ served. Serves Answers input before after old new served)
      → IfErr ended (λ fault. ServesFront Answers input before after old new fault)
      → IfOk ended (λ served. Serves Others input before after (f old) (f new) served)
      × IfErr ended (λ fault. ServesFront Others input before after (f old) (f new) fault)
  ended_along (Ok served) input before after old new x y =
      (serves_along f Answers Others carried input before after old new served x, tt)
  ended_along (Err fault) input before after old new x y =
      (tt, serves_front_along f Answers Others carried input before after old new fault y)

  pub visits_along : (vs : List Visit) (old new : S) → ServesVisits Answers vs old new
      → ServesVisits Others vs (f old) (f new)
  visits_along [] old new is = ap f is
  visits_along (v ∷ vs) old new (mid, served, rest) = (
    f mid,
    ended_along v.ended v.input v.before v.after old mid served.0 served.1,
    visits_along vs mid new rest,
  )

-- ---- a machine that lends another's state, under one name

module _ {F S : Type 0} (name : F → ℕ) (now : F → S)
    (Answers : S → PlainRequest → PlainReply → S → Type 0) where
  ended_keeps : (first : F) (ended : Result Served ServeFault) (input before after : Option (List ℕ))
      (old new : F)
      → IfOk ended (λ served. Serves (Lends name now Answers) input before after old new served)
      → IfErr ended (λ fault. ServesFront (Lends name now Answers) input before after old new fault)
      → name first ≡ name old → name first ≡ name new
  ended_keeps first (Ok served) input before after old new x y h =
      trace_keeps (Lends name now Answers) (λ m. name first ≡ name m)
      (λ o r reply n z h. h ∙ sym z.0) x.items old x.output new x.trace h
  ended_keeps first (Err fault) input before after old new x y h =
      trace_keeps (Lends name now Answers) (λ m. name first ≡ name m)
      (λ o r reply n z h. h ∙ sym z.0) y.items old y.output new y.trace h

  name_kept : (first : F) (vs : List Visit) (old new : F)
      → ServesVisits (Lends name now Answers) vs old new → name first ≡ name old
      → name first ≡ name new
  name_kept first [] old new is h = h ∙ sym (ap name is)
  name_kept first (v ∷ vs) old new (mid, served, rest) h =
      name_kept first vs mid new rest
      (ended_keeps first v.ended v.input v.before v.after old mid served.0 served.1 h)

  -- the borrowed machine served the same connections
  pub lent_visits : (old new : F) (last : S) → (name old ≡ name new → last ≡ now new)
      → (vs : List Visit) → ServesVisits (Lends name now Answers) vs old new
      → ServesVisits Answers vs (now old) last
  lent_visits old new last given vs run =
      grind (arith, common_steps, Lends, name_kept, visits_along)
