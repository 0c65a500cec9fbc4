-- The office that a run of `serve` leads from and to, however it ends.
use Rattle.std.proofs.Common.{◌≡◌, Bool, Err, List, Ok, Option, Result, ap, false, inl, inr, refl, subst, sym, ℕ}
use Rattle.std.specs.Prelude.{[], string_bytes}
use Rattle.clap.specs.Words.{Text}
use Rattle.clap.specs.declared.error.Error.{Error}
use Rattle.sqlite.specs.Held.{Held, state}
use Rattle.sqlite.specs.State.{HasCleanDisk}
use Rattle.sqlite.specs.Store.{Ghosts}
use Rattle.office_messages.specs.Visits.{Visit}
use Rattle.office_model.specs.Office.{OfficeState}
use Rattle.office_store.specs.Opening.{IsOfficeOf}
use Rattle.office_store.proofs.PublishedReadLemmas.{stored_add_up}
use Rattle.office_program.specs.Databases.{KnownBase, ServesIn, ServesNamed, ServesOpened, UsesDatabase}
use Rattle.office_program.specs.Runs.{Refuses, Runs, RunsTask, corrects, does, fails, fails_to_help, helps, refuses, runs_command, runs_out}
use Rattle.office_program.specs.Servers.{AsksToServe, HasOnly, IsServe, LedOffice}
use Rattle.office_program.specs.World.{World}
use Rattle.office_program.specs.declared.ending.Ending.{Ending}
use Rattle.office_program.specs.declared.faults.ProgramFault.{ProgramFault}
use Rattle.office_program.specs.declared.lines.Lines as lines
use Rattle.office_program.specs.declared.words.Task.{Task}
use Rattle.office_program.specs.declared.words.Task.TheVariants.{Check, CheckAll, CheckAs, Compare, Explain, Export, Load, Places, Serve}
use Rattle.office_program.specs.declared.words.Terms.{Terms}
use Rattle.office_program.proofs.ServeFacts.{nobody_served}

module _ {S : Type 0} (store : Ghosts S) (terms : Terms) (before after : Held S)
    (there : OfficeState) (clean : HasCleanDisk (state store after))
    (is : IsOfficeOf (state store before).now there) where
  module _ (IsUnheard : Type 0) (AreOf : ℕ → Bool → List Visit → Type 0) where
    abbrev IsLed : Type 0
    IsLed = LedOffice store IsUnheard (AreOf terms.port) after there

    -- nobody was served
    nobody : IsUnheard → IsLed
    nobody unheard = record {
      visits = [];
      has_failed = false;
      theirs = inr (refl, unheard);
      next = there;
      served = nobody_served there;
      left = inr (refl, unheard);
    }

    module _ (errors_old errors_new : Option (List ℕ)) where
      -- the office was opened
      opened : (outcome : Result Ending ProgramFault)
          → ServesOpened store (AreOf terms.port) terms errors_old errors_new outcome before after
          → IsLed
      opened outcome x =
          let serves = x.clients.serves in
          let begun = serves.served.leads.clean clean in
          let led = serves.served.leads.runs clean there ((x.opened.holds begun).of there is) in
          record {
            visits = serves.visits;
            has_failed = serves.has_failed;
            theirs = inl serves.theirs;
            next = led.0;
            served = led.1;
            left = inl (λ awake.
                let kept = led.2 awake in
                (kept, stored_add_up (state store after).now led.0 kept));
          }

      served_in : (outcome : Result Ending ProgramFault)
          → ServesIn store IsUnheard (AreOf terms.port) terms errors_old errors_new outcome before
          after
          → IsLed
      served_in (Ok end) x = opened (Ok end) x
      served_in (Err shown) (inl unopened) = nobody unopened.1
      served_in (Err shown) (inr x) = opened (Err shown) x

      module _ (old new : List ℕ → KnownBase (Held S)) (database : List ℕ)
          (was : HasOnly (old database) before) (now : HasOnly (new database) after) where
        used : (outcome : Result Ending ProgramFault)
            → UsesDatabase old new database
            (ServesIn store IsUnheard (AreOf terms.port) terms errors_old errors_new outcome)
            → IsLed
        used outcome x =
            let first : before ≡ x.before = was x.before x.opened in
            let last : after ≡ x.after = now x.after x.given_back in
            served_in outcome
            (subst (λ held. ServesIn store IsUnheard (AreOf terms.port) terms errors_old errors_new
            outcome held after) (sym first)
            (subst (λ held. ServesIn store IsUnheard (AreOf terms.port) terms errors_old errors_new
            outcome x.before held) (sym last) x.holds))

        -- a run on the database at its path
        pub named : (outcome : Result Ending ProgramFault)
            → ServesNamed store old new IsUnheard AreOf errors_old errors_new outcome database terms
            → IsLed
        named (Ok end) x = used (Ok end) x
        named (Err shown) (inl unopened) = nobody unopened.1
        named (Err shown) (inr x) = used (Err shown) x

module _ {S N E : Type 0} (store : Ghosts S)
    (AreOfPort : (old new : N) → ℕ → Bool → List Visit → Type 0) (told : lines.Ghosts E)
    (contents : E → Option (List ℕ)) (old new : World (Held S) N E) (path : List ℕ)
    (terms : Terms) (before after : Held S) (there : OfficeState)
    (was : HasOnly (old.databases path) before) (now : HasOnly (new.databases path) after)
    (clean : HasCleanDisk (state store after)) (is : IsOfficeOf (state store before).now there)
  where
    abbrev Led : N → Type 0
    Led ports = LedOffice store (ports ≡ old.ports) (AreOfPort old.ports ports terms.port) after there

    unheard : new.ports ≡ old.ports → Led new.ports
    unheard same = nobody store terms before after there clean is (new.ports ≡ old.ports)
        (AreOfPort old.ports new.ports) same

    of_refusal : (error : Error) (end : Ending)
        → Refuses store AreOfPort told contents old new error end → Led new.ports
    of_refusal error end (runs_out of x) = unheard (ap (λ w. w.ports) x.rest)
    of_refusal error end (corrects of x) = unheard (ap (λ w. w.ports) x.rest)
    of_refusal error end (helps of x) = unheard (ap (λ w. w.ports) x.rest)
    of_refusal error end (fails_to_help of x) = unheard (ap (λ w. w.ports) x.complains.rest)

    of_server : (own : Terms) (database : List ℕ) (mid : World (Held S) N E)
        (outcome : Result Ending ProgramFault) → database ≡ path → own ≡ terms
        → HasOnly (mid.databases path) after
        → ServesNamed store old.databases mid.databases (mid.ports ≡ old.ports)
        (AreOfPort old.ports mid.ports) (contents old.errors) (contents mid.errors) outcome database
        own
        → Led mid.ports
    of_server own database mid outcome same on left x =
        named store terms before after there clean is (mid.ports ≡ old.ports)
        (AreOfPort old.ports mid.ports) (contents old.errors) (contents mid.errors) old.databases
        mid.databases path was left outcome
        (subst (λ p. ServesNamed store old.databases mid.databases (mid.ports ≡ old.ports)
        (AreOfPort old.ports mid.ports) (contents old.errors) (contents mid.errors) outcome p terms)
        same
        (subst (λ t. ServesNamed store old.databases mid.databases (mid.ports ≡ old.ports)
        (AreOfPort old.ports mid.ports) (contents old.errors) (contents mid.errors) outcome database t)
        on x))

    of_task : (task : Task) (end : Ending) → IsServe task path terms
        → RunsTask store AreOfPort told contents old new task end → Led new.ports
    of_task (Serve database own) end (same, on) (does x) =
        of_server own (string_bytes database) new (Ok end) same on now x.served
    of_task (Serve database own) end (same, on) (fails x) =
        let rest = x.complains.rest in
        subst Led (sym (ap (λ w. w.ports) rest))
        (of_server own (string_bytes database) x.before (Err x.shown) same on
        (subst (λ known. HasOnly known after) (ap (λ w. w.databases path) rest) now)
        x.fails.leaves.served)
    of_task (Check instance solution) end never run = absurd never
    of_task (CheckAs instance solution form) end never run = absurd never
    of_task (CheckAll session solutions form) end never run = absurd never
    of_task (Places instance solution exam) end never run = absurd never
    of_task (Compare session one other) end never run = absurd never
    of_task (Load database instance) end never run = absurd never
    of_task (Export database) end never run = absurd never
    of_task (Explain words) end never run = absurd never

    -- the office that was found is led over the clients of the port
    pub leads : (words : List Text) (end : Ending)
        → Runs store AreOfPort told contents old new words end → AsksToServe words path terms
        → Led new.ports
    leads words end (refuses error kinds refused) asks = of_refusal error end refused
    leads words end (runs_command task right named runs) asks =
        of_task task end (asks task named) runs
