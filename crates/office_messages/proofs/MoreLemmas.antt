-- The beginning of the received bytes doesn't change, whatever follows.
use Rattle.std.proofs.lemmas.Grind.{common_steps}
use Rattle.std.proofs.Common.{◌≡◌, ℕ, ◌≤◌, Bool, List, ◌++◌, length, take, drop, sym, ap, ◌∙◌}
use Rattle.std.proofs.Common.{append_assoc, arith, length-append, take-append-drop, inl, inr}
use Rattle.std.proofs.lemmas.List.{take-append-le, drop-append-le}
use Rattle.std.proofs.Math.Seq.{take-append_seam}
use Rattle.httparse.specs.Grammar.{RequestHead, print_request}
use Rattle.office_messages.specs.declared.framing.Fault.{Fault}
use Rattle.office_messages.specs.declared.form.Form.{Form}
use Rattle.office_messages.specs.Stream.{HasHead, PlainRequest}
use Rattle.office_messages.specs.StreamFaults.{LacksHead, HeadFault, FaultAt}
use Rattle.office_messages.specs.Stream.{RequestAt}
use Rattle.office_messages.proofs.HeadLemmas.{reads_more}

pub head_more : (s : List ℕ) (h : RequestHead) (rest more : List ℕ) → HasHead s h rest
    → HasHead (s ++ more) h (rest ++ more)
head_more s h rest more x =
    record { reads = reads_more s h rest more x.reads; room = x.room; fits = x.fits }

pub request_more : (r : PlainRequest) (last : Bool) (s rest more : List ℕ) → RequestAt r last s rest
    → RequestAt r last (s ++ more) (rest ++ more)
request_more r last s rest more x =
    grind (arith, common_steps, drop-append-le, head_more, length-append, take-append-le)

-- a head that fits into the received bytes is a head of these
lacks_more : (s more : List ℕ) → 16384 ≤ length s → LacksHead s → LacksHead (s ++ more)
lacks_more s more long none h rest x =
    let text = print_request h in
    let k = length text in
    let fits : k ≤ length s = omega (arith, x.fits, long) in
    let front : take k s ≡ text =
    sym (take-append-le k s more fits) ∙ ap (take k) x.reads.1 ∙ take-append_seam text rest in
    none h (drop k s)
    record {
      reads = (x.reads.0, sym (take-append-drop k s) ∙ ap (λ l. l ++ drop k s) front);
      room = x.room;
      fits = x.fits;
    }

head_fault_more : (s more : List ℕ) → HeadFault s → HeadFault (s ++ more)
head_fault_more s more (some, inl x) = (
  omega (arith, length-append s more),
  inl
      (omega (arith, x.0, length-append s more), lacks_more s more x.0 x.1),
)
head_fault_more s more (some, inr x) = (
  omega (arith, length-append s more),
  inr
      (λ later h rest r. x (more ++ later) h rest (r.0, sym (append_assoc s more later) ∙ r.1)),
)

pub fault_more : (f : Fault) (form : Form) (s more : List ℕ) → FaultAt f form s
    → FaultAt f form (s ++ more)
fault_more f form s more (inl x) = inl (x.0, x.1, head_fault_more s more x.2)
fault_more f form s more (inr x) = grind (arith, common_steps, head_more)
