-- Lines that are added to what was written and to the buffer.
use Rattle.std.proofs.Common.{◌≡◌, ◌<◌, ◌∙◌, ◌+◌, ◌-◌, ◌++◌, ◌∷◌, [], ℕ, List, None, Option, Some, add-one, add-zero, ap, append-nil, append_assoc, arith, drop, get_or, length, refl, subst, suc, sym, take, take-append-drop, zero}
use Rattle.std.specs.Io.KnownBytes.{Appends}
use Rattle.std.specs.List.{flat_map}
use Rattle.std.proofs.KnownBytes.{Appends-nil, Appends-trans}
use Rattle.std.proofs.lemmas.Grind.{flat_map-append}
use Rattle.std.proofs.lemmas.List.{drop_more, take_more}
use Rattle.exam_model.specs.declared.conflicts.Conflict.{Conflict}
use Rattle.exam_reasons.specs.Lists.{all_below, listed}
use Rattle.exam_reasons.specs.declared.reasons.PairKind.{PairKind}
use Rattle.exam_reasons.specs.declared.reasons.PairReason.{PairReason}
use Rattle.office_output.specs.Writing.{WritesFront}
use Rattle.office_output.proofs.FrontLemmas.{front_first, front_none, front_rest}
use Rattle.office_check.specs.Why.{Adds, AddsFront, pair_line}

-- nothing is added
pub adds_none : (c : Option (List ℕ)) (x : List ℕ) → Adds c c x x []
adds_none c x = record { written = []; appends = Appends-nil c; same = sym (append-nil x) }

-- one text after another
pub adds_then : (a b c : Option (List ℕ)) (x y z s t : List ℕ) → Adds a b x y s → Adds b c y z t
    → Adds a c x z (s ++ t)
adds_then a b c x y z s t first next = record {
  written = first.written ++ next.written;
  appends = Appends-trans a b c first.written next.written first.appends next.appends;
  same = append_assoc first.written next.written z ∙ ap (λ l. first.written ++ l) next.same
      ∙ sym (append_assoc first.written y t) ∙ ap (λ l. l ++ t) first.same
      ∙ append_assoc x s t;
}

-- a line that is added to the buffer
pub adds_line : (c : Option (List ℕ)) (x y line : List ℕ) → y ≡ x ++ line → Adds c c x y line
adds_line c x y line is = record { written = []; appends = Appends-nil c; same = is }

-- another form of the text
pub adds_text : (a b : Option (List ℕ)) (x y s t : List ℕ) → s ≡ t → Adds a b x y s → Adds a b x y t
adds_text a b x y s t same adds = subst (λ text. Adds a b x y text) same adds

-- the text of one more element is added
pub adds_next : {X : Type 0} (text : X → List ℕ) (xs : List X) (k : ℕ) (x : X)
    (a b c : Option (List ℕ)) (before so_far after : List ℕ) → k < length xs → x ≡ get_or xs k x
    → Adds a b before so_far (flat_map text (take k xs)) → Adds b c so_far after (text x)
    → Adds a c before after (flat_map text (take (k + 1) xs))
adds_next text xs k x a b c before so_far after lt is first next =
    adds_text a c before after _ _
    (ap (λ t. flat_map text (take k xs) ++ t) (sym (append-nil (text x)))
    ∙ sym (flat_map-append text (take k xs) (x ∷ []))
    ∙ ap (λ y. flat_map text (take k xs ++ y ∷ [])) is
    ∙ ap (flat_map text) (sym (take_more xs k x lt)))
    (adds_then a b c before so_far after _ _ first next)

-- the lines of pairs, one pair after another
pub lines_of_pairs : (kind : PairKind) (f : Conflict → List PairReason) (pairs : List Conflict)
    → flat_map (λ c. flat_map (pair_line kind) (f c)) pairs
    ≡ flat_map (pair_line kind) (flat_map f pairs)
lines_of_pairs kind f [] = refl
lines_of_pairs kind f (c ∷ pairs) =
    ap (λ t. flat_map (pair_line kind) (f c) ++ t) (lines_of_pairs kind f pairs)
    ∙ sym (flat_map-append (pair_line kind) (f c) (flat_map f pairs))

-- the lines of one more number
pub lines_more : {X : Type 0} (line : X → List ℕ) (f : ℕ → List X) (n : ℕ)
    → flat_map line (all_below n f) ++ flat_map line (f n) ≡ flat_map line (all_below (n + 1) f)
lines_more line f n =
    sym (flat_map-append line (all_below n f) (f n))
    ∙ ap (λ k. flat_map line (all_below k f)) (sym (add-one n))

-- the lines of one more number are added
pub adds_more : {X : Type 0} (line : X → List ℕ) (f : ℕ → List X) (n m : ℕ)
    (a b c : Option (List ℕ)) (x y z : List ℕ) → m ≡ n
    → Adds a b x y (flat_map line (all_below n f)) → Adds b c y z (flat_map line (f m))
    → Adds a c x z (flat_map line (all_below (n + 1) f))
adds_more line f n m a b c x y z same so_far next =
    adds_text a c x z _ _ (lines_more line f n)
    (adds_then a b c x y z _ _ so_far
    (subst (λ k. Adds b c y z (flat_map line (f k))) same next))

-- the line of a reason, after room was made for it
pub adds_listed : {X : Type 0} (line : X → List ℕ) (found result : Option X) (reason : X)
    (a b : Option (List ℕ)) (x y z : List ℕ) → result ≡ found → result ≡ Some reason
    → Adds a b x y [] → z ≡ y ++ line reason → Adds a b x z (flat_map line (listed found))
adds_listed line found result reason a b x y z same is room added =
    adds_text a b x z _ _
    (sym (ap (λ o. flat_map line (listed o)) (sym same ∙ is) ∙ append-nil (line reason)))
    (adds_then a b b x y z [] (line reason) room (adds_line b y z (line reason) added))

-- no line, if there is no reason
pub adds_unlisted : {X : Type 0} (line : X → List ℕ) (found result : Option X)
    (a : Option (List ℕ)) (x : List ℕ) → result ≡ found → result ≡ None
    → Adds a a x x (flat_map line (listed found))
adds_unlisted line found result a x same is =
    adds_text a a x x _ _ (ap (λ o. flat_map line (listed o)) (sym is ∙ same)) (adds_none a x)

-- a report, then the lines that are written meanwhile, then those in the buffer
pub all_written : (a b c d : Option (List ℕ)) (report first last text : List ℕ) → first ≡ []
    → Appends a b report → Adds b c first last text → Appends c d last
    → Appends a d (report ++ text)
all_written a b c d report first last text empty reported adds flushed =
    Appends-trans a b d report text reported
    (subst (Appends b d) (adds.same ∙ ap (λ l. l ++ text) empty)
    (Appends-trans b c d adds.written last adds.appends flushed))

-- a report, then the lines that are written meanwhile, then those in the buffer with one more
pub own_written : (a b c d : Option (List ℕ)) (report first last more text line : List ℕ)
    → first ≡ [] → Appends a b report → Adds b c first last text → more ≡ last ++ line
    → Appends c d more → Appends a d (report ++ text ++ line)
own_written a b c d report first last more text line empty reported adds added flushed =
    subst (Appends a d) (sym (append_assoc report text line))
    (all_written a b c d report first more (text ++ line) empty reported
    (adds_then b c c first last more text line adds (adds_line c last more line added)) flushed)

-- ---- fronts, if a write or memory failed

-- a front of what was in the buffer is one of a longer text
pub front_before : (a b : Option (List ℕ)) (x t : List ℕ) → WritesFront a b x → AddsFront a b x t
front_before a b x t front = record { front = front_first a b x t front }

-- so is one of a text behind it
pub front_longer : (a b : Option (List ℕ)) (x s t : List ℕ) → AddsFront a b x s
    → AddsFront a b x (s ++ t)
front_longer a b x s t begun = record {
  front = subst (WritesFront a b) (append_assoc x s t) (front_first a b (x ++ s) t begun.front);
}

-- one text was added, and a front of the next one is written
pub front_then : (a b c : Option (List ℕ)) (x y s t : List ℕ) → Adds a b x y s
    → AddsFront b c y t → AddsFront a c x (s ++ t)
front_then a b c x y s t first next = record {
  front = subst (WritesFront a c)
      (sym (append_assoc first.written y t) ∙ ap (λ l. l ++ t) first.same ∙ append_assoc x s t)
      (front_rest a b c first.written (y ++ t) first.appends next.front);
}

-- room was made, and no more was written
pub front_of_room : (a b : Option (List ℕ)) (x y t : List ℕ) → Adds a b x y []
    → AddsFront a b x t
front_of_room a b x y t room =
    front_then a b b x y [] t room (record { front = front_none b (y ++ t) })

-- the texts of some elements were added, and a front of those of the others is written
pub front_among : {X : Type 0} (text : X → List ℕ) (xs : List X) (k : ℕ) (x : X)
    (a b c : Option (List ℕ)) (before so_far : List ℕ) → k < length xs → x ≡ get_or xs k x
    → Adds a b before so_far (flat_map text (take k xs)) → AddsFront b c so_far (text x)
    → AddsFront a c before (flat_map text xs)
front_among text xs k x a b c before so_far lt is first next =
    subst (AddsFront a c before)
    (sym (flat_map-append text (take k xs) (drop k xs))
    ∙ ap (flat_map text) (take-append-drop k xs))
    (front_then a b c before so_far _ (flat_map text (drop k xs)) first
    (subst (AddsFront b c so_far)
    (ap (λ y. text y ++ flat_map text (drop (k + 1) xs)) is
    ∙ ap (flat_map text) (sym (drop_more xs k x lt)))
    (front_longer b c so_far (text x) (flat_map text (drop (k + 1) xs)) next)))

-- the lists below a number begin with those of fewer numbers
begins_below : {X : Type 0} (f : ℕ → List X) (n more : ℕ)
    → (rest : List X) × (all_below (n + more) f ≡ all_below n f ++ rest)
begins_below f n zero =
    ([], ap (λ m. all_below m f) (add-zero n) ∙ sym (append-nil (all_below n f)))
begins_below f n (suc more) =
    let found = begins_below f n more in
    let next : n + suc more ≡ suc (n + more) = omega arith in (
      found.0 ++ f (n + more),
      ap (λ m. all_below m f) next ∙ ap (λ l. l ++ f (n + more)) found.1
          ∙ append_assoc (all_below n f) found.0 (f (n + more)),
    )

-- the lines of some numbers were added, and a front of those of the others is written
pub front_below : {X : Type 0} (line : X → List ℕ) (f : ℕ → List X) (n m end bound : ℕ)
    (a b c : Option (List ℕ)) (x y : List ℕ) → m ≡ n → end ≡ bound → n < end
    → Adds a b x y (flat_map line (all_below n f)) → AddsFront b c y (flat_map line (f m))
    → AddsFront a c x (flat_map line (all_below bound f))
front_below line f n m end bound a b c x y same is below so_far next =
    let found = begins_below f (n + 1) (bound - (n + 1)) in
    let all : n + 1 + (bound - (n + 1)) ≡ bound = omega (arith, is, below) in
    subst (AddsFront a c x)
    (ap (λ l. l ++ flat_map line found.0) (lines_more line f n)
    ∙ sym (flat_map-append line (all_below (n + 1) f) found.0)
    ∙ ap (flat_map line) (sym found.1 ∙ ap (λ k. all_below k f) all))
    (front_longer a c x _ (flat_map line found.0)
    (front_then a b c x y _ _ so_far
    (subst (λ k. AddsFront b c y (flat_map line (f k))) same next)))

-- a report was written, and a front of the lines
pub front_reported : (a b c : Option (List ℕ)) (report first text : List ℕ) → first ≡ []
    → Appends a b report → AddsFront b c first text → WritesFront a c (report ++ text)
front_reported a b c report first text empty reported front =
    front_rest a b c report text reported
    (subst (λ l. WritesFront b c (l ++ text)) empty front.front)

-- the same, as the lines in the buffer couldn't be written whole
pub front_flushed : (a b c d : Option (List ℕ)) (report first last text : List ℕ) → first ≡ []
    → Appends a b report → Adds b c first last text → WritesFront c d last
    → WritesFront a d (report ++ text)
front_flushed a b c d report first last text empty reported adds front =
    front_reported a b d report first text empty reported
    (subst (AddsFront b d first) (append-nil text)
    (front_then b c d first last text [] adds
    (record { front = subst (WritesFront c d) (sym (append-nil last)) front })))

-- the same with one more line
pub own_flushed : (a b c d : Option (List ℕ)) (report first last more text line : List ℕ)
    → first ≡ [] → Appends a b report → Adds b c first last text → more ≡ last ++ line
    → WritesFront c d more → WritesFront a d (report ++ text ++ line)
own_flushed a b c d report first last more text line empty reported adds added front =
    subst (WritesFront a d) (sym (append_assoc report text line))
    (front_flushed a b c d report first more (text ++ line) empty reported
    (adds_then b c c first last more text line adds (adds_line c last more line added)) front)
