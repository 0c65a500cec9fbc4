-- Two lists that are traversed together, by their numbers.
use Rattle.std.proofs.lemmas.Grind.{common_steps}
use Rattle.std.proofs.Common.{◌≡◌, ◌≢◌, ◌≤◌, ◌<◌, ◌+◌, ℕ, List, [], ◌∷◌, ◌++◌, map, take, length, get_or, sym, ap, ◌∙◌, arith}
use Rattle.std.proofs.lemmas.List.{get_or-map, map-append, map_more, take_all}
use Rattle.sqlite_value.specs.Order.{Row}
use Rattle.office_tables.specs.declared.nights.NightRow.{NightRow}
use Rattle.office_tables.specs.Nights.{night_columns}

abbrev pub number_of_night : NightRow → ℕ
number_of_night n = n.number

-- the first rows of both lists have been joined
abbrev pub AreJoinedTo : {X : Type 0} → ℕ → (X → Row) → (X → Row) → (X → ℕ) → List X
    → List NightRow → List X → Type 0
AreJoinedTo i first second number rows nights made =
    (map first made ≡ map first (take i rows))
    × (map second made ≡ map night_columns (take i nights))

module _ {X : Type 0} (first second : X → Row) (number : X → ℕ) (rows : List X)
    (nights : List NightRow) where
  -- one more row of each
  pub next : (made grown : List X) (i : ℕ) (row x : X) (d : NightRow)
      → i < length rows → i < length nights → row ≡ get_or rows i row
      → grown ≡ made ++ x ∷ [] → (get_or nights i d).number ≡ number row → first x ≡ first row
      → second x ≡ night_columns (record { number = number row; night = (get_or nights i d).night })
      → AreJoinedTo i first second number rows nights made
      → AreJoinedTo (i + 1) first second number rows nights grown
  next made grown i row x d low within is grows same one two was = grind (arith, common_steps, map-append, map_more)

  -- a row and its amount over night have different numbers
  pub differ : (i : ℕ) (row : X) (d : NightRow) → i < length rows → i < length nights
      → row ≡ get_or rows i row → (get_or nights i d).number ≢ number row
      → map number rows ≢ map number_of_night nights
  differ i row d low within is apart same =
      let at : number (get_or rows i row) ≡ number_of_night (get_or nights i d) =
      sym (get_or-map number rows i row 0 low) ∙ ap (λ l. get_or l i 0) same
      ∙ get_or-map number_of_night nights i d 0 within in
      apart (sym at ∙ sym (ap number is))

  -- all are joined
  pub all_joined : (made : List X) (i : ℕ) → length rows ≤ i → length nights ≤ i
      → AreJoinedTo i first second number rows nights made
      → (map first made ≡ map first rows) × (map second made ≡ map night_columns nights)
  all_joined made i high end was = grind (arith, common_steps, take_all)
