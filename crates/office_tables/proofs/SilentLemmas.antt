-- A text that has no RETURNING under one schema has none under any.
use Rattle.std.proofs.lemmas.Grind.{common_steps}
use Rattle.std.proofs.Common.{◌≡◌, ◌⊎◌, inl, inr, ℕ, Bool, true, false, List, length, Option, None, Some, Ok, Err, refl, sym, arith}
use Rattle.std.specs.Prelude.{◌==◌, if◌then◌else◌, IsSome, Result}
use Rattle.sqlite_ast.specs.declared.Shown.{Shown}
use Rattle.sqlite_ast.specs.declared.Statement.{Statement}
use Rattle.sqlite_ast.specs.declared.Statement.TheVariants as written
use Rattle.sqlite_schema.specs.declared.command.Command.{Command}
use Rattle.sqlite_schema.specs.declared.command.Returning.{Returning}
use Rattle.sqlite_schema.specs.declared.schema.Schema.{Schema}
use Rattle.sqlite_syntax.specs.declared.statement.Parsed.{Parsed}
use Rattle.sqlite_trees.specs.Tree.{Trees}
use Rattle.sqlite_value.specs.Order.{Row}
use Rattle.sqlite_resolve.specs.Compile.{compiled, first, meaning, planned, returning, returning_by, shows, source_of, target}
use Rattle.sqlite_resolve.specs.Body.{table_at}
use Rattle.sqlite_resolve.specs.Given.{returned}
use Rattle.sqlite_resolve.specs.Lowering.{Checked, and_then}
use Rattle.sqlite_resolve.specs.Scope.{Name}
use Rattle.sqlite_resolve.specs.declared.compiled.Compiled.{Compiled}
use Rattle.sqlite_resolve.specs.declared.error.CompileError.{CompileError}
use Rattle.sqlite.specs.Listing.{if_select, is_select, listing_schema, reads_listing, understood}
use Rattle.sqlite.specs.State.{State, CommitsShowing}
use Rattle.sqlite.proofs.Callers.{IsPlain}

ok_is : {X : Type 0} {x y : X} → ◌≡◌ {A = Result X CompileError} (Ok x) (Ok y) → x ≡ y
ok_is e = cc

and_then_ok : {A B : Type 0} (r : Checked A) (f : A → Checked B) (b : B) → and_then r f ≡ Ok b
    → (a : A) × (r ≡ Ok a) × (f a ≡ Ok b)
and_then_ok (Ok a) f b h = (a, refl, h)
and_then_ok (Err e) f b h = absurd cc

-- ---- RETURNING

and_then_never : {A : Type 0} (r : Checked A) (f : A → Checked (Option Returning))
    → ((a : A) → f a ≡ Ok None → ⊥) → and_then r f ≡ Ok None → ⊥
and_then_never (Ok a) f never none = never a none
and_then_never (Err e) f never none = absurd cc

some_none : (r : Returning) → ◌≡◌ {A = Checked (Option Returning)} (Ok (Some r)) (Ok None) → ⊥
some_none r e = absurd cc

-- terms of RETURNING show something, whatever the schema
never_none : (s : Schema) (a : ℕ) (name : Name) (shown : List Shown)
    → ◌≡◌ {A = Checked (Option Returning)}
    (and_then (target s name) (λ at. and_then (table_at s at) (λ table.
    and_then (returned s table a shown) (λ r. and_then (source_of s (length r.0) r.1) (λ row.
    Ok (Some (record { names = r.0; row = row }))))))) (Ok None)
    → ⊥
never_none s a name shown = grind (arith, common_steps, and_then_never, some_none)

by_test : (empty : Bool) (x y : Checked (Option Returning)) → (x ≡ Ok None → ⊥)
    → (if empty then Ok None else x) ≡ Ok None → (r : Option Returning)
    → (if empty then Ok None else y) ≡ Ok r → r ≡ None
by_test true x y some none r is = sym (ok_is is)
by_test false x y some none r is = absurd (some none)

shows_none : (s t : Schema) (a b : ℕ) (name : Name) (shown : List Shown)
    → shows s a name shown ≡ Ok None → (r : Option Returning) → shows t b name shown ≡ Ok r
    → r ≡ None
unfolding shows
shows_none s t a b name shown =
    by_test (length shown == 0) _ _ (never_none s a name shown)

returning_none : (s t : Schema) (a b : ℕ) (it : Statement) → returning_by s a it ≡ Ok None
    → (r : Option Returning) → returning_by t b it ≡ Ok r → r ≡ None
returning_none s t a b (written.Insert how name columns rows clauses shown) =
    shows_none s t a b name shown
returning_none s t a b (written.Update name sets test shown) = shows_none s t a b name shown
returning_none s t a b (written.Delete name test shown) = shows_none s t a b name shown
returning_none s t a b _ = λ _ r is. sym (ok_is is)

-- ---- a text

meaning_returns : (s : Schema) (p : Parsed) (a : ℕ) (found : Command × Option Returning)
    → meaning s p a ≡ Ok found → returning_by s a p.statement ≡ Ok found.1
unfolding meaning returning
meaning_returns s p a found is = grind (arith, common_steps, and_then_ok, ok_is)

planned_returns : (s : Schema) (p : Parsed) (plan : List Name × (Command × Option Returning))
    → planned s p ≡ Ok plan → (a : ℕ) × (returning_by s a p.statement ≡ Ok plan.1.1)
unfolding planned
planned_returns s p plan is = grind (arith, common_steps, and_then_ok, meaning_returns, ok_is)

-- a compiled text has the RETURNING of its statement
compiled_returns : (s : Schema) (sql : List ℕ) (c : Compiled) → compiled s sql ≡ Ok c
    → (p : Parsed) × (first sql ≡ Ok p) × (a : ℕ)
    × (returning_by s a p.statement ≡ Ok c.returning)
unfolding compiled
compiled_returns s sql c is = grind (arith, common_steps, and_then_ok, planned_returns, ok_is)

chosen : (select : Bool) (c d : Compiled) (e : CompileError)
    → (if select then Ok c else Err e) ≡ Ok d → ◌≡◌ {A = Checked Compiled} (Ok c) (Ok d)
chosen true c d e is = is
chosen false c d e is = absurd cc

selected : (r : Checked Compiled) (c : Compiled) → if_select r ≡ Ok c → r ≡ Ok c
selected (Ok d) c is = chosen (is_select d.command) d c _ is
selected (Err e) c is = absurd cc

either : (listing : Bool) (x y : Checked Compiled) (c : Compiled)
    → (if listing then if_select x else y) ≡ Ok c → (x ≡ Ok c) ⊎ (y ≡ Ok c)
either true x y c is = inl (selected x c is)
either false x y c is = inr is

-- a text that is understood was compiled under some schema
understood_compiled : (s : Schema) (sql : List ℕ) (c : Compiled) → understood s sql ≡ Ok c
    → (t : Schema) × (compiled t sql ≡ Ok c)
unfolding understood
understood_compiled s sql c is =
    elim (either (reads_listing s sql) (compiled listing_schema sql) (compiled s sql) c is)
    [ inl listing ↦ (listing_schema, listing) | inr own ↦ (s, own) ]

returns_none : (s t : Schema) (sql : List ℕ) (c d : Compiled) → understood s sql ≡ Ok c
    → c.returning ≡ None → understood t sql ≡ Ok d → d.returning ≡ None
returns_none s t sql c d one none two =
    grind (arith, common_steps, understood_compiled, compiled_returns, ok_is, returning_none)

plain_returns : (s t : Schema) (sql : List ℕ) (d : Compiled) → (r : Result Compiled CompileError)
    → understood s sql ≡ r → IsPlain r → understood t sql ≡ Ok d → d.returning ≡ None
plain_returns s t sql d (Ok c) is plain two = returns_none s t sql c d is plain.0 two
plain_returns s t sql d (Err e) is plain two = absurd plain

none_returns : (r : Option Returning) → r ≡ None → IsSome r → ⊥
none_returns r none some = absurd (let no = rw none at some in cc)

-- a text that is plain under one schema commits nothing under any
pub commits_never : (schema : Schema) (sql : List ℕ) (params : Row) (s : State) (db : Trees)
    → IsPlain (understood schema sql) → CommitsShowing sql params s db → ⊥
unfolding CommitsShowing
commits_never schema sql params s db plain h =
    none_returns h.0.returning
    (plain_returns schema s.now.schema sql h.0 (understood schema sql) refl plain h.1.is) h.2
