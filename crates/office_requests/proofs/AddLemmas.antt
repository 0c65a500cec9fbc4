-- The results of inserts.
use Rattle.std.proofs.Common.{◌≡◌, ◌+◌, ◌<◌, List, ℕ, length, get_or, take, map, Result, Ok, Err, arith}
use Rattle.std.proofs.Common.{is_ok, true, Bor, ◌∙◌}
use Rattle.std.proofs.lemmas.List.Folds.{fold-map}
use Rattle.std.proofs.lemmas.List.Sums.{fold_more}
use Rattle.matchit.specs.Route.{Scan, parse_route}
use Rattle.matchit.specs.Router.{InsertsRead}
use Rattle.matchit.specs.declared.error.InsertError.{InsertError}
use Rattle.office_requests.specs.declared.routes.Page.{Page}
use Rattle.office_requests.specs.Table.{Rows, adds, adds_read, adds_all}

added_read : (x : Result Scan InsertError) (p : Page) (old new : Rows)
    (r : Result (Unit {0}) InsertError) → InsertsRead x p old new r → is_ok r ≡ true →
    new ≡ adds_read x p old
added_read (Ok s) p old new (Ok u) h k = h.1
added_read (Ok s) p old new (Err e) h k = cc
added_read (Err e) p old new r h k = h.0

pub added : (text : List ℕ) (p : Page) (old new : Rows) (r : Result (Unit {0}) InsertError) →
    InsertsRead (parse_route text) p old new r → is_ok r ≡ true → new ≡ adds text p old
unfolding adds
added text p old new r h k = added_read (parse_route text) p old new r h k

-- one more route is added to the result of those before it
pub adds_more : (routes : List (Bor (List ℕ) × Page)) (i : ℕ) (d : Bor (List ℕ) × Page)
    (rows now : Rows) → i < length routes
    → now ≡ adds_all (map (λ route. (route.0.now, route.1)) (take i routes)) rows
    → adds_all (map (λ route. (route.0.now, route.1)) (take (i + 1) routes)) rows
    ≡ adds (get_or routes i d).0.now (get_or routes i d).1 now
unfolding adds_all
adds_more routes i d rows now inside is = grind (arith, fold-map, fold_more)
