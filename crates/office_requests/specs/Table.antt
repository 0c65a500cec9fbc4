-- The office's routes in the router.
use Rattle.std.specs.Prelude.{ℕ, List, [], map, fold, Option, option_map, Result, Ok, Err}
use Rattle.matchit.specs.Rows.{RowsOf}
use Rattle.matchit.specs.Order.{placed}
use Rattle.matchit.specs.Route.{Scan, parse_route}
use Rattle.matchit.specs.Router.{RouteOf, route_from}
use Rattle.matchit.specs.Seek.{first}
use Rattle.matchit.specs.declared.error.InsertError.{InsertError}
use Rattle.office_requests.specs.declared.routes.Page.{Page}
use Rattle.office_requests.specs.declared.routes.TheConstants.{ROUTES}

-- a router's rows
abbrev pub Rows : Type 0
Rows = RowsOf (RouteOf Page)

-- the rows with one more, if its text is a route
abbrev pub adds_read : Result Scan InsertError → Page → Rows → Rows
adds_read (Ok s) p rows = placed (s.pattern, route_from s p) rows
adds_read (Err e) p rows = rows

-- the rows with one more route
unfoldable pub adds : List ℕ → Page → Rows → Rows
adds text p rows = adds_read (parse_route text) p rows

-- the rows with these routes, added one after the other
unfoldable pub adds_all : List (List ℕ × Page) → Rows → Rows
adds_all routes rows = fold (λ rows route. adds route.0 route.1 rows) rows routes

-- the rows of the office
unfoldable pub table : Rows
table = adds_all (map (λ route. (route.0.now, route.1)) ROUTES) []

-- the page that the rows find for a path
abbrev pub page_at : Rows → List ℕ → Option Page
page_at rows path = option_map (λ r. r.value) (first rows path)
