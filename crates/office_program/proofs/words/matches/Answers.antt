use Rattle.std.proofs.Common.{ap, ap₂, refl, codes, map, ◌≡◌, ◌∙◌, subst, string_bytes}
use Rattle.std.proofs.lemmas.Result.{IfOk-weaker}
use Rattle.clap.specs.Words.{FailsBy, app_of, is_simple, new_app, subcommand_of, with_subcommand}
use Rattle.clap.specs.Faults.{fault_of, is_simple_and_free}
use Rattle.clap.specs.Simple.{app_of_fields}
use Rattle.office_program.proofs.WordFacts.{out_of_memory}
use Rattle.office_program.specs.CheckAllLine.{check_all_app}
use Rattle.office_program.specs.CheckLine.{check_app}
use Rattle.office_program.specs.CommandLine.{export_app, load_app}
use Rattle.office_program.specs.CompareLine.{compare_app}
use Rattle.office_program.specs.Explaining.{explain_app}
use Rattle.office_program.specs.PlacesLine.{places_app}
use Rattle.office_program.specs.Program.{program, with_version, wants_subcommand}
use Rattle.office_program.specs.ServeLine.{serve_app}
use Rattle.office_program.proofs.words.matches.Goals as goal

-- the command that is built is the program
abbrev whole_is : (c : goal.After-try_get_matches_from) → app_of c.in_ok-whole.whole ≡ program
whole_is c =
    let named : app_of c.after_help.result ≡ with_version (new_app (codes "examoffice")) =
    ap app_of_fields c.after_help.ensures ∙ ap app_of_fields c.about.ensures
    ∙ ap app_of_fields c.version.ensures ∙ ap with_version c.new.ensures.app in
    let wants : app_of c.subcommand_required.result
    ≡ wants_subcommand (with_version (new_app (codes "examoffice"))) =
    ap app_of_fields c.subcommand_required.ensures ∙ ap wants_subcommand named in
    let judges : app_of c.in_ok-subcommand.field-0 ≡ with_subcommand
    (wants_subcommand (with_version (new_app (codes "examoffice")))) check_app.top =
    c.in_ok-check.ensures _ _ c.in_ok-subcommand.ensures
    ∙ ap (λ a. with_subcommand a check_app.top) wants in
    let all : app_of c.in_ok-subcommand-2.field-0 ≡ with_subcommand (with_subcommand
    (wants_subcommand (with_version (new_app (codes "examoffice")))) check_app.top)
    check_all_app.top =
    c.in_ok-check_all.ensures _ _ c.in_ok-subcommand-2.ensures
    ∙ ap (λ a. with_subcommand a check_all_app.top) judges in
    let listed : app_of c.in_ok-subcommand-3.field-0 ≡ with_subcommand (with_subcommand
    (with_subcommand (wants_subcommand (with_version (new_app (codes "examoffice"))))
    check_app.top) check_all_app.top) places_app.top =
    c.in_ok-places.ensures _ _ c.in_ok-subcommand-3.ensures
    ∙ ap (λ a. with_subcommand a places_app.top) all in
    let compares : app_of c.in_ok-subcommand-4.field-0 ≡ with_subcommand (with_subcommand
    (with_subcommand (with_subcommand (wants_subcommand (with_version
    (new_app (codes "examoffice")))) check_app.top) check_all_app.top) places_app.top)
    compare_app.top =
    c.in_ok-compare.ensures _ _ c.in_ok-subcommand-4.ensures
    ∙ ap (λ a. with_subcommand a compare_app.top) listed in
    let loads : app_of c.in_ok-subcommand-5.field-0 ≡ with_subcommand (with_subcommand
    (with_subcommand (with_subcommand (with_subcommand (wants_subcommand (with_version
    (new_app (codes "examoffice")))) check_app.top) check_all_app.top) places_app.top)
    compare_app.top) load_app.top =
    c.in_ok-load.ensures _ _ c.in_ok-subcommand-5.ensures
    ∙ ap (λ a. with_subcommand a load_app.top) compares in
    let serves : app_of c.in_ok-subcommand-6.field-0 ≡ with_subcommand (with_subcommand
    (with_subcommand (with_subcommand (with_subcommand (with_subcommand (wants_subcommand
    (with_version (new_app (codes "examoffice")))) check_app.top) check_all_app.top)
    places_app.top) compare_app.top) load_app.top) serve_app.top =
    c.in_ok-serve.ensures _ _ c.in_ok-subcommand-6.ensures
    ∙ ap (λ a. with_subcommand a serve_app.top) loads in
    let exports : app_of c.in_ok-subcommand-7.field-0 ≡ with_subcommand (with_subcommand
    (with_subcommand (with_subcommand (with_subcommand (with_subcommand (with_subcommand
    (wants_subcommand (with_version (new_app (codes "examoffice")))) check_app.top)
    check_all_app.top) places_app.top) compare_app.top) load_app.top) serve_app.top)
    export_app.top =
    c.in_ok-export.ensures _ _ c.in_ok-subcommand-7.ensures
    ∙ ap (λ a. with_subcommand a export_app.top) serves in
    c.in_ok-explain.ensures _ _ c.in_ok-whole.ensures
    ∙ ap (λ a. with_subcommand a explain_app.top) exports

pub returns-clause-found : goal.returns-clause-found
returns-clause-found c =
    let parse = c.try_get_matches_from in
    IfOk-weaker parse.result _ _
    (λ m h. (h (ap is_simple (whole_is c))).1 ∙ ap₂ subcommand_of (whole_is c) refl)
    parse.ensures.matches

pub returns-clause-kinds : goal.returns-clause-kinds
returns-clause-kinds c =
    let parse = c.try_get_matches_from in
    subst (λ a. FailsBy (fault_of a (map string_bytes c.args.words.now)) parse.result) (whole_is c)
    (parse.ensures.kinds (ap is_simple_and_free (whole_is c)))

pub returns-in_err-subcommand-5-clause-kinds : goal.returns-in_err-subcommand-5-clause-kinds
returns-in_err-subcommand-5-clause-kinds c =
    out_of_memory c.from_residual-in_err-subcommand-5.result _
    c.from_residual-in_err-subcommand-5.ensures.1
