use Rattle.std.proofs.Common.{◌∙◌, ap, codes, false}
use Rattle.std.specs.Option.{option_map_or}
use Rattle.std.specs.Str.{bytes_eq}
use Rattle.clap.specs.Words.{found_of}
use Rattle.clap.proofs.WalkLemmas.{first_value-rows}
use Rattle.office_program.proofs.check_words.is_given.Goals as goal

pub returns-in-Some : goal.returns-in-Some
returns-in-Some c =
    c.eq.ensures ∙ ap (λ found. option_map_or (λ text. bytes_eq text (codes "true")) found false)
    (c.in-Some.ensures ∙ first_value-rows (found_of c.args.values.now) c.args.flag.now)

pub returns-in-None : goal.returns-in-None
returns-in-None c =
    ap (λ found. option_map_or (λ text. bytes_eq text (codes "true")) found false)
    (c.in-None.ensures ∙ first_value-rows (found_of c.args.values.now) c.args.flag.now)
