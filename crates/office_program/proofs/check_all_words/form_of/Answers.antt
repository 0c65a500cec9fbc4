use Rattle.std.proofs.Common.{◌≡◌, ◌∙◌, codes, false, refl, sym, true}
use Rattle.clap.specs.Words.{found_of}
use Rattle.clap.proofs.WalkLemmas.{one_text-rows}
use Rattle.office_program.proofs.check_all_words.form_of.Goals as goal

-- a flag that is set says "true"
pub returns-then-get_flag : goal.returns-then-get_flag
returns-then-get_flag c =
    let text = one_text-rows (found_of c.args.values.now) (codes "json") in
    record {
      json = λ is. refl;
      plain = λ is. let never : true ≡ false =
          sym c.if-get_flag.true ∙ c.get_flag.ensures.other (text ∙ is) in cc;
      none = λ is. let never : true ≡ false =
          sym c.if-get_flag.true ∙ c.get_flag.ensures.none (text ∙ is) in cc;
    }

pub returns-else-get_flag : goal.returns-else-get_flag
returns-else-get_flag c =
    let text = one_text-rows (found_of c.args.values.now) (codes "json") in
    record {
      json = λ is. let never : true ≡ false =
          sym (c.get_flag.ensures.value (text ∙ is)) ∙ c.if-get_flag.false in cc;
      plain = λ is. refl;
      none = λ is. refl;
    }
