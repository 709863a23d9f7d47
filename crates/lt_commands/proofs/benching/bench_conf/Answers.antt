use Rattle.std.proofs.Common.{◌≡◌, ℕ, List, ap, subst, sym, ◌∙◌}
use Rattle.lt_world.specs.TextAnswers.{Library}
use Rattle.lt_world.specs.TextRuns.{Shelf, library_of, no_texts, with_text}
use Rattle.lt_commands.specs.Benching.{bench_name, bench_text, bench_texts}
use Rattle.lt_commands.specs.Loading.{HasConf}
use Rattle.lt_commands.proofs.benching.bench_conf.Goals as goal

-- one text among none
held : (added made : Shelf) (name : List ℕ) → library_of added ≡ with_text name bench_text (library_of made) → name ≡ bench_name → made ≡ no_texts → library_of added ≡ bench_texts
held added made name library is_name is_empty =
    library ∙ ap (λ (n : List ℕ). with_text n bench_text (library_of made)) is_name ∙ ap (λ (shelf : Shelf). with_text bench_name bench_text (library_of shelf)) is_empty

pub returns-in-Ok-clause-conf : goal.returns-in-Ok-clause-conf
returns-in-Ok-clause-conf c =
    subst (λ (library : Library). HasConf library bench_name c.in-Ok.loaded)
    (held c.add.new.self c.new-texts.result c.as_bytes.result.now c.in_ok-add.ensures.library c.as_bytes.ensures.value c.new-texts.ensures) (c.in-Ok.ensures.says tt)

pub returns-in-Ok-clause-only : goal.returns-in-Ok-clause-only
returns-in-Ok-clause-only c loaded has =
    c.in-Ok.ensures.only tt loaded (subst (λ (library : Library). HasConf library bench_name loaded)
    (sym (held c.add.new.self c.new-texts.result c.as_bytes.result.now c.in_ok-add.ensures.library c.as_bytes.ensures.value c.new-texts.ensures)) has)
