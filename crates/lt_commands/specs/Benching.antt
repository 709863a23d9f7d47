-- The configuration of a benchmark run (docs/SCRIPT.md, 'A benchmark run'). The script is `generated` of `script_gen`.
use Rattle.std.specs.Prelude.{ℕ, List, None, codes}
use Rattle.lt_world.specs.TextAnswers.{Library}
use Rattle.lt_world.specs.TextRuns.{with_text}

-- its one text, and the text's name
abbrev pub bench_name : List ℕ
bench_name = codes "bench.conf"

abbrev pub bench_text : List ℕ
bench_text = codes "server.document-root = \"/srv\""

-- the texts among which it is loaded
abbrev pub bench_texts : Library
bench_texts = with_text bench_name bench_text (λ name. None)
