use Rattle.std.proofs.Common.{◌≡◌, ℕ, List, ap, refl, subst, sym, map, string_bytes}
use Rattle.lt_commands.specs.declared.words.Call.{Call}
use Rattle.lt_commands.specs.Calls.{line_of}
use Rattle.lt_commands.specs.Failures.{failures}
use Rattle.lt_commands.specs.Fetching.{LineAsks}
use Rattle.conf_eval.specs.Answers.{kept}
use Rattle.lt_commands.specs.Offline.{Completes, IsOfLine, IsQuiet, LineSays, PutsOut}
use Rattle.lt_commands.specs.Runs.{asked_of}
use Rattle.lt_commands.specs.Serving.{ServesBench, ServesSpelled}
use Rattle.lt_commands.specs.Words.{Line, Replay, Bench, SpellsLine}
use Rattle.lt_commands.proofs.BenchLemmas.{unrun_bench}
use Rattle.lt_commands.proofs.ServingLemmas.{unserved_some, unrun}
use Rattle.lt_commands.proofs.WordsLemmas.{one_line, no_replay, no_check, no_print, of_line, memory_alone, wordless, wordless_says, wordless_asks, wordless_completes, wordless_sink}
use Rattle.script_net.specs.Playing.{Playing}
use Rattle.lt_commands.proofs.commands.offline.Goals as goal

-- ---- the words are no line, or memory was wanted

pub returns-in-Err-clause-words : goal.returns-in-Err-clause-words
returns-in-Err-clause-words g c = (wordless c.in-Err.status _ c.args.net.now.last (failures 0 0 0) (failures 0 0 0) c.in-Err.ensures.none (ap (λ (p : Playing). p.last) c.requires.net)).words_say

pub returns-in-Err-clause-texts : goal.returns-in-Err-clause-texts
returns-in-Err-clause-texts g c told line spelled = wordless_says c.in-Err.status line _ (memory_alone c.in-Err.status _ line c.in-Err.ensures.none spelled)

pub returns-in-Err-clause-asks : goal.returns-in-Err-clause-asks
returns-in-Err-clause-asks g c told line spelled = wordless_asks c.in-Err.status line _ _ (memory_alone c.in-Err.status _ line c.in-Err.ensures.none spelled)

pub returns-in-Err-clause-faults : goal.returns-in-Err-clause-faults
returns-in-Err-clause-faults g c = (wordless c.in-Err.status (map string_bytes c.args.words.now) c.args.net.now.last _ _ c.in-Err.ensures.none (ap (λ (p : Playing). p.last) c.requires.net)).faults

pub returns-in-Err-clause-memory : goal.returns-in-Err-clause-memory
returns-in-Err-clause-memory g c = (wordless c.in-Err.status (map string_bytes c.args.words.now) c.args.net.now.last (failures 0 0 0) (failures 0 0 0) c.in-Err.ensures.none (ap (λ (p : Playing). p.last) c.requires.net)).memory

pub returns-in-Err-clause-complete : goal.returns-in-Err-clause-complete
returns-in-Err-clause-complete g c told line spelled = wordless_completes c.in-Err.status line _ (memory_alone c.in-Err.status _ line c.in-Err.ensures.none spelled)

pub returns-in-Err-clause-serves : goal.returns-in-Err-clause-serves
returns-in-Err-clause-serves g c = unserved_some _ _ _ (ap asked_of c.requires.files) (ap (λ (p : Playing). p.game.trace) c.requires.net)

pub returns-in-Err-clause-spelled : goal.returns-in-Err-clause-spelled
returns-in-Err-clause-spelled g c told conf script spelled loaded said has held =
    let is = memory_alone c.in-Err.status _ (Replay conf script) c.in-Err.ensures.none spelled in
    unrun loaded said c.in-Err.status _ _ (ap asked_of c.requires.files) (ap (λ (p : Playing). p.game.trace) c.requires.net) (λ done. absurd (cc (is, done)))

pub returns-in-Err-clause-report : goal.returns-in-Err-clause-report
returns-in-Err-clause-report g c told conf script spelled = wordless_sink c.in-Err.status _ _ (memory_alone c.in-Err.status _ (Replay conf script) c.in-Err.ensures.none spelled)

pub returns-in-Err-clause-benched : goal.returns-in-Err-clause-benched
returns-in-Err-clause-benched g c clients spelled =
    unrun_bench clients c.in-Err.status _ _ (memory_alone c.in-Err.status _ (Bench clients) c.in-Err.ensures.none spelled) (ap asked_of c.requires.files) (ap (λ (p : Playing). p.game.trace) c.requires.net)

pub returns-in-Err-clause-summed : goal.returns-in-Err-clause-summed
returns-in-Err-clause-summed g c told clients spelled = wordless_sink c.in-Err.status _ _ (memory_alone c.in-Err.status _ (Bench clients) c.in-Err.ensures.none spelled)

pub returns-in-Err-clause-prints : goal.returns-in-Err-clause-prints
returns-in-Err-clause-prints g c told texts_told line output spelled puts = wordless_sink c.in-Err.status output _ (memory_alone c.in-Err.status _ line c.in-Err.ensures.none spelled)

-- ---- a line

pub returns-in-Ok-Replay-clause-complete : goal.returns-in-Ok-Replay-clause-complete
returns-in-Ok-Replay-clause-complete g c told line spelled =
    let found = subst (λ (call : Call). SpellsLine (map string_bytes c.args.words.now) (line_of call)) c.in-Ok-Replay.field-0-is c.in-Ok-Replay.ensures.found in
    subst (λ (l : Line). Completes c.replay.result l (g.X.Texts.texts c.args.texts.now)) (one_line (map string_bytes c.args.words.now) (Replay c.in-Ok-Replay.conf.now c.in-Ok-Replay.script.now) line found spelled)
    (c.replay.ensures.complete told)

pub returns-in-Ok-Replay-clause-spelled : goal.returns-in-Ok-Replay-clause-spelled
returns-in-Ok-Replay-clause-spelled g c told conf script spelled =
    let found = subst (λ (call : Call). SpellsLine (map string_bytes c.args.words.now) (line_of call)) c.in-Ok-Replay.field-0-is c.in-Ok-Replay.ensures.found in
    let same_conf : c.in-Ok-Replay.conf.now ≡ conf = cc in
    let same_script : c.in-Ok-Replay.script.now ≡ script = cc in
    subst (λ (n : List ℕ). ServesSpelled n script (g.X.Texts.texts c.args.texts.now) c.replay.result (asked_of c.replay.new.files) c.replay.new.net.game.trace) same_conf
    (subst (λ (n : List ℕ). ServesSpelled c.in-Ok-Replay.conf.now n (g.X.Texts.texts c.args.texts.now) c.replay.result (asked_of c.replay.new.files) c.replay.new.net.game.trace) same_script (c.replay.ensures.spelled told))

pub returns-in-Ok-Check-clause-serves : goal.returns-in-Ok-Check-clause-serves
returns-in-Ok-Check-clause-serves g c = unserved_some _ _ _ (ap asked_of c.requires.files) (ap (λ (p : Playing). p.game.trace) c.requires.net)

pub returns-in-Ok-Print-clause-serves : goal.returns-in-Ok-Print-clause-serves
returns-in-Ok-Print-clause-serves g c = unserved_some _ _ _ (ap asked_of c.requires.files) (ap (λ (p : Playing). p.game.trace) c.requires.net)

pub returns-in-Ok-Bench-clause-texts : goal.returns-in-Ok-Bench-clause-texts
returns-in-Ok-Bench-clause-texts g c told line spelled =
    let found = subst (λ (call : Call). SpellsLine (map string_bytes c.args.words.now) (line_of call)) c.in-Ok-Bench.field-0-is c.in-Ok-Bench.ensures.found in
    subst (λ (l : Line). LineSays c.bench.result l (g.X.Texts.texts c.args.texts.now)) (one_line (map string_bytes c.args.words.now) (Bench c.in-Ok-Bench.clients) line found spelled) c.bench.ensures.says

pub returns-in-Ok-Bench-clause-asks : goal.returns-in-Ok-Bench-clause-asks
returns-in-Ok-Bench-clause-asks g c told line spelled =
    let found = subst (λ (call : Call). SpellsLine (map string_bytes c.args.words.now) (line_of call)) c.in-Ok-Bench.field-0-is c.in-Ok-Bench.ensures.found in
    let calls = kept (g.X.Texts.calls c.args.texts.now) (g.M.PatternMaker.calls c.args.maker.now) in
    subst (λ (l : Line). LineAsks c.bench.result l (g.X.Texts.texts c.args.texts.now) calls calls) (one_line (map string_bytes c.args.words.now) (Bench c.in-Ok-Bench.clients) line found spelled) refl

pub returns-in-Ok-Bench-clause-complete : goal.returns-in-Ok-Bench-clause-complete
returns-in-Ok-Bench-clause-complete g c told line spelled =
    let found = subst (λ (call : Call). SpellsLine (map string_bytes c.args.words.now) (line_of call)) c.in-Ok-Bench.field-0-is c.in-Ok-Bench.ensures.found in
    subst (λ (l : Line). Completes c.bench.result l (g.X.Texts.texts c.args.texts.now)) (one_line (map string_bytes c.args.words.now) (Bench c.in-Ok-Bench.clients) line found spelled) c.bench.ensures.says

pub returns-in-Ok-Bench-clause-refused : goal.returns-in-Ok-Bench-clause-refused
returns-in-Ok-Bench-clause-refused g c is = absurd (c.bench.ensures.runs is)

pub returns-in-Ok-Bench-clause-benched : goal.returns-in-Ok-Bench-clause-benched
returns-in-Ok-Bench-clause-benched g c clients spelled =
    let found = subst (λ (call : Call). SpellsLine (map string_bytes c.args.words.now) (line_of call)) c.in-Ok-Bench.field-0-is c.in-Ok-Bench.ensures.found in
    let same : c.in-Ok-Bench.clients ≡ clients = cc in
    subst (λ (n : ℕ). ServesBench n c.bench.result (asked_of c.bench.new.files) c.bench.new.net.game.trace) same c.bench.ensures.benched

-- ---- a benchmark run is no other line

pub returns-in-Ok-Replay-clause-benched : goal.returns-in-Ok-Replay-clause-benched
returns-in-Ok-Replay-clause-benched g c clients spelled =
    let found = subst (λ (call : Call). SpellsLine (map string_bytes c.args.words.now) (line_of call)) c.in-Ok-Replay.field-0-is c.in-Ok-Replay.ensures.found in
    absurd (no_replay (map string_bytes c.args.words.now) c.in-Ok-Replay.conf.now c.in-Ok-Replay.script.now clients found spelled)

pub returns-in-Ok-Replay-clause-summed : goal.returns-in-Ok-Replay-clause-summed
returns-in-Ok-Replay-clause-summed g c told clients spelled =
    let found = subst (λ (call : Call). SpellsLine (map string_bytes c.args.words.now) (line_of call)) c.in-Ok-Replay.field-0-is c.in-Ok-Replay.ensures.found in
    absurd (no_replay (map string_bytes c.args.words.now) c.in-Ok-Replay.conf.now c.in-Ok-Replay.script.now clients found spelled)

pub returns-in-Ok-Replay-clause-unread : goal.returns-in-Ok-Replay-clause-unread
returns-in-Ok-Replay-clause-unread g c clients spelled =
    let found = subst (λ (call : Call). SpellsLine (map string_bytes c.args.words.now) (line_of call)) c.in-Ok-Replay.field-0-is c.in-Ok-Replay.ensures.found in
    absurd (no_replay (map string_bytes c.args.words.now) c.in-Ok-Replay.conf.now c.in-Ok-Replay.script.now clients found spelled)

pub returns-in-Ok-Check-clause-benched : goal.returns-in-Ok-Check-clause-benched
returns-in-Ok-Check-clause-benched g c clients spelled =
    let found = subst (λ (call : Call). SpellsLine (map string_bytes c.args.words.now) (line_of call)) c.in-Ok-Check.field-0-is c.in-Ok-Check.ensures.found in
    absurd (no_check (map string_bytes c.args.words.now) c.in-Ok-Check.conf.now clients found spelled)

pub returns-in-Ok-Check-clause-summed : goal.returns-in-Ok-Check-clause-summed
returns-in-Ok-Check-clause-summed g c told clients spelled =
    let found = subst (λ (call : Call). SpellsLine (map string_bytes c.args.words.now) (line_of call)) c.in-Ok-Check.field-0-is c.in-Ok-Check.ensures.found in
    absurd (no_check (map string_bytes c.args.words.now) c.in-Ok-Check.conf.now clients found spelled)

pub returns-in-Ok-Check-clause-unread : goal.returns-in-Ok-Check-clause-unread
returns-in-Ok-Check-clause-unread g c clients spelled =
    let found = subst (λ (call : Call). SpellsLine (map string_bytes c.args.words.now) (line_of call)) c.in-Ok-Check.field-0-is c.in-Ok-Check.ensures.found in
    absurd (no_check (map string_bytes c.args.words.now) c.in-Ok-Check.conf.now clients found spelled)

pub returns-in-Ok-Print-clause-benched : goal.returns-in-Ok-Print-clause-benched
returns-in-Ok-Print-clause-benched g c clients spelled =
    let found = subst (λ (call : Call). SpellsLine (map string_bytes c.args.words.now) (line_of call)) c.in-Ok-Print.field-0-is c.in-Ok-Print.ensures.found in
    absurd (no_print (map string_bytes c.args.words.now) c.in-Ok-Print.conf.now clients found spelled)

pub returns-in-Ok-Print-clause-summed : goal.returns-in-Ok-Print-clause-summed
returns-in-Ok-Print-clause-summed g c told clients spelled =
    let found = subst (λ (call : Call). SpellsLine (map string_bytes c.args.words.now) (line_of call)) c.in-Ok-Print.field-0-is c.in-Ok-Print.ensures.found in
    absurd (no_print (map string_bytes c.args.words.now) c.in-Ok-Print.conf.now clients found spelled)

pub returns-in-Ok-Print-clause-unread : goal.returns-in-Ok-Print-clause-unread
returns-in-Ok-Print-clause-unread g c clients spelled =
    let found = subst (λ (call : Call). SpellsLine (map string_bytes c.args.words.now) (line_of call)) c.in-Ok-Print.field-0-is c.in-Ok-Print.ensures.found in
    absurd (no_print (map string_bytes c.args.words.now) c.in-Ok-Print.conf.now clients found spelled)

pub returns-in-Ok-Bench-clause-words : goal.returns-in-Ok-Bench-clause-words
returns-in-Ok-Bench-clause-words g c =
    let found = subst (λ (call : Call). SpellsLine (map string_bytes c.args.words.now) (line_of call)) c.in-Ok-Bench.field-0-is c.in-Ok-Bench.ensures.found in
    of_line c.bench.result (map string_bytes c.args.words.now) (Bench c.in-Ok-Bench.clients) c.bench.ensures.line found

pub returns-in-Ok-Bench-clause-faults : goal.returns-in-Ok-Bench-clause-faults
returns-in-Ok-Bench-clause-faults g c = c.bench.ensures.faults _ _

pub returns-in-Ok-Bench-clause-memory : goal.returns-in-Ok-Bench-clause-memory
returns-in-Ok-Bench-clause-memory g c = c.bench.ensures.memory

pub returns-in-Ok-Bench-clause-serves : goal.returns-in-Ok-Bench-clause-serves
returns-in-Ok-Bench-clause-serves g c = c.bench.ensures.serves

pub returns-in-Ok-Bench-clause-spelled : goal.returns-in-Ok-Bench-clause-spelled
returns-in-Ok-Bench-clause-spelled g c told conf script spelled loaded said has held =
    let found = subst (λ (call : Call). SpellsLine (map string_bytes c.args.words.now) (line_of call)) c.in-Ok-Bench.field-0-is c.in-Ok-Bench.ensures.found in
    absurd (no_replay (map string_bytes c.args.words.now) conf script c.in-Ok-Bench.clients spelled found)

pub returns-in-Ok-Bench-clause-report : goal.returns-in-Ok-Bench-clause-report
returns-in-Ok-Bench-clause-report g c told conf script spelled =
    let found = subst (λ (call : Call). SpellsLine (map string_bytes c.args.words.now) (line_of call)) c.in-Ok-Bench.field-0-is c.in-Ok-Bench.ensures.found in
    absurd (no_replay (map string_bytes c.args.words.now) conf script c.in-Ok-Bench.clients spelled found)

pub returns-in-Ok-Bench-clause-unasked : goal.returns-in-Ok-Bench-clause-unasked
returns-in-Ok-Bench-clause-unasked g c line spelled quiet =
    let found = subst (λ (call : Call). SpellsLine (map string_bytes c.args.words.now) (line_of call)) c.in-Ok-Bench.field-0-is c.in-Ok-Bench.ensures.found in
    absurd (subst IsQuiet (sym (one_line (map string_bytes c.args.words.now) (Bench c.in-Ok-Bench.clients) line found spelled)) quiet)

pub returns-in-Ok-Bench-clause-prints : goal.returns-in-Ok-Bench-clause-prints
returns-in-Ok-Bench-clause-prints g c told texts_told line output spelled puts =
    let found = subst (λ (call : Call). SpellsLine (map string_bytes c.args.words.now) (line_of call)) c.in-Ok-Bench.field-0-is c.in-Ok-Bench.ensures.found in
    absurd (subst (λ (l : Line). PutsOut l (g.X.Texts.texts c.args.texts.now) output) (sym (one_line (map string_bytes c.args.words.now) (Bench c.in-Ok-Bench.clients) line found spelled)) puts)

pub returns-in-Ok-Bench-clause-summed : goal.returns-in-Ok-Bench-clause-summed
returns-in-Ok-Bench-clause-summed g c told clients spelled = c.bench.ensures.summed told

pub returns-in-Ok-Bench-clause-usage : goal.returns-in-Ok-Bench-clause-usage
returns-in-Ok-Bench-clause-usage g c is = absurd (subst IsOfLine is c.bench.ensures.line)
