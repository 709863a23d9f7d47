use Rattle.std.proofs.Common.{◌≡◌, ◌∙◌, List, [], ◌∷◌, ◌++◌, length, true, false, nat_le, ap, sym, refl, arith}
use Rattle.std.proofs.lemmas.Bool.Decides.{nat_tests}
use Rattle.lt_world.specs.declared.texts.Fetch.{Fetch}
use Rattle.conf_eval.specs.declared.fault.LoadError.{LoadError}
use Rattle.conf_eval.specs.Calls.{no_calls}
use Rattle.conf_eval.specs.Answers.{kept}
use Rattle.conf_eval.specs.Kept.{state_of}
use Rattle.conf_eval.specs.Parts.{Stopped}
use Rattle.conf_eval.specs.Parts as spec
use Rattle.conf_eval.proofs.Courses.{BeginsBy, beginning}
use Rattle.conf_eval.proofs.Induction as all
use Rattle.conf_eval.proofs.Loads.{stops, lacks_memory, make_full, make_goes, make_lost, make_refused, state_is}
use Rattle.conf_eval.proofs.making.make.Goals as goal

pub returns-then-patterns-ge-MAX_PATTERNS-clause-ran : goal.returns-then-patterns-ge-MAX_PATTERNS-clause-ran
returns-then-patterns-ge-MAX_PATTERNS-clause-ran g c texts =
    let s = state_of c.args.loading.now in
    let full : nat_le 48 (length s.patterns) ≡ true = grind (arith, nat_tests, c.if-patterns-ge-MAX_PATTERNS.true, c.patterns.ensures.len) in
    stops (spec.makes c.args.file c.args.line c.args.rule c.args.text.now) s s (kept texts (g.M.PatternMaker.calls c.args.maker.now)) c.fault.result
    (make_full c.args.file c.args.line c.args.rule c.args.text.now s full no_calls ∙ ap (λ (x : LoadError). Stopped x no_calls) (sym c.fault.ensures))

pub returns-in-Ok-clause-ran : goal.returns-in-Ok-clause-ran
returns-in-Ok-clause-ran g c texts =
    let l = c.args.loading.now in
    let s = state_of l in
    let few : nat_le 48 (length s.patterns) ≡ false = grind (arith, nat_tests, c.if-patterns-ge-MAX_PATTERNS.false, c.patterns.ensures.len) in
    make_goes c.args.file c.args.line c.args.rule c.args.text.now s texts (g.M.PatternMaker.calls c.args.maker.now) (g.M.PatternMaker.calls c.make.new.self) _ few c.in-Pattern.ensures.calls
    (state_is l.warnings l.files l.room l.built.blocks c.add.new.self.blocks (l.built.patterns ++ (c.args.text.now, c.args.rule) ∷ []) c.add.new.self.patterns (sym c.in-Ok.ensures.blocks) (sym c.in-Ok.ensures.patterns))

pub returns-in-Err-clause-ran : goal.returns-in-Err-clause-ran
returns-in-Err-clause-ran g c texts =
    let s = state_of c.args.loading.now in
    let few : nat_le 48 (length s.patterns) ≡ false = grind (arith, nat_tests, c.if-patterns-ge-MAX_PATTERNS.false, c.patterns.ensures.len) in
    make_lost c.args.file c.args.line c.args.rule c.args.text.now s texts (g.M.PatternMaker.calls c.args.maker.now) (g.M.PatternMaker.calls c.make.new.self) _ few c.in-Pattern.ensures.calls

pub returns-in-Refused-clause-ran : goal.returns-in-Refused-clause-ran
returns-in-Refused-clause-ran g c texts =
    let s = state_of c.args.loading.now in
    let few : nat_le 48 (length s.patterns) ≡ false = grind (arith, nat_tests, c.if-patterns-ge-MAX_PATTERNS.false, c.patterns.ensures.len) in
    make_refused c.args.file c.args.line c.args.rule c.args.text.now s texts (g.M.PatternMaker.calls c.args.maker.now) (g.M.PatternMaker.calls c.make.new.self) s c.fault-in-Refused.result few c.in-Refused.ensures.calls c.fault-in-Refused.ensures

pub returns-in-NoMemory-clause-ran : goal.returns-in-NoMemory-clause-ran
returns-in-NoMemory-clause-ran g c texts =
    let s = state_of c.args.loading.now in
    rw c.in-NoMemory.ensures.calls
    (lacks_memory (spec.makes c.args.file c.args.line c.args.rule c.args.text.now) s s (kept texts (g.M.PatternMaker.calls c.args.maker.now)) (all.makes BeginsBy beginning c.args.file c.args.line c.args.rule c.args.text.now s))
