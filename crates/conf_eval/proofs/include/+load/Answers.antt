use Rattle.std.proofs.Common.{◌≡◌, ◌∙◌, ◌+◌, ◌-◌, ℕ, suc, List, [], ◌∷◌, length, drop, drop-cons, Option, Some, None, Result, Ok, Err, ap, sym, subst, refl, arith}
use Rattle.lt_world.specs.declared.texts.Fetch.{Fetch}
use Rattle.lt_world.specs.declared.texts.FetchKind.TheVariants as call
use Rattle.lt_world.specs.declared.texts.Fetched.TheVariants as fetched
use Rattle.lt_world.specs.TextAnswers.{Library}
use Rattle.conf_parse.specs.declared.tree.Statement.{Statement, out-Statement}
use Rattle.conf_parse.specs.declared.tree.What.{What, out-What, out-roll-What}
use Rattle.conf_parse.specs.declared.tree.What.TheVariants as what
use Rattle.conf_parse.specs.declared.tree.What.TheOpen.{What-F}
use Rattle.conf_parse.specs.declared.tree.Branch.{Branch, out-Branch}
use Rattle.conf_parse.specs.declared.tree.Term.{Term}
use Rattle.conf_parse.specs.declared.tree.Tree.{Tree}
use Rattle.conf_value.specs.declared.block.Block.{Block}
use Rattle.conf_eval.specs.declared.fault.ConfKind.{ConfKind}
use Rattle.conf_eval.specs.declared.fault.LoadError.{LoadError}
use Rattle.conf_eval.specs.declared.fault.LoadError.TheVariants as e
use Rattle.conf_eval.specs.declared.halt.Wrong.{Wrong}
use Rattle.conf_eval.specs.declared.halt.Halt.{Halt}
use Rattle.conf_eval.specs.Answers.{Is, Ran, kept}
use Rattle.conf_eval.specs.Calls.{Calls, no_calls}
use Rattle.conf_eval.specs.Kept.{state_of, look}
use Rattle.conf_eval.specs.Opening as opening
use Rattle.conf_eval.specs.Parts.{Part, Stopped, goes_on, fetches}
use Rattle.conf_eval.specs.Settings.{State}
use Rattle.conf_eval.specs.Sound.{AreOpen, Grows, StandsBehind}
use Rattle.conf_eval.specs.Load as spec
use Rattle.conf_eval.specs.Trees.{IsTree}
use Rattle.conf_eval.specs.declared.tree.TreeError.{TreeError}
use Rattle.conf_eval.proofs.Courses.{BeginsBy, beginning}
use Rattle.conf_eval.proofs.Heads.{grows_same, grows_on, open_on, stands_on}
use Rattle.conf_eval.proofs.Induction as all
use Rattle.conf_eval.proofs.Loads.{stops, lacks_memory, wrong_by_itself, ran_as, first_stops, then_ran, so_far_none, so_far_step, so_far_stops, fetch_stops, fetch_text, gives_text, gives_missing, gives_long}
use Rattle.conf_eval.proofs.Nested.{chain_none, chain_open, include_none, include_open}
use Rattle.conf_eval.proofs.Sounds.{on_ok}
use Rattle.conf_eval.proofs.include.+load.Goals as goal

-- ---- includes

pub include-returns-then-depth-eq0-clause-ran : goal.include-returns-then-depth-eq0-clause-ran
include-returns-then-depth-eq0-clause-ran g t c told =
    let L = g.X.Texts.texts c.args.texts.now in
    let s = state_of c.args.loading.now in
    stops (spec.include L c.args.depth c.args.file c.args.line c.args.scopes.now c.args.name.now) s s (kept (g.X.Texts.calls c.args.texts.now) (g.M.PatternMaker.calls c.args.maker.now)) c.fault.result
    (include_none L c.args.file c.args.line c.args.scopes.now s no_calls c.args.name.now c.args.depth c.if-depth-eq0.true ∙ ap (λ (x : LoadError). Stopped x no_calls) (sym c.fault.ensures))

pub include-returns-in-Missing-clause-ran : goal.include-returns-in-Missing-clause-ran
include-returns-in-Missing-clause-ran g t c told =
    let L = g.X.Texts.texts c.args.texts.now in
    let s = state_of c.args.loading.now in
    let name = c.args.name.now in
    let after = spec.included L (spec.include L (c.args.depth - 1)) c.args.file c.args.line c.args.scopes.now in
    let makes = g.M.PatternMaker.calls c.args.maker.now in
    let texts = g.X.Texts.calls c.args.texts.now in
    let later = g.X.Texts.calls c.fetch.new.self in
    ran_as (spec.include L c.args.depth c.args.file c.args.line c.args.scopes.now name) (fetches after (L name) name) s s s (kept texts makes) (kept later makes) (Err c.fault-in-Missing.result)
    (λ others. include_open L c.args.file c.args.line c.args.scopes.now s others name c.args.depth c.if-depth-eq0.false)
    (fetch_stops after (L name) name s s texts later makes call.Missing fetched.Missing c.fault-in-Missing.result (c.in-Missing.ensures.calls told) (gives_missing (L name) s.room (c.in-Missing.ensures.right told)) (ap (λ (x : LoadError). Stopped x no_calls) (sym c.fault-in-Missing.ensures)))

pub include-returns-in-Long-clause-ran : goal.include-returns-in-Long-clause-ran
include-returns-in-Long-clause-ran g t c told =
    let right = c.in-Long.ensures.right told in
    let L = g.X.Texts.texts c.args.texts.now in
    let s = state_of c.args.loading.now in
    let name = c.args.name.now in
    let after = spec.included L (spec.include L (c.args.depth - 1)) c.args.file c.args.line c.args.scopes.now in
    let makes = g.M.PatternMaker.calls c.args.maker.now in
    let texts = g.X.Texts.calls c.args.texts.now in
    let later = g.X.Texts.calls c.fetch.new.self in
    ran_as (spec.include L c.args.depth c.args.file c.args.line c.args.scopes.now name) (fetches after (L name) name) s s s (kept texts makes) (kept later makes) (Err c.fault-in-Long.result)
    (λ others. include_open L c.args.file c.args.line c.args.scopes.now s others name c.args.depth c.if-depth-eq0.false)
    (fetch_stops after (L name) name s s texts later makes call.Long fetched.Long c.fault-in-Long.result (c.in-Long.ensures.calls told) (gives_long (L name) right.0 s.room right.1 right.2) (ap (λ (x : LoadError). Stopped x no_calls) (sym c.fault-in-Long.ensures)))

pub include-returns-in-Failed-clause-ran : goal.include-returns-in-Failed-clause-ran
include-returns-in-Failed-clause-ran g t c told =
    let L = g.X.Texts.texts c.args.texts.now in
    let s = state_of c.args.loading.now in
    let name = c.args.name.now in
    let after = spec.included L (spec.include L (c.args.depth - 1)) c.args.file c.args.line c.args.scopes.now in
    let makes = g.M.PatternMaker.calls c.args.maker.now in
    let texts = g.X.Texts.calls c.args.texts.now in
    let later = g.X.Texts.calls c.fetch.new.self in
    ran_as (spec.include L c.args.depth c.args.file c.args.line c.args.scopes.now name) (fetches after (L name) name) s s s (kept texts makes) (kept later makes) (Err c.fault-in-Failed.result)
    (λ others. include_open L c.args.file c.args.line c.args.scopes.now s others name c.args.depth c.if-depth-eq0.false)
    (fetch_stops after (L name) name s s texts later makes call.Failed fetched.Failed c.fault-in-Failed.result (c.in-Failed.ensures.calls told) refl (ap (λ (x : LoadError). Stopped x no_calls) (sym c.fault-in-Failed.ensures)))

pub include-returns-in-NoMemory-clause-ran : goal.include-returns-in-NoMemory-clause-ran
include-returns-in-NoMemory-clause-ran g t c told =
    let L = g.X.Texts.texts c.args.texts.now in
    let s = state_of c.args.loading.now in
    let makes = g.M.PatternMaker.calls c.args.maker.now in
    let part : Part = spec.include L c.args.depth c.args.file c.args.line c.args.scopes.now c.args.name.now in
    subst (λ (l : List Fetch). Ran part s (kept (g.X.Texts.calls c.args.texts.now) makes) (kept l makes) (Err e.NoMemory) s) (sym (c.in-NoMemory.ensures.calls told))
    (lacks_memory part s s (kept (g.X.Texts.calls c.args.texts.now) makes) (all.nested BeginsBy beginning L c.args.depth c.args.file c.args.line c.args.scopes.now c.args.name.now s))

pub include-returns-in-Text-clause-ran : goal.include-returns-in-Text-clause-ran
include-returns-in-Text-clause-ran g t c told =
    let right = c.in-Text.ensures.right told in
    let L = g.X.Texts.texts c.args.texts.now in
    let s = state_of c.args.loading.now in
    let new = state_of c.text.new.loading in
    let name = c.args.name.now in
    let scopes = c.args.scopes.now in
    let after = spec.included L (spec.include L (c.args.depth - 1)) c.args.file c.args.line scopes in
    let makes = g.M.PatternMaker.calls c.args.maker.now in
    let texts = g.X.Texts.calls c.args.texts.now in
    let between = g.X.Texts.calls c.fetch.new.self in
    let later = kept (g.X.Texts.calls c.text.new.texts) (g.M.PatternMaker.calls c.text.new.maker) in
    let found = c.in-Text.found in
    ran_as (spec.include L c.args.depth c.args.file c.args.line scopes name) (fetches after (L name) name) s s new (kept texts makes) later c.text.result
    (λ others. include_open L c.args.file c.args.line scopes s others name c.args.depth c.if-depth-eq0.false)
    (fetch_text after (L name) name s (spec.text L (c.args.depth - 1) scopes found) s new texts between makes later found c.text.result (c.in-Text.ensures.calls told) (gives_text (L name) found s.room right.0 right.1) (λ others. refl)
    (subst (λ (l : Library). Ran (spec.text l (c.args.depth - 1) scopes found) s (kept between makes) later c.text.result new) (c.in-Text.ensures.texts told)
    (subst (λ (b : List ℕ). Ran (spec.text (g.X.Texts.texts c.fetch.new.self) (c.args.depth - 1) scopes b) s (kept between makes) later c.text.result new) c.bytes.ensures.value (c.text.ensures.ran told))))

pub include_value-returns-in-Err-clause-ran : goal.include_value-returns-in-Err-clause-ran
include_value-returns-in-Err-clause-ran g t c told =
    let L = g.X.Texts.texts c.args.texts.now in
    let s = state_of c.args.loading.now in
    let scopes = c.args.scopes.now in
    let calls = kept (g.X.Texts.calls c.args.texts.now) (g.M.PatternMaker.calls c.args.maker.now) in
    let part : Part = spec.include_of L c.args.depth c.args.file c.args.line scopes c.args.terms.now in
    subst (λ (x : LoadError). Ran part s calls calls (Err x) s) (sym c.stop.ensures)
    (wrong_by_itself part s s calls c.args.file c.args.line (all.include_of BeginsBy beginning L c.args.depth c.args.file c.args.line scopes c.args.terms.now s) c.in-Err.halt
    (λ x p. ap (λ (n : Result (List ℕ) Wrong). spec.includes L (spec.include L c.args.depth) c.args.file c.args.line scopes n s no_calls)
    (subst (λ (h : Halt). Is (spec.name_of scopes c.args.terms.now s) (Err h)) p c.in-Err.ensures)))

-- ---- texts

pub text-returns-in-Err-Fault-clause-ran : goal.text-returns-in-Err-Fault-clause-ran
text-returns-in-Err-Fault-clause-ran g t c told =
    let L = g.X.Texts.texts c.args.texts.now in
    let s = state_of c.args.loading.now in
    let scopes = c.args.scopes.now in
    stops (spec.text L c.args.depth scopes c.args.bytes.now) s _ (kept (g.X.Texts.calls c.args.texts.now) (g.M.PatternMaker.calls c.args.maker.now)) c.fault.result
    (ap (λ (t : Result Tree (ConfKind × ℕ)). spec.reads L (spec.include L c.args.depth) s.files scopes t (spec.with_text c.args.bytes.now s) no_calls) (subst (λ (x : TreeError). IsTree (spec.tree_of c.args.bytes.now) (Err x)) c.in-Err-Fault.field-0-is c.in-Err-Fault.ensures.exact) ∙ ap (λ (x : LoadError). Stopped x no_calls) (sym c.fault.ensures))

pub text-returns-in-Err-NoMemory-clause-ran : goal.text-returns-in-Err-NoMemory-clause-ran
text-returns-in-Err-NoMemory-clause-ran g t c told =
    let L = g.X.Texts.texts c.args.texts.now in
    let s = state_of c.args.loading.now in
    lacks_memory (spec.text L c.args.depth c.args.scopes.now c.args.bytes.now) s _ (kept (g.X.Texts.calls c.args.texts.now) (g.M.PatternMaker.calls c.args.maker.now)) (all.text BeginsBy beginning L c.args.depth c.args.scopes.now c.args.bytes.now s)

-- ---- statements

pub statement-returns-in-Set-clause-ran : goal.statement-returns-in-Set-clause-ran
statement-returns-in-Set-clause-ran g t c told =
    let L = g.X.Texts.texts c.args.texts.now in
    let s = state_of c.args.loading.now in
    let file = c.args.file in
    let scopes = c.args.scopes.now in
    let line = (out-Statement c.args.statement.now).line in
    let inc = spec.include L c.args.depth in
    let texts = g.X.Texts.calls c.args.texts.now in
    let does : What-F What Branch Statement → Part = spec.does L inc (spec.chain L inc c.args.room) file line scopes in
    ran_as (spec.statement L c.args.depth c.args.room file scopes c.args.statement.now) (spec.sets file line scopes c.bytes.result.now c.in-Set.add c.as_slice.result.now) s s (state_of c.set.new.loading)
    (kept texts (g.M.PatternMaker.calls c.args.maker.now)) (kept texts (g.M.PatternMaker.calls c.set.new.maker)) c.set.result
    (λ others. ap (λ (w : What-F What Branch Statement). does w s others) (ap out-What c.in-Set.is ∙ ap out-What (sym (what.rolls-Set c.in-Set.key c.in-Set.add c.in-Set.value)) ∙ out-roll-What (What-F.Set c.in-Set.key c.in-Set.add c.in-Set.value))
    ∙ ap (λ (k : List ℕ). spec.sets file line scopes k c.in-Set.add c.in-Set.value s others) (sym c.bytes.ensures.value)
    ∙ ap (λ (v : List Term). spec.sets file line scopes c.bytes.result.now c.in-Set.add v s others) (sym c.as_slice.ensures))
    (c.set.ensures.ran texts)

pub statements-loop-one-init : goal.statements-loop-one-init
statements-loop-one-init g t c =
    let L = g.X.Texts.texts c.args.texts.now in
    let blocks = c.args.loading.now.built.blocks in
    record {
      same = λ told. refl;
      ran = λ told. so_far_none (spec.statements L c.args.depth c.args.room c.args.file c.args.scopes.now c.args.statements.now) (state_of c.args.loading.now) (kept (g.X.Texts.calls c.args.texts.now) (g.M.PatternMaker.calls c.args.maker.now));
      grows = grows_same blocks blocks refl;
      opened = c.requires.scopes;
      faults = omega arith;
      refusals = omega arith;
    }

pub statements-loop-one-preserved : goal.statements-loop-one-preserved
statements-loop-one-preserved g t c =
    let i = c.loop-one.one-index in
    let xs = c.args.statements.now in
    let L = g.X.Texts.texts c.args.texts.now in
    let scopes = c.args.scopes.now in
    let now = state_of c.loop-one.loading in
    let new = state_of c.statement.new.loading in
    let earlier = kept (g.X.Texts.calls c.args.texts.now) (g.M.PatternMaker.calls c.args.maker.now) in
    let between = kept (g.X.Texts.calls c.loop-one.texts) (g.M.PatternMaker.calls c.loop-one.maker) in
    let later = kept (g.X.Texts.calls c.statement.new.texts) (g.M.PatternMaker.calls c.statement.new.maker) in
    let all_of : List Statement → Part = spec.statements L c.args.depth c.args.room c.args.file scopes in
    let part : Part = spec.statement L c.args.depth c.args.room c.args.file scopes c.one-item.result in
    let next : suc i ≡ i + 1 = omega arith in
    let p : drop i xs ≡ c.one-item.result ∷ drop (i + 1) xs = drop-cons xs i c.one-item.result (omega arith) ∙ ap (λ (y : Statement). y ∷ drop (suc i) xs) (sym c.one-item.is) ∙ ap (λ (n : ℕ). c.one-item.result ∷ drop n xs) next in
    record {
      same = λ told. c.in-Ok.ensures.same told ∙ c.loop-one.invariant.same told;
      ran = λ told. so_far_step (all_of xs) (all_of (drop i xs)) (state_of c.args.loading.now) now earlier between part (all_of (drop (i + 1) xs)) later new (c.loop-one.invariant.ran told)
          (λ others. ap (λ (l : List Statement). all_of l now others) p)
          (subst (λ (l : Library). Ran (spec.statement l c.args.depth c.args.room c.args.file scopes c.one-item.result) now between later (Ok tt) new) (c.loop-one.invariant.same told) (c.in-Ok.ensures.ran told));
      grows = grows_on c.args.loading.now.built.blocks c.loop-one.loading.built.blocks c.statement.new.loading.built.blocks c.loop-one.invariant.grows c.in-Ok.ensures.grows;
      opened = open_on scopes c.loop-one.loading.built.blocks c.statement.new.loading.built.blocks c.in-Ok.ensures.grows c.loop-one.invariant.opened;
      faults = omega (arith, c.loop-one.invariant.faults, c.in-Ok.ensures.faults);
      refusals = omega (arith, c.loop-one.invariant.refusals, c.in-Ok.ensures.refusals);
    }

pub statements-returns-in-Err-clause-ran : goal.statements-returns-in-Err-clause-ran
statements-returns-in-Err-clause-ran g t c told =
    let i = c.loop-one.one-index in
    let xs = c.args.statements.now in
    let L = g.X.Texts.texts c.args.texts.now in
    let scopes = c.args.scopes.now in
    let now = state_of c.loop-one.loading in
    let new = state_of c.statement.new.loading in
    let earlier = kept (g.X.Texts.calls c.args.texts.now) (g.M.PatternMaker.calls c.args.maker.now) in
    let between = kept (g.X.Texts.calls c.loop-one.texts) (g.M.PatternMaker.calls c.loop-one.maker) in
    let later = kept (g.X.Texts.calls c.statement.new.texts) (g.M.PatternMaker.calls c.statement.new.maker) in
    let all_of : List Statement → Part = spec.statements L c.args.depth c.args.room c.args.file scopes in
    let part : Part = spec.statement L c.args.depth c.args.room c.args.file scopes c.one-item.result in
    let p : drop i xs ≡ c.one-item.result ∷ drop (suc i) xs = drop-cons xs i c.one-item.result (omega arith) ∙ ap (λ (y : Statement). y ∷ drop (suc i) xs) (sym c.one-item.is) in
    so_far_stops (all_of xs) (all_of (drop i xs)) (state_of c.args.loading.now) now earlier between part (all_of (drop (suc i) xs)) later new (c.loop-one.invariant.ran told)
    (λ others. ap (λ (l : List Statement). all_of l now others) p) (all.statements BeginsBy beginning L c.args.depth c.args.room c.args.file scopes (drop (suc i) xs)) c.in-Err.e
    (subst (λ (l : Library). Ran (spec.statement l c.args.depth c.args.room c.args.file scopes c.one-item.result) now between later (Err c.in-Err.e) new) (c.loop-one.invariant.same told) (c.in-Err.ensures.ran told))

-- ---- blocks

pub chain-returns-then-room-eq0-clause-ran : goal.chain-returns-then-room-eq0-clause-ran
chain-returns-then-room-eq0-clause-ran g t c told =
    let L = g.X.Texts.texts c.args.texts.now in
    let s = state_of c.args.loading.now in
    stops (spec.chain L (spec.include L c.args.depth) c.args.room c.args.file c.args.line c.args.scopes.now c.args.all.now) s s (kept (g.X.Texts.calls c.args.texts.now) (g.M.PatternMaker.calls c.args.maker.now)) c.fault.result
    (chain_none L c.args.file c.args.line c.args.scopes.now s no_calls (spec.include L c.args.depth) c.args.all.now c.args.room c.if-room-eq0.true ∙ ap (λ (x : LoadError). Stopped x no_calls) (sym c.fault.ensures))

pub chain-returns-clause-ran : goal.chain-returns-clause-ran
chain-returns-clause-ran g t c told =
    let L = g.X.Texts.texts c.args.texts.now in
    let s = state_of c.args.loading.now in
    let scopes = c.args.scopes.now in
    let earlier = kept (g.X.Texts.calls c.args.texts.now) (g.M.PatternMaker.calls c.args.maker.now) in
    let later = kept (g.X.Texts.calls c.branches.new.texts) (g.M.PatternMaker.calls c.branches.new.maker) in
    ran_as (spec.chain L (spec.include L c.args.depth) c.args.room c.args.file c.args.line scopes c.args.all.now) (spec.branches L c.args.depth (c.args.room - 1) c.args.file scopes None c.args.all.now) s s (state_of c.branches.new.loading) earlier later c.branches.result
    (λ others. chain_open L c.args.file c.args.line scopes s others (spec.include L c.args.depth) c.args.all.now c.args.room c.if-room-eq0.false) (c.branches.ensures.ran told)

pub branch-returns-in_default-clause-ran : goal.branch-returns-in_default-clause-ran
branch-returns-in_default-clause-ran g t c told =
    let L = g.X.Texts.texts c.args.texts.now in
    let s = state_of c.args.loading.now in
    lacks_memory (spec.branch L c.args.depth c.args.room c.args.file c.args.scopes.now c.args.behind c.args.branch.now) s s (kept (g.X.Texts.calls c.args.texts.now) (g.M.PatternMaker.calls c.args.maker.now))
    (all.branch BeginsBy beginning L c.args.depth c.args.room c.args.file c.args.scopes.now c.args.behind c.args.branch.now s)

pub branch-returns-in-Ok-open_block-clause-ran : goal.branch-returns-in-Ok-open_block-clause-ran
branch-returns-in-Ok-open_block-clause-ran g t c told =
    let L = g.X.Texts.texts c.args.texts.now in
    let s = state_of c.args.loading.now in
    let mid = state_of c.open_block.new.loading in
    let new = state_of c.statements.new.loading in
    let scopes = c.args.scopes.now in
    let b = out-Branch c.args.branch.now in
    let texts = g.X.Texts.calls c.args.texts.now in
    let between = kept texts (g.M.PatternMaker.calls c.open_block.new.maker) in
    let later = kept (g.X.Texts.calls c.statements.new.texts) (g.M.PatternMaker.calls c.statements.new.maker) in
    let inside : List ℕ → List Statement → Part = spec.statements L c.args.depth c.args.room c.args.file in
    let inner : c.as_slice.result.now ≡ length s.blocks ∷ scopes = c.as_slice.ensures.value ∙ c.in-Ok.ensures ∙ ap (λ (n : ℕ). n ∷ scopes) c.len-block.ensures.len in
    then_ran (spec.branch L c.args.depth c.args.room c.args.file scopes c.args.behind c.args.branch.now) (opening.opens c.args.file b.line scopes c.args.behind b.condition) (inside (length s.blocks ∷ scopes) b.body) s mid new
    (kept texts (g.M.PatternMaker.calls c.args.maker.now)) between later c.statements.result (λ others. refl) (c.in-Ok-open_block.ensures.ran texts)
    (subst (λ (l : List ℕ). Ran (inside l b.body) mid between later c.statements.result new) inner
    (subst (λ (l : List Statement). Ran (inside c.as_slice.result.now l) mid between later c.statements.result new) c.as_slice-in-Ok-open_block.ensures (c.statements.ensures.ran told)))

pub branch-returns-in-Ok-open_block-clause-branch : goal.branch-returns-in-Ok-open_block-clause-branch
branch-returns-in-Ok-open_block-clause-branch g t c =
    let mid = c.open_block.new.loading.built.blocks in
    let new = c.statements.new.loading.built.blocks in
    let behind = opening.behind_it (out-Branch c.args.branch.now).condition (length c.args.loading.now.built.blocks) in
    on_ok c.statements.result (λ (h : Grows mid new). stands_on behind c.args.scopes.now mid new h c.in-Ok-open_block.ensures.branch) c.statements.ensures.grows

pub branch-returns-clause-ran : goal.branch-returns-clause-ran
branch-returns-clause-ran g t c told =
    let L = g.X.Texts.texts c.args.texts.now in
    let s = state_of c.args.loading.now in
    let scopes = c.args.scopes.now in
    let b = out-Branch c.args.branch.now in
    let texts = g.X.Texts.calls c.args.texts.now in
    let next : Part = spec.statements L c.args.depth c.args.room c.args.file (length s.blocks ∷ scopes) b.body in
    first_stops (spec.branch L c.args.depth c.args.room c.args.file scopes c.args.behind c.args.branch.now) (opening.opens c.args.file b.line scopes c.args.behind b.condition) next s (state_of c.open_block.new.loading)
    (kept texts (g.M.PatternMaker.calls c.args.maker.now)) (kept texts (g.M.PatternMaker.calls c.open_block.new.maker)) c.in-Err.e (λ others. refl)
    (all.statements BeginsBy beginning L c.args.depth c.args.room c.args.file (length s.blocks ∷ scopes) b.body) (c.in-Err.ensures.ran texts)

pub branches-loop-one-init : goal.branches-loop-one-init
branches-loop-one-init g t c =
    let L = g.X.Texts.texts c.args.texts.now in
    let blocks = c.args.loading.now.built.blocks in
    record {
      same = λ told. refl;
      ran = λ told. so_far_none (spec.branches L c.args.depth c.args.room c.args.file c.args.scopes.now None c.args.all.now) (state_of c.args.loading.now) (kept (g.X.Texts.calls c.args.texts.now) (g.M.PatternMaker.calls c.args.maker.now));
      grows = grows_same blocks blocks refl;
      opened = c.requires.scopes;
      behind = tt;
      faults = omega arith;
      refusals = omega arith;
    }

pub branches-loop-one-preserved : goal.branches-loop-one-preserved
branches-loop-one-preserved g t c =
    let i = c.loop-one.one-index in
    let xs = c.args.all.now in
    let L = g.X.Texts.texts c.args.texts.now in
    let scopes = c.args.scopes.now in
    let now = state_of c.loop-one.loading in
    let new = state_of c.branch-loading.new.loading in
    let earlier = kept (g.X.Texts.calls c.args.texts.now) (g.M.PatternMaker.calls c.args.maker.now) in
    let between = kept (g.X.Texts.calls c.loop-one.texts) (g.M.PatternMaker.calls c.loop-one.maker) in
    let later = kept (g.X.Texts.calls c.branch-loading.new.texts) (g.M.PatternMaker.calls c.branch-loading.new.maker) in
    let all_of : Option ℕ → List Branch → Part = spec.branches L c.args.depth c.args.room c.args.file scopes in
    let part : Part = spec.branch L c.args.depth c.args.room c.args.file scopes c.loop-one.behind c.one-item.result in
    let condition = (out-Branch c.one-item.result).condition in
    let behind : c.behind_it-behind.result ≡ opening.behind_it condition (length now.blocks) = c.behind_it-behind.ensures ∙ ap (opening.behind_it condition) c.len-block.ensures.len in
    let next : suc i ≡ i + 1 = omega arith in
    let p : drop i xs ≡ c.one-item.result ∷ drop (i + 1) xs = drop-cons xs i c.one-item.result (omega arith) ∙ ap (λ (y : Branch). y ∷ drop (suc i) xs) (sym c.one-item.is) ∙ ap (λ (n : ℕ). c.one-item.result ∷ drop n xs) next in
    record {
      same = λ told. c.in_Ok-loading.ensures.same told ∙ c.loop-one.invariant.same told;
      ran = λ told. so_far_step (all_of None xs) (all_of c.loop-one.behind (drop i xs)) (state_of c.args.loading.now) now earlier between part (all_of c.behind_it-behind.result (drop (i + 1) xs)) later new (c.loop-one.invariant.ran told)
          (λ others. ap (λ (l : List Branch). all_of c.loop-one.behind l now others) p ∙ ap (λ (o : Option ℕ). goes_on (part now others) (all_of o (drop (i + 1) xs))) (sym behind))
          (subst (λ (l : Library). Ran (spec.branch l c.args.depth c.args.room c.args.file scopes c.loop-one.behind c.one-item.result) now between later (Ok tt) new) (c.loop-one.invariant.same told) (c.in_Ok-loading.ensures.ran told));
      grows = grows_on c.args.loading.now.built.blocks c.loop-one.loading.built.blocks c.branch-loading.new.loading.built.blocks c.loop-one.invariant.grows c.in_Ok-loading.ensures.grows;
      opened = open_on scopes c.loop-one.loading.built.blocks c.branch-loading.new.loading.built.blocks c.in_Ok-loading.ensures.grows c.loop-one.invariant.opened;
      behind = subst (λ (o : Option ℕ). StandsBehind o scopes c.branch-loading.new.loading.built.blocks) (sym behind) c.in_Ok-loading.ensures.branch;
      faults = omega (arith, c.loop-one.invariant.faults, c.in_Ok-loading.ensures.faults);
      refusals = omega (arith, c.loop-one.invariant.refusals, c.in_Ok-loading.ensures.refusals);
    }

pub branches-returns-in_Err-loading-clause-ran : goal.branches-returns-in_Err-loading-clause-ran
branches-returns-in_Err-loading-clause-ran g t c told =
    let i = c.loop-one.one-index in
    let xs = c.args.all.now in
    let L = g.X.Texts.texts c.args.texts.now in
    let scopes = c.args.scopes.now in
    let now = state_of c.loop-one.loading in
    let new = state_of c.branch-loading.new.loading in
    let earlier = kept (g.X.Texts.calls c.args.texts.now) (g.M.PatternMaker.calls c.args.maker.now) in
    let between = kept (g.X.Texts.calls c.loop-one.texts) (g.M.PatternMaker.calls c.loop-one.maker) in
    let later = kept (g.X.Texts.calls c.branch-loading.new.texts) (g.M.PatternMaker.calls c.branch-loading.new.maker) in
    let all_of : Option ℕ → List Branch → Part = spec.branches L c.args.depth c.args.room c.args.file scopes in
    let part : Part = spec.branch L c.args.depth c.args.room c.args.file scopes c.loop-one.behind c.one-item.result in
    let behind = opening.behind_it (out-Branch c.one-item.result).condition (length now.blocks) in
    let p : drop i xs ≡ c.one-item.result ∷ drop (suc i) xs = drop-cons xs i c.one-item.result (omega arith) ∙ ap (λ (y : Branch). y ∷ drop (suc i) xs) (sym c.one-item.is) in
    so_far_stops (all_of None xs) (all_of c.loop-one.behind (drop i xs)) (state_of c.args.loading.now) now earlier between part (all_of behind (drop (suc i) xs)) later new (c.loop-one.invariant.ran told)
    (λ others. ap (λ (l : List Branch). all_of c.loop-one.behind l now others) p) (all.branches BeginsBy beginning L c.args.depth c.args.room c.args.file scopes behind (drop (suc i) xs)) c.in_Err-loading.e
    (subst (λ (l : Library). Ran (spec.branch l c.args.depth c.args.room c.args.file scopes c.loop-one.behind c.one-item.result) now between later (Err c.in_Err-loading.e) new) (c.loop-one.invariant.same told) (c.in_Err-loading.ensures.ran told))
