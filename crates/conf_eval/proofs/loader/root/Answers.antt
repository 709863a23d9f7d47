use Rattle.std.proofs.Common.{◌≡◌, ◌∙◌, ℕ, List, [], ◌∷◌, Ok, Err, ap, sym, subst, refl}
use Rattle.lt_world.specs.declared.texts.Fetch.{Fetch}
use Rattle.lt_world.specs.declared.texts.FetchKind.TheVariants as call
use Rattle.lt_world.specs.declared.texts.Fetched.TheVariants as fetched
use Rattle.lt_world.specs.TextAnswers.{Library}
use Rattle.conf_eval.specs.declared.fault.LoadError.{LoadError}
use Rattle.conf_eval.specs.declared.fault.LoadError.TheVariants as e
use Rattle.conf_eval.specs.Answers.{Ran, kept}
use Rattle.conf_eval.specs.Calls.{no_calls}
use Rattle.conf_eval.specs.Kept.{state_of}
use Rattle.conf_eval.specs.Parts.{Stopped}
use Rattle.conf_eval.specs.Settings.{State}
use Rattle.conf_eval.specs.Load as spec
use Rattle.conf_eval.proofs.FirstCall.{first_text}
use Rattle.conf_eval.proofs.Loads.{lacks_memory, fetch_stops, fetch_text, gives_text, gives_missing, gives_long}
use Rattle.conf_eval.proofs.loader.root.Goals as goal

pub returns-in-Missing-clause-ran : goal.returns-in-Missing-clause-ran
returns-in-Missing-clause-ran g c told =
    let L = g.X.Texts.texts c.args.texts.now in
    let s = state_of c.args.loading.now in
    fetch_stops (spec.roots L) (L c.args.name.now) c.args.name.now s s (g.X.Texts.calls c.args.texts.now) (g.X.Texts.calls c.fetch.new.self) (g.M.PatternMaker.calls c.args.maker.now)
    call.Missing fetched.Missing e.RootMissing (c.in-Missing.ensures.calls told) (gives_missing (L c.args.name.now) s.room (c.in-Missing.ensures.right told)) refl

pub returns-in-Failed-clause-ran : goal.returns-in-Failed-clause-ran
returns-in-Failed-clause-ran g c told =
    let L = g.X.Texts.texts c.args.texts.now in
    let s = state_of c.args.loading.now in
    fetch_stops (spec.roots L) (L c.args.name.now) c.args.name.now s s (g.X.Texts.calls c.args.texts.now) (g.X.Texts.calls c.fetch.new.self) (g.M.PatternMaker.calls c.args.maker.now)
    call.Failed fetched.Failed e.RootFailed (c.in-Failed.ensures.calls told) refl refl

-- the room before the first text
abbrev room : (s : State) → s ≡ spec.start → s.room ≡ 1048576
room s p = ap (λ (x : State). x.room) p

pub returns-in-Long-clause-ran : goal.returns-in-Long-clause-ran
returns-in-Long-clause-ran g c told =
    let right = c.in-Long.ensures.right told in
    let L = g.X.Texts.texts c.args.texts.now in
    let s = state_of c.args.loading.now in
    fetch_stops (spec.roots L) (L c.args.name.now) c.args.name.now s s (g.X.Texts.calls c.args.texts.now) (g.X.Texts.calls c.fetch.new.self) (g.M.PatternMaker.calls c.args.maker.now)
    call.Long fetched.Long c.fault.result (c.in-Long.ensures.calls told) (gives_long (L c.args.name.now) right.0 s.room right.1 (rw (room s c.requires) right.2)) (ap (λ (x : LoadError). Stopped x no_calls) (sym c.fault.ensures))

pub returns-in-NoMemory-clause-ran : goal.returns-in-NoMemory-clause-ran
returns-in-NoMemory-clause-ran g c told =
    let L = g.X.Texts.texts c.args.texts.now in
    let s = state_of c.args.loading.now in
    let makes = g.M.PatternMaker.calls c.args.maker.now in
    subst (λ (l : List Fetch). Ran (spec.root L c.args.name.now) s (kept (g.X.Texts.calls c.args.texts.now) makes) (kept l makes) (Err e.NoMemory) s) (sym (c.in-NoMemory.ensures.calls told))
    (lacks_memory (spec.root L c.args.name.now) s s (kept (g.X.Texts.calls c.args.texts.now) makes) tt)

pub returns-in-Text-clause-ran : goal.returns-in-Text-clause-ran
returns-in-Text-clause-ran g c told =
    let right = c.in-Text.ensures.right told in
    let L = g.X.Texts.texts c.args.texts.now in
    let s = state_of c.args.loading.now in
    let new = state_of c.text.new.loading in
    let name = c.args.name.now in
    let makes = g.M.PatternMaker.calls c.args.maker.now in
    let between = g.X.Texts.calls c.fetch.new.self in
    let later = kept (g.X.Texts.calls c.text.new.texts) (g.M.PatternMaker.calls c.text.new.maker) in
    let found = c.in-Text.found in
    fetch_text (spec.roots L) (L name) name s (spec.text L 16 (0 ∷ []) found) s new (g.X.Texts.calls c.args.texts.now) between makes later found c.text.result (c.in-Text.ensures.calls told)
    (gives_text (L name) found s.room right.0 (rw (room s c.requires) right.1)) (λ others. refl)
    (subst (λ (l : Library). Ran (spec.text l 16 (0 ∷ []) found) s (kept between makes) later c.text.result new) (c.in-Text.ensures.texts told)
    (subst (λ (b : List ℕ). Ran (spec.text (g.X.Texts.texts c.fetch.new.self) 16 (0 ∷ []) b) s (kept between makes) later c.text.result new) c.bytes.ensures.value (c.text.ensures.ran told)))

pub returns-in-Text-clause-first : goal.returns-in-Text-clause-first
returns-in-Text-clause-first g c told =
    first_text c.args.name.now (g.X.Texts.calls c.args.texts.now) (g.X.Texts.calls c.fetch.new.self) (g.X.Texts.calls c.text.new.texts) (c.in-Text.ensures.calls told)
    (g.X.Texts.texts c.fetch.new.self) 16 (0 ∷ []) c.bytes.result.now (state_of c.args.loading.now) (state_of c.text.new.loading) (g.M.PatternMaker.calls c.args.maker.now) (g.M.PatternMaker.calls c.text.new.maker) c.text.result (c.text.ensures.ran told)
