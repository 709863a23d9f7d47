-- What a parse holds, by its rows, and by the words.
use Rattle.std.proofs.Common.{◌≡◌, ◌≢◌, ℕ, Bool, true, false, cond, List, [], ◌∷◌, map, Option, Some, None, refl, sym, ap, subst, ◌∙◌, inl, inr, ◌⊎◌}
use Rattle.std.specs.Prelude.{option_map, option_and_then, find, bytes_eq, slice_get}
use Rattle.std.specs.Borrow.{Bor}
use Rattle.clap.specs.Words.{new_app, Row, Text, first_of, first_value, rows_of, App, fault_of, matches_of, Kinds, IsAmong, is_simple_and_free, is_simple}
use Rattle.clap.specs.declared.error.kind.ErrorKind.{ErrorKind}
use Rattle.clap.specs.declared.parser.matches.Found.{Found}
use Rattle.clap.specs.declared.error.kind.ErrorKind.TheVariants.{OutOfMemory}
use Rattle.clap.specs.Walk.{row_of}
use Rattle.clap.specs.Facts.{Entry}
use Rattle.clap.proofs.OnLiterals.{clap_on_literals}
use Rattle.command_words.specs.Lines.{Line, nameless, options, replay, bench, unless}

pub options_free : is_simple_and_free options ≡ true
unfolding clap_on_literals
options_free = refl

pub options_simple : is_simple options ≡ true
unfolding clap_on_literals
options_simple = refl

pub replay_free : is_simple_and_free replay ≡ true
unfolding clap_on_literals
replay_free = refl

pub replay_simple : is_simple replay ≡ true
unfolding clap_on_literals
replay_simple = refl

pub bench_free : is_simple_and_free bench ≡ true
unfolding clap_on_literals
bench_free = refl

pub bench_simple : is_simple bench ≡ true
unfolding clap_on_literals
bench_simple = refl

first_value_of : (xs : List (Bor (List ℕ))) → option_map (λ s. s.now) (slice_get xs 0) ≡ slice_get (map (λ (s : Bor (List ℕ)). s.now) xs) 0
first_value_of [] = refl
first_value_of (x ∷ xs) = refl

first_in : (id : Text) (xs : List Entry) → option_and_then (λ a. option_map (λ s. s.now) (slice_get a.vals.items 0)) (option_map (λ e. e.1) (find (λ e. bytes_eq e.0.now id) xs)) ≡ first_of id (map row_of xs)
first_in id [] = refl
first_in id (e ∷ xs) = by (bytes_eq e.0.now id) (first_in id xs)
  where
    by : (t : Bool) → option_and_then (λ a. option_map (λ s. s.now) (slice_get a.vals.items 0)) (option_map (λ e. e.1) (find (λ e. bytes_eq e.0.now id) xs)) ≡ first_of id (map row_of xs)
        → option_and_then (λ a. option_map (λ s. s.now) (slice_get a.vals.items 0)) (option_map (λ e. e.1) (cond t (Some e) (find (λ e. bytes_eq e.0.now id) xs)))
        ≡ option_and_then (λ r. slice_get r.values 0) (cond t (Some (row_of e)) (find (λ r. bytes_eq r.id id) (map row_of xs)))
    by true ih = first_value_of e.1.vals.items
    by false ih = ih

pub first_is : (f : Found) (id : Text) → first_value f id ≡ first_of id (rows_of f)
first_is f id = first_in id f.entries.items

-- a parse that succeeds, by a command that is the one of the definition
pub taken : (command app : App) (words : List Text) (rows : List Row) (line : List Row → Option Line) → app ≡ command
    → is_simple_and_free command ≡ true → is_simple command ≡ true
    → (is_simple_and_free app ≡ true → fault_of app words ≡ [])
    → (is_simple app ≡ true → rows ≡ matches_of app words)
    → unless (fault_of command words) (line (matches_of command words)) ≡ line rows
taken command app words rows line is is_free simple no_fault same =
    let fault : fault_of command words ≡ [] = ap (λ a. fault_of a words) (sym is) ∙ no_fault (ap is_simple_and_free is ∙ is_free) in
    let r : rows ≡ matches_of command words = same (ap is_simple is ∙ simple) ∙ ap (λ a. matches_of a words) is in
    ap (λ k. unless k (line (matches_of command words))) fault ∙ ap line (sym r)

none_by : (faults : Kinds) (line : Option Line) → faults ≢ [] → unless faults line ≡ None
none_by [] line some = absurd (some refl)
none_by (kind ∷ kinds) line some = refl

-- one that fails, and not for memory
pub refused : (command app : App) (words : List Text) (kind : ErrorKind) (line : Option Line) → app ≡ command → is_simple_and_free command ≡ true
    → (is_simple_and_free app ≡ true → (kind ≡ OutOfMemory) ⊎ IsAmong kind (fault_of app words)) → kind ≢ OutOfMemory → unless (fault_of command words) line ≡ None
refused command app words kind line is is_free kinds no_memory =
    none_by (fault_of command words) line (λ none.
    elim (kinds (ap is_simple_and_free is ∙ is_free)) [
      | inl m ↦ no_memory m
      | inr k ↦ let bad : IsAmong kind [] = subst (IsAmong kind) (ap (λ a. fault_of a words) is ∙ none) k in bad
    ])

-- the command without a program's name
pub nameless_is : (before after : App) (name : Text) → after ≡ record before { top = record before.top { no_binary_name = true } } → before ≡ new_app name → after ≡ nameless name
nameless_is before after name made app = made ∙ ap (λ (a : App). let named : App = record a { top = record a.top { no_binary_name = true } } in named) app
