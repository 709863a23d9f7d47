-- Lines of a text, and what they come to.
use Rattle.std.proofs.Common.{◌≡◌, ℕ, ◌+◌, ◌<◌, ◌≤◌, Bool, true, false, List, [], ◌∷◌, length, refl, ap, sym, ◌∙◌, arith, append_assoc, Option, Some, None, option_map, Result, Ok, Err, if◌then◌else◌, ◌==◌}
use Rattle.lt_script.specs.declared.lines.Line.{Line}
use Rattle.lt_script.specs.declared.lines.Line.TheVariants.{Skip, File, Fault, Step}
use Rattle.lt_script.specs.declared.script.Script.{Script}
use Rattle.lt_script.specs.declared.script.ScriptError.{ScriptError}
use Rattle.lt_script.specs.declared.script.ScriptError.TheVariants as error
use Rattle.lt_script.specs.Lines.{line_of}
use Rattle.lt_script.specs.declared.limits.TheConstants.{SCRIPT_LIMIT}
use Rattle.lt_script.specs.Texts.{in_front, lines_of}
use Rattle.lt_script.specs.Scripts.{cut, with_first, with_line, script_from, script_in, is_head, script_of, joined, added, GivesRest, GivesScript}

abbrev from_cut : List ℕ → Option (List ℕ × List ℕ) → List (List ℕ) × List ℕ
from_cut bytes None = ([], bytes)
from_cut bytes (Some x) = (x.0 ∷ (lines_of x.1).0, (lines_of x.1).1)

in_front_from : (b : ℕ) (bytes : List ℕ) (o : Option (List ℕ × List ℕ)) → in_front b (from_cut bytes o) ≡ from_cut (b ∷ bytes) (option_map (λ x. (b ∷ x.0, x.1)) o)
in_front_from b bytes None = refl
in_front_from b bytes (Some x) = refl

picked : (t : Bool) (b : ℕ) (bytes : List ℕ) → lines_of bytes ≡ from_cut bytes (cut bytes)
    → (if t then ([] ∷ (lines_of bytes).0, (lines_of bytes).1) else in_front b (lines_of bytes)) ≡ from_cut (b ∷ bytes) (if t then Some ([], bytes) else option_map (λ x. (b ∷ x.0, x.1)) (cut bytes))
picked true b bytes before = refl
picked false b bytes before = ap (in_front b) before ∙ in_front_from b bytes (cut bytes)

lines_by_cut : (bytes : List ℕ) → lines_of bytes ≡ from_cut bytes (cut bytes)
lines_by_cut [] = refl
lines_by_cut (b ∷ bytes) = picked (b == 10) b bytes (lines_by_cut bytes)

pub lines_cut : (bytes line next : List ℕ) → cut bytes ≡ Some (line, next) → lines_of bytes ≡ (line ∷ (lines_of next).0, (lines_of next).1)
lines_cut bytes line next found = lines_by_cut bytes ∙ ap (from_cut bytes) found

pub lines_uncut : (bytes : List ℕ) → cut bytes ≡ None → lines_of bytes ≡ ([], bytes)
lines_uncut bytes found = lines_by_cut bytes ∙ ap (from_cut bytes) found

joined_first : (front : Script) (line : Line) (rest : Result Script ℕ) → joined front (with_first line rest) ≡ joined (added front line) rest
joined_first front Skip (Ok script) = refl
joined_first front (File file) (Ok script) = rw (append_assoc front.files (file ∷ []) script.files) refl
joined_first front (Fault fault) (Ok script) = rw (append_assoc front.faults (fault ∷ []) script.faults) refl
joined_first front (Step step) (Ok script) = rw (append_assoc front.steps (step ∷ []) script.steps) refl
joined_first front Skip (Err number) = refl
joined_first front (File file) (Err number) = refl
joined_first front (Fault fault) (Err number) = refl
joined_first front (Step step) (Err number) = refl

pub went_bad : (front : Script) (number : ℕ) (rest line next : List ℕ) (whole : Result Script ℕ)
    → joined front (script_from number (lines_of rest).0 (lines_of rest).1) ≡ whole → cut rest ≡ Some (line, next) → line_of line ≡ None → whole ≡ Err number
went_bad front number rest line next whole so_far found bad =
    sym so_far ∙ ap (λ (x : List (List ℕ) × List ℕ). joined front (script_from number x.0 x.1)) (lines_cut rest line next found)
    ∙ ap (λ l. joined front (with_line l number (script_from (number + 1) (lines_of next).0 (lines_of next).1))) bad

pub went_on : (front : Script) (number : ℕ) (rest line next : List ℕ) (item : Line) (whole : Result Script ℕ)
    → joined front (script_from number (lines_of rest).0 (lines_of rest).1) ≡ whole → cut rest ≡ Some (line, next) → line_of line ≡ Some item
    → joined (added front item) (script_from (number + 1) (lines_of next).0 (lines_of next).1) ≡ whole
went_on front number rest line next item whole so_far found good =
    sym (joined_first front item (script_from (number + 1) (lines_of next).0 (lines_of next).1))
    ∙ sym (ap (λ l. joined front (with_line l number (script_from (number + 1) (lines_of next).0 (lines_of next).1))) good)
    ∙ sym (ap (λ (x : List (List ℕ) × List ℕ). joined front (script_from number x.0 x.1)) (lines_cut rest line next found))
    ∙ so_far

last_bad : (front : Script) (number : ℕ) (last : List ℕ) → 0 < length last → joined front (script_from number [] last) ≡ Err number
last_bad front number [] some = absurd (omega arith)
last_bad front number (b ∷ last) some = refl

pub ended_bad : (front : Script) (number : ℕ) (rest : List ℕ) (whole : Result Script ℕ)
    → joined front (script_from number (lines_of rest).0 (lines_of rest).1) ≡ whole → cut rest ≡ None → 0 < length rest → whole ≡ Err number
ended_bad front number rest whole so_far found some =
    sym so_far ∙ ap (λ (x : List (List ℕ) × List ℕ). joined front (script_from number x.0 x.1)) (lines_uncut rest found) ∙ last_bad front number rest some

pub script_uncut : (bytes : List ℕ) → cut bytes ≡ None → script_of bytes ≡ Err 1
unfolding script_of
script_uncut bytes found = ap (λ (x : List (List ℕ) × List ℕ). script_in x.0 x.1) (lines_uncut bytes found)

script_cut : (bytes line next : List ℕ) → cut bytes ≡ Some (line, next) → script_of bytes ≡ (if is_head line then script_from 2 (lines_of next).0 (lines_of next).1 else Err 1)
unfolding script_of
script_cut bytes line next found = ap (λ (x : List (List ℕ) × List ℕ). script_in x.0 x.1) (lines_cut bytes line next found)

pub script_headless : (bytes line next : List ℕ) → cut bytes ≡ Some (line, next) → is_head line ≡ false → script_of bytes ≡ Err 1
script_headless bytes line next found other = script_cut bytes line next found ∙ ap (λ t. if t then script_from 2 (lines_of next).0 (lines_of next).1 else Err 1) other

pub script_headed : (bytes line next : List ℕ) → cut bytes ≡ Some (line, next) → is_head line ≡ true → script_of bytes ≡ script_from 2 (lines_of next).0 (lines_of next).1
script_headed bytes line next found head = script_cut bytes line next found ∙ ap (λ t. if t then script_from 2 (lines_of next).0 (lines_of next).1 else Err 1) head

-- the answer for the lines after the first is that for the whole text
pub given : (result : Result Script ScriptError) (bytes line next : List ℕ) → length bytes ≤ SCRIPT_LIMIT → cut bytes ≡ Some (line, next) → is_head line ≡ true
    → GivesRest result next → GivesScript result bytes
given (Ok script) bytes line next short found head gives = (short, script_headed bytes line next found head ∙ gives)
given (Err error.NoMemory) bytes line next short found head gives = short
given (Err error.TooLong) bytes line next short found head gives = absurd gives
given (Err (error.Line number)) bytes line next short found head gives = (short, script_headed bytes line next found head ∙ gives)
