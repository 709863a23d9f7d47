-- The text of a script: what is spelled so is read, and what is read is spelled so.
use Rattle.std.proofs.Common.{◌≡◌, subst, IfOk, IfErr, ℕ, ◌+◌, ◌≤◌, Bool, true, false, List, [], ◌∷◌, length, refl, ap, sym, ◌∙◌, arith, Option, Some, None, Result, Ok, Err, if◌then◌else◌, codes, inl, inr}
use Rattle.lt_script.specs.declared.script.Script.{Script}
use Rattle.lt_script.specs.declared.lines.Line.{Line}
use Rattle.lt_script.specs.declared.script.ScriptError.{ScriptError}
use Rattle.lt_script.specs.declared.script.ScriptError.TheVariants as error
use Rattle.lt_script.specs.Fields.{after}
use Rattle.lt_script.specs.Lines.{line_of}
use Rattle.lt_script.specs.declared.limits.TheConstants.{SCRIPT_LIMIT}
use Rattle.lt_script.specs.Scripts.{with_first, with_line, script_from, script_in, is_nothing, is_head, script_of, GivesScript}
use Rattle.lt_script.specs.Laws.{OneScript}
use Rattle.lt_script.specs.Texts.{lines_of, first, AreLines, gathered, Spells, IsBadAt, IsBadFrom, IsBadLine, OnLineError, IsRead, IsRefusedAt}
use Rattle.lt_script.proofs.Again.{line_again}
use Rattle.lt_script.proofs.Fronts.{after_takes}
use Rattle.lt_script.proofs.Taken.{line_takes}

lines_again : (number : ℕ) (lines : List (List ℕ)) (items : List Line) → AreLines lines items → script_from number lines [] ≡ Ok (gathered items)
lines_again number [] [] each = refl
lines_again number [] (item ∷ items) each = absurd each
lines_again number (line ∷ lines) [] each = absurd each
lines_again number (line ∷ lines) (item ∷ items) each =
    ap (λ l. with_line l number (script_from (number + 1) lines [])) (line_again item line each.0)
    ∙ ap (with_first item) (lines_again (number + 1) lines items each.1)

record Took (lines : List (List ℕ)) (last : List ℕ) (script : Script) : Type 0 where
  items : List Line
  each : AreLines lines items
  gives : script ≡ gathered items
  ends : last ≡ []

take_by : (o : Option Line) (number : ℕ) (line : List ℕ) (lines : List (List ℕ)) (last : List ℕ) (rest : Result Script ℕ) (script : Script) → line_of line ≡ o
    → with_line o number rest ≡ Ok script → ((found : Script) → rest ≡ Ok found → Took lines last found) → Took (line ∷ lines) last script
take_by None number line lines last rest script is some go = absurd (cc some)
take_by (Some item) number line lines last (Err bad) script is some go = absurd (cc some)
take_by (Some item) number line lines last (Ok found) script is some go =
    let took : Took lines last found = go found refl in
    let same : first item found ≡ script = cc some in
    record { items = item ∷ took.items; each = (line_takes line item is, took.each); gives = sym same ∙ ap (first item) took.gives; ends = took.ends }

lines_take : (number : ℕ) (lines : List (List ℕ)) (last : List ℕ) (script : Script) → script_from number lines last ≡ Ok script → Took lines last script
lines_take number [] [] script some = record { items = []; each = tt; gives = cc some; ends = refl }
lines_take number [] (b ∷ last) script some = absurd (cc some)
lines_take number (line ∷ lines) last script some =
    take_by (line_of line) number line lines last (script_from (number + 1) lines last) script refl some (λ found h. lines_take (number + 1) lines last found h)

bad_by : (o : Option Line) (number bad : ℕ) (line : List ℕ) (lines : List (List ℕ)) (last : List ℕ) (rest : Result Script ℕ) → line_of line ≡ o
    → with_line o number rest ≡ Err bad → (rest ≡ Err bad → IsBadAt (number + 1) lines last bad) → IsBadAt number (line ∷ lines) last bad
bad_by None number bad line lines last rest is some go =
    let same : number ≡ bad = cc some in
    inl (sym same, λ item said. let here = line_again item line said in absurd (cc (here, is)))
bad_by (Some item) number bad line lines last (Ok found) is some go = absurd (cc some)
bad_by (Some item) number bad line lines last (Err other) is some go = inr ((item, line_takes line item is), go some)

lines_bad : (number bad : ℕ) (lines : List (List ℕ)) (last : List ℕ) → script_from number lines last ≡ Err bad → IsBadAt number lines last bad
lines_bad number bad [] [] some = absurd (cc some)
lines_bad number bad [] (b ∷ last) some = (cc some, omega arith)
lines_bad number bad (line ∷ lines) last some =
    bad_by (line_of line) number bad line lines last (script_from (number + 1) lines last) refl some (λ h. lines_bad (number + 1) bad lines last h)

-- the first line

head_by : (o : Option (List ℕ)) (line : List ℕ) → after (codes "lighttpd-script 1") line ≡ o → is_nothing o ≡ true → line ≡ codes "lighttpd-script 1"
head_by None line has is = absurd (cc is)
head_by (Some []) line has is = after_takes (codes "lighttpd-script 1") line [] has
head_by (Some (b ∷ rest)) line has is = absurd (cc is)

head_is : (line : List ℕ) → is_head line ≡ true → line ≡ codes "lighttpd-script 1"
head_is line is = head_by (after (codes "lighttpd-script 1") line) line refl is

in_ok : (t : Bool) (head : List ℕ) (lines : List (List ℕ)) (last : List ℕ) (script : Script) → is_head head ≡ t → (if t then script_from 2 lines last else Err 1) ≡ Ok script
    → (head ≡ codes "lighttpd-script 1") × Took lines last script
in_ok true head lines last script is some = (head_is head is, lines_take 2 lines last script some)
in_ok false head lines last script is some = absurd (cc some)

found_by : (all : List (List ℕ)) (last bytes : List ℕ) (script : Script) → lines_of bytes ≡ (all, last) → script_in all last ≡ Ok script → Spells bytes script
found_by [] last bytes script cut some = absurd (cc some)
found_by (head ∷ lines) last bytes script cut some =
    let in_it = in_ok (is_head head) head lines last script refl some in
    record { lines = lines; items = in_it.1.items; cut = cut ∙ ap (λ h. (h ∷ lines, last)) in_it.0 ∙ ap (λ l. (codes "lighttpd-script 1" ∷ lines, l)) in_it.1.ends; each = in_it.1.each; gives = in_it.1.gives }

pub script_takes : (bytes : List ℕ) (script : Script) → script_of bytes ≡ Ok script → Spells bytes script
unfolding script_of
script_takes bytes script some = found_by (lines_of bytes).0 (lines_of bytes).1 bytes script refl some

abbrev ok_of : Script → Result Script ℕ
ok_of script = Ok script

pub script_again : (bytes : List ℕ) (script : Script) → Spells bytes script → script_of bytes ≡ Ok script
unfolding script_of
script_again bytes script spells =
    ap (λ (x : List (List ℕ) × List ℕ). script_in x.0 x.1) spells.cut ∙ lines_again 2 spells.lines spells.items spells.each ∙ ap ok_of (sym spells.gives)

in_bad : (t : Bool) (head : List ℕ) (lines : List (List ℕ)) (last : List ℕ) (bad : ℕ) → is_head head ≡ t → (if t then script_from 2 lines last else Err 1) ≡ Err bad
    → IsBadFrom (head ∷ lines) last bad
in_bad true head lines last bad is some = inr (head_is head is, lines_bad 2 bad lines last some)
in_bad false head lines last bad is some =
    let same : 1 ≡ bad = cc some in
    inl (sym same, λ h. let e : is_head head ≡ true = ap is_head h in absurd (cc (e, is)))

bad_from : (all : List (List ℕ)) (last : List ℕ) (bad : ℕ) → script_in all last ≡ Err bad → IsBadFrom all last bad
bad_from [] last bad some = cc some
bad_from (head ∷ lines) last bad some = in_bad (is_head head) head lines last bad refl some

pub script_bad : (bytes : List ℕ) (bad : ℕ) → script_of bytes ≡ Err bad → IsBadLine bytes bad
unfolding script_of
script_bad bytes bad some = bad_from (lines_of bytes).0 (lines_of bytes).1 bad some

-- one line alone is the first outside the grammar

one_at : (number a b : ℕ) (lines : List (List ℕ)) (last : List ℕ) → IsBadAt number lines last a → IsBadAt number lines last b → a ≡ b
one_at number a b [] last x y = x.0 ∙ sym y.0
one_at number a b (line ∷ lines) last (inl x) (inl y) = x.0 ∙ sym y.0
one_at number a b (line ∷ lines) last (inl x) (inr y) = absurd (x.1 y.0.0 y.0.1)
one_at number a b (line ∷ lines) last (inr x) (inl y) = absurd (y.1 x.0.0 x.0.1)
one_at number a b (line ∷ lines) last (inr x) (inr y) = one_at (number + 1) a b lines last x.1 y.1

one_from : (a b : ℕ) (all : List (List ℕ)) (last : List ℕ) → IsBadFrom all last a → IsBadFrom all last b → a ≡ b
one_from a b [] last x y = x ∙ sym y
one_from a b (head ∷ lines) last (inl x) (inl y) = x.0 ∙ sym y.0
one_from a b (head ∷ lines) last (inl x) (inr y) = absurd (x.1 y.0)
one_from a b (head ∷ lines) last (inr x) (inl y) = absurd (y.1 x.0)
one_from a b (head ∷ lines) last (inr x) (inr y) = one_at 2 a b lines last x.1 y.1

pub one_bad_line : (bytes : List ℕ) (a b : ℕ) → IsBadLine bytes a → IsBadLine bytes b → a ≡ b
one_bad_line bytes a b x y = one_from a b (lines_of bytes).0 (lines_of bytes).1 x y

-- a text that spells a script has no such line

none_at : (number bad : ℕ) (lines : List (List ℕ)) (items : List Line) → AreLines lines items → IsBadAt number lines [] bad → ⊥
none_at number bad [] [] each x = absurd (omega (arith, x.1))
none_at number bad [] (item ∷ items) each x = absurd each
none_at number bad (line ∷ lines) [] each x = absurd each
none_at number bad (line ∷ lines) (item ∷ items) each (inl x) = x.1 item each.0
none_at number bad (line ∷ lines) (item ∷ items) each (inr x) = none_at (number + 1) bad lines items each.1 x.1

none_from : (bad : ℕ) (lines : List (List ℕ)) (items : List Line) → AreLines lines items → IsBadFrom (codes "lighttpd-script 1" ∷ lines) [] bad → ⊥
none_from bad lines items each (inl x) = x.1 refl
none_from bad lines items each (inr x) = none_at 2 bad lines items each x.1

no_bad_line : (bytes : List ℕ) (script : Script) (bad : ℕ) → Spells bytes script → IsBadLine bytes bad → ⊥
no_bad_line bytes script bad spells is =
    none_from bad spells.lines spells.items spells.each (subst (λ (x : List (List ℕ) × List ℕ). IsBadFrom x.0 x.1 bad) spells.cut is)

-- what the text that is read means for each answer

pub is_spelled : (result : Result Script ScriptError) (bytes : List ℕ) → GivesScript result bytes → IfOk result (λ script. Spells bytes script)
is_spelled (Ok script) bytes gives = script_takes bytes script gives.1
is_spelled (Err e) bytes gives = tt

pub is_read : (result : Result Script ScriptError) (bytes : List ℕ) (script : Script) → GivesScript result bytes → length bytes ≤ SCRIPT_LIMIT → Spells bytes script → IsRead result script
is_read (Ok read) bytes script gives short spells = let again = script_again bytes script spells in let here = gives.1 in cc (again, here)
is_read (Err error.NoMemory) bytes script gives short spells = tt
is_read (Err error.TooLong) bytes script gives short spells = absurd (omega arith)
is_read (Err (error.Line number)) bytes script gives short spells = absurd (no_bad_line bytes script number spells (script_bad bytes number gives.1))

pub is_first : (result : Result Script ScriptError) (bytes : List ℕ) → GivesScript result bytes → IfErr result (λ e. OnLineError e (IsBadLine bytes))
is_first (Ok script) bytes gives = tt
is_first (Err error.NoMemory) bytes gives = tt
is_first (Err error.TooLong) bytes gives = tt
is_first (Err (error.Line number)) bytes gives = script_bad bytes number gives.1

pub is_refused : (result : Result Script ScriptError) (bytes : List ℕ) (bad : ℕ) → GivesScript result bytes → length bytes ≤ SCRIPT_LIMIT → IsBadLine bytes bad → IsRefusedAt result bad
is_refused (Ok read) bytes bad gives short is = no_bad_line bytes read bad (script_takes bytes read gives.1) is
is_refused (Err error.NoMemory) bytes bad gives short is = tt
is_refused (Err error.TooLong) bytes bad gives short is = absurd (omega arith)
is_refused (Err (error.Line number)) bytes bad gives short is = one_bad_line bytes number bad (script_bad bytes number gives.1) is

-- a text spells one script
pub one_script : OneScript
one_script bytes a b spells_a spells_b = let first = script_again bytes a spells_a in let second = script_again bytes b spells_b in cc (first, second)
