-- What is printed of a script that a text spells is a text that spells it, and no longer.
use Rattle.std.proofs.Common.{◌≡◌, ℕ, ◌+◌, ◌^◌, ◌<◌, ◌≤◌, true, false, List, [], ◌∷◌, ◌++◌, length, map, ◌==◌, refl, ap, sym, subst, ◌∙◌, arith, le_refl, length-append, codes, flat_map}
use Rattle.std.specs.Fmt.{decimal}
use Rattle.std.specs.Str.Parse.{AllDigits}
use Rattle.std.proofs.lemmas.Bool.Decides.{nat_tests}
use Rattle.std.proofs.lemmas.Fmt.{decimal_is_IsNumeral}
use Rattle.std.proofs.lemmas.Grind.{flat_map-append}
use Rattle.std.proofs.lemmas.List.Folds.{flat_map-map}
use Rattle.lt_bytes.specs.Quoting.{quoted}
use Rattle.lt_script.specs.declared.script.Script.{Script}
use Rattle.lt_script.specs.declared.script.ScriptFile.{ScriptFile}
use Rattle.lt_script.specs.declared.script.ScriptFile.TheVariants as file
use Rattle.lt_script.specs.declared.script.ScriptFault.{ScriptFault}
use Rattle.lt_script.specs.declared.script.Step.{Step as StepOf}
use Rattle.lt_script.specs.declared.script.Step.TheVariants as step
use Rattle.lt_script.specs.declared.script.Name.{Name}
use Rattle.lt_script.specs.declared.lines.Line.{Line}
use Rattle.lt_script.specs.declared.lines.Line.TheVariants.{Skip, File, Fault, Step}
use Rattle.lt_script.specs.Grammar.{name_text, IsLine, IsData, IsFile, IsFill, IsDir}
use Rattle.lt_script.specs.Texts.{lines_of, AreLines, first, gathered, Spells}
use Rattle.lt_script.specs.Printing.{file_text, fault_text, step_text, with_feed, printed_files, printed_faults, printed_steps, printed}
use Rattle.lt_script.specs.Laws.{PrintedIsRead}
use Rattle.lt_script.proofs.Feeds.{feedless, both_feedless, AreFeedless, all_feedless, lines_feedless, size_of, size_append, text_size, lines_again}
use Rattle.lt_script.proofs.Requoted.{requoted}

digits_feedless : (digits : List ℕ) → AllDigits 10 digits → feedless digits ≡ true
digits_feedless [] each = refl
digits_feedless (b ∷ digits) each =
    let other : (b == 10) ≡ false = grind (arith, nat_tests, each.0) in
    rw other (digits_feedless digits each.1)

number_feedless : (n : ℕ) → n < 2 ^ 64 → feedless (decimal n) ≡ true
number_feedless n small = digits_feedless (decimal n) (decimal_is_IsNumeral n small).0.1

-- the printed line of what a line says
record Prints (said : Line) (line text : List ℕ) : Type 0 where
  is : IsLine said text
  clean : feedless text ≡ true
  short : length text ≤ length line

-- a line that is printed as it was written
as_written : (said : Line) (line text : List ℕ) → IsLine said line → feedless line ≡ true → line ≡ text → Prints said line text
as_written said line text is clean same =
    subst (λ (t : List ℕ). Prints said line t) same (record { is = is; clean = clean; short = le_refl (length line) })

print_data : (link : Name) (text line : List ℕ) → IsData link text line → Prints (Step (step.Bytes link text)) line (step_text (step.Bytes link text))
print_data link text line is =
    let q = requoted text is.quoted is.is_quoted in
    record {
      is = record { quoted = quoted text; is_name = is.is_name; is_quoted = q.is_quoted; spelled = refl };
      clean = both_feedless (name_text link) _ (number_feedless link.number (omega (arith, is.is_name.most))) (both_feedless (quoted text) (codes "\"") q.clean refl);
      short = rw is.spelled (grind (arith, length-append, q.short));
    }

print_file : (path : List ℕ) (time : ℕ) (text line : List ℕ) → IsFile path time text line → Prints (File (file.Bytes path time text)) line (file_text (file.Bytes path time text))
print_file path time text line is =
    let p = requoted path is.named is.is_named in
    let q = requoted text is.quoted is.is_quoted in
    record {
      is = record { named = quoted path; quoted = quoted text; rooted = is.rooted; is_named = p.is_quoted; dated = is.dated; is_quoted = q.is_quoted; spelled = refl };
      clean = both_feedless (quoted path) _ p.clean (both_feedless (decimal time) _ (number_feedless time (omega (arith, is.dated))) (both_feedless (quoted text) (codes "\"") q.clean refl));
      short = rw is.spelled (grind (arith, length-append, p.short, q.short));
    }

print_fill : (path : List ℕ) (time size : ℕ) (line : List ℕ) → IsFill path time size line → Prints (File (file.Fill path time size)) line (file_text (file.Fill path time size))
print_fill path time size line is =
    let p = requoted path is.named is.is_named in
    record {
      is = record { named = quoted path; rooted = is.rooted; is_named = p.is_quoted; dated = is.dated; sized = is.sized; spelled = refl };
      clean = both_feedless (quoted path) _ p.clean (both_feedless (decimal time) _ (number_feedless time (omega (arith, is.dated))) (number_feedless size (omega (arith, is.sized))));
      short = rw is.spelled (grind (arith, length-append, p.short));
    }

print_dir : (path line : List ℕ) → IsDir path line → Prints (File (file.Dir path)) line (file_text (file.Dir path))
print_dir path line is =
    let p = requoted path is.named is.is_named in
    record {
      is = record { named = quoted path; rooted = is.rooted; is_named = p.is_quoted; spelled = refl };
      clean = both_feedless (quoted path) (codes "\"") p.clean refl;
      short = rw is.spelled (grind (arith, length-append, p.short));
    }

prints_file : (f : ScriptFile) (line : List ℕ) → IsLine (File f) line → Prints (File f) line (file_text f)
prints_file (file.Bytes path time text) line is = print_file path time text line is
prints_file (file.Fill path time size) line is = print_fill path time size line is
prints_file (file.Dir path) line is = print_dir path line is

prints_step : (s : StepOf) (line : List ℕ) → IsLine (Step s) line → feedless line ≡ true → Prints (Step s) line (step_text s)
prints_step (step.Accept peer local) line is clean = as_written (Step (step.Accept peer local)) line _ is clean is.spelled
prints_step (step.Bytes link text) line is clean = print_data link text line is
prints_step (step.Pour link size) line is clean = as_written (Step (step.Pour link size)) line _ is clean is.spelled
prints_step (step.End link) line is clean = as_written (Step (step.End link)) line _ is clean is.spelled
prints_step (step.Ready link count) line is clean = as_written (Step (step.Ready link count)) line _ is clean is.spelled
prints_step (step.ReadFail link) line is clean = as_written (Step (step.ReadFail link)) line _ is clean is.spelled
prints_step (step.Take link size count) line is clean = as_written (Step (step.Take link size count)) line _ is clean is.spelled
prints_step (step.WriteFail link) line is clean = as_written (Step (step.WriteFail link)) line _ is clean is.spelled
prints_step step.Idle line is clean = as_written (Step step.Idle) line _ is clean is

-- the printed lines of a script, and the lines that it was read from

abbrev file_lines : List ScriptFile → List (List ℕ)
file_lines files = map file_text files

abbrev fault_lines : List ScriptFault → List (List ℕ)
fault_lines faults = map fault_text faults

abbrev step_lines : List StepOf → List (List ℕ)
step_lines steps = map step_text steps

abbrev file_items : List ScriptFile → List Line
file_items files = map (λ f. File f) files

abbrev fault_items : List ScriptFault → List Line
fault_items faults = map (λ f. Fault f) faults

abbrev step_items : List StepOf → List Line
step_items steps = map (λ s. Step s) steps

record PrintsAll (script : Script) (lines : List (List ℕ)) : Type 0 where
  files : AreLines (file_lines script.files) (file_items script.files)
  faults : AreLines (fault_lines script.faults) (fault_items script.faults)
  steps : AreLines (step_lines script.steps) (step_items script.steps)
  clean_files : AreFeedless (file_lines script.files)
  clean_faults : AreFeedless (fault_lines script.faults)
  clean_steps : AreFeedless (step_lines script.steps)
  short : size_of (file_lines script.files) + (size_of (fault_lines script.faults) + size_of (step_lines script.steps)) ≤ size_of lines

prints_all : (lines : List (List ℕ)) (items : List Line) → AreLines lines items → AreFeedless lines → PrintsAll (gathered items) lines
prints_all [] [] each clean = record { files = tt; faults = tt; steps = tt; clean_files = tt; clean_faults = tt; clean_steps = tt; short = le_refl 0 }
prints_all [] (item ∷ items) each clean = absurd each
prints_all (line ∷ lines) [] each clean = absurd each
prints_all (line ∷ lines) (Skip ∷ items) each clean =
    let rest = prints_all lines items each.1 clean.1 in
    record { files = rest.files; faults = rest.faults; steps = rest.steps; clean_files = rest.clean_files; clean_faults = rest.clean_faults; clean_steps = rest.clean_steps; short = omega (arith, rest.short) }
prints_all (line ∷ lines) (File f ∷ items) each clean =
    let rest = prints_all lines items each.1 clean.1 in
    let here = prints_file f line each.0 in
    record { files = (here.is, rest.files); faults = rest.faults; steps = rest.steps; clean_files = (here.clean, rest.clean_files); clean_faults = rest.clean_faults; clean_steps = rest.clean_steps; short = omega (arith, rest.short, here.short) }
prints_all (line ∷ lines) (Fault f ∷ items) each clean =
    let rest = prints_all lines items each.1 clean.1 in
    let here = as_written (Fault f) line _ each.0 clean.0 each.0.spelled in
    record { files = rest.files; faults = (here.is, rest.faults); steps = rest.steps; clean_files = rest.clean_files; clean_faults = (here.clean, rest.clean_faults); clean_steps = rest.clean_steps; short = omega (arith, rest.short, here.short) }
prints_all (line ∷ lines) (Step s ∷ items) each clean =
    let rest = prints_all lines items each.1 clean.1 in
    let here = prints_step s line each.0 clean.0 in
    record { files = rest.files; faults = rest.faults; steps = (here.is, rest.steps); clean_files = rest.clean_files; clean_faults = rest.clean_faults; clean_steps = (here.clean, rest.clean_steps); short = omega (arith, rest.short, here.short) }

are_both : (lines more : List (List ℕ)) (items others : List Line) → AreLines lines items → AreLines more others → AreLines (lines ++ more) (items ++ others)
are_both [] more [] others one two = two
are_both [] more (item ∷ items) others one two = absurd one
are_both (line ∷ lines) more [] others one two = absurd one
are_both (line ∷ lines) more (item ∷ items) others one two = (one.0, are_both lines more items others one.1 two)

gathered_steps : (steps : List StepOf) → gathered (step_items steps) ≡ record { files = []; faults = []; steps = steps }
gathered_steps [] = refl
gathered_steps (s ∷ steps) = ap (first (Step s)) (gathered_steps steps)

gathered_faults : (faults : List ScriptFault) (steps : List StepOf) → gathered (fault_items faults ++ step_items steps) ≡ record { files = []; faults = faults; steps = steps }
gathered_faults [] steps = gathered_steps steps
gathered_faults (f ∷ faults) steps = ap (first (Fault f)) (gathered_faults faults steps)

gathered_all : (files : List ScriptFile) (faults : List ScriptFault) (steps : List StepOf) → gathered (file_items files ++ (fault_items faults ++ step_items steps)) ≡ record { files = files; faults = faults; steps = steps }
gathered_all [] faults steps = gathered_faults faults steps
gathered_all (f ∷ files) faults steps = ap (first (File f)) (gathered_all files faults steps)

-- what is printed, as lines
abbrev later_lines : Script → List (List ℕ)
later_lines script = fault_lines script.faults ++ step_lines script.steps

abbrev lines_in : Script → List (List ℕ)
lines_in script = file_lines script.files ++ later_lines script

later_is : (script : Script) → printed_faults script.faults ++ printed_steps script.steps ≡ flat_map with_feed (later_lines script)
later_is script = sym (flat_map-append with_feed (fault_lines script.faults) (step_lines script.steps)
    ∙ ap (λ t. t ++ flat_map with_feed (step_lines script.steps)) (flat_map-map with_feed fault_text script.faults)
    ∙ ap (λ t. printed_faults script.faults ++ t) (flat_map-map with_feed step_text script.steps))

printed_is : (script : Script) → printed script ≡ flat_map with_feed (codes "lighttpd-script 1" ∷ lines_in script)
printed_is script = ap (λ t. with_feed (codes "lighttpd-script 1") ++ t) (ap (λ t. printed_files script.files ++ t) (later_is script)
    ∙ sym (flat_map-append with_feed (file_lines script.files) (later_lines script)
    ∙ ap (λ t. t ++ flat_map with_feed (later_lines script)) (flat_map-map with_feed file_text script.files)))

all_clean : (script : Script) (lines : List (List ℕ)) → PrintsAll script lines → AreFeedless (lines_in script)
all_clean script lines all = all_feedless (file_lines script.files) (later_lines script) all.clean_files (all_feedless (fault_lines script.faults) (step_lines script.steps) all.clean_faults all.clean_steps)

cut_again : (script : Script) (lines : List (List ℕ)) → PrintsAll script lines → lines_of (printed script) ≡ (codes "lighttpd-script 1" ∷ lines_in script, [])
cut_again script lines all = ap lines_of (printed_is script) ∙ lines_again (codes "lighttpd-script 1" ∷ lines_in script) (refl, all_clean script lines all)

spelled_again : (script : Script) (lines : List (List ℕ)) → PrintsAll script lines → Spells (printed script) script
spelled_again script lines all = record {
  lines = lines_in script;
  items = file_items script.files ++ (fault_items script.faults ++ step_items script.steps);
  cut = cut_again script lines all;
  each = are_both (file_lines script.files) (later_lines script) (file_items script.files) (fault_items script.faults ++ step_items script.steps) all.files
      (are_both (fault_lines script.faults) (step_lines script.steps) (fault_items script.faults) (step_items script.steps) all.faults all.steps);
  gives = sym (gathered_all script.files script.faults script.steps);
}

printed_short : (bytes : List ℕ) (script : Script) (spells : Spells bytes script) → PrintsAll script spells.lines → length (printed script) ≤ length bytes
printed_short bytes script spells all =
    let here : length (printed script) ≡ size_of (codes "lighttpd-script 1" ∷ lines_in script) + 0 =
    text_size (printed script) ∙ ap (λ (x : List (List ℕ) × List ℕ). size_of x.0 + length x.1) (cut_again script spells.lines all) in
    let there : length bytes ≡ size_of (codes "lighttpd-script 1" ∷ spells.lines) + 0 =
    text_size bytes ∙ ap (λ (x : List (List ℕ) × List ℕ). size_of x.0 + length x.1) spells.cut in
    omega (arith, here, there, all.short, size_append (file_lines script.files) (later_lines script), size_append (fault_lines script.faults) (step_lines script.steps))

pub printed_is_read : PrintedIsRead
printed_is_read bytes script spells =
    let clean : AreFeedless (codes "lighttpd-script 1" ∷ spells.lines) = subst (λ (x : List (List ℕ) × List ℕ). AreFeedless x.0) spells.cut (lines_feedless bytes) in
    let all : PrintsAll script spells.lines = subst (λ (s : Script). PrintsAll s spells.lines) (sym spells.gives) (prints_all spells.lines spells.items spells.each clean.1) in
    (spelled_again script spells.lines all, printed_short bytes script spells all)
