-- What a script that is spelled is loaded with.
use Rattle.std.proofs.Common.{◌≡◌, ℕ, true, zero, suc, List, [], ◌∷◌, sym, subst, arith}
use Rattle.lt_world.specs.Memory.{is_path}
use Rattle.lt_script.specs.declared.script.Script.{Script}
use Rattle.lt_script.specs.declared.script.ScriptFile.{ScriptFile}
use Rattle.lt_script.specs.declared.script.ScriptFile.TheVariants as file
use Rattle.lt_script.specs.declared.lines.Line.{Line}
use Rattle.lt_script.specs.declared.lines.Line.TheVariants.{Skip, File, Fault, Step as StepLine}
use Rattle.lt_script.specs.Grammar.{IsLine}
use Rattle.lt_script.specs.Texts.{AreLines, gathered, Spells}
use Rattle.script_net.specs.Loads.{path_of, AreRooted}

rooted_file : (f : ScriptFile) (line : List ℕ) → IsLine (File f) line → is_path (path_of f) ≡ true
rooted_file (file.Bytes path time text) line is = is.rooted
rooted_file (file.Fill path time size) line is = is.rooted
rooted_file (file.Dir path) line is = is.rooted

rooted_more : (f : ScriptFile) (files : List ScriptFile) → is_path (path_of f) ≡ true → AreRooted files → AreRooted (f ∷ files)
rooted_more f files here rest zero other below = here
rooted_more f files here rest (suc k) other below = rest k other (omega arith)

gathered_rooted : (lines : List (List ℕ)) (items : List Line) → AreLines lines items → AreRooted (gathered items).files
gathered_rooted [] [] each = λ k other below. absurd (omega arith)
gathered_rooted [] (item ∷ items) each = absurd each
gathered_rooted (line ∷ lines) [] each = absurd each
gathered_rooted (line ∷ lines) (Skip ∷ items) each = gathered_rooted lines items each.1
gathered_rooted (line ∷ lines) (Fault fault ∷ items) each = gathered_rooted lines items each.1
gathered_rooted (line ∷ lines) (StepLine step ∷ items) each = gathered_rooted lines items each.1
gathered_rooted (line ∷ lines) (File f ∷ items) each = rooted_more f (gathered items).files (rooted_file f line each.0) (gathered_rooted lines items each.1)

pub spelled_rooted : (bytes : List ℕ) (script : Script) → Spells bytes script → AreRooted script.files
spelled_rooted bytes script spells = subst (λ (s : Script). AreRooted s.files) (sym spells.gives) (gathered_rooted spells.lines spells.items spells.each)
