-- What loading gives, from the texts by their names and the calls that were made on them and on the maker of patterns,
-- each in order. Of a call only what it asked for counts and whether it failed or was refused: the nth call on the texts
-- is for the nth name that is met, the nth on the maker for the nth pattern, and there is no call besides.
use Rattle.std.specs.Prelude.{ℕ, zero, suc, ◌+◌, ◌-◌, List, [], ◌∷◌, Option, Some, None, Bool, true, false, is_some, Result, Ok, Err, codes, length, min}
use Rattle.lt_world.specs.declared.texts.Fetch.{Fetch}
use Rattle.conditions.specs.declared.made.Asked.{Asked}
use Rattle.lt_world.specs.declared.texts.Fetched.{Fetched}
use Rattle.lt_world.specs.declared.texts.Fetched.TheVariants as fetched
use Rattle.lt_world.specs.TextAnswers.{Library}
use Rattle.conf_lex.specs.declared.token.Token.{Token}
use Rattle.conf_lex.specs.declared.error.LexError.{LexError}
use Rattle.conf_lex.specs.declared.error.LexError.TheVariants as lex
use Rattle.conf_lex.specs.Answers.{lexed}
use Rattle.conf_parse.specs.declared.tree.Term.{Term}
use Rattle.conf_parse.specs.declared.tree.Statement.{Statement, out-Statement}
use Rattle.conf_parse.specs.declared.tree.What.{What, out-What}
use Rattle.conf_parse.specs.declared.tree.What.TheOpen.{What-F}
use Rattle.conf_parse.specs.declared.tree.Branch.{Branch, out-Branch}
use Rattle.conf_parse.specs.declared.tree.Tree.{Tree}
use Rattle.conf_parse.specs.declared.error.ParseError.{ParseError}
use Rattle.conf_parse.specs.declared.error.ParseError.TheVariants as parse
use Rattle.conf_parse.specs.declared.parser.TheConstants.{MAX_NESTING}
use Rattle.conf_parse.specs.Answers.{parsed}
use Rattle.conf_value.specs.declared.value.Value.{Value, out-Value}
use Rattle.conf_value.specs.declared.value.Pair.{Pair}
use Rattle.conf_value.specs.declared.value.Value.TheOpen.{Value-F}
use Rattle.conf_eval.specs.declared.fault.ConfKind.{ConfKind}
use Rattle.conf_eval.specs.declared.fault.ConfKind.TheVariants as kind
use Rattle.conf_eval.specs.declared.fault.LoadError.{LoadError}
use Rattle.conf_eval.specs.declared.fault.LoadError.TheVariants as e
use Rattle.conf_eval.specs.declared.fault.Loaded.{Loaded}
use Rattle.conf_eval.specs.declared.halt.Wrong.{Wrong}
use Rattle.conf_eval.specs.declared.halt.Wrong.TheVariants.{WrongType}
use Rattle.conf_eval.specs.declared.limits.TheConstants.{MAX_TEXTS, MAX_INCLUDES}
use Rattle.conf_eval.specs.Faults.{fault, kind_of, proceed}
use Rattle.conf_eval.specs.Values.{Text, sum_value}
use Rattle.conf_eval.specs.Settings.{State, nearest, blocks_of, settings_of, value_of, key_of, settled, rules_of, first_of, setting, keeps, innermost}
use Rattle.conf_eval.specs.Calls.{Calls}
use Rattle.conf_eval.specs.Parts.{Part, Reply, Went, Stopped, Short, Strayed, goes_on, fails, fetches, makes_rules}
use Rattle.conf_eval.specs.Opening.{opens, behind_it}

-- ---- a text

-- the tree of a text, or the kind and the line of its first fault
abbrev pub tree_or : Result Tree ParseError → Result Tree (ConfKind × ℕ)
tree_or (Ok tree) = Ok tree
tree_or (Err (parse.Grammar line)) = Err (kind.Grammar, line)
tree_or (Err (parse.Deep line)) = Err (kind.Deep, line)
tree_or (Err parse.NoMemory) = Err (kind.Grammar, 0)

abbrev pub tree_by : Result (List Token) LexError → Result Tree (ConfKind × ℕ)
tree_by (Ok tokens) = tree_or (parsed tokens)
tree_by (Err (lex.NotUtf8 line)) = Err (kind.NotUtf8, line)
tree_by (Err (lex.Grammar line)) = Err (kind.Grammar, line)
tree_by (Err lex.NoMemory) = Err (kind.Grammar, 0)

abbrev pub tree_of : Text → Result Tree (ConfKind × ℕ)
tree_of bytes = tree_by (lexed bytes)

-- one more text was fetched; numbers past 2^32 - 1 stay there
abbrev pub with_text : Text → State → State
with_text bytes s = record s { files = min (s.files + 1) 4294967295; room = s.room - length bytes }

-- the name of an include
abbrev pub text_of : Value-F Value Pair → Result Text Wrong
text_of (Value-F.Text name) = Ok name
text_of other = Err WrongType

abbrev pub name_by : (Text → Option Value) → List Term → Result Text Wrong
name_by look terms = proceed (sum_value look 64 terms) (λ value. text_of (out-Value value))

abbrev pub name_of : List ℕ → List Term → State → Result Text Wrong
name_of scopes terms s = name_by (nearest s.blocks scopes) terms

-- a key gets a value, with a warning or not: the patterns of its rules are made, and then it is set
abbrev pub set_with : ℕ → ℕ → List ℕ → Text → Value → Bool → Part
set_with file line scopes key value warned s calls =
    goes_on (makes_rules file line (rules_of key value) s calls)
    (λ made others. Went (keeps file line (innermost scopes) (setting key value (first_of key (length s.patterns))) warned made) others)

abbrev pub set_by : ℕ → ℕ → List ℕ → Text → Result (Value × Bool) Wrong → Part
set_by file line scopes key (Err x) s calls = fails (kind_of x) file line calls
set_by file line scopes key (Ok p) s calls = set_with file line scopes key p.0 p.1 s calls

abbrev pub sets : ℕ → ℕ → List ℕ → Text → Bool → List Term → Part
sets file line scopes word add terms s calls = set_by file line scopes (key_of word) (settled scopes s.blocks (key_of word) add terms) s calls

module _ (library : Library) where
  -- an include in a file, on a line, in these blocks, of this name
  abbrev pub Include : Type 0
  Include = ℕ → ℕ → List ℕ → Text → Part

  module _ (include : Include) where
    abbrev pub includes : ℕ → ℕ → List ℕ → Result Text Wrong → Part
    includes file line scopes (Ok name) s calls = include file line scopes name s calls
    includes file line scopes (Err x) s calls = fails (kind_of x) file line calls

    abbrev pub includes_value : ℕ → ℕ → List ℕ → List Term → Part
    includes_value file line scopes terms s calls = includes file line scopes (name_of scopes terms s) s calls

    -- a chain of blocks in a file, on a line, in these blocks
    module _ (chain : ℕ → ℕ → List ℕ → List Branch → Part) where
      -- a statement on this line
      abbrev pub does : ℕ → ℕ → List ℕ → What-F What Branch Statement → Part
      does file line scopes (What-F.Set key add terms) s calls = sets file line scopes key add terms s calls
      does file line scopes (What-F.Include terms) s calls = includes_value file line scopes terms s calls
      does file line scopes (What-F.Branches branches) s calls = chain file line scopes branches s calls

      abbrev pub statement_by : ℕ → List ℕ → Statement → Part
      statement_by file scopes x = does file (out-Statement x).line scopes (out-What (out-Statement x).what)

      -- statements, from the first
      abbrev pub statements_by : ℕ → List ℕ → List Statement → Part
      statements_by file scopes [] s calls = Went s calls
      statements_by file scopes (x ∷ xs) s calls = goes_on (statement_by file scopes x s calls) (statements_by file scopes xs)

      -- a block opens, and its statements are carried out in it
      abbrev pub branch_by : ℕ → List ℕ → Option ℕ → Branch → Part
      branch_by file scopes behind b s calls =
          goes_on (opens file (out-Branch b).line scopes behind (out-Branch b).condition s calls) (statements_by file (length s.blocks ∷ scopes) (out-Branch b).body)

      -- the branches of a chain, from the first of those that are left
      abbrev pub branches_by : ℕ → List ℕ → Option ℕ → List Branch → Part
      branches_by file scopes behind [] s calls = Went s calls
      branches_by file scopes behind (b ∷ bs) s calls =
          goes_on (branch_by file scopes behind b s calls) (branches_by file scopes (behind_it (out-Branch b).condition (length s.blocks)) bs)

    -- a chain in which blocks may be nested so deep
    unfoldable pub chain : ℕ → ℕ → ℕ → List ℕ → List Branch → Part
    chain zero file line scopes branches s calls = fails kind.Deep file line calls
    chain (suc d) file line scopes branches s calls = branches_by (chain d) file scopes None branches s calls

    -- the statements of a text, which is the next file
    abbrev pub reads : ℕ → List ℕ → Result Tree (ConfKind × ℕ) → Part
    reads file scopes (Ok tree) s calls = statements_by (chain MAX_NESTING) file scopes tree.statements s calls
    reads file scopes (Err fault) s calls = fails fault.0 file fault.1 calls

    abbrev pub text_by : List ℕ → Text → Part
    text_by scopes bytes s calls = reads s.files scopes (tree_of bytes) (with_text bytes s) calls

    -- what an include comes to by what was fetched
    abbrev pub included : ℕ → ℕ → List ℕ → Fetched → Part
    included file line scopes (fetched.Text bytes) s calls = text_by scopes bytes s calls
    included file line scopes fetched.Missing s calls = fails kind.IncludeMissing file line calls
    included file line scopes fetched.Long s calls = fails kind.TooLong file line calls
    included file line scopes fetched.Failed s calls = fails kind.TextFault file line calls
    included file line scopes fetched.NoMemory s calls = Strayed

  -- an include, inside at most so many others
  unfoldable pub include : ℕ → Include
  include zero file line scopes name s calls = fails kind.IncludeDeep file line calls
  include (suc d) file line scopes name s calls = fetches (included (include d) file line scopes) (library name) name s calls

  -- A statement, statements and branches where so many includes and blocks may be nested, and a text.
  abbrev pub statement : ℕ → ℕ → ℕ → List ℕ → Statement → Part
  statement d room = statement_by (include d) (chain (include d) room)

  abbrev pub include_of : ℕ → ℕ → ℕ → List ℕ → List Term → Part
  include_of d = includes_value (include d)

  abbrev pub statements : ℕ → ℕ → ℕ → List ℕ → List Statement → Part
  statements d room = statements_by (include d) (chain (include d) room)

  abbrev pub branch : ℕ → ℕ → ℕ → List ℕ → Option ℕ → Branch → Part
  branch d room = branch_by (include d) (chain (include d) room)

  abbrev pub branches : ℕ → ℕ → ℕ → List ℕ → Option ℕ → List Branch → Part
  branches d room = branches_by (include d) (chain (include d) room)

  abbrev pub text : ℕ → List ℕ → Text → Part
  text d = text_by (include d)

-- ---- the whole

-- how a load ends; or these are its first calls, and another one is due; or they are not its calls
pub data Outcome : Type 0 where
  Ended : Result Loaded LoadError → Outcome
  Unended : Outcome
  Astray : Outcome

-- before the first text
abbrev pub start : State
start = record { blocks = blocks_of []; warnings = []; patterns = []; files = 0; room = MAX_TEXTS }

abbrev pub loaded : State → Loaded
loaded s = record { config = record { blocks = s.blocks; warnings = s.warnings }; patterns = s.patterns }

-- the global block must set the document root
abbrev pub closes : State → Bool → Result Loaded LoadError
closes s true = Ok (loaded s)
closes s false = Err (e.Conf (fault kind.NoRoot 0 1))

abbrev pub has_root : State → Bool
has_root s = is_some (value_of (codes "server.document-root") (settings_of 0 s.blocks))

-- an outcome where no call is left
abbrev pub ends_in : Outcome → List Fetch → List Asked → Outcome
ends_in outcome [] [] = outcome
ends_in outcome (c ∷ texts) makes = Astray
ends_in outcome [] (m ∷ makes) = Astray

-- the end
abbrev pub ends : Reply → Outcome
ends (Went s calls) = ends_in (Ended (closes s (has_root s))) calls.texts calls.makes
ends (Stopped x calls) = ends_in (Ended (Err x)) calls.texts calls.makes
ends Short = Unended
ends Strayed = Astray

-- what the first text comes to by what was fetched
abbrev pub roots : Library → Fetched → Part
roots library (fetched.Text bytes) s calls = text library MAX_INCLUDES (0 ∷ []) bytes s calls
roots library fetched.Missing s calls = Stopped e.RootMissing calls
roots library fetched.Long s calls = fails kind.TooLong 0 1 calls
roots library fetched.Failed s calls = Stopped e.RootFailed calls
roots library fetched.NoMemory s calls = Strayed

-- the first text, of this name
abbrev pub root : Library → Text → Part
root library name s calls = fetches (roots library) (library name) name s calls

-- the load of the text of this name
abbrev pub load : Library → Text → Calls → Outcome
load library name calls = ends (root library name start calls)
