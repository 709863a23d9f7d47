-- What holds of every part of a load, since it holds of going on, of stopping and of each call, and of one part behind
-- another.
use Rattle.std.proofs.Common.{◌≡◌, ℕ, zero, suc, List, [], ◌∷◌, length, Bool, true, false, Option, Some, None, Result, Ok, Err, if◌then◌else◌, nat_le, refl}
use Rattle.lt_world.specs.declared.texts.Fetched.{Fetched}
use Rattle.lt_world.specs.declared.texts.Fetched.TheVariants as fetched
use Rattle.lt_world.specs.TextAnswers.{Library}
use Rattle.conditions.specs.Comparing.{tries_pattern}
use Rattle.conditions.specs.Fields.{field_of}
use Rattle.conf_lex.specs.declared.token.Token.{Token}
use Rattle.conf_lex.specs.declared.error.LexError.{LexError}
use Rattle.conf_lex.specs.declared.error.LexError.TheVariants as lex
use Rattle.conf_lex.specs.Answers.{lexed}
use Rattle.conf_parse.specs.declared.error.ParseError.{ParseError}
use Rattle.conf_parse.specs.declared.error.ParseError.TheVariants as parse
use Rattle.conf_parse.specs.Answers.{parsed}
use Rattle.conf_parse.specs.declared.tree.Statement.{Statement, out-Statement}
use Rattle.conf_parse.specs.declared.tree.What.{What, out-What}
use Rattle.conf_parse.specs.declared.tree.What.TheOpen.{What-F}
use Rattle.conf_parse.specs.declared.tree.Branch.{Branch, out-Branch}
use Rattle.conf_parse.specs.declared.tree.RawCondition.{RawCondition}
use Rattle.conf_parse.specs.declared.tree.Term.{Term}
use Rattle.conf_parse.specs.declared.tree.Tree.{Tree}
use Rattle.conf_value.specs.declared.condition.Field.{Field}
use Rattle.conf_value.specs.declared.value.Value.{Value}
use Rattle.conf_value.specs.declared.value.Pair.{Pair}
use Rattle.conf_eval.specs.declared.fault.ConfKind.{ConfKind}
use Rattle.conf_eval.specs.declared.fault.ConfKind.TheVariants as kind
use Rattle.conf_eval.specs.declared.halt.Wrong.{Wrong}
use Rattle.conf_eval.specs.declared.halt.Wrong.TheVariants as wrong
use Rattle.conf_eval.specs.Faults.{kind_of}
use Rattle.conf_eval.specs.Settings.{State, pattern_of, rules_of, settled, key_of, keeps, setting, first_of, innermost}
use Rattle.conf_eval.specs.Calls.{Calls}
use Rattle.conf_eval.specs.Parts as part
use Rattle.conf_eval.specs.Parts.{Part, Reply, Went, goes_on, fails, held_as, makes_in, makes_rules}
use Rattle.conf_eval.specs.Opening as opening
use Rattle.conf_eval.specs.Load as spec
use Rattle.conf_eval.specs.Load.{include, chain, tree_or, tree_by, tree_of}

-- a fault of a text or statement by itself, whatever texts and maker answer
abbrev pub IsPlain : ConfKind → Type 0
IsPlain kind.TextFault = ⊥
IsPlain kind.PatternRefused = ⊥
IsPlain other = Unit {0}

-- what a fetch gives that did not fail
abbrev pub Gave : Fetched → Type 0
Gave fetched.Failed = ⊥
Gave fetched.NoMemory = ⊥
Gave other = Unit {0}

pub gave_held : (held : Option (List ℕ)) (room : ℕ) → Gave (held_as held room)
gave_held None room = tt
gave_held (Some bytes) room = by (nat_le (length bytes) room)
  where
    by : (b : Bool) → Gave (if b then fetched.Text bytes else fetched.Long)
    by true = tt
    by false = tt

plain_wrong : (x : Wrong) → IsPlain (kind_of x)
plain_wrong wrong.Duplicate = tt
plain_wrong wrong.UnknownVariable = tt
plain_wrong wrong.Mixed = tt
plain_wrong wrong.Overflow = tt
plain_wrong wrong.WrongType = tt
plain_wrong wrong.BadValue = tt
plain_wrong wrong.Deep = tt

abbrev HasPlain : Result Tree (ConfKind × ℕ) → Type 0
HasPlain (Ok tree) = Unit {0}
HasPlain (Err fault) = IsPlain fault.0

plain_or : (t : Result Tree ParseError) → HasPlain (tree_or t)
plain_or (Ok tree) = tt
plain_or (Err (parse.Grammar line)) = tt
plain_or (Err (parse.Deep line)) = tt
plain_or (Err parse.NoMemory) = tt

plain_by : (t : Result (List Token) LexError) → HasPlain (tree_by t)
plain_by (Ok tokens) = plain_or (parsed tokens)
plain_by (Err (lex.NotUtf8 line)) = tt
plain_by (Err (lex.Grammar line)) = tt
plain_by (Err lex.NoMemory) = tt

-- what is made of the calls that are still to come
abbrev pub Run : Type 0
Run = Calls → Reply

pub record IsKept (R : Run → Type 0) : Type 0 where
  pub went : (s : State) → R (Went s)
  pub fails : (what : ConfKind) (file line : ℕ) → IsPlain what → R (fails what file line)
  pub goes : (r : Run) (next : Part) → R r → ((s : State) → R (next s)) → R (λ calls. goes_on (r calls) next)
  pub fetches : (after : Fetched → Part) (held : Option (List ℕ)) (name : List ℕ) (s : State) (file line : ℕ)
      → ((calls : Calls) → after fetched.Failed s calls ≡ part.fails kind.TextFault file line calls) → ((f : Fetched) → Gave f → R (after f s))
      → R (part.fetches after held name s)
  pub makes : (file line : ℕ) (rule : Bool) (text : List ℕ) (s : State) → R (λ calls. makes_in file line rule text s calls.texts calls.makes)

module _ (R : Run → Type 0) (kept : IsKept R) where
  abbrev pub Holds : Part → Type 0
  Holds part = (s : State) → R (part s)

  -- ---- settings

  pub makes : (file line : ℕ) (rule : Bool) (text : List ℕ) → Holds (part.makes file line rule text)
  makes file line rule text s = by (nat_le 48 (length s.patterns))
    where
      by : (t : Bool) → R (λ calls. if t then part.fails kind.TooMany file line calls else makes_in file line rule text s calls.texts calls.makes)
      by true = kept.fails kind.TooMany file line tt
      by false = kept.makes file line rule text s

  pub rules : (file line : ℕ) (all : List Pair) → Holds (makes_rules file line all)
  rules file line [] s = kept.went s
  rules file line (rule ∷ all) s = kept.goes (part.makes file line true (pattern_of rule) s) (makes_rules file line all) (makes file line true (pattern_of rule) s) (rules file line all)

  pub set_with : (file line : ℕ) (scopes key : List ℕ) (value : Value) (warned : Bool) → Holds (spec.set_with file line scopes key value warned)
  set_with file line scopes key value warned s =
      kept.goes (makes_rules file line (rules_of key value) s) (λ made. Went (keeps file line (innermost scopes) (setting key value (first_of key (length s.patterns))) warned made)) (rules file line (rules_of key value) s) (λ made. kept.went _)

  set_by : (file line : ℕ) (scopes key : List ℕ) (due : Result (Value × Bool) Wrong) → Holds (spec.set_by file line scopes key due)
  set_by file line scopes key (Ok p) s = set_with file line scopes key p.0 p.1 s
  set_by file line scopes key (Err x) s = kept.fails (kind_of x) file line (plain_wrong x)

  pub sets : (file line : ℕ) (scopes word : List ℕ) (add : Bool) (terms : List Term) → Holds (spec.sets file line scopes word add terms)
  sets file line scopes word add terms s = set_by file line scopes (key_of word) (settled scopes s.blocks (key_of word) add terms) s

  -- ---- blocks

  pub opens_by : (file line : ℕ) (scopes : List ℕ) (behind : Option ℕ) (raw : RawCondition) (field : Field) (t : Bool) → Holds (opening.opens_by file line scopes behind raw field t)
  opens_by file line scopes behind raw field true s =
      kept.goes (part.makes file line false raw.text s) (opening.opens_with scopes behind (Some (opening.condition_of raw field (Some (length s.patterns))))) (makes file line false raw.text s) (λ made. kept.went _)
  opens_by file line scopes behind raw field false s = kept.went _

  pub opens_on : (file line : ℕ) (scopes : List ℕ) (behind : Option ℕ) (raw : RawCondition) (field : Option Field) → Holds (opening.opens_on file line scopes behind raw field)
  opens_on file line scopes behind raw None s = kept.fails kind.UnknownField file line tt
  opens_on file line scopes behind raw (Some field) s = by (opening.is_full s) (opening.lacks_network field raw.op raw.text)
    where
      by : (full bad : Bool) → R (λ calls. if full then part.fails kind.TooMany file line calls else (if bad then part.fails kind.BadValue file line calls else opening.opens_by file line scopes behind raw field (tries_pattern raw.op) s calls))
      by true bad = kept.fails kind.TooMany file line tt
      by false true = kept.fails kind.BadValue file line tt
      by false false = opens_by file line scopes behind raw field (tries_pattern raw.op) s

  pub opens_bare : (file line : ℕ) (scopes : List ℕ) (behind : Option ℕ) → Holds (opening.opens_bare file line scopes behind)
  opens_bare file line scopes None s = kept.fails kind.Grammar file line tt
  opens_bare file line scopes (Some n) s = by (opening.is_full s)
    where
      by : (full : Bool) → R (λ calls. if full then part.fails kind.TooMany file line calls else opening.opens_with scopes (Some n) None s calls)
      by true = kept.fails kind.TooMany file line tt
      by false = kept.went _

  pub opens : (file line : ℕ) (scopes : List ℕ) (behind : Option ℕ) (raw : Option RawCondition) → Holds (opening.opens file line scopes behind raw)
  opens file line scopes behind None s = opens_bare file line scopes behind s
  opens file line scopes behind (Some raw) s = opens_on file line scopes behind raw (field_of raw.group raw.name) s

  -- ---- statements

  module _ (library : Library) where
    module _ (include : spec.Include library) (included : (file line : ℕ) (scopes name : List ℕ) → Holds (include file line scopes name)) where
      includes : (file line : ℕ) (scopes : List ℕ) (name : Result (List ℕ) Wrong) → Holds (spec.includes library include file line scopes name)
      includes file line scopes (Ok name) s = included file line scopes name s
      includes file line scopes (Err x) s = kept.fails (kind_of x) file line (plain_wrong x)

      module _ (chain : ℕ → ℕ → List ℕ → List Branch → Part) (chained : (file line : ℕ) (scopes : List ℕ) (branches : List Branch) → Holds (chain file line scopes branches)) where
        does : (file line : ℕ) (scopes : List ℕ) (what : What-F What Branch Statement) → Holds (spec.does library include chain file line scopes what)
        does file line scopes (What-F.Set key add terms) s = sets file line scopes key add terms s
        does file line scopes (What-F.Include terms) s = includes file line scopes (spec.name_of scopes terms s) s
        does file line scopes (What-F.Branches branches) s = chained file line scopes branches s

        statements_by : (file : ℕ) (scopes : List ℕ) (xs : List Statement) → Holds (spec.statements_by library include chain file scopes xs)
        statements_by file scopes [] s = kept.went s
        statements_by file scopes (x ∷ xs) s =
            kept.goes (spec.statement_by library include chain file scopes x s) (spec.statements_by library include chain file scopes xs)
            (does file (out-Statement x).line scopes (out-What (out-Statement x).what) s) (statements_by file scopes xs)

        branch_by : (file : ℕ) (scopes : List ℕ) (behind : Option ℕ) (b : Branch) → Holds (spec.branch_by library include chain file scopes behind b)
        branch_by file scopes behind b s =
            kept.goes (opening.opens file (out-Branch b).line scopes behind (out-Branch b).condition s) (spec.statements_by library include chain file (length s.blocks ∷ scopes) (out-Branch b).body)
            (opens file (out-Branch b).line scopes behind (out-Branch b).condition s) (statements_by file (length s.blocks ∷ scopes) (out-Branch b).body)

        branches_by : (file : ℕ) (scopes : List ℕ) (behind : Option ℕ) (bs : List Branch) → Holds (spec.branches_by library include chain file scopes behind bs)
        branches_by file scopes behind [] s = kept.went s
        branches_by file scopes behind (b ∷ bs) s =
            kept.goes (spec.branch_by library include chain file scopes behind b s) (spec.branches_by library include chain file scopes (opening.behind_it (out-Branch b).condition (length s.blocks)) bs)
            (branch_by file scopes behind b s) (branches_by file scopes (opening.behind_it (out-Branch b).condition (length s.blocks)) bs)

      chains : (d file line : ℕ) (scopes : List ℕ) (branches : List Branch) → Holds (chain library include d file line scopes branches)
      unfolding chain
      chains zero file line scopes branches s = kept.fails kind.Deep file line tt
      chains (suc d) file line scopes branches s = branches_by (chain library include d) (chains d) file scopes None branches s

      reads : (file : ℕ) (scopes : List ℕ) (tree : Result Tree (ConfKind × ℕ)) → HasPlain tree → Holds (spec.reads library include file scopes tree)
      reads file scopes (Ok tree) plain s = statements_by (chain library include 64) (chains 64) file scopes tree.statements s
      reads file scopes (Err fault) plain s = kept.fails fault.0 file fault.1 plain

      text_by : (scopes bytes : List ℕ) → Holds (spec.text_by library include scopes bytes)
      text_by scopes bytes s = reads s.files scopes (tree_of bytes) (plain_by (lexed bytes)) (spec.with_text bytes s)

      found : (file line : ℕ) (scopes : List ℕ) (s : State) (f : Fetched) → Gave f → R (spec.included library include file line scopes f s)
      found file line scopes s (fetched.Text bytes) gave = text_by scopes bytes s
      found file line scopes s fetched.Missing gave = kept.fails kind.IncludeMissing file line tt
      found file line scopes s fetched.Long gave = kept.fails kind.TooLong file line tt
      found file line scopes s fetched.Failed gave = absurd gave
      found file line scopes s fetched.NoMemory gave = absurd gave

    pub nested : (d file line : ℕ) (scopes name : List ℕ) → Holds (include library d file line scopes name)
    unfolding include
    nested zero file line scopes name s = kept.fails kind.IncludeDeep file line tt
    nested (suc d) file line scopes name s =
        kept.fetches (spec.included library (include library d) file line scopes) (library name) name s file line (λ calls. refl) (found (include library d) (nested d) file line scopes s)

    pub include_of : (d file line : ℕ) (scopes : List ℕ) (terms : List Term) → Holds (spec.include_of library d file line scopes terms)
    include_of d file line scopes terms s = includes (include library d) (nested d) file line scopes (spec.name_of scopes terms s) s

    pub chain_of : (d room file line : ℕ) (scopes : List ℕ) (branches : List Branch) → Holds (chain library (include library d) room file line scopes branches)
    chain_of d = chains (include library d) (nested d)

    pub statement : (d room file : ℕ) (scopes : List ℕ) (x : Statement) → Holds (spec.statement library d room file scopes x)
    statement d room file scopes x = does (include library d) (nested d) (chain library (include library d) room) (chain_of d room) file (out-Statement x).line scopes (out-What (out-Statement x).what)

    pub statements : (d room file : ℕ) (scopes : List ℕ) (xs : List Statement) → Holds (spec.statements library d room file scopes xs)
    statements d room = statements_by (include library d) (nested d) (chain library (include library d) room) (chain_of d room)

    pub branch : (d room file : ℕ) (scopes : List ℕ) (behind : Option ℕ) (b : Branch) → Holds (spec.branch library d room file scopes behind b)
    branch d room = branch_by (include library d) (nested d) (chain library (include library d) room) (chain_of d room)

    pub branches : (d room file : ℕ) (scopes : List ℕ) (behind : Option ℕ) (bs : List Branch) → Holds (spec.branches library d room file scopes behind bs)
    branches d room = branches_by (include library d) (nested d) (chain library (include library d) room) (chain_of d room)

    pub text : (d : ℕ) (scopes bytes : List ℕ) → Holds (spec.text library d scopes bytes)
    text d = text_by (include library d) (nested d)
