-- Trees that are equal except for their line numbers: what a printed tree and the tree that is read from it share.
use Rattle.std.specs.Prelude.{ℕ, List, [], ◌∷◌, Option, Bool}
use Rattle.conf_parse.specs.declared.tree.Term.{Term}
use Rattle.conf_parse.specs.declared.tree.Statement.{Statement}
use Rattle.conf_parse.specs.declared.tree.What.TheVariants as w
use Rattle.conf_parse.specs.declared.tree.Branch.{Branch}
use Rattle.conf_parse.specs.declared.tree.RawCondition.{RawCondition}
use Rattle.conf_parse.specs.declared.tree.Tree.{Tree}
use Rattle.conf_parse.specs.Symbols.{Text}
use Rattle.conf_parse.specs.Grammar.{statement, branch}

mutual
  pub data SameStatements : List Statement → List Statement → Type 0 where
    no_statement : SameStatements [] []
    more_statements : {x y : Statement} {xs ys : List Statement} → SameStatement x y → SameStatements xs ys → SameStatements (x ∷ xs) (y ∷ ys)

  pub data SameStatement : Statement → Statement → Type 0 where
    same_set : {l m : ℕ} {key : Text} {add : Bool} {value : List Term} → SameStatement (statement l (w.Set key add value)) (statement m (w.Set key add value))
    same_include : {l m : ℕ} {value : List Term} → SameStatement (statement l (w.Include value)) (statement m (w.Include value))
    same_chain : {l m : ℕ} {bs cs : List Branch} → SameBranches bs cs → SameStatement (statement l (w.Branches bs)) (statement m (w.Branches cs))

  pub data SameBranches : List Branch → List Branch → Type 0 where
    no_branch : SameBranches [] []
    more_branches : (l m : ℕ) (condition : Option RawCondition) {xs ys : List Statement} {bs cs : List Branch} → SameStatements xs ys → SameBranches bs cs
        → SameBranches (branch l condition xs ∷ bs) (branch m condition ys ∷ cs)

-- the same statements, whatever their lines
abbrev pub SameButLines : Tree → Tree → Type 0
SameButLines a b = SameStatements a.statements b.statements
