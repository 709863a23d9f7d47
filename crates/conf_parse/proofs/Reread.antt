-- A printed tree is read again, as a whole.
use Rattle.std.proofs.Common.{ℕ, List, [], subst, append-nil}
use Rattle.std.specs.Str.{IsUtf8}
use Rattle.conf_lex.specs.declared.token.Token.{Token}
use Rattle.conf_lex.specs.Tokens.{Reads, here}
use Rattle.conf_lex.proofs.Lexed.{reads_lexed}
use Rattle.conf_parse.specs.declared.tree.Tree.{Tree}
use Rattle.conf_parse.specs.Grammar.{IsBody, Spells}
use Rattle.conf_parse.specs.Print.{body_text, printed}
use Rattle.conf_parse.specs.Reread.{IsReread}
use Rattle.conf_parse.specs.SameTree.{SameStatements}
use Rattle.conf_parse.proofs.Family.{AgainAs, again_as}
use Rattle.conf_parse.proofs.Fine.{marks_fine}
use Rattle.conf_parse.proofs.Pieces.{again, Any}
use Rattle.conf_parse.proofs.TreeAgain.{body_again}

reread_by : (tree : Tree) → AgainAs Any (IsBody 64) (SameStatements tree.statements) (body_text 64 tree.statements) 1 → IsReread tree
reread_by tree (again_as ys same (again us m f p u)) = record {
  utf8 = u;
  tokens = us [];
  last_line = m;
  lexed = subst (λ (y : List ℕ). Reads 1 y (us []) m []) (append-nil (printed tree)) (f [] [] m [] tt here);
  found = record { statements = ys };
  spelled = p [];
  same = same;
}

pub reread : (text : List ℕ) (tokens : List Token) (last_line : ℕ) (tree : Tree) → IsUtf8 text → Reads 1 text tokens last_line [] → Spells 64 tree tokens → IsReread tree
reread text tokens last_line tree u lexed spelled = reread_by tree (body_again spelled (marks_fine tokens (reads_lexed lexed u)) 1)
