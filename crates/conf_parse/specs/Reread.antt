-- A printed tree that is read again (README.md of this crate, `printed_is_reread`).
use Rattle.std.specs.Prelude.{ℕ, List, []}
use Rattle.std.specs.Str.{IsUtf8}
use Rattle.conf_lex.specs.declared.token.Token.{Token}
use Rattle.conf_lex.specs.Tokens.{Reads}
use Rattle.conf_parse.specs.declared.tree.Tree.{Tree}
use Rattle.conf_parse.specs.Grammar.{Spells}
use Rattle.conf_parse.specs.Print.{printed}
use Rattle.conf_parse.specs.SameTree.{SameButLines}

-- The printed form has tokens, which spell a tree that is equal except for its line numbers.
pub record IsReread (tree : Tree) : Type 0 where
  pub utf8 : IsUtf8 (printed tree)
  pub tokens : List Token
  pub last_line : ℕ
  pub lexed : Reads 1 (printed tree) tokens last_line []
  pub found : Tree
  pub spelled : Spells 64 found tokens
  pub same : SameButLines tree found
