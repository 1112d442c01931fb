-- The order in which signs are tried.
use Rattle.std.specs.Prelude.{List}
use Rattle.c_tree.specs.declared.signs.Sign.{Sign}
use Rattle.c_token.specs.declared.signs.TheConstants.{SIGNS}

-- The table of the code.
unfoldable pub sign_order : List Sign
sign_order = SIGNS
