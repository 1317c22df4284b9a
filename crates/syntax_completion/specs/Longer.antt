-- Texts that begin with others.
use Rattle.std.specs.Prelude.{◌≡◌, List, ◌++◌}
use Rattle.syntax_tree.specs.declared.token.Token.{Token}
use Rattle.syntax_tree.specs.Words.{Spelled}
use Rattle.syntax_tree.specs.Spelling.{kinds}

-- behind these tokens there are more
abbrev pub IsLonger : List Token → List Token → Type 0
IsLonger old new = (more : Spelled) × (kinds new ≡ kinds old ++ more)
