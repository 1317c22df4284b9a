use Rattle.std.proofs.Common.{[], ◌∷◌}
use Rattle.syntax_tree.specs.declared.token.Symbol.TheVariants as s
use Rattle.syntax_tree.specs.Spelling.{kinds}
use Rattle.syntax_tree.specs.Words.{symbol}
use Rattle.syntax_tree.specs.Spelling.{declared_name}
use Rattle.syntax_expr.proofs.Chains.{then_read}
use Rattle.syntax_module.proofs.command.label.Goals as goal

pub returns : goal.returns
returns c = then_read (declared_name c.in_ok-name.name) (symbol s.Colon ∷ []) (kinds c.expect.new.self) c.in_ok-name.ensures c.in_ok-expect.ensures
