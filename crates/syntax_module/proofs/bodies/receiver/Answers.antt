use Rattle.std.proofs.Common.{[], ◌∷◌}
use Rattle.syntax_tree.specs.declared.token.Symbol.TheVariants as s
use Rattle.syntax_tree.specs.Words.{symbol}
use Rattle.syntax_tree.specs.Spelling.{kinds}
use Rattle.syntax_tree.specs.ModuleWords.{sig_name_words}
use Rattle.syntax_expr.proofs.Chains.{then_read}
use Rattle.syntax_module.proofs.bodies.receiver.Goals as goal

pub returns-clause-reads : goal.returns-clause-reads
returns-clause-reads c =
    then_read (sig_name_words c.in_ok-name.name) (symbol s.Dot ∷ []) (kinds c.expect.new.self) c.in_ok-name.ensures.reads c.in_ok-expect.ensures
