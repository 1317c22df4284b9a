use Rattle.std.proofs.Common.{rules}
use Rattle.syntax_tree.specs.Spelling.{kinds}
use Rattle.syntax_tree.specs.ModuleWords.{sig_name_words}
use Rattle.syntax_tree.specs.ModuleRules.{sig_name_right}
use Rattle.syntax_module.proofs.Turns.{first_right, more_right}
use Rattle.syntax_module.proofs.sig_name.sig_names.Goals as goal

pub loop-turn-init : goal.loop-turn-init
loop-turn-init c = first_right sig_name_right c.args.mark sig_name_words c.in_ok-first.first _ _ _ (search rules) (search rules) (search rules)

pub loop-turn-preserved : goal.loop-turn-preserved
loop-turn-preserved c =
    more_right sig_name_right c.args.mark sig_name_words c.in_ok-next.next _ _ _ c.loop-turn.found (kinds c.loop-turn.cursor) (kinds c.eat.new.self) (search rules) (search rules) (search rules) (search rules) (search rules) (search rules) (search rules)
