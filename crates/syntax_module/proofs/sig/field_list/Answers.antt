use Rattle.std.proofs.Common.{rules}
use Rattle.syntax_tree.specs.declared.token.Symbol.TheVariants as s
use Rattle.syntax_tree.specs.Spelling.{kinds}
use Rattle.syntax_tree.specs.ModuleWords.{field_words}
use Rattle.syntax_tree.specs.ModuleRules.{field_right}
use Rattle.syntax_module.proofs.Turns.{first_right, more_right}
use Rattle.syntax_module.proofs.sig.field_list.Goals as goal

pub loop-turn-init : goal.loop-turn-init
loop-turn-init c = first_right (field_right c.args.limit) s.Comma field_words c.in_ok-first.first _ _ _ (search rules) (search rules) (search rules)

pub loop-turn-preserved : goal.loop-turn-preserved
loop-turn-preserved c =
    more_right (field_right c.args.limit) s.Comma field_words c.in_ok-next.next _ _ _ c.loop-turn.found (kinds c.loop-turn.cursor) (kinds c.eat.new.self) (search rules) (search rules) (search rules) (search rules) (search rules) (search rules) (search rules)
