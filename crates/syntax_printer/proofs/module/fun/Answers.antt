use Rattle.std.proofs.lemmas.Result.{on_ok_weaker}
use Rattle.syntax_printer.proofs.Forms.{fun_whole}
use Rattle.syntax_printer.proofs.module.fun.Goals as goal

pub returns : goal.returns
returns c =
    on_ok_weaker c.symbol-3.result
    (fun_whole c.args.of.now c.args.words.now.items c.optional.new.words.items c.word.new.words.items c.receiver.new.words.items c.spell.new.words.items c.parameters.new.words.items
    c.symbol.new.words.items c.bound.new.words.items c.symbol-2.new.words.items c.expr.new.words.items c.symbol-3.new.words.items c.in_ok-optional.ensures c.in_ok-word.ensures
    c.in_ok-receiver.ensures c.in_ok-spell.ensures c.in_ok-parameters.ensures c.in_ok-symbol.ensures c.in_ok-bound.ensures c.in_ok-symbol-2.ensures c.in_ok-expr.ensures)
    c.symbol-3.ensures
