use Rattle.std.proofs.Common.{ℕ, ◌<◌, sym, subst}
use Rattle.resolve_names.proofs.Path.{followed_more, followed_skip}
use Rattle.resolve_names.proofs.follow.follow_from.Goals as goal

pub mark_opens-requires : goal.mark_opens-requires
mark_opens-requires c = λ o k. subst (λ (n : ℕ). o.instance < n) (sym c.requires.begun.every) (c.requires.linked c.args.number o (c.opens_of-opens.ensures.own o k))

pub returns-then-was_marked : goal.returns-then-was_marked
returns-then-was_marked c =
    followed_more c.args.scopes.now c.args.from c.args.alias.now c.args.before.now c.args.number c.opens_of-opens.result.now c.args.marks.now.items c.mark_opens.new.marks.items
    c.opens_of-opens.ensures.own c.opens_of-opens.ensures.all (c.is_marked-was_marked.ensures.0 c.if-was_marked.true) c.requires.begun c.mark_opens.ensures

pub returns-else-was_marked : goal.returns-else-was_marked
returns-else-was_marked c =
    followed_skip c.args.scopes.now c.args.from c.args.alias.now c.args.before.now c.args.number c.args.marks.now.items
    (λ m. let e = c.is_marked-was_marked.ensures.1 m in let f = c.if-was_marked.false in cc) c.requires.begun
