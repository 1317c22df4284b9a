use Rattle.std.proofs.Common.{length, rules, arith}
use Rattle.std.proofs.lemmas.List.Elements.{All-take, All-drop}
use Rattle.core_tree.specs.Models.{IsParent}
use Rattle.form_target.proofs.Tails.{few_apart, apart_halves}
use Rattle.form_target.proofs.sigs.+apart.Goals as goal

pub returns-then-half-eq0 : goal.returns-then-half-eq0
returns-then-half-eq0 t c = few_apart c.args.model.now c.args.all.now.items c.args.sigs.now (omega (arith, c.if-half-eq0.true))

pub apart-requires : goal.apart-requires
apart-requires t c = (search rules, rw c.split_at.ensures.front (All-take (IsParent (length c.args.model.now.sigs)) _ c.args.sigs.now c.requires))

pub apart-requires-2 : goal.apart-requires-2
apart-requires-2 t c = (search rules, rw c.split_at.ensures.back (All-drop (IsParent (length c.args.model.now.sigs)) _ c.args.sigs.now c.requires))

pub returns : goal.returns
returns t c = apart_halves c.args.model.now c.args.all.now.items c.apart-2.new.all.items c.push.new.self.items c.apart.new.all.items c.args.sigs.now c.split_at.result.0.now c.split_at.result.1.now _ _ _ _ c.split_at.ensures.front c.split_at.ensures.back c.in_ok-push.ensures.items c.in_ok-disjoint.ensures c.in_ok-first.ensures c.in_ok-second.ensures c.requires c.in_ok-apart.ensures c.in_ok-apart-2.ensures
