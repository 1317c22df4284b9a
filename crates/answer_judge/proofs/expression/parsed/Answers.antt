use Rattle.std.proofs.Common.{◌≡◌, ◌-◌, take, get_or, inl, ap, subst, arith}
use Rattle.std.specs.Prelude.{IsTrue}
use Rattle.syntax_tree.specs.Spelling.{kinds, spelling}
use Rattle.syntax_tree.specs.declared.token.Token.{Token}
use Rattle.syntax_places.specs.Pieces.{pieces, at_places}
use Rattle.syntax_machine.specs.declared.thread.Root.TheVariants as root
use Rattle.syntax_parser.specs.Refuses.{IsOfTokens}
use Rattle.answer_judge.proofs.Reading.{read_first}
use Rattle.answer_judge.proofs.expression.parsed.Goals as goal

pub stopped-requires : goal.stopped-requires
stopped-requires c = c.refuse_tokens-fault.ensures

pub returns-then-behind-tokens : goal.returns-then-behind-tokens
returns-then-behind-tokens c = c.stopped.ensures c.args.loaded.now c.args.model.now c.args.types.now c.args.scopes.now.bits

pub returns-else-behind-tokens : goal.returns-else-behind-tokens
returns-else-behind-tokens c =
    let spells = c.in-Ok.ensures.spells in
    let tree = c.in-Ok.parsed.tree in
    let tokens = c.args.tokens.now in
    let same : c.in-Ok.parsed.next - 0 ≡ c.in-Ok.parsed.next = omega arith in
    read_first c.args.loaded.now c.args.model.now c.args.types.now c.args.scopes.now.bits tokens tree (get_or tokens 0 c.index-tokens-first.result) c.resolved.result
    (record {
      end = c.in-Ok.parsed.next;
      last = omega (arith, spells.within, c.if-behind-tokens.false);
      spells = subst (λ n. kinds (take n tokens) ≡ spelling tree) same spells.same;
      right = c.in-Ok.ensures.right;
      placed = subst (λ n. IsTrue (at_places (pieces tree) (take n tokens))) same c.in-Ok.ensures.placed;
    }) c.requires.some (ap (λ (t : Token). get_or tokens 0 t) c.index-tokens-first.is) c.resolved.ensures

pub returns-in-Err-Refused : goal.returns-in-Err-Refused
returns-in-Err-Refused c = inl (rw c.in-Err-Refused.field-0-is (subst (IsOfTokens root.Expr c.args.tokens.now) c.in-Err-Refused.field-0-is c.in-Err-Refused.ensures.refused))
