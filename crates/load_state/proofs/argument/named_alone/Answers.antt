use Rattle.std.proofs.Common.{Bool, [], sym, subst}
use Rattle.load_state.specs.Doors.{TellsOf}
use Rattle.load_state.specs.Named.{NamesBy}
use Rattle.load_state.proofs.Told.{alone_own, alone_brought}
use Rattle.load_state.proofs.argument.named_alone.Goals as goal

pub returns-then-is_own : goal.returns-then-is_own
returns-then-is_own c = λ instances texts k stands.
    subst (λ (b : Bool). TellsOf (NamesBy instances texts c.args.opener.number k b [] c.args.name.now) c.args.opener.arguments.now c.named_here-own.result.count c.named_here-own.result.last) (sym c.if-is_own.true)
    (alone_own instances texts k c.args.opener stands c.args.name.now _ _ (c.named_here-own.ensures instances texts k stands))

pub returns : goal.returns
returns c = λ instances texts k stands.
    subst (λ (b : Bool). TellsOf (NamesBy instances texts c.args.opener.number k b [] c.args.name.now) c.args.opener.arguments.now c.joined.result.count c.joined.result.last) (sym c.if-is_own.false)
    (alone_brought instances texts k c.args.opener stands c.args.name.now _ _ _ _ _ _ c.joined.ensures (c.named_here-own.ensures instances texts k stands) (c.seen_among.ensures instances texts k stands))
