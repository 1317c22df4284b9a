use Rattle.std.proofs.Common.{◌∷◌, [], ◌∙◌, sym, ap}
use Rattle.syntax_tree.specs.declared.token.Token.{Token}
use Rattle.syntax_lexer.specs.declared.piece.Piece.TheVariants as p
use Rattle.syntax_lexer.specs.Tokens.{with_front}
use Rattle.syntax_lexer.proofs.Steps.{goes, rest_after, with_front-append}
use Rattle.syntax_lexer.proofs.scan.step.Goals as goal

pub returns-in-Gap-clause-told : goal.returns-in-Gap-clause-told
returns-in-Gap-clause-told c =
    let z = c.args.rest.now in
    let within = rw c.in-Gap.is at c.in_ok-len.ensures.within in
    ap (with_front c.args.found.now.items) (goes c.args.place z (p.Gap c.in-Gap.len) c.requires.some (sym c.in_ok-len.ensures.value ∙ c.in-Gap.is) within)

pub returns-in_ok-push-in-Token-clause-told : goal.returns-in_ok-push-in-Token-clause-told
returns-in_ok-push-in-Token-clause-told c =
    let z = c.args.rest.now in
    let had = c.args.found.now.items in
    let within = rw c.in-Token.is at c.in_ok-len.ensures.within in
    let token : Token = record { kind = c.in-Token.kind; place = c.args.place } in
    ap (with_front had) (goes c.args.place z (p.Token c.in-Token.kind c.in-Token.len) c.requires.some (sym c.in_ok-len.ensures.value ∙ c.in-Token.is) within)
    ∙ (sym (with_front-append had (token ∷ []) (rest_after c.args.place z c.in-Token.len))
    ∙ ap (λ l. with_front l (rest_after c.args.place z c.in-Token.len)) (sym c.in_ok-push-in-Token.ensures.items))

pub returns-in-Wrong-clause-told : goal.returns-in-Wrong-clause-told
returns-in-Wrong-clause-told c =
    let z = c.args.rest.now in
    ap (with_front c.args.found.now.items) (goes c.args.place z (p.Wrong c.in-Wrong.rule) c.requires.some (sym c.in_ok-len.ensures.value ∙ c.in-Wrong.is) tt)
