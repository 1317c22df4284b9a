use Rattle.std.proofs.Common.{arith, ◌≡◌, ◌∙◌, ◌∷◌, [], ◌-◌, ℕ, List, take, drop, length, ap, sym, subst}
use Rattle.load_state.specs.Doors.{TellsOf}
use Rattle.load_state.specs.Named.{NamesBy, front_of}
use Rattle.load_state.specs.Names.{last_part}
use Rattle.load_state.proofs.Told.{nil_of, cons_of, rest_of, behind_seen}
use Rattle.load_state.proofs.argument.sigs_named.Goals as goal

pub returns-in-empty : goal.returns-in-empty
returns-in-empty c = λ instances texts k stands.
    let name = c.args.name.now in
    let o = c.args.opener in
    let result = c.named_alone.result in
    let front : front_of name.parts ≡ [] = ap front_of (sym c.as_slice-2.ensures) ∙ (sym c.front_of.ensures ∙ nil_of c.front_of.result.now (omega (arith, c.in-empty.len_below))) in
    let last : c.last_part-last.result.now ≡ last_part name.parts = c.last_part-last.ensures ∙ ap last_part c.as_slice.ensures in
    subst (λ (f : List (List ℕ)). TellsOf (NamesBy instances texts o.number k name.is_own f (last_part name.parts)) o.arguments.now result.count result.last) (sym front)
    (subst (λ (p : List ℕ). TellsOf (NamesBy instances texts o.number k name.is_own [] p) o.arguments.now result.count result.last) last (c.named_alone.ensures instances texts k stands))

pub returns-in-len1-up : goal.returns-in-len1-up
returns-in-len1-up c = λ instances texts k stands.
    let name = c.args.name.now in
    let o = c.args.opener in
    let result = c.seen_among.result in
    let parts = c.front_of.result.now in
    let first = c.first-item.result in
    let rest = take (length parts - 1) (drop 1 parts) in
    let whole : parts ≡ first ∷ rest = cons_of parts first (omega (arith, c.in-len1-up.len_at_least)) c.first-item.is ∙ ap (λ (r : List (List ℕ)). first ∷ r) (sym (rest_of parts)) in
    let front : front_of name.parts ≡ first ∷ rest = ap front_of (sym c.as_slice-2.ensures) ∙ (sym c.front_of.ensures ∙ whole) in
    let last : c.last_part-last.result.now ≡ last_part name.parts = c.last_part-last.ensures ∙ ap last_part c.as_slice.ensures in
    subst (λ (f : List (List ℕ)). TellsOf (NamesBy instances texts o.number k name.is_own f (last_part name.parts)) o.arguments.now result.count result.last) (sym front)
    (subst (λ (p : List ℕ). TellsOf (NamesBy instances texts o.number k name.is_own (first ∷ rest) p) o.arguments.now result.count result.last) last
    (behind_seen instances texts k o stands c.through.result first rest name.is_own c.last_part-last.result.now result.count result.last
    (λ l. c.through.ensures instances texts k l stands) (c.seen_among.ensures instances texts k stands)))
