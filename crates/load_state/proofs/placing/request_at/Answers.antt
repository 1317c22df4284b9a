use Rattle.std.proofs.Common.{arith, ◌≡◌, ℕ, List, length, Some, refl, ap, subst, slice_get}
use Rattle.std.proofs.lemmas.Option.{slice_get_read}
use Rattle.std.proofs.lemmas.Result.{IfOk-weaker, IfErr-weaker}
use Rattle.syntax_tree.specs.declared.module.Open.{Open}
use Rattle.load_state.specs.Keys.{texts_of, text_at}
use Rattle.load_state.specs.Opens.{written, implied, AsksFor, IsAsked}
use Rattle.load_state.specs.Places.{IsAtOpen, IsInText}
use Rattle.load_state.proofs.Opens.{asked_written, asked_implied}
use Rattle.load_state.proofs.Refusals.{refused_written}
use Rattle.load_state.proofs.placing.request_at.Goals as goal

pub returns-then-number-written-clause-refused : goal.returns-then-number-written-clause-refused
returns-then-number-written-clause-refused c =
    let o = c.index-written-number.result in
    let t = c.in_ok-source.source.now.text in
    let found = text_at c.args.loading.now.keys.items (texts_of c.args.loading.now.sources.items) c.args.instance in
    let here : slice_get t.tree.opens c.args.number ≡ Some o =
    subst (λ (os : List Open). slice_get os c.args.number ≡ Some o) c.as_slice-written.ensures
    (slice_get_read c.as_slice-written.result.now (length c.as_slice-written.result.now) c.args.number o refl (omega arith) c.index-written-number.is) in
    IfErr-weaker c.written_request.result (IsAtOpen t.name o) (IsInText found) (λ fault at. refused_written t.name t found c.args.number o fault at here c.in_ok-source.ensures refl) c.written_request.ensures.refused

pub returns-then-number-written-clause-asked : goal.returns-then-number-written-clause-asked
returns-then-number-written-clause-asked c =
    let o = c.index-written-number.result in
    let t = c.in_ok-source.source.now.text in
    let found = text_at c.args.loading.now.keys.items (texts_of c.args.loading.now.sources.items) c.args.instance in
    let here : slice_get t.tree.opens c.args.number ≡ Some o =
    subst (λ (os : List Open). slice_get os c.args.number ≡ Some o) c.as_slice-written.ensures
    (slice_get_read c.as_slice-written.result.now (length c.as_slice-written.result.now) c.args.number o refl (omega arith) c.index-written-number.is) in
    IfOk-weaker c.written_request.result (AsksFor c.in_ok-small.field-0 (written o)) (IsAsked found c.args.instance c.args.number)
    (λ r asks. asked_written t found c.args.instance c.args.number o r c.in_ok-source.ensures here (subst (λ (n : ℕ). AsksFor n (written o) r) c.in_ok-small.ensures asks)) c.written_request.ensures.asked

pub returns-in-Some-clause-asked : goal.returns-in-Some-clause-asked
returns-in-Some-clause-asked c =
    let e = c.in-Some.enumerated in
    let t = c.in_ok-source.source.now.text in
    let found = text_at c.args.loading.now.keys.items (texts_of c.args.loading.now.sources.items) c.args.instance in
    IfOk-weaker c.implied_request.result (AsksFor c.in_ok-small.field-0 (implied e)) (IsAsked found c.args.instance c.args.number)
    (λ r asks. asked_implied t found c.args.instance c.args.number _ e r c.enum_at.result c.in_ok-source.source.now.table.enums.items c.in_ok-source.ensures c.enum_at.ensures c.in-Some.is
    c.in_ok-source.source.now.implies (omega (arith, ap length c.as_slice-written.ensures)) (subst (λ (n : ℕ). AsksFor n (implied e) r) c.in_ok-small.ensures asks))
    c.implied_request.ensures.asked
