use Rattle.std.proofs.Common.{rules, ◌≡◌, ℕ, List, None, map, sym, ap, subst, ◌∙◌}
use Rattle.load_state.specs.Keys.{answer_in}
use Rattle.load_state.specs.declared.loading.Asked.{Asked}
use Rattle.load_state.specs.declared.source.Source.{Source}
use Rattle.load_modules.specs.Told.{IsTaken, texts_in}
use Rattle.load_modules.proofs.Known.{learns_again, learns_found}
use Rattle.load_modules.proofs.walk.ask.Goals as goal

pub returns-in-Some-clause-answer : goal.returns-in-Some-clause-answer
returns-in-Some-clause-answer g c =
    learns_again (g.L.Libraries.told c.args.libraries.now) c.args.root.now c.args.name.now c.args.loading.now c.in-Some.answer
    (ap (λ (xs : List Asked). answer_in xs c.args.name.now) (sym c.deref.ensures.value) ∙ (sym c.answer_to.ensures ∙ c.in-Some.is))

pub returns-in_ok-answer-in-Some-2-clause-answer : goal.returns-in_ok-answer-in-Some-2-clause-answer
returns-in_ok-answer-in-Some-2-clause-answer g c =
    let none : c.answer_to.result ≡ None = search rules in
    learns_found (g.L.Libraries.told c.args.libraries.now) c.args.root.now c.args.name.now c.args.loading.now _ c.in_ok-fetch_text.field-0 c.in-Some-2.bytes c.in_ok-number-in-Some-2.number c.in_ok-answer-in-Some-2.answer
    c.in_ok-fetch_text.ensures.answer c.in-Some-2.is (ap (λ (xs : List Asked). answer_in xs c.args.name.now) (sym c.deref.ensures.value) ∙ (sym c.answer_to.ensures ∙ none)) c.requires
    c.in_ok-number-in-Some-2.ensures.number
    (subst (λ (b : List ℕ). IsTaken b c.args.name.now c.in_ok-number-in-Some-2.number (texts_in c.args.loading.now) (map (λ (s : Source). s.text) c.take_in.new.sources.items)) c.deref-in-Some-2.ensures.value
    c.in_ok-number-in-Some-2.ensures.taken)
    c.in_ok-answer-in-Some-2.ensures.noted c.in_ok-answer-in-Some-2.ensures.same
