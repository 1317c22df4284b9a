use Rattle.std.proofs.Common.{ℕ, List, Some, ◌≡◌, ◌∙◌, codes, subst}
use Rattle.base_types.proofs.Counts.{none_fell_same}
use Rattle.load_modules.specs.Refused.{RefusesGiven}
use Rattle.load_modules.specs.Told.{LoadsGiven}
use Rattle.answer_texts.specs.Ring.{ring_text}
use Rattle.cli_words.specs.Numbers.{number_in}
use Rattle.cli_model.specs.Loads.{IsLoadedText}
use Rattle.cli_model.proofs.OnRing.{made_on, ring_fault_on}
use Rattle.cli_model.proofs.ring.make.Goals as goal

pub returns-in_default-clause-later : goal.returns-in_default-clause-later
returns-in_default-clause-later g c = none_fell_same _

pub returns-in_err-text-clause-later : goal.returns-in_err-text-clause-later
returns-in_err-text-clause-later g c = none_fell_same _

pub returns-in-Ok-clause-on : goal.returns-in-Ok-clause-on
returns-in-Ok-clause-on g c =
    let held = g.L.Libraries.told c.args.libraries.now in
    let told = c.in-Ok.ensures in
    let named : number_in 32 c.args.settings.now.file ≡ Some c.in-Some.nodes = cc (c.text.ensures, c.nodes_in.ensures, c.in-Some.is) in
    let given : IsLoadedText held (codes "make") (ring_text c.in-Some.nodes) c.in-Ok.loaded = record {
      texts = subst (λ (t : List ℕ). LoadsGiven held (codes "make") t c.in-Ok.loaded.texts) (c.deref.ensures.value ∙ c.in_ok-text.ensures) told.texts;
      opens = told.opens;
      distinct = told.distinct;
      named = told.named;
      reached = told.reached;
      numbered = told.numbered;
    } in
    made_on held c.args.settings.now (g.L.Libraries.counts c.args.libraries.now) _ c.in-Some.nodes c.in-Ok.loaded c.made.result told.cause named given c.made.ensures

pub returns-in-Err-clause-on : goal.returns-in-Err-clause-on
returns-in-Err-clause-on g c =
    let held = g.L.Libraries.told c.args.libraries.now in
    let named : number_in 32 c.args.settings.now.file ≡ Some c.in-Some.nodes = cc (c.text.ensures, c.nodes_in.ensures, c.in-Some.is) in
    let why = subst (λ (t : List ℕ). RefusesGiven held (codes "make") t c.in-Err.fault) (c.deref.ensures.value ∙ c.in_ok-text.ensures) c.in-Err.ensures.refused in
    ring_fault_on held c.args.settings.now (g.L.Libraries.counts c.args.libraries.now) _ c.in-Some.nodes c.not_loaded.result c.in-Err.fault named why c.in-Err.ensures.cause c.not_loaded.ensures
