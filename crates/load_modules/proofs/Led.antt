-- Where the opens of a loaded model lead.
use Rattle.std.proofs.Common.{◌≡◌, ℕ, List, [], ◌∷◌, ◌++◌, map, length, Option, Some, None, refl, sym, ap, subst, ◌∙◌}
use Rattle.base_types.specs.Texts.{Texts}
use Rattle.syntax_tree.specs.declared.instance.Instance.{Instance}
use Rattle.syntax_tree.specs.declared.instance.Opened.{Opened}
use Rattle.syntax_tree.specs.declared.instance.Text.{Text}
use Rattle.syntax_tree.specs.declared.module.Module.{Module}
use Rattle.load_state.specs.Leads as leads
use Rattle.load_state.specs.Leads.{IsAnswered, LeadsTo, IsLed, IsEnd, no_more, integers, IsOfIntegers, AreLed, AllLed}
use Rattle.load_state.specs.declared.loading.Asked.{Asked}
use Rattle.load_state.specs.declared.loading.Loading.{Loading}
use Rattle.load_state.specs.declared.source.Source.{Source}
use Rattle.load_modules.specs.Led.{IsTextOf, OpensTold, OpensFrom}
use Rattle.load_modules.specs.Reading.{IsModuleOf}
use Rattle.load_modules.specs.Told.{near_name, far_name, texts_in, IsFound, near, far, IsTaken, Knows, Keeps}
use Rattle.load_modules.proofs.Known.{known_answer, knows_has, begun, asked_once}

module _ (P Q : List ℕ → ℕ → Type 0) (on : (path : List ℕ) (n : ℕ) → P path n → Q path n) (instances : List Instance) where
  leads_as : (alias path : List ℕ) (opened : Opened) (target : Instance) → LeadsTo P instances alias path opened target → LeadsTo Q instances alias path opened target
  leads_as alias path opened target is = record { named = is.named; reached = is.reached; found = on path target.text is.found }

  integers_as : (opened : Opened) → IsOfIntegers P instances opened → IsOfIntegers Q instances opened
  integers_as opened is = record { target = is.target; leads = leads_as _ _ opened is.target is.leads; none = is.none }

  end_as : (count : ℕ) (opens : List Opened) → IsEnd P instances count opens → IsEnd Q instances count opens
  end_as count opens (no_more same) = no_more same
  end_as count opens (integers opened same here is) = integers opened same here (integers_as opened is)

  are_as : (texts : List Text) (number : ℕ) (tree : Module) (opens : List Opened) → AreLed P instances texts number tree opens → AreLed Q instances texts number tree opens
  are_as texts number tree opens are = record {
    led = λ k o here.
        let is = are.led k o here in
        (is.0, is.1, record { target = is.2.target; leads = leads_as _ _ is.0 is.2.target is.2.leads; given = is.2.given });
    ends = end_as _ opens are.ends;
  }

  all_as : (texts : List Text) → AllLed P instances texts → AllLed Q instances texts
  all_as texts all number i here t at = are_as texts number t.tree i.opens (all number i here t at)

-- what was answered is what is found
answered : (told : List Texts) (root : List ℕ) (first : Text) (loading : Loading) → Knows told root first loading → (path : List ℕ) (n : ℕ) → IsAnswered loading.asked.items root path n →
    IsTextOf told root (texts_in loading) path n
answered told root first loading knows path n (leads.near is) =
    let named = known_answer told root first loading (near_name root path) (Some n) knows is in
    (near_name root path, named, near (knows_has told root first loading n (near_name root path) knows named) refl)
answered told root first loading knows path n (leads.far none is) =
    let absent = known_answer told root first loading (near_name root path) None knows none in
    let named = known_answer told root first loading (far_name path) (Some n) knows is in
    (far_name path, named, far absent (knows_has told root first loading n (far_name path) knows named) refl)

-- the opens of a model
pub opens_from : (held : List (Option Texts)) (root : List ℕ) (old new : Loading) (texts : List Text) (instances : List Instance) → Keeps held root old new → AllLed (IsAnswered new.asked.items root) instances texts →
    texts ≡ map (λ s. s.text) new.sources.items → OpensFrom held root old texts instances
unfolding Keeps OpensFrom
opens_from held root old new texts instances keeps all are told first tells knows =
    let known = keeps told first tells knows in
    let found : (path : List ℕ) (n : ℕ) → IsAnswered new.asked.items root path n → IsTextOf told root texts path n = λ path n is.
    subst (λ (ts : List Text). IsTextOf told root ts path n) (sym are) (answered told root first new known path n is) in
    all_as (IsAnswered new.asked.items root) (IsTextOf told root texts) found instances texts all

pub opens_tree : (held : List (Option Texts)) (root : List ℕ) (loading : Loading) (texts : List Text) (instances : List Instance) (source : Source) (before : List Source) (before_asked : List Asked) →
    OpensFrom held root loading texts instances → loading.sources.items ≡ before ++ source ∷ [] → before ≡ [] → source.text.name ≡ root →
    loading.asked.items ≡ before_asked ++ record { name = root; text = Some 0 } ∷ [] → before_asked ≡ [] → OpensTold held root texts instances
unfolding OpensFrom OpensTold
opens_tree held root loading texts instances source before before_asked opens is none named asked none_asked told tells =
    let sources : loading.sources.items ≡ source ∷ [] = is ∙ ap (λ (ss : List Source). ss ++ source ∷ []) none in
    let noted : loading.asked.items ≡ asked_once root 0 = asked ∙ ap (λ (xs : List Asked). xs ++ asked_once root 0) none_asked in
    opens told source.text tells (begun told root source.text loading (ap (λ (ss : List Source). map (λ (s : Source). s.text) ss) sources) named noted)

pub opens_given : (held : List (Option Texts)) (root : List ℕ) (loading : Loading) (texts : List Text) (instances : List Instance) (bytes : List ℕ) (number : ℕ) (before : List Source) (before_asked : List Asked) →
    OpensFrom held root loading texts instances → IsTaken bytes root number (map (λ s. s.text) before) (texts_in loading) → before ≡ [] → number ≡ length before →
    loading.asked.items ≡ before_asked ++ record { name = root; text = Some number } ∷ [] → before_asked ≡ [] → OpensTold held root texts instances
unfolding OpensFrom OpensTold
opens_given held root loading texts instances bytes number before before_asked opens taken none last asked none_asked told tells =
    let first : number ≡ 0 = last ∙ ap length none in
    let added : texts_in loading ≡ taken.text ∷ [] = taken.added ∙ ap (λ (ss : List Source). map (λ (s : Source). s.text) ss ++ taken.text ∷ []) none in
    let noted : loading.asked.items ≡ asked_once root 0 =
    asked ∙ (ap (λ (xs : List Asked). xs ++ asked_once root number) none_asked ∙ ap (λ (n : ℕ). asked_once root n) first) in
    opens told taken.text tells (begun told root taken.text loading added taken.named noted)

pub opens_same : (held between : List (Option Texts)) (root : List ℕ) (texts : List Text) (instances : List Instance) → OpensTold between root texts instances → between ≡ held → OpensTold held root texts instances
unfolding OpensTold
opens_same held between root texts instances opens same told tells = opens told (same ∙ tells)
