-- How a loaded model is numbered, where the libraries tell all.
use Rattle.std.proofs.Common.{◌≡◌, ℕ, List, [], ◌∷◌, ◌++◌, map, length, Option, Some, sym, ap, subst, ◌∙◌}
use Rattle.std.specs.Prelude.{codes}
use Rattle.base_types.specs.Texts.{Texts}
use Rattle.syntax_tree.specs.declared.instance.Instance.{Instance}
use Rattle.syntax_tree.specs.declared.instance.Text.{Text}
use Rattle.load_state.specs.declared.loading.Asked.{Asked}
use Rattle.load_state.specs.declared.loading.Loading.{Loading}
use Rattle.load_state.specs.declared.source.Source.{Source}
use Rattle.load_modules.specs.Numbered.{AreNumbered, AreNumberedIn, NumberedTold, NumberedFrom}
use Rattle.load_modules.specs.Reading.{IsModuleOf}
use Rattle.load_modules.specs.Told.{texts_in, IsPathAnswer, IsTaken, Keeps, LearnsPath}
use Rattle.load_modules.proofs.Known.{begun, asked_once}

pub numbered_from : (held between : List (Option Texts)) (root path : List ℕ) (old mid new : Loading) (texts : List Text) (instances : List Instance) (integers : Option ℕ) → Keeps held root old mid →
    LearnsPath between root mid new path integers → between ≡ held → path ≡ codes "util/integer" → AreNumbered instances texts integers → texts ≡ map (λ s. s.text) new.sources.items → NumberedFrom held root old texts instances
unfolding Keeps LearnsPath NumberedFrom
numbered_from held between root path old mid new texts instances integers keeps learns same is_path are all told first tells knows =
    let known = learns told first (same ∙ tells) (keeps told first tells knows) in record {
      integers = integers;
      found = subst (λ (ts : List Text). IsPathAnswer told root ts (codes "util/integer") integers) (sym all) (subst (λ (p : List ℕ). IsPathAnswer told root (texts_in new) p integers) is_path known.1);
      numbered = are;
    }

pub numbered_tree : (held : List (Option Texts)) (root : List ℕ) (loading : Loading) (texts : List Text) (instances : List Instance) (source : Source) (before : List Source) (before_asked : List Asked) →
    NumberedFrom held root loading texts instances → loading.sources.items ≡ before ++ source ∷ [] → before ≡ [] → source.text.name ≡ root →
    loading.asked.items ≡ before_asked ++ record { name = root; text = Some 0 } ∷ [] → before_asked ≡ [] → NumberedTold held root texts instances
unfolding NumberedFrom NumberedTold
numbered_tree held root loading texts instances source before before_asked from is none named asked none_asked told tells =
    let sources : loading.sources.items ≡ source ∷ [] = is ∙ ap (λ (ss : List Source). ss ++ source ∷ []) none in
    let noted : loading.asked.items ≡ asked_once root 0 = asked ∙ ap (λ (xs : List Asked). xs ++ asked_once root 0) none_asked in
    from told source.text tells (begun told root source.text loading (ap (λ (ss : List Source). map (λ (s : Source). s.text) ss) sources) named noted)

pub numbered_given : (held : List (Option Texts)) (root : List ℕ) (loading : Loading) (texts : List Text) (instances : List Instance) (bytes : List ℕ) (number : ℕ) (before : List Source) (before_asked : List Asked) →
    NumberedFrom held root loading texts instances → IsTaken bytes root number (map (λ s. s.text) before) (texts_in loading) → before ≡ [] → number ≡ length before →
    loading.asked.items ≡ before_asked ++ record { name = root; text = Some number } ∷ [] → before_asked ≡ [] → NumberedTold held root texts instances
unfolding NumberedFrom NumberedTold
numbered_given held root loading texts instances bytes number before before_asked from taken none last asked none_asked told tells =
    let first : number ≡ 0 = last ∙ ap length none in
    let added : texts_in loading ≡ taken.text ∷ [] = taken.added ∙ ap (λ (ss : List Source). map (λ (s : Source). s.text) ss ++ taken.text ∷ []) none in
    let noted : loading.asked.items ≡ asked_once root 0 =
    asked ∙ (ap (λ (xs : List Asked). xs ++ asked_once root number) none_asked ∙ ap (λ (n : ℕ). asked_once root n) first) in
    from told taken.text tells (begun told root taken.text loading added taken.named noted)

pub numbered_same : (held between : List (Option Texts)) (root : List ℕ) (texts : List Text) (instances : List Instance) → NumberedTold between root texts instances → between ≡ held → NumberedTold held root texts instances
unfolding NumberedTold
numbered_same held between root texts instances numbered same told tells = numbered told (same ∙ tells)
