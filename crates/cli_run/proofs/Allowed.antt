-- Which answers the settings allow, from what came of the files.
use Rattle.std.proofs.Common.{◌≡◌, ◌≢◌, ℕ, List, [], ◌∷◌, map, Option, Some, None, Vec, Global, IfOk, Result, Ok, Err, cond, not, true, is_some, refl, sym, ap, ◌∙◌, subst, inl, inr}
use Rattle.std.specs.declared.alloc.AllocError.{AllocError}
use Rattle.base_types.specs.Causes.{SomeRose}
use Rattle.base_types.specs.Texts as texts
use Rattle.base_types.specs.Texts.{Texts}
use Rattle.base_types.specs.declared.limits.TheConstants.{MODULE_BYTES, FILE_BYTES}
use Rattle.base_types.specs.declared.place.Rule.{Rule}
use Rattle.cli_words.specs.declared.named.Mode.{Mode}
use Rattle.cli_words.specs.declared.named.Mode.TheVariants.{Exec, Commands, Lrat, Make, Replay, Eval, Least, Core}
use Rattle.cli_words.specs.Named.{takes_second}
use Rattle.cli_words.specs.Settings.{has_second}
use Rattle.cli_words.specs.declared.settings.Settings.{Settings}
use Rattle.cli_model.specs.Files.{Asked, IsFile, asked, asked_in, second_asked, at_start, file_rule, first_broken, first_of}
use Rattle.cli_model.specs.Made.{IsOnRing}
use Rattle.cli_model.specs.Model.{IsOnModel}
use Rattle.cli_run.specs.Allowed.{AllowsFiles, IsOnProof, IsCheckedIn, RefusedFor, model_in, model_of}
use Rattle.cli_model.specs.Loads.{IsLoadedIn}
use Rattle.cli_model.specs.Refused.{RefusedIn}
use Rattle.cli_model.specs.Root.{ListsModule}
use Rattle.cli_model.specs.declared.answer.Answer.{Answer}
use Rattle.cli_model.specs.declared.answer.Answer.TheVariants.{Usage, Refused, ReadFault, Trace, Refuted, Unknown, Made, Listed, Checked, Traced}
use Rattle.cli_model.specs.declared.files.File.TheVariants.{Whole, Broken}

module _ (settings : Settings) (held : List (Option Texts)) (before now : List ℕ) where
  -- an answer on the text of a model, once all files are whole
  pub on_model : (text : List ℕ) → ((told : List Texts) → held ≡ map (λ t. Some t) told → model_of told settings ≡ Some text) → (a : Answer) →
      IsOnModel settings held text before now a → AllowsFiles [] settings held before now a
  on_model text is Usage h = absurd h
  on_model text is (Refused refusal name) h = (h.0, λ told tells. subst (λ o. RefusedIn held o settings refusal name) (sym (is told tells)) h.1)
  on_model text is (ReadFault name) h = (inr h.0, h.1)
  on_model text is (Trace bytes) h = (h.0, h.2, record { mode = h.1; whole = λ told tells. refl; loads = λ told tells. subst (λ o. IsLoadedIn held settings.file o h.2) (sym (is told tells)) h.3 }, h.4)
  on_model text is (Refuted bytes) h = (h.0, h.2, record { mode = h.1; whole = λ told tells. refl; loads = λ told tells. subst (λ o. IsLoadedIn held settings.file o h.2) (sym (is told tells)) h.3 }, h.4)
  on_model text is (Unknown bytes) h = (h.0, h.2, record { mode = h.1; whole = λ told tells. refl; loads = λ told tells. subst (λ o. IsLoadedIn held settings.file o h.2) (sym (is told tells)) h.3 }, h.4)
  on_model text is (Made bytes) h = absurd h
  on_model text is (Listed list) h = (h.0, record { mode = h.1; whole = λ told tells. refl; lists = λ told tells. subst (λ o. ListsModule o list) (sym (is told tells)) h.2 })
  on_model text is (Checked verdict clauses lines) h = absurd h
  on_model text is (Traced said second) h = (h.0, h.1, record { whole = λ told tells. refl; loads = λ told tells. subst (λ o. IsLoadedIn held settings.file o h.1) (sym (is told tells)) h.2 }, h.3)

  -- a file that breaks a rule as a whole is refused
  pub on_broken : (name : List ℕ) (most : ℕ) (files : List Asked) (rule : Rule) → IsFile held name most before now (Broken rule) →
      AllowsFiles ((name, most) ∷ files) settings held before now (Refused (at_start rule) name)
  on_broken name most files rule h = (
    h.0,
    λ told tells. subst (λ o. RefusedFor held (first_of o name (first_broken told files)) (model_of told settings) settings (at_start rule) name) (sym (h.1 told tells)) (refl, refl),
  )

  pub on_failed : (name : List ℕ) (most : ℕ) (files : List Asked) → SomeRose before now → AllowsFiles ((name, most) ∷ files) settings held before now (ReadFault name)
  on_failed name most files h = (inl (inl refl), h)

  -- after a file that is whole, what the other files allow
  pub on_whole : (name : List ℕ) (most : ℕ) (files : List Asked) (a : Answer) → ((told : List Texts) → held ≡ map (λ t. Some t) told → file_rule told (name, most) ≡ None) →
      AllowsFiles files settings held before now a → AllowsFiles ((name, most) ∷ files) settings held before now a
  on_whole name most files Usage whole h = absurd h
  on_whole name most files (Refused refusal n) whole h = (
    h.0,
    λ told tells. subst (λ o. RefusedFor held (first_of o name (first_broken told files)) (model_of told settings) settings refusal n) (sym (whole told tells)) (h.1 told tells),
  )
  on_whole name most files (ReadFault n) whole h = (elim h.0 [ inl one ↦ inl (inr one) | inr other ↦ inr other ], h.1)
  on_whole name most files (Trace text) whole h = (
    h.0,
    h.1,
    record { mode = h.2.mode; whole = λ told tells. ap (λ o. first_of o name (first_broken told files)) (whole told tells) ∙ h.2.whole told tells; loads = h.2.loads },
    h.3,
  )
  on_whole name most files (Refuted text) whole h = (
    h.0,
    h.1,
    record { mode = h.2.mode; whole = λ told tells. ap (λ o. first_of o name (first_broken told files)) (whole told tells) ∙ h.2.whole told tells; loads = h.2.loads },
    h.3,
  )
  on_whole name most files (Unknown text) whole h = (
    h.0,
    h.1,
    record { mode = h.2.mode; whole = λ told tells. ap (λ o. first_of o name (first_broken told files)) (whole told tells) ∙ h.2.whole told tells; loads = h.2.loads },
    h.3,
  )
  on_whole name most files (Made text) whole h = h
  on_whole name most files (Listed list) whole h = (
    h.0,
    record { mode = h.1.mode; whole = λ told tells. ap (λ o. first_of o name (first_broken told files)) (whole told tells) ∙ h.1.whole told tells; lists = h.1.lists },
  )
  on_whole name most files (Checked verdict clauses lines) whole h = (
    h.0,
    record {
      mode = h.1.mode;
      first = h.1.first;
      second = h.1.second;
      whole = λ told tells. ap (λ o. first_of o name (first_broken told files)) (whole told tells) ∙ h.1.whole told tells;
      checked = h.1.checked;
    },
  )
  on_whole name most files (Traced said second) whole h = (
    h.0,
    h.1,
    record { whole = λ told tells. ap (λ o. first_of o name (first_broken told files)) (whole told tells) ∙ h.2.whole told tells; loads = h.2.loads },
    h.3,
  )

-- a mode on one model asks for that model
asked_in_one : (m : Mode) (file : List ℕ) (second : Option (List ℕ)) → m ≢ Make → m ≢ Lrat → asked_in m file second ≡ (file, MODULE_BYTES) ∷ []
asked_in_one Exec file second make lrat = refl
asked_in_one Commands file second make lrat = refl
asked_in_one Lrat file second make lrat = absurd (lrat refl)
asked_in_one Make file second make lrat = absurd (make refl)
asked_in_one Replay file second make lrat = refl
asked_in_one Eval file second make lrat = refl
asked_in_one Least file second make lrat = refl
asked_in_one Core file second make lrat = refl

pub asked_model : (settings : Settings) → settings.mode ≢ Make → settings.mode ≢ Lrat → asked settings ≡ (settings.file, MODULE_BYTES) ∷ []
asked_model settings make lrat = asked_in_one settings.mode settings.file settings.second make lrat

pub asked_lrat : (settings : Settings) → settings.mode ≡ Lrat → asked settings ≡ (settings.file, FILE_BYTES) ∷ second_asked settings.second
asked_lrat settings lrat = ap (λ m. asked_in m settings.file settings.second) lrat

-- what holds of each value that r is, holds of the one that is returned
pub if_ok : {T : Type 0} (P : T → Type 0) (r : Result T AllocError) (x : T) → IfOk r P → r ≡ Ok x → P x
if_ok P (Ok y) x h is = subst P (cc is) h
if_ok P (Err e) x h is = cc

module _ (settings : Settings) (held : List (Option Texts)) (before now : List ℕ) (name : List ℕ) (most : ℕ) (files rest : List Asked) (asks : files ≡ (name, most) ∷ rest)
    (r : Result Answer AllocError) (answer : Answer) (is : r ≡ Ok answer) where
  pub broken_allows : (rule : Rule) → IsFile held name most before now (Broken rule) → IfOk r (λ a. a ≡ Refused (at_start rule) name) → AllowsFiles files settings held before now answer
  broken_allows rule file refuses =
      let refusal : answer ≡ Refused (at_start rule) name = if_ok (λ a. a ≡ Refused (at_start rule) name) r answer refuses is in
      subst (λ fs. AllowsFiles fs settings held before now answer) (sym asks)
      (subst (λ a. AllowsFiles ((name, most) ∷ rest) settings held before now a) (sym refusal) (on_broken settings held before now name most rest rule file))

  pub failed_allows : SomeRose before now → IfOk r (λ a. a ≡ ReadFault name) → AllowsFiles files settings held before now answer
  failed_allows rose fails =
      let fault : answer ≡ ReadFault name = if_ok (λ a. a ≡ ReadFault name) r answer fails is in
      subst (λ fs. AllowsFiles fs settings held before now answer) (sym asks)
      (subst (λ a. AllowsFiles ((name, most) ∷ rest) settings held before now a) (sym fault) (on_failed settings held before now name most rest rose))

-- a mode that asks for one model reads it
model_in_one : (m : Mode) (file : List ℕ) (second : Option (List ℕ)) → asked_in m file second ≡ (file, MODULE_BYTES) ∷ [] → m ≢ Lrat → (text : Option (List ℕ)) → model_in m text ≡ text
model_in_one Exec file second asks lrat text = refl
model_in_one Commands file second asks lrat text = refl
model_in_one Lrat file second asks lrat text = absurd (lrat refl)
model_in_one Make file second asks lrat text = cc
model_in_one Replay file second asks lrat text = refl
model_in_one Eval file second asks lrat text = refl
model_in_one Least file second asks lrat text = refl
model_in_one Core file second asks lrat text = refl

-- the model is whole, and the answer is one on its text
pub whole_allows : (settings : Settings) (held later : List (Option Texts)) (before mid now : List ℕ) → asked settings ≡ (settings.file, MODULE_BYTES) ∷ [] → settings.mode ≢ Lrat →
    (r : Result Answer AllocError) (answer : Answer) → r ≡ Ok answer → (text : Vec ℕ Global) → IsFile held settings.file MODULE_BYTES before mid (Whole text) → later ≡ held →
    IfOk r (IsOnModel settings later text.items mid now) → AllowsFiles (asked settings) settings held before now answer
whole_allows settings held later before mid now asks lrat r answer is text file keeps on =
    let reads : (told : List Texts) → held ≡ map (λ t. Some t) told → model_of told settings ≡ Some text.items =
    λ told tells. model_in_one settings.mode settings.file settings.second asks lrat (texts.text_of told settings.file) ∙ (file.1 told tells).0 in
    let one : IsOnModel settings held text.items mid now answer =
    subst (λ h. IsOnModel settings h text.items mid now answer) keeps (if_ok (IsOnModel settings later text.items mid now) r answer on is) in
    subst (λ fs. AllowsFiles fs settings held before now answer) (sym asks)
    (on_whole settings held before now settings.file MODULE_BYTES [] answer (λ told tells. (file.1 told tells).1)
    (subst (λ ns. AllowsFiles [] settings held ns now answer) file.0 (on_model settings held mid now text.items reads answer one)))

-- a file is whole, and the answer is one that the others allow
pub then_allows : (settings : Settings) (held later : List (Option Texts)) (before mid now : List ℕ) (name : List ℕ) (most : ℕ) (files rest : List Asked) → files ≡ (name, most) ∷ rest →
    (answer : Answer) (text : Vec ℕ Global) → IsFile held name most before mid (Whole text) → later ≡ held → AllowsFiles rest settings later mid now answer →
    AllowsFiles files settings held before now answer
then_allows settings held later before mid now name most files rest asks answer text file keeps allows =
    subst (λ fs. AllowsFiles fs settings held before now answer) (sym asks)
    (on_whole settings held before now name most rest answer (λ told tells. (file.1 told tells).1)
    (subst (λ ns. AllowsFiles rest settings held ns now answer) file.0 (subst (λ h. AllowsFiles rest settings h mid now answer) keeps allows)))

-- both files are whole, and the answer is the verdict on them
pub proof_allows : (settings : Settings) (held : List (Option Texts)) (before now : List ℕ) (name : List ℕ) (most : ℕ) → settings.mode ≡ Lrat → settings.second ≡ Some name →
    (clauses : List ℕ) → ((told : List Texts) → held ≡ map (λ t. Some t) told → texts.text_of told settings.file ≡ Some clauses) → (text : Vec ℕ Global) → IsFile held name most before now (Whole text) →
    (answer : Answer) → IsOnProof settings name clauses text.items answer → AllowsFiles ((name, most) ∷ []) settings held before now answer
proof_allows settings held before now name most mode second clauses tells text file answer on =
    subst (λ a. AllowsFiles ((name, most) ∷ []) settings held before now a) (sym on.says_so) (
      file.0,
      record {
        mode = mode;
        first = refl;
        second = second;
        whole = λ told tell. ap (λ o. first_of o name None) (file.1 told tell).1;
        checked = λ told tell. subst (λ o. IsCheckedIn o (texts.text_of told name) on.verdict) (sym (tells told tell))
            (subst (λ o. IsCheckedIn (Some clauses) o on.verdict) (sym (file.1 told tell).0) on.checked);
      },
    )

-- a mode that takes a second file has one
pub has_one : (settings : Settings) → settings.mode ≡ Lrat → has_second settings ≡ true → is_some settings.second ≡ true
has_one settings mode has = subst (λ m. cond (takes_second m) (is_some settings.second) (not (is_some settings.second)) ≡ true) mode has

-- the answer on a model that is made
ring_one : (settings : Settings) (held : List (Option Texts)) (before now : List ℕ) → settings.mode ≡ Make → (a : Answer) → IsOnRing held settings before now a → AllowsFiles [] settings held before now a
ring_one settings held before now mode Usage h = absurd h
ring_one settings held before now mode (Refused refusal name) h = (h.0, λ told tells. inr (inr (mode, h.1)))
ring_one settings held before now mode (ReadFault name) h = (inr (inr (inl (mode, h.0))), h.1)
ring_one settings held before now mode (Trace text) h = absurd h
ring_one settings held before now mode (Refuted text) h = absurd h
ring_one settings held before now mode (Unknown text) h = absurd h
ring_one settings held before now mode (Made text) h = (h.0, mode, h.1)
ring_one settings held before now mode (Listed list) h = absurd h
ring_one settings held before now mode (Checked verdict clauses lines) h = absurd h
ring_one settings held before now mode (Traced said second) h = absurd h

pub ring_allows : (settings : Settings) (held : List (Option Texts)) (before now : List ℕ) → settings.mode ≡ Make → (r : Result Answer AllocError) (answer : Answer) → r ≡ Ok answer →
    IfOk r (IsOnRing held settings before now) → AllowsFiles (asked settings) settings held before now answer
ring_allows settings held before now mode r answer is on =
    let none : asked settings ≡ [] = ap (λ m. asked_in m settings.file settings.second) mode in
    subst (λ fs. AllowsFiles fs settings held before now answer) (sym none)
    (ring_one settings held before now mode answer (if_ok (IsOnRing held settings before now) r answer on is))
