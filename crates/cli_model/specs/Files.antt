-- The files that the settings name, and the rules that a file breaks as a whole.
use Rattle.std.specs.Prelude.{◌≡◌, ℕ, ◌⊎◌, cond, nat_le, List, [], ◌∷◌, length, map, Option, Some, None}
use Rattle.base_types.specs.Causes.{SomeRose}
use Rattle.base_types.specs.Texts as texts
use Rattle.base_types.specs.Texts.{Texts}
use Rattle.base_types.specs.declared.limits.TheConstants.{MODULE_BYTES, FILE_BYTES}
use Rattle.base_types.specs.declared.place.Refusal.{Refusal}
use Rattle.base_types.specs.declared.place.Rule.{Rule}
use Rattle.base_types.specs.declared.place.Rule.TheVariants.{NoModule, LargeFile}
use Rattle.cli_words.specs.declared.named.Mode.{Mode}
use Rattle.cli_words.specs.declared.named.Mode.TheVariants.{Exec, Commands, Lrat, Make, Replay, Eval, Least, Core}
use Rattle.cli_words.specs.declared.settings.Settings.{Settings}
use Rattle.cli_model.specs.declared.files.File.{File}
use Rattle.cli_model.specs.declared.files.File.TheVariants.{Whole, Broken, Failed}

-- a name, and how many bytes its text may have
abbrev pub Asked : Type 0
Asked = List ℕ × ℕ

abbrev pub second_asked : Option (List ℕ) → List Asked
second_asked None = []
second_asked (Some name) = (name, FILE_BYTES) ∷ []

abbrev pub asked_in : Mode → List ℕ → Option (List ℕ) → List Asked
asked_in Exec file second = (file, MODULE_BYTES) ∷ []
asked_in Commands file second = (file, MODULE_BYTES) ∷ []
asked_in Lrat file second = (file, FILE_BYTES) ∷ second_asked second
asked_in Make file second = []
asked_in Replay file second = (file, MODULE_BYTES) ∷ []
asked_in Eval file second = (file, MODULE_BYTES) ∷ []
asked_in Least file second = (file, MODULE_BYTES) ∷ []
asked_in Core file second = (file, MODULE_BYTES) ∷ []

-- the files that are asked for before anything else, in their order
abbrev pub asked : Settings → List Asked
asked settings = asked_in settings.mode settings.file settings.second

-- no library has the file, or its text is over the limit
abbrev pub rule_broken : Option (List ℕ) → ℕ → Option Rule
rule_broken None most = Some NoModule
rule_broken (Some text) most = cond (nat_le (length text) most) None (Some LargeFile)

-- the rule that a file breaks as a whole, where the libraries tell these texts
abbrev pub file_rule : List Texts → Asked → Option Rule
file_rule told file = rule_broken (texts.text_of told file.0) file.1

abbrev pub first_of : Option Rule → List ℕ → Option (Rule × List ℕ) → Option (Rule × List ℕ)
first_of None name later = later
first_of (Some rule) name later = Some (rule, name)

-- the rule that the first of these files to break one breaks, and that file's name
abbrev pub first_broken : List Texts → List Asked → Option (Rule × List ℕ)
first_broken told [] = None
first_broken told (file ∷ files) = first_of (file_rule told file) file.0 (first_broken told files)

-- a refusal of a text as a whole stands at its beginning
abbrev pub at_start : Rule → Refusal
at_start rule = record { rule = rule; place = record { «module» = 0; line = 1; column = 1 } }

-- the name is one of these files'
abbrev pub IsAsked : List ℕ → List Asked → Type 0
IsAsked name [] = ⊥
IsAsked name (file ∷ files) = (name ≡ file.0) ⊎ IsAsked name files

-- what is known of a file once it was asked for: its whole text, the rule that it breaks, or that a library failed
abbrev pub IsFile : List (Option Texts) → List ℕ → ℕ → List ℕ → List ℕ → File → Type 0
IsFile held name most before now (Whole text) =
    (now ≡ before) × ((told : List Texts) → held ≡ map (λ t. Some t) told → (texts.text_of told name ≡ Some text.items) × (file_rule told (name, most) ≡ None))
IsFile held name most before now (Broken rule) =
    (now ≡ before) × ((told : List Texts) → held ≡ map (λ t. Some t) told → file_rule told (name, most) ≡ Some rule)
IsFile held name most before now Failed = SomeRose before now
