-- Where the texts of a model declare its sigs, its facts and its commands.
use Rattle.std.specs.Prelude.{◌≡◌, ℕ, ◌+◌, List, [], ◌∷◌, ◌++◌, length, map, replicate, Option, Some, None, slice_get}
use Rattle.std.specs.List.{cons_option}
use Rattle.base_types.specs.declared.place.Position.{Position}
use Rattle.syntax_tree.specs.declared.instance.Instance.{Instance}
use Rattle.syntax_tree.specs.declared.instance.Text.{Text}
use Rattle.syntax_tree.specs.declared.loaded.Loaded.{Loaded}
use Rattle.syntax_tree.specs.declared.module.Paragraph.{Paragraph}
use Rattle.syntax_tree.specs.declared.module.Paragraph.TheVariants as paragraph
use Rattle.core_tree.specs.declared.model.Command.{Command}
use Rattle.core_tree.specs.declared.model.Fact.{Fact}
use Rattle.core_tree.specs.declared.model.Model.{Model}
use Rattle.core_tree.specs.declared.model.Origin.{Origin}
use Rattle.core_tree.specs.declared.model.Sig.{Sig}
use Rattle.resolve_places.specs.declared.texts.Kind.{Kind}
use Rattle.resolve_places.specs.declared.texts.Kind.TheVariants.{Sigs, Facts, Commands}

-- how many sigs a paragraph declares, and how many facts and commands
abbrev pub sigs_in : Paragraph → ℕ
sigs_in (paragraph.Sig sig) = length sig.names
sigs_in (paragraph.Enum enumeration) = length enumeration.members + 1
sigs_in _ = 0

abbrev pub facts_in : Paragraph → ℕ
facts_in (paragraph.Fact claim) = 1
facts_in _ = 0

abbrev pub commands_in : Paragraph → ℕ
commands_in (paragraph.Command command) = 1
commands_in _ = 0

abbrev pub count_in : Kind → Paragraph → ℕ
count_in Sigs p = sigs_in p
count_in Facts p = facts_in p
count_in Commands p = commands_in p

-- the place of a paragraph's first token; of a command that of its keyword
abbrev pub place_of : Paragraph → Position
place_of (paragraph.Sig sig) = sig.place
place_of (paragraph.Enum enumeration) = enumeration.place
place_of (paragraph.Fact claim) = claim.place
place_of (paragraph.Assert claim) = claim.place
place_of (paragraph.Pred pred) = pred.place
place_of (paragraph.Fun function) = function.place
place_of (paragraph.Command command) = command.keyword

-- what these paragraphs of an instance declare, in their order: the instance's number and the place, once for each
abbrev pub declared_in : Kind → ℕ → List Paragraph → List Origin
declared_in kind number [] = []
declared_in kind number (p ∷ ps) = replicate (count_in kind p) (record { instance = number; place = place_of p }) ++ declared_in kind number ps

abbrev pub declared_by : Kind → ℕ → Option Text → List Origin
declared_by kind number None = []
declared_by kind number (Some text) = declared_in kind number text.tree.paragraphs

-- what these instances of texts declare, where the first of them has this number
abbrev pub declared_from : Kind → List Text → ℕ → List Instance → List Origin
declared_from kind texts number [] = []
declared_from kind texts number (i ∷ is) = declared_by kind number (slice_get texts i.text) ++ declared_from kind texts (number + 1) is

-- the commands of the root, which is the first instance
abbrev pub root_commands : List Text → List Instance → List Origin
root_commands texts [] = []
root_commands texts (root ∷ others) = declared_by Commands 0 (slice_get texts root.text)

-- where the sigs of a model are declared, but for those that no text declares; its facts; and its commands
abbrev pub sig_origins : List Sig → List Origin
sig_origins [] = []
sig_origins (s ∷ ss) = cons_option s.origin (sig_origins ss)

abbrev pub fact_origin : Fact → Origin
fact_origin f = record { instance = f.instance; place = f.place }

abbrev pub command_origin : Command → Origin
command_origin c = record { instance = 0; place = c.keyword }

-- the sigs and the facts of the model are just those that the texts of all instances declare, and its commands just those of the
-- root, one by one in their order, by their places
pub record IsPlaced (loaded : Loaded) (model : Model) : Type 0 where
  pub sigs : sig_origins model.sigs ≡ declared_from Sigs loaded.texts 0 loaded.instances
  pub facts : map fact_origin model.facts ≡ declared_from Facts loaded.texts 0 loaded.instances
  pub commands : map command_origin model.commands ≡ root_commands loaded.texts loaded.instances
