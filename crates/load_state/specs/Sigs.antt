-- The sigs that a text declares, and the parameters of its module, by their names.
use Rattle.std.specs.Prelude.{ℕ, Bool, true, false, List, [], ◌∷◌, map, Option, Some, None}
use Rattle.std.specs.List.{flat_map, list_any}
use Rattle.syntax_tree.specs.declared.expr.Named.{Named}
use Rattle.syntax_tree.specs.declared.module.Header.{Header}
use Rattle.syntax_tree.specs.declared.module.Module.{Module}
use Rattle.syntax_tree.specs.declared.module.Paragraph.{Paragraph}
use Rattle.syntax_tree.specs.declared.module.Paragraph.TheVariants as paragraph
use Rattle.syntax_tree.specs.declared.module.Qualifier.{Qualifier}
use Rattle.syntax_tree.specs.declared.module.Qualifier.TheVariants as qualifier
use Rattle.load_state.specs.declared.table.DeclaredSig.{DeclaredSig}

abbrev pub is_private : Qualifier → Bool
is_private qualifier.Private = true
is_private _ = false

abbrev pub declared_as : Bool → Named → DeclaredSig
declared_as is_private n = record { name = n.name; is_private = is_private }

abbrev pub declared_in : Paragraph → List DeclaredSig
declared_in (paragraph.Sig g) = map (declared_as (list_any is_private g.qualifiers)) g.names
declared_in (paragraph.Enum e) = declared_as false e.name ∷ map (declared_as false) e.members
declared_in _ = []

-- the sigs of a text in their order, an enum before its members
abbrev pub sigs_of : Module → List DeclaredSig
sigs_of m = flat_map declared_in m.paragraphs

abbrev pub header_names : Option Header → List (List ℕ)
header_names None = []
header_names (Some h) = map (λ p. p.name.name) h.parameters

abbrev pub parameters_of : Module → List (List ℕ)
parameters_of m = header_names m.header
