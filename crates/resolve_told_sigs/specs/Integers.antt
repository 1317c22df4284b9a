-- The integers that are opened implicitly.
use Rattle.std.specs.Prelude.{ℕ, ◌+◌, List, [], ◌∷◌, length, Option, None, slice_get}
use Rattle.std.specs.Option.{option_map}
use Rattle.syntax_tree.specs.declared.module.Module.{Module}
use Rattle.syntax_tree.specs.declared.module.Paragraph.{Paragraph}
use Rattle.syntax_tree.specs.declared.module.Paragraph.TheVariants as paragraph
use Rattle.syntax_tree.specs.declared.instance.Instance.{Instance}
use Rattle.syntax_tree.specs.declared.instance.Text.{Text}
use Rattle.resolve_names.specs.Gathered.{module_in}

-- how many opens a paragraph implies: an enum one
abbrev pub opened_by : Paragraph → ℕ
opened_by (paragraph.Enum e) = 1
opened_by _ = 0

-- how many enums stand among paragraphs, each of which implies an open
abbrev pub enums_in : List Paragraph → ℕ
enums_in [] = 0
enums_in (p ∷ ps) = opened_by p + enums_in ps

-- how many opens of a module are written or implied by enums
abbrev pub opens_before : Module → ℕ
opens_before m = length m.opens + enums_in m.paragraphs

-- the instance of the integers that the root opens implicitly: its open behind those that are written and those that enums imply
abbrev pub integers_of : List Text → List Instance → Option ℕ
integers_of texts [] = None
integers_of texts (root ∷ others) = option_map (λ o. o.instance) (slice_get root.opens (opens_before (module_in (slice_get texts root.text))))
