-- The list of a module's commands as text.
use Rattle.std.specs.Prelude.{ℕ, ◌+◌, Bool, true, false, List, [], ◌∷◌, ◌++◌, Option, Some, None, codes, decimal}
use Rattle.base_types.specs.declared.place.Position.{Position}
use Rattle.syntax_tree.specs.declared.expr.Named.{Named}
use Rattle.syntax_tree.specs.declared.module.Command.{Command}
use Rattle.syntax_tree.specs.declared.module.Module.{Module}
use Rattle.syntax_tree.specs.declared.module.Paragraph.{Paragraph}
use Rattle.syntax_tree.specs.declared.module.Paragraph.TheVariants as paragraph
use Rattle.syntax_tree.specs.declared.module.Subject.{Subject}
use Rattle.syntax_tree.specs.declared.module.Subject.TheVariants.{Name, Block, Labelled}
use Rattle.load_state.specs.Names.{path_bytes}

-- the name after the keyword, or a dash
abbrev pub subject_title : Subject → List ℕ
subject_title (Name path) = path_bytes path
subject_title (Labelled path block) = path_bytes path
subject_title (Block block) = codes "-"

-- the label before the colon, or the name after the keyword, or a dash
abbrev pub title_of : Option Named → Subject → List ℕ
title_of (Some label) subject = label.name
title_of None subject = subject_title subject

abbrev pub keyword_of : Bool → List ℕ
keyword_of true = codes "check"
keyword_of false = codes "run"

-- a command's number, its keyword and the place of that, and its title
abbrev pub titled_line : ℕ → List ℕ → Position → List ℕ → List ℕ
titled_line number keyword place title = decimal number ++ (codes " " ++ (keyword ++ (codes " " ++ (decimal place.line ++ (codes ":" ++ (decimal place.column ++ (codes " " ++ (title ++ 10 ∷ []))))))))

abbrev pub command_line : ℕ → Command → List ℕ
command_line number command = titled_line number (keyword_of command.is_check) command.keyword (title_of command.label command.subject)

-- the commands of a module, in the order of the text
abbrev pub command_in : Paragraph → List Command
command_in (paragraph.Command command) = command ∷ []
command_in _ = []

abbrev pub commands_in : List Paragraph → List Command
commands_in [] = []
commands_in (p ∷ ps) = command_in p ++ commands_in ps

-- the lines of commands whose numbers begin with this one
abbrev pub lines_from : ℕ → List Command → List ℕ
lines_from number [] = []
lines_from number (command ∷ commands) = command_line number command ++ lines_from (number + 1) commands

-- the list of a module's commands, numbered from 0
abbrev pub command_text : Module → List ℕ
command_text m = lines_from 0 (commands_in m.paragraphs)
