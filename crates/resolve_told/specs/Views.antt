-- The values of the code as the definitions see them.
use Rattle.resolve_said.specs.Locals.{under_decls}
use Rattle.resolve_told.specs.Bodies as told
use Rattle.resolve_told.specs.Bodies.{this_scope}
use Rattle.resolve_told.specs.declared.texts.Declaration.{Declaration}
use Rattle.resolve_told.specs.declared.parameters.Declared.{Declared}

abbrev pub declaration : Declaration → told.Declaration
declaration d = (d.instance, d.paragraph.now)

abbrev pub declared : Declared → told.Declared
declared d = record { name = d.name.now; apart = d.apart; scope = under_decls (this_scope d.has_this) d.before.now; word = d.word; bound = d.bound.now }
