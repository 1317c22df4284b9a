-- What a module says, whatever its places.
use Rattle.std.specs.Prelude.{map, Option, Some, None}
use Rattle.syntax_tree.specs.declared.expr.Decl.{Decl}
use Rattle.syntax_tree.specs.declared.expr.Expr.{Expr}
use Rattle.syntax_tree.specs.declared.module.SigName.{SigName}
use Rattle.syntax_tree.specs.declared.module.SigName.TheVariants as sig_name
use Rattle.syntax_tree.specs.declared.module.Parameter.{Parameter}
use Rattle.syntax_tree.specs.declared.module.Header.{Header}
use Rattle.syntax_tree.specs.declared.module.Open.{Open}
use Rattle.syntax_tree.specs.declared.module.Bound.{Bound}
use Rattle.syntax_tree.specs.declared.module.Field.{Field}
use Rattle.syntax_tree.specs.declared.module.Parents.{Parents}
use Rattle.syntax_tree.specs.declared.module.Parents.TheVariants as parents
use Rattle.syntax_tree.specs.declared.module.Sig.{Sig}
use Rattle.syntax_tree.specs.declared.module.Enumeration.{Enumeration}
use Rattle.syntax_tree.specs.declared.module.Claim.{Claim}
use Rattle.syntax_tree.specs.declared.module.Parameters.{Parameters}
use Rattle.syntax_tree.specs.declared.module.Pred.{Pred}
use Rattle.syntax_tree.specs.declared.module.Fun.{Fun}
use Rattle.syntax_tree.specs.declared.module.Numeral.{Numeral}
use Rattle.syntax_tree.specs.declared.module.ScopeTarget.{ScopeTarget}
use Rattle.syntax_tree.specs.declared.module.ScopeTarget.TheVariants as target
use Rattle.syntax_tree.specs.declared.module.ScopeEntry.{ScopeEntry}
use Rattle.syntax_tree.specs.declared.module.Scope.{Scope}
use Rattle.syntax_tree.specs.declared.module.Scope.TheVariants as scope
use Rattle.syntax_tree.specs.declared.module.Subject.{Subject}
use Rattle.syntax_tree.specs.declared.module.Subject.TheVariants as subject
use Rattle.syntax_tree.specs.declared.module.Command.{Command}
use Rattle.syntax_tree.specs.declared.module.Paragraph.{Paragraph}
use Rattle.syntax_tree.specs.declared.module.Paragraph.TheVariants as paragraph
use Rattle.syntax_tree.specs.declared.module.Module.{Module}
use Rattle.syntax_single.specs.Placeless.{nowhere, placeless_name, placeless_named, placeless}

-- what is there, without places
abbrev pub each_part : {A B : Type 0} → (A → B) → Option A → Option B
each_part f None = None
each_part f (Some x) = Some (f x)

abbrev pub placeless_sig_name : SigName → SigName
placeless_sig_name (sig_name.Name name) = sig_name.Name (placeless_name name)
placeless_sig_name (sig_name.Int place) = sig_name.Int nowhere

abbrev pub placeless_parameter : Parameter → Parameter
placeless_parameter p = record { is_exact = p.is_exact; name = placeless_named p.name }

abbrev pub placeless_header : Header → Header
placeless_header h = record {
  place = nowhere;
  path = placeless_name h.path;
  parameters = map placeless_parameter h.parameters;
}

abbrev pub placeless_open : Open → Open
placeless_open o = record {
  place = nowhere;
  is_private = o.is_private;
  path = placeless_name o.path;
  arguments = map placeless_sig_name o.arguments;
  alias = each_part placeless_named o.alias;
}

abbrev pub placeless_bound : Bound → Bound
placeless_bound b = record { place = nowhere; word = b.word; tree = placeless b.tree }

abbrev pub placeless_field : Field → Field
placeless_field f = record {
  place = nowhere;
  words = f.words;
  names = map placeless_named f.names;
  is_disjoint = f.is_disjoint;
  bound = placeless_bound f.bound;
}

abbrev pub placeless_parents : Parents → Parents
placeless_parents parents.Top = parents.Top
placeless_parents (parents.Extends name) = parents.Extends (placeless_sig_name name)
placeless_parents (parents.Subset names) = parents.Subset (map placeless_sig_name names)

abbrev pub placeless_sig : Sig → Sig
placeless_sig g = record {
  place = nowhere;
  qualifiers = g.qualifiers;
  names = map placeless_named g.names;
  parents = placeless_parents g.parents;
  fields = map placeless_field g.fields;
  has_comma = g.has_comma;
  block = each_part placeless g.block;
}

abbrev pub placeless_enum : Enumeration → Enumeration
placeless_enum e = record {
  place = nowhere;
  name = placeless_named e.name;
  members = map placeless_named e.members;
  has_comma = e.has_comma;
}

abbrev pub placeless_claim : Claim → Claim
placeless_claim c = record {
  place = nowhere;
  name = each_part placeless_named c.name;
  block = placeless c.block;
}

abbrev pub placeless_variables : Decl Expr → Decl Expr
placeless_variables d = record {
  place = nowhere;
  is_disjoint = d.is_disjoint;
  names = map placeless_named d.names;
  bound_place = nowhere;
  word = d.word;
  bound = placeless d.bound;
}

abbrev pub placeless_parameters : Parameters → Parameters
placeless_parameters p = record { bracket = p.bracket; decls = map placeless_variables p.decls }

abbrev pub placeless_pred : Pred → Pred
placeless_pred p = record {
  place = nowhere;
  is_private = p.is_private;
  receiver = each_part placeless_sig_name p.receiver;
  name = placeless_named p.name;
  parameters = each_part placeless_parameters p.parameters;
  block = placeless p.block;
}

abbrev pub placeless_fun : Fun → Fun
placeless_fun f = record {
  place = nowhere;
  is_private = f.is_private;
  receiver = each_part placeless_sig_name f.receiver;
  name = placeless_named f.name;
  parameters = each_part placeless_parameters f.parameters;
  result = placeless_bound f.result;
  value = placeless f.value;
}

abbrev pub placeless_numeral : Numeral → Numeral
placeless_numeral n = record { place = nowhere; value = n.value }

abbrev pub placeless_target : ScopeTarget → ScopeTarget
placeless_target (target.Sig name) = target.Sig (placeless_sig_name name)
placeless_target (target.Bits place) = target.Bits nowhere

abbrev pub placeless_entry : ScopeEntry → ScopeEntry
placeless_entry e = record {
  is_exact = e.is_exact;
  number = placeless_numeral e.number;
  target = placeless_target e.target;
}

abbrev pub placeless_scope : Scope → Scope
placeless_scope (scope.Overall number) = scope.Overall (placeless_numeral number)
placeless_scope (scope.But number entries) =
    scope.But (placeless_numeral number) (map placeless_entry entries)
placeless_scope (scope.Entries entries) = scope.Entries (map placeless_entry entries)

abbrev pub placeless_subject : Subject → Subject
placeless_subject (subject.Name name) = subject.Name (placeless_name name)
placeless_subject (subject.Block block) = subject.Block (placeless block)
placeless_subject (subject.Labelled name block) =
    subject.Labelled (placeless_name name) (placeless block)

abbrev pub placeless_command : Command → Command
placeless_command c = record {
  place = nowhere;
  label = each_part placeless_named c.label;
  keyword = nowhere;
  is_check = c.is_check;
  subject = placeless_subject c.subject;
  scope = each_part placeless_scope c.scope;
  expected = c.expected;
}

abbrev pub placeless_paragraph : Paragraph → Paragraph
placeless_paragraph (paragraph.Sig g) = paragraph.Sig (placeless_sig g)
placeless_paragraph (paragraph.Enum e) = paragraph.Enum (placeless_enum e)
placeless_paragraph (paragraph.Fact c) = paragraph.Fact (placeless_claim c)
placeless_paragraph (paragraph.Assert c) = paragraph.Assert (placeless_claim c)
placeless_paragraph (paragraph.Pred p) = paragraph.Pred (placeless_pred p)
placeless_paragraph (paragraph.Fun f) = paragraph.Fun (placeless_fun f)
placeless_paragraph (paragraph.Command c) = paragraph.Command (placeless_command c)

abbrev pub placeless_module : Module → Module
placeless_module m = record {
  header = each_part placeless_header m.header;
  opens = map placeless_open m.opens;
  paragraphs = map placeless_paragraph m.paragraphs;
}
