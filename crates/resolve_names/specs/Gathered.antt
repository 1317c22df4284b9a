-- What the instances of an analysis declare, as their texts tell it.
use Rattle.std.specs.Prelude.{ℕ, ◌+◌, ◌*◌, Bool, true, false, List, [], ◌∷◌, ◌++◌, length, sum_by, Option, Some, None, slice_get}
use Rattle.std.specs.List.{list_any}
use Rattle.syntax_tree.specs.declared.expr.Named.{Named}
use Rattle.syntax_tree.specs.declared.module.Header.{Header}
use Rattle.syntax_tree.specs.declared.module.Parameter.{Parameter}
use Rattle.syntax_tree.specs.declared.module.Open.{Open}
use Rattle.syntax_tree.specs.declared.module.Qualifier.{Qualifier}
use Rattle.syntax_tree.specs.declared.module.Qualifier.TheVariants as qualifier
use Rattle.syntax_tree.specs.declared.module.FieldWord.{FieldWord}
use Rattle.syntax_tree.specs.declared.module.FieldWord.TheVariants as word
use Rattle.syntax_tree.specs.declared.module.Field.{Field}
use Rattle.syntax_tree.specs.declared.module.Sig.{Sig}
use Rattle.syntax_tree.specs.declared.module.Paragraph.{Paragraph}
use Rattle.syntax_tree.specs.declared.module.Paragraph.TheVariants as paragraph
use Rattle.syntax_tree.specs.declared.module.Module.{Module}
use Rattle.syntax_tree.specs.declared.instance.Text.{Text}
use Rattle.syntax_tree.specs.declared.instance.SigRef.{SigRef}
use Rattle.syntax_tree.specs.declared.instance.Opened.{Opened}
use Rattle.syntax_tree.specs.declared.instance.Instance.{Instance}
use Rattle.syntax_tree.specs.Instances.{sigs_in, sig_count}
use Rattle.resolve_names.specs.declared.table.Decl.{Decl}
use Rattle.resolve_names.specs.declared.table.Decl.TheVariants as decl
use Rattle.resolve_names.specs.declared.table.Declared.{Declared}
use Rattle.resolve_names.specs.declared.table.Link.{Link}
use Rattle.resolve_names.specs.declared.table.Namespace.{Namespace}

abbrev pub declared_as : Bool → Decl → Named → Declared
declared_as is_private what name = record { name = name.name; is_private = is_private; what = what }

-- names in turn, each for the thing of the next number
abbrev pub named_from : (ℕ → Decl) → Bool → ℕ → List Named → List Declared
named_from what is_private n [] = []
named_from what is_private n (name ∷ names) = declared_as is_private (what n) name ∷ named_from what is_private (n + 1) names

abbrev pub is_private_qualifier : Qualifier → Bool
is_private_qualifier qualifier.Private = true
is_private_qualifier _ = false

abbrev pub is_private_word : FieldWord → Bool
is_private_word word.Private = true
is_private_word _ = false

abbrev pub field_count : List Field → ℕ
field_count groups = sum_by (λ g. length g.names) groups

-- the fields of a sig, numbered from f on
abbrev pub fields_from : ℕ → List Field → List Declared
fields_from f [] = []
fields_from f (group ∷ groups) = named_from decl.Field (list_any is_private_word group.words) f group.names ++ fields_from (f + length group.names) groups

abbrev pub sig_of : ℕ → ℕ → Decl
sig_of i s = decl.Sig (record { instance = i; sig = s })

-- the sigs of a paragraph, numbered from s on, each with its fields behind it
abbrev pub sigs_from : ℕ → ℕ → ℕ → Sig → List Named → List Declared
sigs_from i s f g [] = []
sigs_from i s f g (name ∷ names) =
    declared_as (list_any is_private_qualifier g.qualifiers) (sig_of i s) name ∷ fields_from f g.fields ++ sigs_from i (s + 1) (f + field_count g.fields) g names

-- What a paragraph declares; before it stand s sigs of the text, and f fields and b bodies of all texts.
-- An enum is a sig, and its members are sigs behind it.
abbrev pub declared_by : ℕ → ℕ → ℕ → ℕ → Paragraph → List Declared
declared_by i s f b (paragraph.Sig g) = sigs_from i s f g g.names
declared_by i s f b (paragraph.Enum e) = named_from (sig_of i) false s (e.name ∷ e.members)
declared_by i s f b (paragraph.Pred p) = declared_as p.is_private (decl.Body b) p.name ∷ []
declared_by i s f b (paragraph.Fun g) = declared_as g.is_private (decl.Body b) g.name ∷ []
declared_by i s f b _ = []

abbrev pub fields_in : Paragraph → ℕ
fields_in (paragraph.Sig g) = length g.names * field_count g.fields
fields_in _ = 0

abbrev pub bodies_in : Paragraph → ℕ
bodies_in (paragraph.Pred p) = 1
bodies_in (paragraph.Fun g) = 1
bodies_in _ = 0

abbrev pub declared_by_all : ℕ → ℕ → ℕ → ℕ → List Paragraph → List Declared
declared_by_all i s f b [] = []
declared_by_all i s f b (p ∷ ps) = declared_by i s f b p ++ declared_by_all i (s + sigs_in p) (f + fields_in p) (b + bodies_in p) ps

-- the parameters of a module, each with its argument; they aren't private
abbrev pub parameters_with : List Parameter → List (Option SigRef) → List Declared
parameters_with [] arguments = []
parameters_with (p ∷ ps) [] = declared_as false (decl.Parameter None) p.name ∷ parameters_with ps []
parameters_with (p ∷ ps) (argument ∷ arguments) = declared_as false (decl.Parameter argument) p.name ∷ parameters_with ps arguments

-- what a parameter stands for whose argument may be missing
abbrev pub argument_in : Option (Option SigRef) → Option SigRef
argument_in None = None
argument_in (Some argument) = argument

abbrev pub parameters_of : Option Header → List Parameter
parameters_of None = []
parameters_of (Some h) = h.parameters

abbrev pub link_as : Bool → Opened → Link
link_as is_private o = record { alias = o.alias; is_private = is_private; instance = o.instance }

-- The opens of an instance: the written ones are private where `private` stands before them,
-- and the implied ones, which come after them, aren't.
abbrev pub links_from : List Open → List Opened → List Link
links_from written [] = []
links_from [] (o ∷ os) = link_as false o ∷ links_from [] os
links_from (w ∷ ws) (o ∷ os) = link_as w.is_private o ∷ links_from ws os

-- whether an open is private, which may not be written
abbrev pub is_private_open : Option Open → Bool
is_private_open None = false
is_private_open (Some w) = w.is_private

abbrev no_module : Module
no_module = record { header = None; opens = []; paragraphs = [] }

abbrev pub module_in : Option Text → Module
module_in None = no_module
module_in (Some text) = text.tree

-- the names of the instance of number i; before it stand s sigs, f fields and b bodies
abbrev pub scope_of : Module → ℕ → ℕ → ℕ → ℕ → Instance → Namespace
scope_of m i s f b x = record {
  first_sig = s;
  sigs = sig_count m;
  declared = parameters_with (parameters_of m.header) x.arguments ++ declared_by_all i 0 f b m.paragraphs;
  opens = links_from m.opens x.opens;
}

-- the module of an instance
abbrev pub module_of : List Text → Instance → Module
module_of texts x = module_in (slice_get texts x.text)

abbrev pub field_total : Module → ℕ
field_total m = sum_by fields_in m.paragraphs

abbrev pub body_total : Module → ℕ
body_total m = sum_by bodies_in m.paragraphs

-- the names of the instances from number i on; before them stand s sigs, f fields and b bodies
abbrev pub scopes_from : List Text → ℕ → ℕ → ℕ → ℕ → List Instance → List Namespace
scopes_from texts i s f b [] = []
scopes_from texts i s f b (x ∷ xs) =
    let m = module_of texts x in
    scope_of m i s f b x ∷ scopes_from texts (i + 1) (s + sig_count m) (f + field_total m) (b + body_total m) xs

-- the names of all instances, in load order
abbrev pub scopes_of : List Text → List Instance → List Namespace
scopes_of texts instances = scopes_from texts 0 0 0 0 instances

abbrev first_sig_of : Option Namespace → ℕ
first_sig_of None = 0
first_sig_of (Some scope) = scope.first_sig

-- the number of a sig over all instances
abbrev pub number_in : List Namespace → SigRef → ℕ
number_in scopes r = first_sig_of (slice_get scopes r.instance) + r.sig
