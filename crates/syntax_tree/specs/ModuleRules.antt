-- Which modules are right: their lists have what the grammar asks, and their trees keep the rules
-- on levels within a depth.
use Rattle.std.specs.Prelude.{ℕ, Bool, true, false, not, ◌&&◌, ◌||◌, nat_le, List, [], ◌∷◌, Option, Some, None, map}
use Rattle.syntax_tree.specs.declared.expr.Decl.{Decl}
use Rattle.syntax_tree.specs.declared.expr.Expr.{Expr}
use Rattle.syntax_tree.specs.declared.module.SigName.{SigName}
use Rattle.syntax_tree.specs.declared.module.SigName.TheVariants as sig_name
use Rattle.syntax_tree.specs.declared.module.Header.{Header}
use Rattle.syntax_tree.specs.declared.module.Open.{Open}
use Rattle.syntax_tree.specs.declared.module.Bound.{Bound}
use Rattle.syntax_tree.specs.declared.module.Qualifier.{Qualifier}
use Rattle.syntax_tree.specs.declared.module.Qualifier.TheVariants as qualifier
use Rattle.syntax_tree.specs.declared.module.Field.{Field}
use Rattle.syntax_tree.specs.declared.module.Parents.{Parents}
use Rattle.syntax_tree.specs.declared.module.Parents.TheVariants as parents
use Rattle.syntax_tree.specs.declared.module.Sig.{Sig}
use Rattle.syntax_tree.specs.declared.module.Enumeration.{Enumeration}
use Rattle.syntax_tree.specs.declared.module.Claim.{Claim}
use Rattle.syntax_tree.specs.declared.module.Parameters.{Parameters}
use Rattle.syntax_tree.specs.declared.module.Pred.{Pred}
use Rattle.syntax_tree.specs.declared.module.Fun.{Fun}
use Rattle.syntax_tree.specs.declared.module.ScopeTarget.{ScopeTarget}
use Rattle.syntax_tree.specs.declared.module.ScopeTarget.TheVariants as target
use Rattle.syntax_tree.specs.declared.module.ScopeEntry.{ScopeEntry}
use Rattle.syntax_tree.specs.declared.module.Scope.{Scope}
use Rattle.syntax_tree.specs.declared.module.Scope.TheVariants as scope
use Rattle.syntax_tree.specs.declared.module.Subject.{Subject}
use Rattle.syntax_tree.specs.declared.module.Subject.TheVariants as subject
use Rattle.syntax_tree.specs.declared.module.Command.{Command}
use Rattle.syntax_tree.specs.declared.module.Paragraph.{Paragraph}
use Rattle.syntax_tree.specs.declared.module.Paragraph.TheVariants as paragraph
use Rattle.syntax_tree.specs.declared.module.Module.{Module}
use Rattle.syntax_tree.specs.Levels.{has_some, every, name_right, decl_right, shaped_decl, is_level_right, is_bound, is_right_block}
use Rattle.syntax_tree.specs.Depth.{deepest, depth_of}

-- where there is one
abbrev pub on : {A : Type 0} → (A → Bool) → Option A → Bool
on test None = true
on test (Some x) = test x

-- Two qualifiers that may not stand before one sig: equal ones, and two multiplicity words.
abbrev pub is_word : Qualifier → Bool
is_word qualifier.Lone = true
is_word qualifier.One = true
is_word qualifier.Some = true
is_word _ = false

abbrev pub excludes : Qualifier → Qualifier → Bool
excludes qualifier.Private qualifier.Private = true
excludes qualifier.Var qualifier.Var = true
excludes qualifier.Abstract qualifier.Abstract = true
excludes a b = is_word a && is_word b

abbrev pub qualifiers_right : List Qualifier → Bool
qualifiers_right [] = true
qualifiers_right (q ∷ qs) = every (λ r. not (excludes q r)) qs && qualifiers_right qs

-- a comma stands only after a part
abbrev pub comma_right : {A : Type 0} → List A → Bool → Bool
comma_right parts has_comma = has_some parts || not has_comma

abbrev pub sig_name_right : SigName → Bool
sig_name_right (sig_name.Name name) = name_right name
sig_name_right (sig_name.Int place) = true

abbrev pub header_right : Header → Bool
header_right h = name_right h.path

abbrev pub open_right : Open → Bool
open_right o = name_right o.path && every sig_name_right o.arguments

-- Below, the depth is the greatest that a tree may have.

abbrev pub bound_right : ℕ → Bound → Bool
bound_right depth b = is_bound b.tree && nat_le (depth_of b.tree) depth

abbrev pub block_right : ℕ → Expr → Bool
block_right depth e = is_right_block e && nat_le (depth_of e) depth

abbrev pub value_right : ℕ → Expr → Bool
value_right depth e = is_level_right e && nat_le (depth_of e) depth

abbrev pub decls_within : ℕ → List (Decl Expr) → Bool
decls_within depth ds = every decl_right (map shaped_decl ds) && nat_le (deepest (map (λ d. depth_of d.bound) ds)) depth

abbrev pub field_right : ℕ → Field → Bool
field_right depth f = has_some f.names && bound_right depth f.bound

abbrev pub parents_right : Parents → Bool
parents_right parents.Top = true
parents_right (parents.Extends name) = sig_name_right name
parents_right (parents.Subset names) = has_some names && every sig_name_right names

abbrev pub sig_right : ℕ → Sig → Bool
sig_right depth g = qualifiers_right g.qualifiers && has_some g.names && parents_right g.parents && every (field_right depth) g.fields
    && comma_right g.fields g.has_comma && on (block_right depth) g.block

abbrev pub enum_right : Enumeration → Bool
enum_right e = has_some e.members

abbrev pub claim_right : ℕ → Claim → Bool
claim_right depth c = block_right depth c.block

abbrev pub parameters_right : ℕ → Parameters → Bool
parameters_right depth p = decls_within depth p.decls

abbrev pub pred_right : ℕ → Pred → Bool
pred_right depth p = on sig_name_right p.receiver && on (parameters_right depth) p.parameters && block_right depth p.block

abbrev pub fun_right : ℕ → Fun → Bool
fun_right depth f = on sig_name_right f.receiver && on (parameters_right depth) f.parameters && bound_right depth f.result && value_right depth f.value

abbrev pub target_right : ScopeTarget → Bool
target_right (target.Sig name) = sig_name_right name
target_right (target.Bits place) = true

abbrev pub entries_right : List ScopeEntry → Bool
entries_right entries = has_some entries && every (λ e. target_right e.target) entries

abbrev pub scope_right : Scope → Bool
scope_right (scope.Overall number) = true
scope_right (scope.But number entries) = entries_right entries
scope_right (scope.Entries entries) = entries_right entries

abbrev pub subject_right : ℕ → Subject → Bool
subject_right depth (subject.Name name) = name_right name
subject_right depth (subject.Block block) = block_right depth block
subject_right depth (subject.Labelled name block) = name_right name && block_right depth block

abbrev pub command_right : ℕ → Command → Bool
command_right depth c = subject_right depth c.subject && on scope_right c.scope

abbrev pub paragraph_right : ℕ → Paragraph → Bool
paragraph_right depth (paragraph.Sig g) = sig_right depth g
paragraph_right depth (paragraph.Enum e) = enum_right e
paragraph_right depth (paragraph.Fact c) = claim_right depth c
paragraph_right depth (paragraph.Assert c) = claim_right depth c
paragraph_right depth (paragraph.Pred p) = pred_right depth p
paragraph_right depth (paragraph.Fun f) = fun_right depth f
paragraph_right depth (paragraph.Command c) = command_right depth c

-- a module that the grammar has, with trees of at most this depth
abbrev pub module_right : ℕ → Module → Bool
module_right depth m = on header_right m.header && every open_right m.opens && every (paragraph_right depth) m.paragraphs
