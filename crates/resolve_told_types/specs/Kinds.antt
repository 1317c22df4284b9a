-- Where a sig of a model stands, as the hierarchy says it.
use Rattle.std.specs.Prelude.{List, map}
use Rattle.core_tree.specs.declared.model.Column.{Column}
use Rattle.core_tree.specs.declared.model.Column.TheVariants as column
use Rattle.core_tree.specs.declared.model.Sig.{Sig}
use Rattle.core_tree.specs.declared.model.SigKind.{SigKind}
use Rattle.core_tree.specs.declared.model.SigKind.TheVariants as sig_kind
use Rattle.resolve_types.specs.declared.member.Member.{Member}
use Rattle.resolve_types.specs.declared.member.Member.TheVariants as member
use Rattle.resolve_hierarchy.specs.declared.sigs.Kind.{Kind}
use Rattle.resolve_hierarchy.specs.declared.sigs.Kind.TheVariants as kind
use Rattle.resolve_hierarchy.specs.Above.{Sigs}

-- a parent as a member
abbrev pub member_of : Column → Member
member_of column.Int = member.Int
member_of (column.Sig s) = member.Sig s

abbrev pub members_of : List Column → List Member
members_of parents = map member_of parents

abbrev pub kind_of : SigKind → Kind
kind_of sig_kind.Top = kind.Top
kind_of (sig_kind.Extends s) = kind.Extends s
kind_of (sig_kind.Subset parents) = kind.Subset (members_of parents)

abbrev pub kind_in : Sig → Kind
kind_in sig = kind_of sig.kind

abbrev pub kinds_of : List Sig → Sigs
kinds_of sigs = map kind_in sigs
