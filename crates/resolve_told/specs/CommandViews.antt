-- The values of the code that compares commands, as the definitions see them.
use Rattle.std.specs.Prelude.{◌≡◌, ℕ, List, [], ◌∷◌, map, Option, Some, None, option_map}
use Rattle.std.specs.Borrow.{Bor}
use Rattle.syntax_tree.specs.declared.expr.QualName.{QualName}
use Rattle.syntax_tree.specs.declared.module.Command.{Command}
use Rattle.core_tree.specs.declared.model.ScopeSubject.{ScopeSubject}
use Rattle.core_tree.specs.declared.model.ScopeSubject.TheVariants as counts
use Rattle.resolve_types.specs.declared.member.Member.{Member}
use Rattle.resolve_types.specs.declared.member.Member.TheVariants as member
use Rattle.resolve_told.specs.Bodies.{bodies_from}
use Rattle.resolve_told.specs.Commands.{Count, overall, for}
use Rattle.resolve_told.specs.Views.{declaration}
use Rattle.resolve_told.specs.declared.asked.Sources.{Sources}
use Rattle.resolve_told.specs.declared.scopes.Count.{Count as Lent}
use Rattle.resolve_told.specs.declared.scopes.Count.TheVariants as lent

abbrev pub command_of : Bor Command → Command
command_of c = c.now

abbrev pub seen_name : Option (Bor QualName) → Option QualName
seen_name = option_map (λ q. q.now)

abbrev pub seen_count : Lent → Count
seen_count (lent.Overall n) = overall n
seen_count (lent.For n) = for n.now

-- a name of these members is for this subject: the one sig, or nothing that is known
abbrev pub IsOnly : List Member → ScopeSubject → Type 0
IsOnly ms (counts.Sig s) = ms ≡ member.Sig s ∷ []
IsOnly ms counts.Unknown = (s : ℕ) → ms ≡ member.Sig s ∷ [] → ⊥
IsOnly ms _ = ⊥

-- the predicates and functions beside the sources are just those that the texts declare
abbrev pub HasBodies : Sources → Type 0
HasBodies s = map declaration s.bodies.now ≡ bodies_from s.loaded.now.texts 0 s.loaded.now.instances

-- a sig, or nothing that is known
abbrev pub subject_of : Option ℕ → ScopeSubject
subject_of None = counts.Unknown
subject_of (Some s) = counts.Sig s
