-- What names stand for: the candidates of a name are determined, and each of them is seen.
use Rattle.std.proofs.Common.{◌≡◌, ◌∙◌, ℕ, zero, suc, List, [], ◌∷◌, Option, Some, None, length, map, refl, sym, ap, subst, nat_eq, false}
use Rattle.std.specs.Prelude.{slice_get, filter_map, Contains, IfSome, IfNone}
use Rattle.std.proofs.lemmas.Option.{slice_get-get_or}
use Rattle.core_tree.specs.declared.model.ScopeSubject.{ScopeSubject}
use Rattle.core_tree.specs.declared.model.ScopeSubject.TheVariants as counts
use Rattle.syntax_tree.specs.declared.expr.QualName.{QualName}
use Rattle.resolve_names.specs.declared.table.Decl.{Decl}
use Rattle.resolve_names.specs.declared.table.Decl.TheVariants as decl
use Rattle.resolve_names.specs.declared.table.Namespace.{Namespace}
use Rattle.resolve_names.specs.Visible.{AreCandidates, Declaration, Kept, done, keep, skip, what_of}
use Rattle.resolve_types.specs.declared.member.Member.{Member}
use Rattle.resolve_types.specs.declared.member.Member.TheVariants as member
use Rattle.resolve_hierarchy.specs.Rules.{member_of}
use Rattle.resolve_told.specs.Commands.{IsSteps, IsFor, IsSeenBody, sig, unknown}
use Rattle.resolve_told.specs.CommandViews.{IsOnly, subject_of}

kept_unique : {X : Type 0} {P : X → Type 0} {xs ys zs : List X} → Kept P xs ys → Kept P xs zs → ys ≡ zs
kept_unique done done = refl
kept_unique (keep {x = x} p a) (keep q b) = ap (λ r. x ∷ r) (kept_unique a b)
kept_unique (keep p a) (skip q b) = absurd (q p)
kept_unique (skip p a) (keep q b) = absurd (p q)
kept_unique (skip p a) (skip q b) = kept_unique a b

candidates_unique : (scopes : List Namespace) (k : ℕ) (q : QualName) (ds es : List Decl) → AreCandidates scopes k q ds → AreCandidates scopes k q es → ds ≡ es
candidates_unique scopes k q ds es (us, ku, eu) (vs, kv, ev) = eu ∙ (ap (map what_of) (kept_unique ku kv) ∙ sym ev)

-- what a name is for in a scope
pub only_for : (scopes : List Namespace) (q : QualName) (ds : List Decl) (subject : ScopeSubject) → (IsSteps q → ⊥) → AreCandidates scopes 0 q ds →
    IsOnly (filter_map (member_of scopes) ds) subject → IsFor scopes q subject
only_for scopes q ds (counts.Sig s) never found only = sig never (ds, found, only)
only_for scopes q ds counts.Unknown never found only =
    unknown never (λ s (es, other, one). only s (ap (filter_map (member_of scopes)) (candidates_unique scopes 0 q ds es found other) ∙ one))
only_for scopes q ds counts.Int never found only = absurd only
only_for scopes q ds counts.Steps never found only = absurd only
only_for scopes q ds counts.Overall never found only = absurd only

kept_each : {X : Type 0} {P : X → Type 0} {xs ys : List X} → Kept P xs ys → (i : ℕ) (y : X) → slice_get ys i ≡ Some y → P y
kept_each done i y e = cc
kept_each {P = P} (keep p a) zero y e = subst P (the_same _ y e) p
  where
    the_same : {X : Type 0} (x z : X) → Some x ≡ Some z → x ≡ z
    the_same x z e = cc
kept_each (keep p a) (suc i) y e = kept_each a i y e
kept_each (skip p a) i y e = kept_each a i y e

mapped : (ds : List Declaration) (i : ℕ) (w : Decl) → slice_get (map what_of ds) i ≡ Some w → (d : Declaration) × (slice_get ds i ≡ Some d) × (d.1.what ≡ w)
mapped [] i w e = cc
mapped (d ∷ ds) zero w e = (d, refl, cc)
mapped (d ∷ ds) (suc i) w e = mapped ds i w e

-- a body among the candidates is seen
pub body_seen : (scopes : List Namespace) (q : QualName) (found : List Decl) (b : ℕ) → AreCandidates scopes 0 q found → Contains found (decl.Body b) → IsSeenBody scopes q b
body_seen scopes q found b (ds, kept, eq) (i, inside, there) =
    let at : slice_get found i ≡ Some (decl.Body b) = slice_get-get_or found i (decl.Body b) inside ∙ ap Some there in
    let (d, got, what) = mapped ds i (decl.Body b) (subst (λ z. slice_get z i ≡ Some (decl.Body b)) eq at) in
    (d, kept_each kept i d got, what)

-- members that are not just one sig
pub no_member : (ms : List Member) (s : ℕ) → nat_eq (length ms) 1 ≡ false → ms ≡ member.Sig s ∷ [] → ⊥
no_member [] s e is = absurd cc
no_member (m ∷ []) s e is = absurd cc
no_member (m ∷ n ∷ ms) s e is = absurd cc

pub only_is : (ms : List Member) (o : Option ℕ) (subject : ScopeSubject) → IfSome o (λ s. ms ≡ member.Sig s ∷ []) → IfNone o ((s : ℕ) → ms ≡ member.Sig s ∷ [] → ⊥) →
    subject ≡ subject_of o → IsOnly ms subject
only_is ms None subject some none is = subst (IsOnly ms) (sym is) none
only_is ms (Some s) subject some none is = subst (IsOnly ms) (sym is) some
