-- Renamings taken back, and one after another; and the renaming that exchanges two atoms.
use Rattle.std.specs.Prelude.{◌≡◌, ◌≢◌, ℕ, eqb, if◌then◌else◌, true, Some, slice_get}
use Rattle.std.proofs.Common.{inl, inr, refl, sym, ap, ◌∙◌}
use Rattle.std.proofs.lemmas.Bool.{cases_eq, eq-eqb, ne_eqb}
use Rattle.core_tree.specs.declared.model.Model.{Model}
use Rattle.core_tree.specs.declared.model.Sig.{Sig}
use Rattle.core_meaning.specs.declared.scopes.SigScope.{SigScope}
use Rattle.core_meaning.specs.declared.scopes.Scopes.{Scopes}
use Rattle.core_meaning.specs.Sequence.{LassoValue}
use Rattle.core_meaning.specs.Kept.{IsAtomOf, IsLiteral}
use Rattle.core_renaming.specs.Renamings.{Renaming, ShowsRenamed, inverse}
use Rattle.core_renaming.specs.Sigs.{IsTopSigAtom, KeepsSigs, literal_atom}

-- the second after the first
abbrev pub composed : Renaming → Renaming → Renaming
composed r q = record {
  to = λ a. q.to (r.to a);
  from = λ a. r.from (q.from a);
  from_to = λ a. ap r.from (q.from_to (r.to a)) ∙ r.from_to a;
  to_from = λ a. ap q.to (r.to_from (q.from a)) ∙ q.to_from a;
}

-- two atoms change places
abbrev pub exchanged : ℕ → ℕ → ℕ → ℕ
exchanged a b c = if eqb c a then b else if eqb c b then a else c

pub exchanged_first : (a b : ℕ) → exchanged a b a ≡ b
exchanged_first a b = ap (λ t. if t then b else if eqb a b then a else a) (eq-eqb a a refl)

pub exchanged_second : (a b : ℕ) → exchanged a b b ≡ a
exchanged_second a b = elim (cases_eq b a) [
  | inl same ↦ ap (λ t. if t then b else if eqb b b then a else b) (eq-eqb b a same) ∙ same
  | inr other ↦ ap (λ t. if t then b else if eqb b b then a else b) (ne_eqb b a other) ∙ ap (λ t. if t then a else b) (eq-eqb b b refl)
]

pub exchanged_other : (a b c : ℕ) → (c ≡ a → ⊥) → (c ≡ b → ⊥) → exchanged a b c ≡ c
exchanged_other a b c one two = ap (λ t. if t then b else if eqb c b then a else c) (ne_eqb c a one) ∙ ap (λ t. if t then a else c) (ne_eqb c b two)

pub exchanged_twice : (a b c : ℕ) → exchanged a b (exchanged a b c) ≡ c
exchanged_twice a b c = elim (cases_eq c a) [
  | inl first ↦ ap (λ x. exchanged a b (exchanged a b x)) first ∙ ap (exchanged a b) (exchanged_first a b) ∙ exchanged_second a b ∙ sym first
  | inr one ↦ elim (cases_eq c b) [
    | inl second ↦ ap (λ x. exchanged a b (exchanged a b x)) second ∙ ap (exchanged a b) (exchanged_second a b) ∙ exchanged_first a b ∙ sym second
    | inr two ↦ ap (exchanged a b) (exchanged_other a b c one two) ∙ exchanged_other a b c one two
  ]
]

abbrev pub exchange : ℕ → ℕ → Renaming
exchange a b = record { to = exchanged a b; from = exchanged a b; from_to = exchanged_twice a b; to_from = exchanged_twice a b }

-- Renamings that keep the sigs of a model can be taken back.
abbrev pub RenamingsGoBack : Type 0
RenamingsGoBack =
    (model : Model) (scopes : Scopes) (r : Renaming) (one two : LassoValue) → KeepsSigs model scopes r → ShowsRenamed scopes r one two →
    KeepsSigs model scopes (inverse r) × ShowsRenamed scopes (inverse r) two one

-- Two of them one after another keep the sigs too.
abbrev pub RenamingsCompose : Type 0
RenamingsCompose =
    (model : Model) (scopes : Scopes) (r q : Renaming) (one two three : LassoValue) → KeepsSigs model scopes r → KeepsSigs model scopes q → ShowsRenamed scopes r one two → ShowsRenamed scopes q two three →
    KeepsSigs model scopes (composed r q) × ShowsRenamed scopes (composed r q) one three

-- no literal's atom that is one of the top-level sig above the literal's sig
abbrev pub IsNoLiteral : Model → Scopes → ℕ → Type 0
IsNoLiteral model scopes a = (s : ℕ) (d : Sig) (p : ℕ) → slice_get model.sigs s ≡ Some d → IsLiteral model scopes d p → IsAtomOf model scopes s (literal_atom scopes s p) → literal_atom scopes s p ≢ a

-- The exchange of two atoms of one top-level sig, neither of them a literal's, keeps the sigs.
abbrev pub ExchangesKeepSigs : Type 0
ExchangesKeepSigs =
    (model : Model) (scopes : Scopes) (s : ℕ) (e : SigScope) (a b : ℕ) → slice_get scopes.numbers s ≡ Some e → e.top ≡ true → IsTopSigAtom scopes.numbers s e a → IsTopSigAtom scopes.numbers s e b →
    IsNoLiteral model scopes a → IsNoLiteral model scopes b → KeepsSigs model scopes (exchange a b)
