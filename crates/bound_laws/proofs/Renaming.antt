-- A lasso that satisfies has a renaming that gives each owner its own atom.
use Rattle.std.proofs.Common.{◌≡◌, inl, inr, ℕ, zero, suc, ◌+◌, ◌<◌, Bool, true, false, List, [], ◌∷◌, length, Contains, Some, refl, sym, ap, ◌∙◌, subst, arith}
use Rattle.std.proofs.lemmas.Bool.{cases_lt, false≢true}
use Rattle.core_tuples.proofs.OrderLemmas.{cons_cases, cons_here, cons_later, no_members}
use Rattle.core_tree.specs.declared.model.Model.{Model}
use Rattle.core_tree.specs.declared.model.Fact.{Fact}
use Rattle.core_tree.specs.Trees.{Claim}
use Rattle.core_meaning.specs.declared.scopes.Scopes.{Scopes}
use Rattle.core_meaning.specs.Sequence.{LassoValue}
use Rattle.core_meaning.specs.World.{InRelation}
use Rattle.core_meaning.specs.Kept.{world_of, first_atom}
use Rattle.core_meaning.specs.Satisfied.{SatisfiesWith}
use Rattle.core_renaming.specs.Renamings.{ShowsRenamed}
use Rattle.core_laws.specs.Typed.{IsTypedLasso, ColumnsHaveAtoms, SigsOfOneAtom}
use Rattle.bound_owners.specs.Own.{owner_at, does_own}
use Rattle.bound_laws.specs.Satisfying.{IsRight, IsLassoOver}
use Rattle.bound_laws.specs.Owning.{OwnersHave, OwnersCanHave}
use Rattle.bound_laws.proofs.Moving.{Move, AreApart, moving, each_moves}
use Rattle.bound_laws.proofs.Owning.{owner_is}
use Rattle.bound_laws.proofs.Places.{owner_once, owner_owns}
use Rattle.bound_laws.proofs.Keeping.{IsMoveOf, move_of, same_atom, same_place, keeps_sigs}

module _ (model : Model) (scopes : Scopes) (lasso : LassoValue) (typed : IsTypedLasso model scopes lasso) (one_atom : SigsOfOneAtom) where
  -- the moves of the owners among the first sigs
  record AreMovesTo (n : ℕ) (ms : List Move) : Type 0 where
    from : (m : Move) → Contains ms m → (s : ℕ) × (s < n) × IsMoveOf model scopes lasso s m
    each : (s : ℕ) → s < n → does_own model.sigs scopes.numbers s ≡ true → (m : Move) × Contains ms m × IsMoveOf model scopes lasso s m
    apart : AreApart ms

  moves_more : (n : ℕ) (ms : List Move) → AreMovesTo n ms → (b : Bool) → does_own model.sigs scopes.numbers n ≡ b → (os : List Move) × AreMovesTo (suc n) os
  moves_more n ms was false e = (
    ms,
    record {
      from = λ m h. let (s, lt, is) = was.from m h in (s, omega (arith, lt), is);
      each = λ s lt owns. elim (cases_lt s n) [
        | inl less ↦ was.each s less owns
        | inr far ↦ let same : s ≡ n = omega (arith, far, lt) in absurd (false≢true (sym e ∙ subst (λ (k : ℕ). does_own model.sigs scopes.numbers k ≡ true) same owns))
      ];
      apart = was.apart;
    },
  )
  moves_more n ms was true e =
      let (m, is) = move_of model scopes lasso typed n e in (
        m ∷ ms,
        record {
          from = λ o h. elim (cons_cases m ms o h) [
            | inl same ↦ (n, omega arith, subst (IsMoveOf model scopes lasso n) (sym same) is)
            | inr later ↦ let (s, lt, it) = was.from o later in (s, omega (arith, lt), it)
          ];
          each = λ s lt owns. elim (cases_lt s n) [
            | inl less ↦ let (o, among, it) = was.each s less owns in (o, cons_later m ms o among, it)
            | inr far ↦ let same : s ≡ n = omega (arith, far, lt) in (m, cons_here m ms m refl, subst (λ (k : ℕ). IsMoveOf model scopes lasso k m) (sym same) is)
          ];
          apart = (
            λ o among.
                let (s, lt, it) = was.from o among in (
                  (λ f. let same = same_atom model scopes lasso typed one_atom s n o m it is f in absurd (omega (arith, lt, same))),
                  (λ f. let same = same_place model scopes lasso typed s n o m it is f in absurd (omega (arith, lt, same))),
                ),
            was.apart,
          );
        },
      )

  moves_to : (n : ℕ) → (ms : List Move) × AreMovesTo n ms
  moves_to zero = ([], record { from = λ m h. absurd (no_members m h); each = λ s lt. absurd (omega (arith, lt)); apart = tt })
  moves_to (suc n) = let (ms, was) = moves_to n in moves_more n ms was (does_own model.sigs scopes.numbers n) refl

  -- an owner is static, so it has at each position what it has at the first
  always_same : (top k c : ℕ) → owner_at model.sigs scopes.numbers top k ≡ Some c → (i a : ℕ) → InRelation (world_of scopes lasso) c i (a ∷ []) → InRelation (world_of scopes lasso) c 0 (a ∷ [])
  always_same top k c at i a has =
      let (d, owner) = owner_is model scopes top k c at in
      typed.keeps.sigs c d owner.there owner.single.static i 0 (a ∷ []) has

  gives_own : (two : LassoValue) (ms : List Move) → AreMovesTo (length model.sigs) ms → ShowsRenamed scopes (moving ms) lasso two → OwnersHave model scopes two
  gives_own two ms are shows top k c at i a has =
      let r = moving ms in
      let (owns, within, below) = owner_owns model scopes top k c at in
      let (m, among, is) = are.each c within owns in
      let back : InRelation (world_of scopes lasso) c i (r.from a ∷ []) = (shows c i (r.from a ∷ [])).1 (subst (λ (b : ℕ). InRelation (world_of scopes two) c i (b ∷ [])) (sym (r.to_from a)) has) in
      let atom : m.atom ≡ r.from a = is.alone (r.from a) (always_same top k c at i (r.from a) back) in
      let number : is.number ≡ k = owner_once model scopes top is.number k c (subst (λ (t : ℕ). owner_at model.sigs scopes.numbers t is.number ≡ Some c) below is.at) at in
      sym (r.to_from a)
      ∙ (ap r.to (sym atom)
      ∙ (each_moves ms are.apart m among
      ∙ (is.place ∙ (ap (λ (t : ℕ). first_atom scopes.numbers t + is.number) below ∙ ap (λ (n : ℕ). first_atom scopes.numbers top + n) number))))

typed_of : (model : Model) (scopes : Scopes) (lasso : LassoValue) (facts : List Fact) (command : Claim) → IsRight model scopes → IsLassoOver model scopes lasso → SatisfiesWith model scopes lasso facts command → IsTypedLasso model scopes lasso
typed_of model scopes lasso facts command right over satisfied = record {
  kept = right.kept;
  plain = right.plain;
  named = right.named;
  rightly = right.rightly;
  fits = over.fits;
  sets = over.sets;
  keeps = satisfied.keeps;
  declared = satisfied.declared;
}

pub owners_can_have : ColumnsHaveAtoms → SigsOfOneAtom → OwnersCanHave
owners_can_have atoms one_atom model scopes lasso facts command right origins over satisfied =
    let typed = typed_of model scopes lasso facts command right over satisfied in
    let (ms, are) = moves_to model scopes lasso typed one_atom (length model.sigs) in (
      moving ms,
      keeps_sigs model scopes lasso typed atoms origins ms (λ m among. let (s, lt, is) = are.from m among in (s, is)),
      λ other shows. gives_own model scopes lasso typed one_atom other ms are shows,
    )
