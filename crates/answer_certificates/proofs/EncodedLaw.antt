-- The units of a target's clauses say what the model asks that the target is made of.
use Rattle.std.proofs.Common.{◌≡◌, ◌↔◌, ◌∙◌, ℕ, zero, suc, ◌+◌, ◌<◌, ◌≤◌, ℤ, Bool, List, [], ◌∷◌, ◌++◌, map, length, slice_get, get_or, All, Some, refl, sym, ap, subst, arith, length-append}
use Rattle.std.proofs.lemmas.List.{length-map}
use Rattle.std.proofs.lemmas.List.Elements.{All-nil, All-cons}
use Rattle.std.proofs.lemmas.Option.{slice_get_within, slice_get-get_or}
use Rattle.core_tree.specs.declared.model.Body.{Body}
use Rattle.core_tree.specs.declared.model.Fact.{Fact}
use Rattle.core_tree.specs.declared.model.Model.{Model}
use Rattle.core_tree.specs.declared.tree.Formula.{Formula}
use Rattle.core_tree.specs.declared.operators.TemporalUnary.TheVariants.{Always}
use Rattle.core_tree.specs.Trees.{Claim, claim_of, temporal}
use Rattle.core_meaning.specs.declared.scopes.SigScope.{SigScope}
use Rattle.core_meaning.specs.declared.scopes.Scopes.{Scopes}
use Rattle.core_meaning.specs.Called.{bodies_of}
use Rattle.core_meaning.specs.Kept.{world_of, KeepsNumbers}
use Rattle.core_meaning.specs.Meaning.{no_names, Holds}
use Rattle.core_meaning.specs.Satisfied.{DeclaresAt}
use Rattle.core_meaning.specs.declared.target.Target.{Target}
use Rattle.core_meaning.specs.Sequence.{LassoValue}
use Rattle.core_meaning.specs.World.{World}
use Rattle.sat_dimacs.specs.declared.cnf.Cnf.{Cnf}
use Rattle.bound_uppers.specs.declared.table.Bounds.{Bounds}
use Rattle.form_target.specs.Targets.{IsTargetOf, fact_claims, always_claims}
use Rattle.answer_search.specs.Clauses.{IsTrueIn, HoldsFirst, SayTarget}
use Rattle.answer_analysis.specs.declared.ready.Prepared.{Prepared}
use Rattle.answer_analysis.specs.Found.{IsPrepared}
use Rattle.answer_certificates.specs.Encoded.{SayModel, StandsBy, UnitsSayModel, UnitsSayPart, UnitsSayKept}
use Rattle.answer_certificates.specs.Kept.{facts_at}
use Rattle.answer_certificates.specs.Parts.{IsPartOf}
use Rattle.answer_certificates.proofs.Keeping.{IsKeptTo, some_kept}
use Rattle.answer_certificates.proofs.KeptLaw.{at_left, at_end, at_place}
use Rattle.answer_certificates.proofs.PartLaw.{Paired, paired_length, paired_at, whole_paired, part_paired}

-- ---- lists

there : {X : Type 0} (xs : List X) (k : ℕ) → k < length xs → (x : X) × (slice_get xs k ≡ Some x)
there [] k lt = absurd (omega arith)
there (x ∷ xs) zero lt = (x, refl)
there (x ∷ xs) (suc k) lt = there xs k (omega arith)

-- what is at a place of the second of two lists
at_right : {X : Type 0} (xs ys : List X) (k j : ℕ) → j ≡ length xs + k → slice_get (xs ++ ys) j ≡ slice_get ys k
at_right [] ys k j is = let same : j ≡ k = omega (arith, is) in ap (slice_get ys) same
at_right (x ∷ xs) ys k zero is = absurd (omega (arith, is))
at_right (x ∷ xs) ys k (suc j) is = at_right xs ys k j (omega (arith, is))

-- a list is some items, so many behind them, and one more
split_end : {X : Type 0} (m : ℕ) (xs : List X) → length xs ≡ m + 1 → (bs : List X) × (z : X) × (xs ≡ bs ++ z ∷ []) × (length bs ≡ m)
split_end m [] e = absurd (omega (arith, e))
split_end zero (x ∷ []) e = ([], x, refl, refl)
split_end zero (x ∷ y ∷ xs) e = absurd (omega (arith, e))
split_end (suc m) (x ∷ xs) e =
    let (bs, z, is, count) = split_end m xs (omega (arith, e)) in
    (x ∷ bs, z, ap (λ ys. x ∷ ys) is, omega (arith, count))

split_at : {X : Type 0} (n m : ℕ) (xs : List X) → length xs ≡ n + (m + 1) → (front : List X) × (bs : List X) × (z : X) × (xs ≡ front ++ (bs ++ z ∷ [])) × (length front ≡ n) × (length bs ≡ m)
split_at zero m xs e =
    let (bs, z, is, count) = split_end m xs (omega (arith, e)) in
    ([], bs, z, is, refl, count)
split_at (suc n) m [] e = absurd (omega (arith, e))
split_at (suc n) m (x ∷ xs) e =
    let (front, bs, z, is, size, count) = split_at n m xs (omega (arith, e)) in
    (x ∷ front, bs, z, ap (λ ys. x ∷ ys) is, omega (arith, size), count)

map_at : {X Y : Type 0} (f : X → Y) (xs : List X) (k : ℕ) (x : X) → slice_get xs k ≡ Some x → slice_get (map f xs) k ≡ Some (f x)
map_at f [] k x e = absurd cc
map_at f (y ∷ xs) zero x e = let is : y ≡ x = cc in ap (λ z. Some (f z)) is
map_at f (y ∷ xs) (suc k) x e = map_at f xs k x e

-- what is denied of no item is not denied of all
all_undenied : {X : Type 0} (P : X → Type 0) (xs : List X) → ((k : ℕ) (x : X) → slice_get xs k ≡ Some x → ¬ ¬ P x) → ¬ ¬ All P xs
all_undenied P [] h none = none (All-nil P)
all_undenied P (x ∷ xs) h none = h 0 x refl (λ p. all_undenied P xs (λ k y e. h (suc k) y e) (λ all. none (All-cons P x xs p all)))

-- `always` says that a formula never fails
never_fails : (bodies : List Body) (w : World) (c : Claim) → Holds w (bodies_of w bodies) (temporal Always c) no_names 0 ↔ ((i : ℕ) → ¬ ¬ Holds w (bodies_of w bodies) c no_names i)
never_fails bodies w c = ((λ h i fails. h (i, omega arith, fails)), (λ h (j, low, fails). h j fails))

-- ---- the units

module _ (number : ℕ) (prepared : Prepared) (made : IsPrepared number prepared) (part : Target) (scoped : part.scopes ≡ prepared.ready.scopes) (these : List Fact) where
  abbrev model : Model
  model = prepared.ready.model

  abbrev scopes : Scopes
  scopes = prepared.ready.scopes

  abbrev command : Claim
  command = claim_of made.ready.command.formula

  abbrev target : IsTargetOf model scopes command prepared.target prepared.first_fact
  target = made.target_is

  abbrev parts : List Claim
  parts = fact_claims these ++ command ∷ []

  -- what the formulas are written out of
  abbrev olds : List Claim
  olds = always_claims target.asked ++ parts

  abbrev Old : LassoValue → Claim → Type 0
  Old lasso c = Holds (world_of scopes lasso) (bodies_of (world_of scopes lasso) model.bodies) c no_names 0

  abbrev Asked : LassoValue → ℕ → Formula → Type 0
  Asked lasso i a = Holds (world_of scopes lasso) (bodies_of (world_of scopes lasso) model.bodies) (claim_of a) no_names i

  of_model : (lasso : LassoValue) → length (world_of scopes lasso).top ≡ length model.sigs
  of_model lasso = length-map scopes.numbers (λ (s : SigScope). s.top) ∙ made.ready.counted

  asked_count : length (always_claims target.asked) ≡ length target.asked
  asked_count = length-map target.asked (λ (a : Formula). temporal Always (claim_of a))

  facts_count : length (fact_claims these) ≡ length these
  facts_count = length-map these (λ (f : Fact). claim_of f.formula)

  module _ (paired : Paired model.bodies (map claim_of part.formulas) olds) (bounds : Bounds) (cnf : Cnf) (say : SayTarget part bounds cnf) where
    abbrev Stands : (ℕ → Bool) → LassoValue → Type 0
    Stands v lasso = StandsBy bounds say.table say.defining v lasso

    count : length say.each ≡ length target.asked + (length these + 1)
    count = omega (arith, say.one_each, length-map part.formulas claim_of, paired_length model.bodies (map claim_of part.formulas) olds paired, length-append (always_claims target.asked) parts, length-append (fact_claims these) (command ∷ []), asked_count, facts_count)

    -- a unit is true just where that holds of the model which its formula is written out of
    unit_says : (v : ℕ → Bool) (lasso : LassoValue) → Stands v lasso → (k : ℕ) (literal : ℤ) (c : Claim) → slice_get say.each k ≡ Some literal → slice_get olds k ≡ Some c → IsTrueIn v literal ↔ Old lasso c
    unit_says v lasso stands k literal c at at_c =
        let (f, at_f) = there part.formulas k (omega (arith, say.one_each, slice_get_within say.each k literal at)) in
        let written = paired_at model.bodies (map claim_of part.formulas) olds k (claim_of f) c paired (map_at claim_of part.formulas k f at_f) at_c in
        let both = say.holds v lasso stands.0 stands.1 k f literal at_f at in
        let here = subst (λ (s : Scopes). IsTrueIn v literal ↔ HoldsFirst s lasso f) scoped both in
        let old = written.same (world_of scopes lasso) 0 in
        (λ on. old.0 (here.0 on), λ held. here.1 (old.1 held))

    -- that of a formula for the declarations
    asked_says : (v : ℕ → Bool) (lasso : LassoValue) → Stands v lasso → (k : ℕ) (literal : ℤ) (a : Formula) → slice_get say.each k ≡ Some literal → slice_get target.asked k ≡ Some a → IsTrueIn v literal ↔ ((i : ℕ) → ¬ ¬ Asked lasso i a)
    asked_says v lasso stands k literal a at at_a =
        let low : k < length (always_claims target.asked) = omega (arith, asked_count, slice_get_within target.asked k a at_a) in
        let at_c : slice_get olds k ≡ Some (temporal Always (claim_of a)) =
        at_left (always_claims target.asked) parts k low ∙ map_at (λ (x : Formula). temporal Always (claim_of x)) target.asked k a at_a in
        let says = unit_says v lasso stands k literal (temporal Always (claim_of a)) at at_c in
        let never = never_fails model.bodies (world_of scopes lasso) (claim_of a) in
        (λ on. never.0 (says.0 on), λ holds. says.1 (never.1 holds))

    -- that of a fact, or of the command
    part_says : (v : ℕ → Bool) (lasso : LassoValue) → Stands v lasso → (k p : ℕ) (literal : ℤ) (c : Claim) → p ≡ length target.asked + k → slice_get say.each p ≡ Some literal → slice_get parts k ≡ Some c → IsTrueIn v literal ↔ Old lasso c
    part_says v lasso stands k p literal c is at at_c =
        unit_says v lasso stands p literal c at (at_right (always_claims target.asked) parts k p (omega (arith, is, asked_count)) ∙ at_c)

    -- the units behind those of the naming and of the scopes' numbers: some, then so many, and one more
    module _ (some facts : List ℤ) (last : ℤ) (parted : say.each ≡ some ++ (facts ++ last ∷ [])) (size : length some ≡ length target.asked) (facts_size : length facts ≡ length these) where
      at_some : (k : ℕ) (literal : ℤ) → slice_get some k ≡ Some literal → slice_get say.each k ≡ Some literal
      at_some k literal at = ap (λ (units : List ℤ). slice_get units k) parted ∙ at_left some (facts ++ last ∷ []) k (slice_get_within some k literal at) ∙ at

      at_part : (k : ℕ) (literal : ℤ) → slice_get (facts ++ last ∷ []) k ≡ Some literal → slice_get say.each (length target.asked + k) ≡ Some literal
      at_part k literal at =
          ap (λ (units : List ℤ). slice_get units (length target.asked + k)) parted ∙ at_right some (facts ++ last ∷ []) k (length target.asked + k) (omega (arith, size)) ∙ at

      never_denied : (v : ℕ → Bool) (lasso : LassoValue) → Stands v lasso → All (IsTrueIn v) some → (i k : ℕ) (a : Formula) → slice_get target.asked k ≡ Some a → ¬ ¬ Asked lasso i a
      never_denied v lasso stands trues i k a at_a =
          let (literal, at) = there some k (omega (arith, size, slice_get_within target.asked k a at_a)) in
          (asked_says v lasso stands k literal a (at_some k literal at) at_a).0 (at_place (IsTrueIn v) some k literal trues at) i

      keeps_to : (v : ℕ → Bool) (lasso : LassoValue) → Stands v lasso → (IsTrueIn v say.numbers × All (IsTrueIn v) some) → (KeepsNumbers scopes lasso × ((i : ℕ) → ¬ ¬ DeclaresAt model scopes lasso i))
      keeps_to v lasso stands (numbers, trues) = (
        subst (λ (s : Scopes). KeepsNumbers s lasso) scoped ((say.keeps v lasso stands.0 stands.1).0 numbers),
        λ i never. all_undenied (Asked lasso i) target.asked (never_denied v lasso stands trues i) (λ hold. never ((target.says (world_of scopes lasso) i (of_model lasso)).0 hold)),
      )

      unit_true : (v : ℕ → Bool) (lasso : LassoValue) → Stands v lasso → ((i : ℕ) → ¬ ¬ DeclaresAt model scopes lasso i) → (k : ℕ) (literal : ℤ) → slice_get some k ≡ Some literal → IsTrueIn v literal
      unit_true v lasso stands declared k literal at =
          let (a, at_a) = there target.asked k (omega (arith, size, slice_get_within some k literal at)) in
          (asked_says v lasso stands k literal a (at_some k literal at) at_a).1 (λ i fails. declared i (λ hold. fails (at_place (Asked lasso i) target.asked k a ((target.says (world_of scopes lasso) i (of_model lasso)).1 hold) at_a)))

      keeps_from : (v : ℕ → Bool) (lasso : LassoValue) → Stands v lasso → (KeepsNumbers scopes lasso × ((i : ℕ) → ¬ ¬ DeclaresAt model scopes lasso i)) → (IsTrueIn v say.numbers × All (IsTrueIn v) some)
      keeps_from v lasso stands (numbers, declared) = (
        (say.keeps v lasso stands.0 stands.1).1 (subst (λ (s : Scopes). KeepsNumbers s lasso) (sym scoped) numbers),
        λ k d lt. unit_true v lasso stands declared k (get_or some k d) (slice_get-get_or some k d lt),
      )

      fact_holds : (v : ℕ → Bool) (lasso : LassoValue) → Stands v lasso → (k : ℕ) (f : Fact) (literal : ℤ) → slice_get these k ≡ Some f → slice_get facts k ≡ Some literal → IsTrueIn v literal ↔ Old lasso (claim_of f.formula)
      fact_holds v lasso stands k f literal at_f at =
          let unit_at : slice_get (facts ++ last ∷ []) k ≡ Some literal = at_left facts (last ∷ []) k (slice_get_within facts k literal at) ∙ at in
          let low : k < length (fact_claims these) = omega (arith, facts_count, slice_get_within these k f at_f) in
          let claim_is : slice_get parts k ≡ Some (claim_of f.formula) = at_left (fact_claims these) (command ∷ []) k low ∙ map_at (λ (x : Fact). claim_of x.formula) these k f at_f in
          part_says v lasso stands k (length target.asked + k) literal (claim_of f.formula) refl (at_part k literal unit_at) claim_is

      command_holds : (v : ℕ → Bool) (lasso : LassoValue) → Stands v lasso → IsTrueIn v last ↔ Old lasso command
      command_holds v lasso stands =
          let k = length these in
          part_says v lasso stands k (length target.asked + k) last command refl (at_part k last (at_end facts last k (sym facts_size))) (at_end (fact_claims these) command k (sym facts_count))

      say_parts : SayModel prepared.ready these command (StandsBy bounds say.table say.defining) say.numbers say.each
      say_parts = record {
        declared = some;
        facts = facts;
        last = last;
        parted = parted;
        one_each = facts_size;
        keeps = λ v lasso stands. (keeps_to v lasso stands, keeps_from v lasso stands);
        fact_holds = fact_holds;
        command_holds = command_holds;
      }

    say_model : SayModel prepared.ready these command (StandsBy bounds say.table say.defining) say.numbers say.each
    say_model =
        let (some, facts, last, parted, size, facts_size) = split_at (length target.asked) (length these) say.each count in
        say_parts some facts last parted size facts_size

pub units_say_model : UnitsSayModel
units_say_model number prepared bounds cnf made say =
    let model = prepared.ready.model in
    let paired = whole_paired model prepared.ready.scopes (claim_of made.ready.command.formula) prepared.target prepared.first_fact made.target_is in
    say_model number prepared made prepared.target made.scoped model.facts paired bounds cnf say

-- where those facts are kept that aren't left out
module _ (number : ℕ) (prepared : Prepared) (made : IsPrepared number prepared) (dropped : List Bool) (kept : List ℕ) (few : length dropped ≤ length prepared.ready.model.facts)
    (h : IsKeptTo dropped (length prepared.ready.model.facts) kept) (part : Target) (is_part : IsPartOf prepared.target prepared.first_fact dropped part) where
  say_kept : (bounds : Bounds) (cnf : Cnf) (say : SayTarget part bounds cnf) → SayModel prepared.ready (facts_at prepared.ready.model.facts kept) (claim_of made.ready.command.formula) (StandsBy bounds say.table say.defining) say.numbers say.each
  say_kept bounds cnf say =
      let paired = part_paired prepared.ready.model prepared.ready.scopes (claim_of made.ready.command.formula) prepared.target prepared.first_fact made.target_is dropped kept part few h is_part in
      say_model number prepared made part (is_part.scopes ∙ made.scoped) (facts_at prepared.ready.model.facts kept) paired bounds cnf say

pub units_say_part : UnitsSayPart
units_say_part number prepared bounds cnf made part =
    let (kept, h) = some_kept part.dropped (length prepared.ready.model.facts) in
    (kept, (h.rises, h.below), say_kept number prepared made part.dropped kept part.few h part.said.part part.said.is_part bounds cnf part.said.says)

pub units_say_kept : UnitsSayKept
units_say_kept number prepared bounds kept cnf made right out =
    let h : IsKeptTo out.dropped (length prepared.ready.model.facts) kept = record { rises = right.0; below = right.1; each = out.left_out.each } in
    say_kept number prepared made out.dropped kept (omega (arith, out.left_out.count)) h out.refuted.part out.refuted.is_part bounds cnf out.refuted.says
