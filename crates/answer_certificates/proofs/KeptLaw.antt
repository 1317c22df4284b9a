-- What clauses rule out with some facts alone.
use Rattle.std.proofs.Common.{◌≡◌, ◌∙◌, ℕ, zero, suc, ◌+◌, ◌-◌, ◌<◌, ◌≤◌, Bool, true, false, not, ◌||◌, cond, nat_lt, List, [], ◌∷◌, ◌++◌, map, take, length, slice_get, All, Option, Some, None, refl, sym, ap, subst, ⊎_elim, arith, length-append}
use Rattle.std.specs.List.{Contains}
use Rattle.std.proofs.lemmas.Bool.{cases_lt, ltb-true, false_from_ne_true}
use Rattle.std.proofs.lemmas.List.{length-map}
use Rattle.std.proofs.lemmas.List.Elements.{All-nil, All-cons, All-head, All-tail}
use Rattle.std.proofs.lemmas.Option.{slice_get_within, get_or_from_slice_get}
use Rattle.core_tree.specs.declared.model.Body.{Body}
use Rattle.core_tree.specs.declared.model.Command.{Command}
use Rattle.core_tree.specs.declared.model.Fact.{Fact}
use Rattle.core_tree.specs.declared.tree.Formula.{Formula}
use Rattle.core_tree.specs.declared.operators.TemporalUnary.TheVariants.{Always}
use Rattle.core_tree.specs.Trees.{Claim, claim_of, temporal}
use Rattle.core_meaning.specs.declared.scopes.SigScope.{SigScope}
use Rattle.core_meaning.specs.declared.scopes.Scopes.{Scopes}
use Rattle.core_meaning.specs.Called.{no_bodies, bodies_of}
use Rattle.core_meaning.specs.Kept.{world_of, KeepsNumbers}
use Rattle.core_meaning.specs.Meaning.{no_names, Holds}
use Rattle.core_meaning.specs.Sequence.{LassoValue}
use Rattle.core_meaning.specs.World.{World}
use Rattle.sat_dimacs.specs.declared.cnf.Cnf.{Cnf}
use Rattle.bound_uppers.specs.Candidates.{IsCandidate}
use Rattle.bound_laws.specs.Placed.{ArePlaced}
use Rattle.bound_laws.specs.Satisfying.{IsLassoOver, SatisfyingAreCandidates}
use Rattle.form_target.specs.Targets.{IsWrittenOut, Adds, none_added, one_added, fact_claims, always_claims}
use Rattle.answer_search.specs.Clauses.{HoldsFirst, Meets}
use Rattle.answer_certificates.specs.Parts.{is_out, stays, staying, RuleOut}
use Rattle.answer_analysis.specs.declared.ready.Prepared.{Prepared}
use Rattle.answer_analysis.specs.Found.{IsPrepared, IsReady}
use Rattle.answer_analysis.proofs.NoneLaw.{right_of, same_item}
use Rattle.answer_certificates.specs.Kept.{before, facts_at, KeepsFacts, KeptFactsRuleOut}

-- ---- lists

-- what is at a place of two lists
pub at_left : {X : Type 0} (xs ys : List X) (k : ℕ) → k < length xs → slice_get (xs ++ ys) k ≡ slice_get xs k
at_left [] ys k low = absurd (omega (arith, low))
at_left (x ∷ xs) ys zero low = refl
at_left (x ∷ xs) ys (suc k) low = at_left xs ys k (omega (arith, low))

pub at_end : {X : Type 0} (xs : List X) (x : X) (k : ℕ) → k ≡ length xs → slice_get (xs ++ x ∷ []) k ≡ Some x
at_end [] x zero is = refl
at_end [] x (suc k) is = absurd (omega (arith, is))
at_end (y ∷ xs) x zero is = absurd (omega (arith, is))
at_end (y ∷ xs) x (suc k) is = at_end xs x k (omega (arith, is))

-- what holds of each item of a list
each_claim : {X : Type 0} (P : Claim → Type 0) (claim : X → Claim) (l : List X) → All P (map claim l) → All (λ x. P (claim x)) l
each_claim P claim [] h = All-nil (λ x. P (claim x))
each_claim P claim (x ∷ l) h = All-cons (λ x. P (claim x)) x l (All-head P (claim x) (map claim l) h) (each_claim P claim l (All-tail P (claim x) (map claim l) h))

pub claim_at : {X : Type 0} (claim : X → Claim) (l : List X) (k : ℕ) (c : Claim) → slice_get (map claim l) k ≡ Some c → (x : X) × (slice_get l k ≡ Some x) × (c ≡ claim x)
claim_at claim [] k c e = absurd (cc)
claim_at claim (x ∷ l) zero c e = (x, refl, (let is : Some (claim x) ≡ Some c = e in cc))
claim_at claim (x ∷ l) (suc k) c e = claim_at claim l k c e

pub at_take : {X : Type 0} (xs : List X) (n k : ℕ) → k < n → slice_get (take n xs) k ≡ slice_get xs k
at_take [] zero k low = refl
at_take [] (suc n) k low = refl
at_take (x ∷ xs) zero k low = absurd (omega (arith, low))
at_take (x ∷ xs) (suc n) zero low = refl
at_take (x ∷ xs) (suc n) (suc k) low = at_take xs n k (omega (arith, low))

pub take_length : {X : Type 0} (n : ℕ) (xs : List X) → n ≤ length xs → length (take n xs) ≡ n
take_length zero [] low = refl
take_length zero (x ∷ xs) low = refl
take_length (suc n) [] low = absurd (omega (arith, low))
take_length (suc n) (x ∷ xs) low = ap suc (take_length n xs (omega (arith, low)))

pub at_place : {X : Type 0} (P : X → Type 0) (xs : List X) (k : ℕ) (x : X) → All P xs → slice_get xs k ≡ Some x → P x
at_place P xs k x h e = subst P (get_or_from_slice_get xs k x x e) (h k x (slice_get_within xs k x e))

-- ---- formulas that stay

by_stay : (P : Claim → Type 0) (b : Bool) (c : Claim) (rest : List Claim) → (b ≡ true → P c) → All P rest → All P (cond b (c ∷ rest) rest)
by_stay P true c rest h all = All-cons P c rest (h refl) all
by_stay P false c rest h all = all

stay_holds : (P : Claim → Type 0) (stay : ℕ → Bool) (fs : List Formula) (n : ℕ) → ((k m : ℕ) (f : Formula) → m ≡ n + k → slice_get fs k ≡ Some f → stay m ≡ true → P (claim_of f)) → All P (staying stay n fs)
stay_holds P stay [] n h = All-nil P
stay_holds P stay (f ∷ fs) n h =
    by_stay P (stay n) (claim_of f) (staying stay (n + 1) fs) (λ e. h 0 n f (omega arith) refl e)
    (stay_holds P stay fs (n + 1) (λ k m g at there e. h (suc k) m g (omega (arith, at)) there e))

-- ---- formulas that are written out

pub adds_length : (bodies : List Body) (front now : List Formula) (olds : List Claim) → Adds bodies front now olds → length now ≡ length front + length olds
adds_length bodies front _ _ none_added = omega arith
adds_length bodies front _ _ (one_added {now} {olds} {old} f rest is) =
    omega (arith, length-append now (f ∷ []), length-append olds (old ∷ []), adds_length bodies front now olds rest)

-- what a formula behind the front is written out of
pub written_at : (bodies : List Body) (front now : List Formula) (olds : List Claim) → Adds bodies front now olds → (k : ℕ) (f : Formula) → slice_get now k ≡ Some f → length front ≤ k
    → (c : Claim) × (slice_get olds (k - length front) ≡ Some c) × IsWrittenOut bodies (claim_of f) c
written_at bodies front _ _ none_added k f there low = absurd (omega (arith, low, slice_get_within front k f there))
written_at bodies front _ _ (one_added {now} {olds} {old} g rest is) k f there low =
    let count = adds_length bodies front now olds rest in
    ⊎_elim
    (λ (early : k < length now).
    let earlier = written_at bodies front now olds rest k f (sym (at_left now (g ∷ []) k early) ∙ there) low in
    (earlier.0, at_left olds (old ∷ []) (k - length front) (omega (arith, early, count, low)) ∙ earlier.1, earlier.2))
    (λ (late : length now ≤ k).
    let within = slice_get_within (now ++ g ∷ []) k f there in
    let last : k ≡ length now = omega (arith, late, within, length-append now (g ∷ [])) in
    let both : Some g ≡ Some f = sym (at_end now g k last) ∙ there in
    let same : g ≡ f = cc in
    (old, at_end olds old (k - length front) (omega (arith, last, count)), subst (λ (x : Formula). IsWrittenOut bodies (claim_of x) old) same is))
    (cases_lt k (length now))

-- `always` says that a formula never fails
never_fails : (bodies : List Body) (w : World) (c : Claim) → ((i : ℕ) → ¬ ¬ Holds w (bodies_of w bodies) c no_names i) → Holds w (bodies_of w bodies) (temporal Always c) no_names 0
never_fails bodies w c h (j, low, fails) = h j fails

-- ---- facts that are kept

kept_before : (P : Fact → Type 0) (o : Option Fact) (rest : List Fact) → All P (before o rest) → All P rest
kept_before P None rest h = h
kept_before P (Some fact) rest h = All-tail P fact rest h

kept_first : (P : Fact → Type 0) (o : Option Fact) (x : Fact) (rest : List Fact) → o ≡ Some x → All P (before o rest) → P x
kept_first P o x rest is h = All-head P x rest (subst (λ (p : Option Fact). All P (before p rest)) is h)

kept_holds : (P : Fact → Type 0) (facts : List Fact) (kept : List ℕ) (n : ℕ) (x : Fact) → All P (facts_at facts kept) → Contains kept n → slice_get facts n ≡ Some x → P x
kept_holds P facts [] n x h c e = absurd (omega (arith, c.1))
kept_holds P facts (k ∷ ks) n x h (zero, low, at) e =
    let same : k ≡ n = at in kept_first P (slice_get facts k) x (facts_at facts ks) (ap (slice_get facts) same ∙ e) h
kept_holds P facts (k ∷ ks) n x h (suc p, low, at) e = kept_holds P facts ks n x (kept_before P (slice_get facts k) (facts_at facts ks) h) (p, omega (arith, low), at) e

-- ---- all together

or_false : (a b : Bool) → a ≡ false → (a || b) ≡ true → b ≡ true
or_false true b e f = absurd (cc)
or_false false b e f = f

not_false : (b : Bool) → not b ≡ true → b ≡ false
not_false true e = absurd (cc)
not_false false e = refl

pub not_less : (a b : ℕ) → b ≤ a → nat_lt a b ≡ false
not_less a b low = false_from_ne_true (nat_lt a b) (λ e. let less = ltb-true a b e in omega (arith, low, less))

module _ (number : ℕ) (prepared : Prepared) (kept : List ℕ) (cnf : Cnf) (made : IsPrepared number prepared)
    (out : RuleOut prepared.target prepared.first_fact (length prepared.ready.model.facts) prepared.ready.bounds kept cnf) (lasso : LassoValue) (keeps : KeepsFacts prepared.ready kept lasso) where
  abbrev ready : IsReady number prepared.ready
  ready = made.ready

  abbrev world : World
  world = world_of prepared.ready.scopes lasso

  abbrev New : Claim → Type 0
  New c = Holds world no_bodies c no_names 0

  abbrev Old : Claim → Type 0
  Old c = Holds world (bodies_of world prepared.ready.model.bodies) c no_names 0

  abbrev bodies : List Body
  bodies = prepared.ready.model.bodies

  abbrev all : List Formula
  all = prepared.target.formulas

  abbrev first : ℕ
  first = prepared.first_fact

  -- the command is that which the target is made of
  same_command : claim_of keeps.command.formula ≡ claim_of ready.command.formula
  same_command =
      ap (λ (c : Command). claim_of c.formula) (same_item prepared.ready.model.commands prepared.ready.command number keeps.command ready.command ready.asked keeps.chosen ready.chosen)

  of_model : length world.top ≡ length prepared.ready.model.sigs
  of_model = length-map prepared.ready.scopes.numbers (λ (s : SigScope). s.top) ∙ ready.counted

  -- what a target's formula for the declarations says
  declared_hold : (k : ℕ) (f : Formula) → k < first → slice_get all k ≡ Some f → New (claim_of f)
  declared_hold k f low there =
      let is = made.target_is in
      let at = written_at bodies [] (take first all) (always_claims is.asked) is.declared k f (at_take all first k low ∙ there) (omega arith) in
      let same : k - 0 ≡ k = omega arith in
      let there_is : slice_get (always_claims is.asked) k ≡ Some at.0 = subst (λ (n : ℕ). slice_get (always_claims is.asked) n ≡ Some at.0) same at.1 in
      let x = claim_at (λ (a : Formula). temporal Always (claim_of a)) is.asked k at.0 there_is in
      let holds : (i : ℕ) → ¬ ¬ Holds world (bodies_of world bodies) (claim_of x.0) no_names i =
      λ i never. never (at_place (λ (a : Formula). Holds world (bodies_of world bodies) (claim_of a) no_names i) is.asked k x.0 ((is.says world i of_model).1 (keeps.satisfies.declared i)) x.1) in
      (at.2.same world 0).1 (subst Old (sym x.2) (never_fails bodies world (claim_of x.0) holds))

  -- what one for a fact, or for the command, says
  part_holds : (k : ℕ) (f : Formula) → first ≤ k → slice_get all k ≡ Some f → is_out out.dropped (k - first) ≡ false → New (claim_of f)
  part_holds k f low there kept_one =
      let is = made.target_is in
      let facts = prepared.ready.model.facts in
      let command = claim_of ready.command.formula in
      let claims = fact_claims facts in
      let within = slice_get_within all k f there in
      let front : length (take first all) ≡ first = take_length first all (omega (arith, low, within)) in
      let at = written_at bodies (take first all) all (claims ++ command ∷ []) is.parts k f there (omega (arith, front, low)) in
      let m = k - first in
      let there_is : slice_get (claims ++ command ∷ []) m ≡ Some at.0 = subst (λ (n : ℕ). slice_get (claims ++ command ∷ []) (k - n) ≡ Some at.0) front at.1 in
      let size : length claims ≡ length facts = length-map facts (λ (x : Fact). claim_of x.formula) in
      let old : Old at.0 = ⊎_elim
      (λ (early : m < length facts).
      let x = claim_at (λ (y : Fact). claim_of y.formula) facts m at.0 (sym (at_left claims (command ∷ []) m (omega (arith, early, size))) ∙ there_is) in
      let has : Contains kept m = (out.left_out.each m early).1 kept_one in
      subst Old (sym x.2) (kept_holds (λ (y : Fact). Old (claim_of y.formula)) facts kept m x.0 keeps.satisfies.facts_hold has x.1))
      (λ (late : length facts ≤ m).
      let room = slice_get_within (claims ++ command ∷ []) m at.0 there_is in
      let last : m ≡ length claims = omega (arith, late, room, size, length-append claims (command ∷ [])) in
      let both : Some command ≡ Some at.0 = sym (at_end claims command m last) ∙ there_is in
      let same : command ≡ at.0 = cc in
      subst Old same (subst Old same_command keeps.satisfies.command_holds))
      (cases_lt m (length facts)) in
      (at.2.same world 0).1 old

  staying_hold : All New (staying (stays first out.dropped) 0 all)
  staying_hold = stay_holds New (stays first out.dropped) all 0 (λ k m f at there e.
      let same : m ≡ k = omega (arith, at) in
      let stay : stays first out.dropped k ≡ true = subst (λ (n : ℕ). stays first out.dropped n ≡ true) same e in
      ⊎_elim
      (λ (low : k < first). declared_hold k f low there)
      (λ (up : first ≤ k). part_holds k f up there (not_false (is_out out.dropped (k - first)) (or_false (nat_lt k first) (not (is_out out.dropped (k - first))) (not_less k first up) stay)))
      (cases_lt k first))

  part_meets : Meets out.refuted.part lasso
  part_meets =
      let part = out.refuted.part in
      let scopes : part.scopes ≡ prepared.ready.scopes = out.refuted.is_part.scopes ∙ made.scoped in
      let formulas : All (λ (f : Formula). New (claim_of f)) part.formulas = each_claim New claim_of part.formulas (subst (All New) (sym out.refuted.is_part.formulas) staying_hold) in
      subst (λ (s : Scopes). KeepsNumbers s lasso × All (HoldsFirst s lasso) part.formulas) (sym scopes) (keeps.satisfies.keeps.numbers, formulas)

module _ (number : ℕ) (prepared : Prepared) (kept : List ℕ) (cnf : Cnf) (made : IsPrepared number prepared)
    (out : RuleOut prepared.target prepared.first_fact (length prepared.ready.model.facts) prepared.ready.bounds kept cnf) where
  no_candidate : (lasso : LassoValue) → IsCandidate prepared.ready.bounds lasso → KeepsFacts prepared.ready kept lasso → ⊥
  no_candidate lasso candidate keeps = out.refuted.ruled made.ready.table lasso candidate (part_meets number prepared kept cnf made out lasso keeps)

  -- a lasso that keeps the facts has a renaming that is a candidate and keeps them too
  no_lasso : SatisfyingAreCandidates → (lasso : LassoValue) → IsLassoOver prepared.ready.model prepared.ready.scopes lasso → length lasso.states ≤ prepared.ready.bounds.states → KeepsFacts prepared.ready kept lasso → ⊥
  no_lasso law lasso over few keeps =
      let right = right_of number prepared.ready made.ready in
      let placed : ArePlaced prepared.ready.model (claim_of keeps.command.formula) = subst (ArePlaced prepared.ready.model) (sym (same_command number prepared kept cnf made out lasso keeps)) made.ready.placed in
      let (r, other, renaming, renamed, candidate, satisfied) = law prepared.ready.model prepared.ready.scopes prepared.ready.bounds lasso (facts_at prepared.ready.model.facts kept) (claim_of keeps.command.formula) right placed made.ready.bounds_are over few keeps.satisfies in
      let also : KeepsFacts prepared.ready kept other = record { command = keeps.command; chosen = keeps.chosen; satisfies = satisfied } in
      no_candidate other candidate also

pub kept_law : SatisfyingAreCandidates → KeptFactsRuleOut
kept_law law number prepared kept cnf made out = record {
  candidates = no_candidate number prepared kept cnf made out;
  lassos = no_lasso number prepared kept cnf made out law;
}
