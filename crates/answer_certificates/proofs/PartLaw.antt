-- A target without the formulas of some facts is made of the other facts.
use Rattle.std.proofs.Common.{◌≡◌, ◌∙◌, ◌⊎◌, inl, inr, ⊎_elim, ℕ, zero, suc, ◌+◌, ◌-◌, ◌<◌, ◌≤◌, Bool, true, false, not, ◌||◌, cond, List, [], ◌∷◌, ◌++◌, map, take, length, slice_get, get_or, Option, Some, refl, sym, ap, subst, arith, append_assoc, append-nil, length-append, lt-ltb}
use Rattle.std.specs.List.{Contains, AllPairs}
use Rattle.std.proofs.lemmas.Bool.{cases_lt}
use Rattle.std.proofs.lemmas.List.{map-append, take_all}
use Rattle.std.proofs.lemmas.List.Elements.{All-contains}
use Rattle.std.proofs.lemmas.List.Kept.{AllPairs-from_increasing}
use Rattle.std.proofs.Math.ListN.{get_or-eq_default}
use Rattle.core_tree.specs.declared.model.Body.{Body}
use Rattle.core_tree.specs.declared.model.Fact.{Fact}
use Rattle.core_tree.specs.declared.model.Model.{Model}
use Rattle.core_tree.specs.declared.tree.Formula.{Formula}
use Rattle.core_tree.specs.Trees.{Claim, claim_of}
use Rattle.core_meaning.specs.declared.scopes.Scopes.{Scopes}
use Rattle.core_meaning.specs.declared.target.Target.{Target}
use Rattle.form_target.specs.Targets.{IsTargetOf, IsWrittenOut, Adds, none_added, one_added, fact_claims, always_claims}
use Rattle.answer_certificates.specs.Kept.{before, facts_at}
use Rattle.answer_certificates.specs.Parts.{is_out, stays, staying, IsPartOf}
use Rattle.answer_certificates.proofs.Keeping.{IsKeptTo}
use Rattle.answer_certificates.proofs.KeptLaw.{adds_length, take_length, not_less}

-- ---- formulas that are written out, one by one

-- formulas are written out of just so many, each of its own
abbrev pub Paired : List Body → List Claim → List Claim → Type 0
Paired bodies [] [] = Unit {0}
Paired bodies [] (old ∷ olds) = ⊥
Paired bodies (new ∷ news) [] = ⊥
Paired bodies (new ∷ news) (old ∷ olds) = IsWrittenOut bodies new old × Paired bodies news olds

paired_push : (bodies : List Body) (news olds : List Claim) (new old : Claim) → Paired bodies news olds → IsWrittenOut bodies new old → Paired bodies (news ++ new ∷ []) (olds ++ old ∷ [])
paired_push bodies [] [] new old h is = (is, tt)
paired_push bodies [] (o ∷ olds) new old h is = absurd h
paired_push bodies (n ∷ news) [] new old h is = absurd h
paired_push bodies (n ∷ news) (o ∷ olds) new old h is = (h.0, paired_push bodies news olds new old h.1 is)

paired_adds : (bodies : List Body) (front now : List Formula) (fronts olds : List Claim) → Paired bodies (map claim_of front) fronts → Adds bodies front now olds → Paired bodies (map claim_of now) (fronts ++ olds)
paired_adds bodies front _ fronts _ h none_added = subst (Paired bodies (map claim_of front)) (sym (append-nil fronts)) h
paired_adds bodies front _ fronts _ h (one_added {now} {olds} {old} f rest is) =
    let more = paired_push bodies (map claim_of now) (fronts ++ olds) (claim_of f) old (paired_adds bodies front now fronts olds h rest) is in
    subst (λ (news : List Claim). Paired bodies news (fronts ++ (olds ++ old ∷ []))) (sym (map-append claim_of now (f ∷ [])))
    (subst (Paired bodies (map claim_of now ++ claim_of f ∷ [])) (append_assoc fronts olds (old ∷ [])) more)

pub paired_length : (bodies : List Body) (news olds : List Claim) → Paired bodies news olds → length news ≡ length olds
paired_length bodies [] [] h = refl
paired_length bodies [] (o ∷ olds) h = absurd h
paired_length bodies (n ∷ news) [] h = absurd h
paired_length bodies (n ∷ news) (o ∷ olds) h = ap suc (paired_length bodies news olds h.1)

pub paired_at : (bodies : List Body) (news olds : List Claim) (k : ℕ) (new old : Claim) → Paired bodies news olds → slice_get news k ≡ Some new → slice_get olds k ≡ Some old → IsWrittenOut bodies new old
paired_at bodies [] olds k new old h at_new at_old = absurd cc
paired_at bodies (n ∷ news) [] k new old h at_new at_old = absurd h
paired_at bodies (n ∷ news) (o ∷ olds) zero new old h at_new at_old =
    let same_new : n ≡ new = cc in
    let same_old : o ≡ old = cc in
    subst (λ (c : Claim). IsWrittenOut bodies c old) same_new (subst (IsWrittenOut bodies n) same_old h.0)
paired_at bodies (n ∷ news) (o ∷ olds) (suc k) new old h at_new at_old = paired_at bodies news olds k new old h.1 at_new at_old

-- ---- formulas that stay

-- those that stay, from a place on
abbrev picked : (ℕ → Bool) → ℕ → List Claim → List Claim
picked stay place [] = []
picked stay place (c ∷ cs) = cond (stay place) (c ∷ picked stay (place + 1) cs) (picked stay (place + 1) cs)

staying_picked : (stay : ℕ → Bool) (place : ℕ) (fs : List Formula) → staying stay place fs ≡ picked stay place (map claim_of fs)
staying_picked stay place [] = refl
staying_picked stay place (f ∷ fs) = ap (λ (cs : List Claim). cond (stay place) (claim_of f ∷ cs) cs) (staying_picked stay (place + 1) fs)

by_stay : (bodies : List Body) (b : Bool) (new old : Claim) (news olds : List Claim) → IsWrittenOut bodies new old → Paired bodies news olds → Paired bodies (cond b (new ∷ news) news) (cond b (old ∷ olds) olds)
by_stay bodies true new old news olds is h = (is, h)
by_stay bodies false new old news olds is h = h

paired_picked : (bodies : List Body) (stay : ℕ → Bool) (place : ℕ) (news olds : List Claim) → Paired bodies news olds → Paired bodies (picked stay place news) (picked stay place olds)
paired_picked bodies stay place [] [] h = tt
paired_picked bodies stay place [] (o ∷ olds) h = absurd h
paired_picked bodies stay place (n ∷ news) [] h = absurd h
paired_picked bodies stay place (n ∷ news) (o ∷ olds) h =
    by_stay bodies (stay place) n o (picked stay (place + 1) news) (picked stay (place + 1) olds) h.0 (paired_picked bodies stay (place + 1) news olds h.1)

-- those in front of a place, where each stays
front_stays : (stay : ℕ → Bool) (front rest : List Claim) (place up : ℕ) → up ≡ place + length front → ((k : ℕ) → k < up → stay k ≡ true) → picked stay place (front ++ rest) ≡ front ++ picked stay up rest
front_stays stay [] rest place up is h = let same : place ≡ up = omega (arith, is) in ap (λ (k : ℕ). picked stay k rest) same
front_stays stay (c ∷ front) rest place up is h =
    ap (λ (b : Bool). cond b (c ∷ picked stay (place + 1) (front ++ rest)) (picked stay (place + 1) (front ++ rest))) (h place (omega (arith, is)))
    ∙ ap (λ (cs : List Claim). c ∷ cs) (front_stays stay front rest (place + 1) up (omega (arith, is)) h)

stays_low : (first k : ℕ) (dropped : List Bool) → k < first → stays first dropped k ≡ true
stays_low first k dropped low = ap (λ (b : Bool). b || not (is_out dropped (k - first))) (lt-ltb k first low)

stays_at : (first n place : ℕ) (dropped : List Bool) → place ≡ first + n → stays first dropped place ≡ not (is_out dropped n)
stays_at first n place dropped is =
    let back : place - first ≡ n = omega (arith, is) in
    ap (λ (b : Bool). b || not (is_out dropped (place - first))) (not_less place first (omega (arith, is))) ∙ ap (λ (k : ℕ). not (is_out dropped k)) back

-- ---- numbers of facts

in_cons : (x : ℕ) (xs : List ℕ) (n : ℕ) → Contains (x ∷ xs) n → (x ≡ n) ⊎ Contains xs n
in_cons x xs n (zero, low, at) = inl at
in_cons x xs n (suc k, low, at) = inr (k, omega (arith, low), at)

in_tail : (x : ℕ) (xs : List ℕ) (n : ℕ) → Contains xs n → Contains (x ∷ xs) n
in_tail x xs n (k, low, at) = (suc k, omega (arith, low), at)

head_below : (x : ℕ) (xs : List ℕ) (n : ℕ) → AllPairs (λ a b. a < b) (x ∷ xs) → Contains xs n → x < n
head_below x xs n pairs (k, low, at) = let less : x < get_or xs k n = pairs 0 (suc k) n (omega arith) (omega (arith, low)) in omega (arith, less, at)

-- of the facts from one number to another those are kept that aren't left out
record IsKeptIn (dropped : List Bool) (from to : ℕ) (kept : List ℕ) : Type 0 where
  rises : AllPairs (λ a b. a < b) kept
  within : (k : ℕ) → Contains kept k → (from ≤ k) × (k < to)
  each : (k : ℕ) → from ≤ k → k < to → (Contains kept k → is_out dropped k ≡ false) × (is_out dropped k ≡ false → Contains kept k)

out_next : (dropped : List Bool) (from to : ℕ) (kept : List ℕ) → is_out dropped from ≡ true → from < to → IsKeptIn dropped from to kept → IsKeptIn dropped (from + 1) to kept
out_next dropped from to kept out room h = record {
  rises = h.rises;
  within = λ k c. (
    ⊎_elim
        (λ (more : from < k). omega (arith, more))
        (λ (same : k ≤ from).
        let low = (h.within k c).0 in
        let is : k ≡ from = omega (arith, same, low) in
        let kept_one : is_out dropped from ≡ false = (h.each from (omega arith) room).0 (subst (Contains kept) is c) in
        absurd cc)
        (cases_lt from k),
    (h.within k c).1,
  );
  each = λ k low up. h.each k (omega (arith, low)) up;
}

tail_kept : (dropped : List Bool) (from to x : ℕ) (kept : List ℕ) → x ≡ from → IsKeptIn dropped from to (x ∷ kept) → IsKeptIn dropped (from + 1) to kept
tail_kept dropped from to x kept is h = record {
  rises = λ i j d less room. h.rises (suc i) (suc j) d (omega (arith, less)) (omega (arith, room));
  within = λ k c. (let less = head_below x kept k h.rises c in omega (arith, less, is), (h.within k (in_tail x kept k c)).1);
  each = λ k low up. (
    λ c. (h.each k (omega (arith, low)) up).0 (in_tail x kept k c),
    λ e. ⊎_elim (λ (same : x ≡ k). absurd (omega (arith, same, is, low))) (λ (deep : Contains kept k). deep) (in_cons x kept k ((h.each k (omega (arith, low)) up).1 e)),
  );
}

in_next : (dropped : List Bool) (from to : ℕ) (kept : List ℕ) → is_out dropped from ≡ false → from < to → IsKeptIn dropped from to kept → (rest : List ℕ) × (kept ≡ from ∷ rest) × IsKeptIn dropped (from + 1) to rest
in_next dropped from to [] stay room h = let c = (h.each from (omega arith) room).1 stay in absurd (omega (arith, c.1))
in_next dropped from to (x ∷ kept) stay room h =
    let low = (h.within x (zero, omega arith, refl)).0 in
    let is : x ≡ from = ⊎_elim
    (λ (same : x ≡ from). same)
    (λ (deep : Contains kept from). let less = head_below x kept from h.rises deep in absurd (omega (arith, less, low)))
    (in_cons x kept from ((h.each from (omega arith) room).1 stay)) in
    (kept, ap (λ (n : ℕ). n ∷ kept) is, tail_kept dropped from to x kept is h)

none_in : (dropped : List Bool) (n : ℕ) (kept : List ℕ) → IsKeptIn dropped n n kept → kept ≡ []
none_in dropped n [] h = refl
none_in dropped n (x ∷ kept) h = let both = h.within x (zero, omega arith, refl) in let low = both.0 in let up = both.1 in absurd (omega (arith, low, up))

kept_in : (dropped : List Bool) (n : ℕ) (kept : List ℕ) → IsKeptTo dropped n kept → IsKeptIn dropped 0 n kept
kept_in dropped n kept h = record {
  rises = AllPairs-from_increasing kept h.rises;
  within = λ k c. (omega arith, All-contains (λ fact. fact < n) kept k h.below c);
  each = λ k low up. h.each k up;
}

-- ---- facts that stay

out_cases : (b : Bool) → (b ≡ true) ⊎ (b ≡ false)
out_cases true = inl refl
out_cases false = inr refl

module _ (facts : List Fact) (dropped : List Bool) (first : ℕ) (command : Claim) where
  -- the formulas of the facts from a number on, and that of the command
  facts_stay : (fs : List Fact) (n place to : ℕ) (kept : List ℕ) → place ≡ first + n → to ≡ n + length fs → ((j : ℕ) → slice_get facts (n + j) ≡ slice_get fs j) → IsKeptIn dropped n to kept → is_out dropped to ≡ false
      → picked (stays first dropped) place (fact_claims fs ++ command ∷ []) ≡ fact_claims (facts_at facts kept) ++ command ∷ []
  facts_stay [] n place to kept at end there h last =
      let same : to ≡ n = omega (arith, end) in
      let none : kept ≡ [] = none_in dropped n kept (subst (λ (k : ℕ). IsKeptIn dropped n k kept) same h) in
      let stay : stays first dropped place ≡ true = stays_at first n place dropped at ∙ ap not (ap (is_out dropped) (sym same) ∙ last) in
      ap (λ (b : Bool). cond b (command ∷ []) []) stay ∙ sym (ap (λ (l : List ℕ). fact_claims (facts_at facts l) ++ command ∷ []) none)
  facts_stay (f ∷ fs) n place to kept at end there h last =
      let rest = fact_claims fs ++ command ∷ [] in
      let next : (j : ℕ) → slice_get facts ((n + 1) + j) ≡ slice_get fs j = λ j. (let same : (n + 1) + j ≡ n + suc j = omega arith in ap (slice_get facts) same ∙ there (suc j)) in
      let flag = stays_at first n place dropped at in
      let room : n < to = omega (arith, end) in
      ⊎_elim
      (λ (out : is_out dropped n ≡ true).
      let tail = facts_stay fs (n + 1) (place + 1) to kept (omega (arith, at)) (omega (arith, end)) next (out_next dropped n to kept out room h) last in
      ap (λ (b : Bool). cond b (claim_of f.formula ∷ picked (stays first dropped) (place + 1) rest) (picked (stays first dropped) (place + 1) rest)) (flag ∙ ap not out) ∙ tail)
      (λ (stay : is_out dropped n ≡ false).
      let (more, is, kept_more) = in_next dropped n to kept stay room h in
      let tail = facts_stay fs (n + 1) (place + 1) to more (omega (arith, at)) (omega (arith, end)) next kept_more last in
      let zero_more : n ≡ n + 0 = omega arith in
      let here : slice_get facts n ≡ Some f = ap (slice_get facts) zero_more ∙ there 0 in
      ap (λ (b : Bool). cond b (claim_of f.formula ∷ picked (stays first dropped) (place + 1) rest) (picked (stays first dropped) (place + 1) rest)) (flag ∙ ap not stay)
      ∙ (ap (λ (cs : List Claim). claim_of f.formula ∷ cs) tail
      ∙ (sym (ap (λ (o : Option Fact). fact_claims (before o (facts_at facts more)) ++ command ∷ []) here) ∙ sym (ap (λ (l : List ℕ). fact_claims (facts_at facts l) ++ command ∷ []) is))))
      (out_cases (is_out dropped n))

-- ---- targets

module _ (model : Model) (scopes : Scopes) (command : Claim) (target : Target) (first : ℕ) (made : IsTargetOf model scopes command target first) where
  abbrev declared : List Claim
  declared = always_claims made.asked

  -- what the formulas are written out of, with these facts
  abbrev pub written_from : List Fact → List Claim
  written_from facts = declared ++ (fact_claims facts ++ command ∷ [])

  pub whole_paired : Paired model.bodies (map claim_of target.formulas) (written_from model.facts)
  whole_paired = paired_adds model.bodies (take first target.formulas) target.formulas declared (fact_claims model.facts ++ command ∷ []) (paired_adds model.bodies [] (take first target.formulas) [] declared tt made.declared) made.parts

  front_count : length (take first target.formulas) ≡ first
  front_count = ⊎_elim
      (λ (less : length target.formulas < first).
      let all : take first target.formulas ≡ target.formulas = take_all first target.formulas (omega (arith, less)) in
      absurd (omega (arith, ap length all, adds_length model.bodies (take first target.formulas) target.formulas (fact_claims model.facts ++ command ∷ []) made.parts, length-append (fact_claims model.facts) (command ∷ []))))
      (λ (room : first ≤ length target.formulas). take_length first target.formulas room)
      (cases_lt (length target.formulas) first)

  declared_count : length declared ≡ first
  declared_count = omega (arith, front_count, adds_length model.bodies [] (take first target.formulas) declared made.declared)

  pub part_paired : (dropped : List Bool) (kept : List ℕ) (part : Target) → length dropped ≤ length model.facts → IsKeptTo dropped (length model.facts) kept → IsPartOf target first dropped part
      → Paired model.bodies (map claim_of part.formulas) (written_from (facts_at model.facts kept))
  part_paired dropped kept part few h is =
      let stay = stays first dropped in
      let olds : picked stay 0 (written_from model.facts) ≡ written_from (facts_at model.facts kept) =
      front_stays stay declared (fact_claims model.facts ++ command ∷ []) 0 first (omega (arith, declared_count)) (λ k low. stays_low first k dropped low)
      ∙ ap (λ (cs : List Claim). declared ++ cs)
      (facts_stay model.facts dropped first command model.facts 0 first (length model.facts) kept (omega arith) (omega arith) (λ j. (let same : 0 + j ≡ j = omega arith in ap (slice_get model.facts) same)) (kept_in dropped (length model.facts) kept h) (get_or-eq_default dropped false few)) in
      let news : map claim_of part.formulas ≡ picked stay 0 (map claim_of target.formulas) = is.formulas ∙ staying_picked stay 0 target.formulas in
      subst (λ (cs : List Claim). Paired model.bodies cs (written_from (facts_at model.facts kept))) (sym news)
      (subst (Paired model.bodies (picked stay 0 (map claim_of target.formulas))) olds (paired_picked model.bodies stay 0 (map claim_of target.formulas) (written_from model.facts) whole_paired))
