-- Marks of what the entries of a scope so far say a number of.
use Rattle.std.proofs.Common.{◌≡◌, inl, inr, ℕ, zero, suc, ◌+◌, ◌<◌, ◌≤◌, ◌==◌, nat_lt, Bool, true, false, not, ◌||◌, if◌then◌else◌, List, [], ◌∷◌, ◌++◌, take, length, get_or, set, replicate, Option, None, slice_get, refl, sym, ap, ap₂, ◌∙◌, subst, arith}
use Rattle.std.proofs.lemmas.Bool.{cases_lt}
use Rattle.std.proofs.lemmas.List.{take_more, get_or-replicate, length-replicate}
use Rattle.core_tree.specs.declared.model.Sig.{Sig}
use Rattle.core_tree.specs.declared.model.Origin.{Origin}
use Rattle.core_tree.specs.declared.model.ScopeEntry.{ScopeEntry}
use Rattle.core_tree.specs.declared.model.ScopeSubject.{ScopeSubject}
use Rattle.core_tree.specs.declared.model.ScopeSubject.TheVariants as subject
use Rattle.bound_definitions.specs.Numbers.{lists, is_int, is_steps}
use Rattle.bound_definitions.specs.Places.{place_if, first_from, each_behind}
use Rattle.bound_definitions.specs.Rules.{in_root, is_subset, is_there_and, says_of, is_repeated, may_not_stand, bad_entry}
use Rattle.bound_definitions.proofs.Firsts.{behind_turn}
use Rattle.bound_numbers.proofs.Places.{set_at}
use Rattle.bound_scopes.specs.declared.entries.Single.{Single}
use Rattle.bound_scopes.specs.Listed.{is_marked, marked_by, with_single, AreMarked}

either_end : (x y b : Bool) → (x || (y || b)) ≡ ((x || y) || b)
either_end true y b = refl
either_end false y b = refl

last_or : (b : Bool) → (b || false) ≡ b
last_or true = refl
last_or false = refl

or_swap : (a b : Bool) → (a || b) ≡ (b || a)
or_swap true true = refl
or_swap true false = refl
or_swap false true = refl
or_swap false false = refl

if_or : (b r : Bool) → (if b then true else r) ≡ (r || b)
if_or true true = refl
if_or true false = refl
if_or false true = refl
if_or false false = refl

repeated_last : (before : List ScopeEntry) (e : ScopeEntry) (what : ScopeSubject) → is_repeated (before ++ e ∷ []) what ≡ (is_repeated before what || says_of what e.subject)
repeated_last [] e what = last_or (says_of what e.subject)
repeated_last (x ∷ before) e what = ap (λ b. says_of what x.subject || b) (repeated_last before e what) ∙ either_end (says_of what x.subject) (is_repeated before what) (says_of what e.subject)

mark_read : (marks : List Bool) (what : ScopeSubject) (s : ℕ) → s < length marks → get_or (marked_by marks what) s false ≡ (get_or marks s false || lists what s)
mark_read marks (subject.Sig q) s lt = set_at marks q s true false lt ∙ if_or (q == s) (get_or marks s false)
mark_read marks subject.Int s lt = sym (last_or (get_or marks s false))
mark_read marks subject.Steps s lt = sym (last_or (get_or marks s false))
mark_read marks subject.Overall s lt = sym (last_or (get_or marks s false))
mark_read marks subject.Unknown s lt = sym (last_or (get_or marks s false))

set_same : (l : List Bool) (q : ℕ) → length (set l q true) ≡ length l
set_same [] q = refl
set_same (x ∷ l) zero = refl
set_same (x ∷ l) (suc q) = ap suc (set_same l q)

flags_length : (l : List Bool) (q : ℕ) (b : Bool) → length (if b then set l q true else l) ≡ length l
flags_length l q true = set_same l q
flags_length l q false = refl

mark_length : (marks : List Bool) (what : ScopeSubject) → length (marked_by marks what) ≡ length marks
mark_length marks (subject.Sig q) = flags_length marks q (nat_lt q (length marks))
mark_length marks subject.Int = refl
mark_length marks subject.Steps = refl
mark_length marks subject.Overall = refl
mark_length marks subject.Unknown = refl

pub none_marked : (count : ℕ) (marks : List Bool) (single : Single) → marks ≡ replicate count false → single.bits ≡ false → single.steps ≡ false → AreMarked count [] marks single
none_marked count marks single is bits steps = record {
  count = ap length is ∙ length-replicate count false;
  sigs = λ s lt. ap (λ (l : List Bool). get_or l s false) is ∙ get_or-replicate count s false false lt;
  bits = bits;
  steps = steps;
}

marked_last : (count : ℕ) (before : List ScopeEntry) (e : ScopeEntry) (marks now : List Bool) (single next : Single) → AreMarked count before marks single → now ≡ marked_by marks e.subject → next ≡ with_single single e.subject → AreMarked count (before ++ e ∷ []) now next
marked_last count before e marks now single next are is one = record {
  count = ap length is ∙ mark_length marks e.subject ∙ are.count;
  sigs = λ s lt.
      let within : s < length marks = let same = are.count in omega arith in
      ap (λ (l : List Bool). get_or l s false) is ∙ mark_read marks e.subject s within ∙ ap (λ b. b || lists e.subject s) (are.sigs s lt) ∙ sym (repeated_last before e (subject.Sig s));
  bits = ap (λ (s : Single). s.bits) one ∙ or_swap (is_int e.subject) single.bits ∙ ap (λ b. b || is_int e.subject) are.bits ∙ sym (repeated_last before e subject.Int);
  steps = ap (λ (s : Single). s.steps) one ∙ or_swap (is_steps e.subject) single.steps ∙ ap (λ b. b || is_steps e.subject) are.steps ∙ sym (repeated_last before e subject.Steps);
}

pub marked_turn : (count : ℕ) (entries : List ScopeEntry) (i next : ℕ) (e : ScopeEntry) (marks now : List Bool) (single after : Single) → next ≡ i + 1 → i < length entries → e ≡ get_or entries i e → AreMarked count (take i entries) marks single → now ≡ marked_by marks e.subject → after ≡ with_single single e.subject → AreMarked count (take next entries) now after
marked_turn count entries i next e marks now single after one lt item are is more =
    let longer : take i entries ++ e ∷ [] ≡ take next entries = ap (λ (x : ScopeEntry). take i entries ++ x ∷ []) item ∙ sym (take_more entries i e lt) ∙ ap (λ (n : ℕ). take n entries) (sym one) in
    subst (λ (l : List ScopeEntry). AreMarked count l now after) longer (marked_last count (take i entries) e marks now single after are is more)

none_there : (sigs : List Sig) (s : ℕ) → length sigs ≤ s → slice_get sigs s ≡ None
none_there [] s far = refl
none_there (d ∷ sigs) zero far = absurd (omega arith)
none_there (d ∷ sigs) (suc s) far = none_there sigs s (omega arith)

sig_may_not : (sigs : List Sig) (s : ℕ) (marked repeated exactly : Bool) → (s < length sigs → marked ≡ repeated) → may_not_stand sigs marked exactly (subject.Sig s) ≡ may_not_stand sigs repeated exactly (subject.Sig s)
sig_may_not sigs s marked repeated exactly same =
    elim (cases_lt s (length sigs)) [
      | inl lt ↦ ap (λ b. not (is_there_and (λ d. not (is_subset d.kind)) (slice_get sigs s)) || b) (same lt)
      | inr far ↦ ap (λ (o : Option Sig). not (is_there_and (λ d. not (is_subset d.kind)) o) || marked) (none_there sigs s far)
          ∙ sym (ap (λ (o : Option Sig). not (is_there_and (λ d. not (is_subset d.kind)) o) || repeated) (none_there sigs s far))
    ]

same_stand : (sigs : List Sig) (before : List ScopeEntry) (marks : List Bool) (single : Single) (exactly : Bool) (what : ScopeSubject) → AreMarked (length sigs) before marks single → may_not_stand sigs (is_marked marks single what) exactly what ≡ may_not_stand sigs (is_repeated before what) exactly what
same_stand sigs before marks single exactly (subject.Sig s) are = sig_may_not sigs s (get_or marks s false) (is_repeated before (subject.Sig s)) exactly (are.sigs s)
same_stand sigs before marks single exactly subject.Int are = ap (λ b. exactly || b) are.bits
same_stand sigs before marks single exactly subject.Steps are = ap (λ b. exactly || b) are.steps
same_stand sigs before marks single exactly subject.Overall are = refl
same_stand sigs before marks single exactly subject.Unknown are = refl

pub bad_turn : (sigs : List Sig) (entries : List ScopeEntry) (i next : ℕ) (e : ScopeEntry) (slice marks : List Bool) (single : Single) (repeated bad : Bool) (at : Origin) (old new : Option Origin) → next ≡ i + 1 → i < length entries → e ≡ get_or entries i e → AreMarked (length sigs) (take i entries) marks single → slice ≡ marks → repeated ≡ is_marked slice single e.subject → bad ≡ may_not_stand sigs repeated e.exactly e.subject → at ≡ in_root e.name_place → old ≡ first_from None (each_behind (bad_entry sigs) [] (take i entries)) → new ≡ first_from old (place_if bad at) → new ≡ first_from None (each_behind (bad_entry sigs) [] (take next entries))
bad_turn sigs entries i next e slice marks single repeated bad at old new one lt item are same seen is place was found =
    behind_turn (bad_entry sigs) entries i next e old new one lt item was
    (found ∙ ap₂ (λ (b : Bool) (o : Origin). first_from old (place_if b o))
    (is ∙ ap (λ (r : Bool). may_not_stand sigs r e.exactly e.subject) (seen ∙ ap (λ (l : List Bool). is_marked l single e.subject) same) ∙ same_stand sigs (take i entries) marks single e.exactly e.subject are) place)
