-- There are as many labels as relations.
use Rattle.std.proofs.Common.{◌≡◌, ℕ, zero, suc, ◌+◌, ◌<◌, ◌≤◌, ◌==◌, nat_lt, Bool, true, false, List, [], ◌∷◌, ◌++◌, length, Option, Some, None, slice_get, refl, arith}
use Rattle.std.proofs.lemmas.List.{length-append}
use Rattle.std.proofs.lemmas.Bool.Decides.{nat_tests}
use Rattle.core_tree.specs.declared.model.Model.{Model}
use Rattle.core_tree.specs.declared.model.Sig.{Sig}
use Rattle.core_tree.specs.declared.model.Field.{Field}
use Rattle.core_meaning.specs.declared.scopes.Scopes.{Scopes}
use Rattle.answer_trace.specs.Owners.{owner_among, owner_or, owner_at, put_where, owned_in, owned}
use Rattle.answer_trace.specs.Made.{sig_label_at, field_label_at, field_labels, first_atom, labels_before, relation_labels_of}

bit : Bool → ℕ
bit true = 1
bit false = 0

-- of n fields from number k on how many are owned by one of the first so many
count_below : (ℕ → ℕ) → ℕ → ℕ → ℕ → ℕ
count_below own s k zero = 0
count_below own s k (suc n) = bit (nat_lt (own k) s) + count_below own s (suc k) n

put_length : (b : Bool) (k : ℕ) (ks : List ℕ) → length (put_where b k ks) ≡ bit b + length ks
unfolding bit
put_length true k ks = omega arith
put_length false k ks = omega arith

next_bit : (o s : ℕ) → bit (nat_lt o (suc s)) ≡ bit (nat_lt o s) + bit (o == s)
unfolding bit
next_bit o s = grind (arith, nat_tests)

no_bit : (o : ℕ) → bit (nat_lt o 0) ≡ 0
unfolding bit
no_bit o = grind (arith, nat_tests)

none_below : (own : ℕ → ℕ) (k n : ℕ) → count_below own 0 k n ≡ 0
unfolding bit count_below
none_below own k zero = refl
none_below own k (suc n) = let rest = none_below own (suc k) n in let here = no_bit (own k) in omega (arith, rest, here)

next_below : (own : ℕ → ℕ) (s k n : ℕ) → count_below own (suc s) k n ≡ count_below own s k n + length (owned_in own s k n)
unfolding count_below
next_below own s k zero = refl
next_below own s k (suc n) =
    let rest = next_below own s (suc k) n in
    let here = next_bit (own k) s in
    let more = put_length (own k == s) k (owned_in own s (suc k) n) in
    omega (arith, rest, here, more)

sure_bit : (o s : ℕ) → o < s → bit (nat_lt o s) ≡ 1
unfolding bit
sure_bit o s lt = grind (arith, nat_tests)

all_below : (own : ℕ → ℕ) (s k n : ℕ) → ((j : ℕ) → own j < s) → count_below own s k n ≡ n
unfolding count_below
all_below own s k zero below = refl
all_below own s k (suc n) below =
    let rest = all_below own s (suc k) n below in
    let here = sure_bit (own k) s (below k) in
    omega (arith, rest, here)

among_le : (sigs : ℕ) (o : Option ℕ) → owner_among sigs o ≤ sigs
among_le sigs None = omega arith
among_le sigs (Some s) = grind (arith, nat_tests)

or_le : (sigs : ℕ) (o : Option Field) → owner_or sigs o ≤ sigs
or_le sigs None = omega arith
or_le sigs (Some f) = among_le sigs f.owner

pub owner_le : (model : Model) (k : ℕ) → owner_at model k ≤ length model.sigs
owner_le model k = or_le (length model.sigs) (slice_get model.fields k)

not_there : {X : Type 0} (xs : List X) (k : ℕ) → k < length xs → slice_get xs k ≡ None → ⊥
not_there [] k lt e = omega arith
not_there (x ∷ xs) zero lt e = absurd (cc)
not_there (x ∷ xs) (suc k) lt e = not_there xs k (omega arith) e

some_field : (model : Model) (k : ℕ) (o : Option Field) → slice_get model.fields k ≡ o → k < length model.fields → length (field_label_at model k o) ≡ 1
some_field model k (Some f) e lt = refl
some_field model k None e lt = absurd (not_there model.fields k lt e)

some_sig : (model : Model) (first s : ℕ) (o : Option Sig) → slice_get model.sigs s ≡ o → s < length model.sigs → length (sig_label_at model first s o) ≡ 1
some_sig model first s (Some sig) e lt = refl
some_sig model first s None e lt = absurd (not_there model.sigs s lt e)

put_labels : (model : Model) (b : Bool) (k : ℕ) (ks : List ℕ) → k < length model.fields → length (field_labels model (put_where b k ks)) ≡ bit b + length (field_labels model ks)
unfolding bit
put_labels model true k ks lt =
    let one = some_field model k (slice_get model.fields k) refl lt in
    let both = length-append (field_label_at model k (slice_get model.fields k)) (field_labels model ks) in
    omega (arith, one, both)
put_labels model false k ks lt = omega arith

-- there are as many labels as fields
labels_length : (model : Model) (own : ℕ → ℕ) (s k n : ℕ) → k + n ≤ length model.fields → length (field_labels model (owned_in own s k n)) ≡ length (owned_in own s k n)
labels_length model own s k zero le = refl
labels_length model own s k (suc n) le =
    let rest = labels_length model own s (suc k) n (omega arith) in
    let labels = put_labels model (own k == s) k (owned_in own s (suc k) n) (omega arith) in
    let numbers = put_length (own k == s) k (owned_in own s (suc k) n) in
    omega (arith, rest, labels, numbers)

owned_length : (model : Model) (s : ℕ) → length (field_labels model (owned model s)) ≡ length (owned model s)
owned_length model s = labels_length model (owner_at model) s 0 (length model.fields) (omega arith)

before_length : (model : Model) (scopes : Scopes) (n : ℕ) → n ≤ length model.sigs → length (labels_before model scopes n) ≡ n + count_below (owner_at model) n 0 (length model.fields)
before_length model scopes zero le = let none = none_below (owner_at model) 0 (length model.fields) in omega (arith, none)
before_length model scopes (suc s) le =
    let rest = before_length model scopes s (omega arith) in
    let sig = sig_label_at model (first_atom model scopes s) s (slice_get model.sigs s) in
    let fields = field_labels model (owned model s) in
    let one : length sig ≡ 1 = some_sig model (first_atom model scopes s) s (slice_get model.sigs s) refl (omega arith) in
    let all : length (labels_before model scopes s ++ (sig ++ fields)) ≡ length (labels_before model scopes s) + length (sig ++ fields) = length-append (labels_before model scopes s) (sig ++ fields) in
    let both : length (sig ++ fields) ≡ length sig + length fields = length-append sig fields in
    let count = owned_length model s in
    let next = next_below (owner_at model) s 0 (length model.fields) in
    omega (arith, rest, one, all, both, count, next)

-- there are as many labels as relations
pub labels_count : (model : Model) (scopes : Scopes) → length (relation_labels_of model scopes) ≡ length model.sigs + length model.fields
labels_count model scopes =
    let sigs = length model.sigs in
    let all = length-append (labels_before model scopes sigs) (field_labels model (owned model sigs)) in
    let before = before_length model scopes sigs (omega arith) in
    let count = owned_length model sigs in
    let next = next_below (owner_at model) sigs 0 (length model.fields) in
    let every = all_below (owner_at model) (suc sigs) 0 (length model.fields) (λ j. let le = owner_le model j in omega (arith, le)) in
    omega (arith, all, before, count, next, every)
