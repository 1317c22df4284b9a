-- The sigs of scopes, counted, and the fields of `this`, tested one by one.
use Rattle.std.proofs.Common.{◌≡◌, ◌∙◌, ℕ, ◌+◌, ◌<◌, ◌≤◌, Bool, true, false, ◌||◌, List, length, drop, get_or, sym, ap, arith}
use Rattle.std.proofs.lemmas.List.{drop_all}
use Rattle.std.specs.Str.{bytes_eq}
use Rattle.resolve_names.specs.declared.table.Namespace.{Namespace}
use Rattle.resolve_said.specs.declared.place.OwnField.{OwnField}
use Rattle.resolve_said.specs.Said.{string_sig, has_own}
use Rattle.resolve_said.proofs.Lists.{drop_next}

pub sigs_next : (scopes : List Namespace) (i count now whole : ℕ) (s : Namespace) → i < length scopes → s ≡ get_or scopes i s → count + string_sig (drop i scopes) ≡ whole → now ≡ count + s.sigs → now + string_sig (drop (i + 1) scopes) ≡ whole
sigs_next scopes i count now whole s inside at was adds =
    let front : string_sig (drop i scopes) ≡ s.sigs + string_sig (drop (i + 1) scopes) = ap string_sig (drop_next scopes i s inside at) in
    omega (arith, front, was, adds)

pub sigs_end : (scopes : List Namespace) (i count whole : ℕ) → length scopes ≤ i → count + string_sig (drop i scopes) ≡ whole → count ≡ whole
sigs_end scopes i count whole past was =
    let none : string_sig (drop i scopes) ≡ 0 = ap string_sig (drop_all i scopes past) in
    omega (arith, none, was)

own_front : (own : List OwnField) (text : List ℕ) (i : ℕ) (o : OwnField) → i < length own → o ≡ get_or own i o → has_own (drop i own) text ≡ (bytes_eq o.name text || has_own (drop (i + 1) own) text)
own_front own text i o inside at = ap (λ (l : List OwnField). has_own l text) (drop_next own i o inside at)

pub own_next : (own : List OwnField) (text : List ℕ) (i : ℕ) (o : OwnField) (whole : Bool) → i < length own → o ≡ get_or own i o → bytes_eq o.name text ≡ false → has_own (drop i own) text ≡ whole → has_own (drop (i + 1) own) text ≡ whole
own_next own text i o whole inside at other was = sym (own_front own text i o inside at ∙ ap (λ b. b || has_own (drop (i + 1) own) text) other) ∙ was

pub own_here : (own : List OwnField) (text : List ℕ) (i : ℕ) (o : OwnField) (whole : Bool) → i < length own → o ≡ get_or own i o → bytes_eq o.name text ≡ true → has_own (drop i own) text ≡ whole → true ≡ whole
own_here own text i o whole inside at same was = sym (own_front own text i o inside at ∙ ap (λ b. b || has_own (drop (i + 1) own) text) same) ∙ was

pub own_end : (own : List OwnField) (text : List ℕ) (i : ℕ) (whole : Bool) → length own ≤ i → has_own (drop i own) text ≡ whole → false ≡ whole
own_end own text i whole past was = sym (ap (λ (l : List OwnField). has_own l text) (drop_all i own past)) ∙ was
