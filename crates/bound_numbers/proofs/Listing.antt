-- The entries of a scope, from the first on and from the last back.
use Rattle.std.proofs.Common.{◌≡◌, ℕ, ◌+◌, ◌-◌, ◌<◌, ◌≤◌, Bool, if◌then◌else◌, List, length, get_or, drop, Some, None, slice_get, refl, sym, ap, ◌∙◌, arith}
use Rattle.std.proofs.lemmas.List.{drop_all}
use Rattle.core_tree.specs.declared.model.ScopeEntry.{ScopeEntry}
use Rattle.core_tree.specs.declared.model.ScopeSubject.{ScopeSubject}
use Rattle.core_tree.specs.declared.model.ScopeSubject.TheVariants as subject
use Rattle.bound_definitions.specs.declared.known.Known.{Known}
use Rattle.bound_definitions.specs.Numbers.{unknown, known_as, lists, listed_for, first_number}
use Rattle.bound_definitions.specs.Rules.{first_entry}
use Rattle.bound_numbers.specs.Tables.{table_of}
use Rattle.bound_numbers.specs.Listed.{AreListed, noted_by}
use Rattle.bound_numbers.proofs.Places.{dropped, set_at, set_length}

-- the first number from an entry on, whether it is for what is asked or not
pub first_next : (is_kind : ScopeSubject → Bool) (n : ℕ) (entries : List ScopeEntry) (e : ScopeEntry) (i : ℕ) (b : Bool) → slice_get entries i ≡ Some e → is_kind e.subject ≡ b → first_number is_kind n (drop i entries) ≡ (if b then e.number else first_number is_kind n (drop (i + 1) entries))
first_next is_kind n entries e i b item h =
    ap (first_number is_kind n) (dropped entries e i (i + 1) i item refl refl) ∙ ap (λ (t : Bool). if t then e.number else first_number is_kind n (drop (i + 1) entries)) h

pub first_end : (is_kind : ScopeSubject → Bool) (n : ℕ) (entries : List ScopeEntry) (i : ℕ) → length entries ≤ i → first_number is_kind n (drop i entries) ≡ n
first_end is_kind n entries i far = ap (first_number is_kind n) (drop_all i entries far)

-- the same of the first entry itself
pub entry_next : (is_kind : ScopeSubject → Bool) (entries : List ScopeEntry) (e : ScopeEntry) (i : ℕ) (b : Bool) → slice_get entries i ≡ Some e → is_kind e.subject ≡ b → first_entry is_kind (drop i entries) ≡ (if b then Some e else first_entry is_kind (drop (i + 1) entries))
entry_next is_kind entries e i b item h =
    ap (first_entry is_kind) (dropped entries e i (i + 1) i item refl refl) ∙ ap (λ (t : Bool). if t then Some e else first_entry is_kind (drop (i + 1) entries)) h

pub entry_end : (is_kind : ScopeSubject → Bool) (entries : List ScopeEntry) (i : ℕ) → length entries ≤ i → first_entry is_kind (drop i entries) ≡ None
entry_end is_kind entries i far = ap (first_entry is_kind) (drop_all i entries far)

-- what is listed for each sig by the last entries, so many
pub record AreListedLast (entries : List ScopeEntry) (turn : ℕ) (listed : List Known) : Type 0 where
  pub each : (s : ℕ) → s < length listed → table_of listed s ≡ listed_for (drop (length entries - turn) entries) s

pub listed_none : (entries : List ScopeEntry) (listed : List Known) → ((s : ℕ) → get_or listed s unknown ≡ unknown) → AreListedLast entries 0 listed
listed_none entries listed none = record { each = λ s lt. none s ∙ sym (ap (λ es. listed_for es s) (drop_all (length entries - 0) entries (omega arith))) }

taken : (list : List Known) (sort : ScopeSubject) (k : Known) (s : ℕ) → s < length list → table_of (noted_by list sort k) s ≡ (if lists sort s then k else table_of list s)
taken list (subject.Sig q) k s lt = set_at list q s k unknown lt
taken list subject.Int k s lt = refl
taken list subject.Steps k s lt = refl
taken list subject.Overall k s lt = refl
taken list subject.Unknown k s lt = refl

pub noted_length : (list : List Known) (sort : ScopeSubject) (k : Known) → length (noted_by list sort k) ≡ length list
noted_length list (subject.Sig q) k = set_length list q k
noted_length list subject.Int k = refl
noted_length list subject.Steps k = refl
noted_length list subject.Overall k = refl
noted_length list subject.Unknown k = refl

pub listed_more : (entries : List ScopeEntry) (turn i : ℕ) (e : ScopeEntry) (old new : List Known) → i + 1 + turn ≡ length entries → slice_get entries i ≡ Some e → AreListedLast entries turn old → new ≡ noted_by old e.subject (known_as e.number e.exactly) → AreListedLast entries (turn + 1) new
listed_more entries turn i e old new place item was is = record {
  each = λ s lt.
      let k : Known = known_as e.number e.exactly in
      let long : length new ≡ length old = ap length is ∙ noted_length old e.subject k in
      let within : s < length old = omega (arith, lt, long) in
      let after : length entries - turn ≡ i + 1 = omega (arith, place) in
      let at : length entries - (turn + 1) ≡ i = omega (arith, place) in
      ap (λ (l : List Known). table_of l s) is ∙ taken old e.subject k s within ∙ ap (λ (r : Known). if lists e.subject s then k else r) (was.each s within)
      ∙ sym (ap (λ (es : List ScopeEntry). listed_for es s) (dropped entries e i (length entries - turn) (length entries - (turn + 1)) item after at));
}

pub listed_all : (entries : List ScopeEntry) (turn : ℕ) (listed : List Known) → length entries ≤ turn → AreListedLast entries turn listed → AreListed entries listed
listed_all entries turn listed far are s lt =
    let e : length entries - turn ≡ 0 = omega (arith, far) in
    are.each s lt ∙ ap (λ (n : ℕ). listed_for (drop n entries) s) e
