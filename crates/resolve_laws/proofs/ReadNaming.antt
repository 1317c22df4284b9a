-- What a name may stand for does not depend on what it is taken to stand for; of these, one number is one declaration.
use Rattle.std.proofs.Common.{◌≡◌, ◌∙◌, ℕ, Bool, true, false, cond, List, [], ◌∷◌, map, length, slice_get, Option, Some, None, refl, sym, ap, subst, bytes_eq}
use Rattle.std.proofs.lemmas.Option.{none-some, same_Some}
use Rattle.base_types.specs.declared.place.Position.{Position}
use Rattle.syntax_tree.specs.declared.expr.QualName.{QualName}
use Rattle.resolve_types.specs.declared.columns.Columns.{Columns}
use Rattle.resolve_readings.specs.declared.meaning.Meaning.{Meaning}
use Rattle.resolve_names.specs.declared.table.Decl.{Decl}
use Rattle.resolve_names.specs.declared.table.Namespace.{Namespace}
use Rattle.resolve_names.specs.Visible.{Kept, done, keep, skip, AreCandidates, what_of}
use Rattle.resolve_picks.specs.declared.target.Target.{Target}
use Rattle.resolve_picks.specs.declared.target.Target.TheVariants as target
use Rattle.resolve_rules.specs.Candidates.{set_of}
use Rattle.resolve_said.specs.Locals.{number_of}
use Rattle.resolve_said.specs.Said.{target_of, text_alone}
use Rattle.resolve_read.specs.At.{At, Scope, type_of}
use Rattle.resolve_read.specs.Candidates.{meaning_of, meaning_of_this, own_named, IsShown, standing, fields_on, Chooses, ChoosesOwn, Picked, in_scope, of_this, declared, PicksField}
use Rattle.resolve_laws.specs.Occurs.{IsOutside}
use Rattle.resolve_laws.specs.Readings.{with_picks, names_of}
use Rattle.resolve_laws.proofs.ReadLists.{same_there}
use Rattle.resolve_laws.proofs.Agreeing.{AgreeOn}

-- just those of which P holds are one list
one_kept : {X : Type 0} (P : X → Type 0) (xs ys zs : List X) → Kept P xs ys → Kept P xs zs → ys ≡ zs
one_kept P [] _ _ done done = refl
one_kept P (x ∷ xs) _ _ (keep p a) (keep q b) = ap (λ (l : List _). x ∷ l) (one_kept P xs _ _ a b)
one_kept P (x ∷ xs) _ _ (keep p a) (skip not_it b) = absurd (not_it p)
one_kept P (x ∷ xs) _ _ (skip not_it a) (keep p b) = absurd (not_it p)
one_kept P (x ∷ xs) _ _ (skip not_it a) (skip nor_it b) = one_kept P xs _ _ a b

one_found : (scopes : List Namespace) (from : ℕ) (q : QualName) (ds es : List Decl) → AreCandidates scopes from q ds → AreCandidates scopes from q es → ds ≡ es
one_found scopes from q ds es a b = a.2 ∙ (ap (map what_of) (one_kept _ _ a.0 b.0 a.1 b.1) ∙ sym b.2)

found_so : (b : Bool) (c d : Columns) (n : ℕ) (o : Option Columns) (m : Option ℕ) → (o ≡ Some c → m ≡ None → ⊥) → cond b (Some d) o ≡ Some c → cond b (Some n) m ≡ None → ⊥
found_so true c d n o m more typed none = none-some n (sym none)
found_so false c d n o m more typed none = more typed none

-- a name that has a type in scope is one of the names
local_named : (text : List ℕ) (scope : Scope) (c : Columns) → type_of text scope ≡ Some c → number_of text (names_of scope) ≡ None → ⊥
local_named text [] c typed none = none-some c typed
local_named text (l ∷ outer) c typed none = found_so (bytes_eq l.name text) c l.columns (length (names_of outer)) (type_of text outer) (number_of text (names_of outer)) (local_named text outer c) typed none

-- of a name that is in scope nothing is asked
local_agrees : (picks others : Position → Option Target) (scope : Scope) (q : QualName) (text : List ℕ) (c : Columns) → text_alone q ≡ Some text → type_of text scope ≡ Some c → AgreeOn picks others (names_of scope) q
local_agrees picks others scope q text c alone typed outside = absurd (local_named text scope c typed (subst (IsOutside (names_of scope)) alone outside))

module _ (at : At) (picks : Position → Option Target) (scope : Scope) (q : QualName) where
  abbrev other : At
  other = with_picks at picks

  -- the candidates are the same, and so is what their number is taken to stand for
  pub record NamesAlike (ms ns : List Meaning) (n k : ℕ) : Type 0 where
    pub same : ms ≡ ns
    pub agree : n ≡ k → AgreeOn at.picks picks (names_of scope) q

  number_same : {X : Type 0} (xs ys : List X) (n k : ℕ) (x y : X) → xs ≡ ys → n ≡ k → slice_get xs n ≡ Some x → slice_get ys k ≡ Some y → x ≡ y
  number_same {X} xs ys n k x y same number first second =
      same_Some x y (sym first ∙ (ap (λ (l : List X). slice_get l n) same ∙ (ap (slice_get ys) number ∙ second)))

  chosen_alike : (ds es : List Decl) (ms ns : List Meaning) (n k : ℕ) → ds ≡ es → Chooses at q ds ms n → Chooses other q es ns k → NamesAlike ms ns n k
  chosen_alike ds es ms ns n k same a b = record {
    same = same_there ms ns (sym a.each ∙ (ap (map (meaning_of at)) same ∙ b.each));
    agree = λ number outside. a.picked ∙ (ap (λ (d : Decl). Some (target_of at.scopes d)) (number_same ds es n k a.chosen b.chosen same number a.number b.number) ∙ sym b.picked);
  }

  own_alike : (fs gs : List ℕ) (ms ns : List Meaning) (n k : ℕ) → fs ≡ gs → ChoosesOwn at q fs ms n → ChoosesOwn other q gs ns k → NamesAlike ms ns n k
  own_alike fs gs ms ns n k same a b = record {
    same = same_there ms ns (sym a.each ∙ (ap (map (meaning_of_this at)) same ∙ b.each));
    agree = λ number outside. a.picked ∙ (ap (λ (f : ℕ). Some (target.Field f)) (number_same fs gs n k a.chosen b.chosen same number a.number b.number) ∙ sym b.picked);
  }

  same_text : (text words : List ℕ) → text_alone q ≡ Some text → text_alone q ≡ Some words → text ≡ words
  same_text text words is was = same_Some text words (sym is ∙ was)

  not_typed : (text words : List ℕ) (c : Columns) → text_alone q ≡ Some text → text_alone q ≡ Some words → type_of text scope ≡ Some c → type_of words scope ≡ None → ⊥
  not_typed text words c is was typed none = none-some c (sym none ∙ (ap (λ (t : List ℕ). type_of t scope) (sym (same_text text words is was)) ∙ typed))

  shown_of : (text : List ℕ) → text_alone q ≡ Some text → IsShown at scope (text_alone q) → (type_of text scope ≡ None) × (own_named at.own text ≡ [])
  shown_of text is shown = subst (IsShown at scope) is shown

  no_own : (fs : List ℕ) (n f : ℕ) → fs ≡ [] → slice_get fs n ≡ Some f → ⊥
  no_own fs n f none is = none-some f (subst (λ (l : List ℕ). slice_get l n ≡ Some f) none is)

  pub picked_alike : (ms ns : List Meaning) (n k : ℕ) → Picked at scope q ms n → Picked other scope q ns k → NamesAlike ms ns n k
  picked_alike _ _ _ _ (in_scope {text = text} {c = c} is typed) (in_scope {text = words} {c = d} was too) = record {
    same = ap (λ (x : Columns). set_of x false ∷ []) (same_Some c d (sym typed ∙ (ap (λ (t : List ℕ). type_of t scope) (same_text text words is was) ∙ too)));
    agree = λ number. local_agrees at.picks picks scope q text c is typed;
  }
  picked_alike _ _ _ _ (in_scope {text = text} {c = c} is typed) (of_this {text = words} was none own) = absurd (not_typed text words c is was typed none)
  picked_alike _ _ _ _ (in_scope {text = text} {c = c} is typed) (declared shown seen chosen) = absurd (not_typed text text c is is typed (shown_of text is shown).0)
  picked_alike _ _ _ _ (of_this {text = words} was none own) (in_scope {text = text} {c = c} is typed) = absurd (not_typed text words c is was typed none)
  picked_alike _ _ _ _ (of_this {text = text} {n = n} {ms = ms} is none own) (of_this {text = words} {n = k} {ms = ns} was nor owns) =
      own_alike (own_named at.own text) (own_named at.own words) ms ns n k (ap (own_named at.own) (same_text text words is was)) own owns
  picked_alike _ _ _ _ (of_this {text = text} {n = n} is none own) (declared shown seen chosen) = absurd (no_own (own_named at.own text) n own.chosen (shown_of text is shown).1 own.number)
  picked_alike _ _ _ _ (declared shown seen chosen) (in_scope {text = text} {c = c} is typed) = absurd (not_typed text text c is is typed (shown_of text is shown).0)
  picked_alike _ _ _ _ (declared shown seen chosen) (of_this {text = text} {n = n} is none own) = absurd (no_own (own_named at.own text) n own.chosen (shown_of text is shown).1 own.number)
  picked_alike _ _ _ _ (declared {found = ds} {n = n} {ms = ms} shown seen chosen) (declared {found = es} {n = k} {ms = ns} appears sees chose) =
      chosen_alike (standing at q ds) (standing at q es) ms ns n k (ap (standing at q) (one_found at.scopes at.instance q ds es seen sees)) chosen chose

  -- behind `@`, also where the name is in scope
  pub field_alike : (ms ns : List Meaning) (n k : ℕ) → PicksField at q ms n → PicksField other q ns k → (ms ≡ ns) × (n ≡ k → at.picks q.place ≡ picks q.place)
  field_alike ms ns n k a b =
      let same : fields_on at a.found at.ground ≡ fields_on at b.found at.ground = ap (λ (l : List Decl). fields_on at l at.ground) (one_found at.scopes at.instance q a.found b.found a.seen b.seen) in
      let first = a.chooses in
      let second = b.chooses in (
        same_there ms ns (sym first.each ∙ (ap (map (meaning_of at)) same ∙ second.each)),
        λ number. first.picked ∙ (ap (λ (d : Decl). Some (target_of at.scopes d)) (number_same (fields_on at a.found at.ground) (fields_on at b.found at.ground) n k first.chosen second.chosen same number first.number second.number) ∙ sym second.picked),
      )
