-- What is known of names grows with the sigs and parameters of a text.
use Rattle.std.proofs.Common.{◌≡◌, ◌⊎◌, inl, inr, ℕ, zero, suc, ◌+◌, Bool, true, false, not, ◌&&◌, ◌||◌, ◌<◌, List, [], ◌∷◌, ◌++◌, map, take, drop, get_or, length, slice_get, Option, Some, None, cond, append_assoc, append-nil, refl, sym, ap, subst, ◌∙◌, arith}
use Rattle.std.specs.Map.{update}
use Rattle.std.specs.Str.{bytes_eq}
use Rattle.std.proofs.lemmas.List.{length-map, length-take, map-append, take_more, take_all, drop_all}
use Rattle.std.proofs.lemmas.Option.{none-some, same_Some}
use Rattle.std.proofs.lemmas.Slice.Eq.{bytes_eq-Decides}
use Rattle.std.specs.List.{flat_map}
use Rattle.syntax_tree.specs.declared.expr.Named.{Named as NamedSyntax}
use Rattle.syntax_tree.specs.declared.module.Paragraph.{Paragraph}
use Rattle.syntax_tree.specs.declared.module.Parameter.{Parameter}
use Rattle.load_state.specs.Counts.{Tells, Tests, TestsName, TestsAll, is_named_sig, is_name, IsMore, HasName, TellsName, known_or, TellsAll, AddsSig, AddsParameter, Stays}
use Rattle.load_state.specs.Sigs.{declared_as, declared_in}
use Rattle.load_state.specs.declared.table.DeclaredSig.{DeclaredSig}
use Rattle.load_state.specs.declared.table.Known.{Known}

pub push_cases : {A : Type 0} (xs : List A) (x y : A) (n : ℕ) → slice_get (xs ++ x ∷ []) n ≡ Some y → (slice_get xs n ≡ Some y) ⊎ ((n ≡ length xs) × (x ≡ y))
push_cases [] x y zero is = inr (refl, same_Some x y is)
push_cases [] x y (suc n) is = absurd (none-some y is)
push_cases (a ∷ xs) x y zero is = inl is
push_cases (a ∷ xs) x y (suc n) is = elim (push_cases xs x y n is) [
  | inl before ↦ inl before
  | inr last ↦ inr (ap suc last.0, last.1)
]

pub push_kept : {A : Type 0} (xs : List A) (x y : A) (n : ℕ) → slice_get xs n ≡ Some y → slice_get (xs ++ x ∷ []) n ≡ Some y
push_kept [] x y n is = absurd (none-some y is)
push_kept (a ∷ xs) x y zero is = is
push_kept (a ∷ xs) x y (suc n) is = push_kept xs x y n is

pub push_last : {A : Type 0} (xs : List A) (x : A) → slice_get (xs ++ x ∷ []) (length xs) ≡ Some x
push_last [] x = refl
push_last (a ∷ xs) x = push_last xs x

same_tells : {P Q : ℕ → Type 0} (count last next_count next_last : ℕ) → next_count ≡ count → next_last ≡ last → ((n : ℕ) → P n → Q n) → ((n : ℕ) → Q n → P n) → Tells P count last → Tells Q next_count next_last
same_tells {P} {Q} count last next_count next_last same_count same_last to from tells = record {
  none = λ e n q. tells.none (sym same_count ∙ e) n (from n q);
  here = λ some. subst Q (sym same_last) (to last (tells.here (λ e. some (same_count ∙ e))));
  one = λ e n q. tells.one (sym same_count ∙ e) n (from n q) ∙ sym same_last;
}

more_tells : {P Q : ℕ → Type 0} (count last next_count next_last place : ℕ) → IsMore count next_count → next_last ≡ place → Q place → ((n : ℕ) → Q n → P n ⊎ (n ≡ place)) → Tells P count last → Tells Q next_count next_last
more_tells {P} {Q} count last next_count next_last place more is here cases tells = record {
  none = λ e. absurd (more.0 e);
  here = λ some. subst Q (sym is) here;
  one = λ e n q. only e n (cases n q);
}
  where
    only : next_count ≡ 1 → (n : ℕ) → P n ⊎ (n ≡ place) → n ≡ next_last
    only e n (inl p) = absurd (tells.none (more.1 e) n p)
    only e n (inr same) = same ∙ sym is

-- a sig more
name_cases : (sigs : List DeclaredSig) (d : DeclaredSig) (n : ℕ) (name : List ℕ) (harmless : Bool) → HasName (sigs ++ d ∷ []) n name harmless →
    HasName sigs n name harmless ⊎ ((n ≡ length sigs) × (d.name ≡ name) × (d.is_private ≡ true → harmless ≡ true))
name_cases sigs d n name harmless has = by_place (push_cases sigs d has.sig n has.numbered)
  where
    by_place : (slice_get sigs n ≡ Some has.sig) ⊎ ((n ≡ length sigs) × (d ≡ has.sig)) → HasName sigs n name harmless ⊎ ((n ≡ length sigs) × (d.name ≡ name) × (d.is_private ≡ true → harmless ≡ true))
    by_place (inl before) = inl (record { sig = has.sig; numbered = before; named = has.named; seen = has.seen })
    by_place (inr last) = inr (last.0, ap (λ (x : DeclaredSig). x.name) last.1 ∙ has.named, λ hidden. has.seen (sym (ap (λ (x : DeclaredSig). x.is_private) last.1) ∙ hidden))

name_kept : (sigs : List DeclaredSig) (d : DeclaredSig) (n : ℕ) (name : List ℕ) (harmless : Bool) → HasName sigs n name harmless → HasName (sigs ++ d ∷ []) n name harmless
name_kept sigs d n name harmless has = record { sig = has.sig; numbered = push_kept sigs d has.sig n has.numbered; named = has.named; seen = has.seen }

name_last : (sigs : List DeclaredSig) (d : DeclaredSig) (name : List ℕ) (harmless : Bool) → d.name ≡ name → (d.is_private ≡ true → harmless ≡ true) → HasName (sigs ++ d ∷ []) (length sigs) name harmless
name_last sigs d name harmless named seen = record { sig = d; numbered = push_last sigs d; named = named; seen = seen }

-- what is known of another name
other_name : (parameters : List (List ℕ)) (sigs : List DeclaredSig) (d : DeclaredSig) (name : List ℕ) (known : Known) → (d.name ≡ name → ⊥) → TellsName parameters sigs name known → TellsName parameters (sigs ++ d ∷ []) name known
other_name parameters sigs d name known other tells = record {
  all = same_tells known.sigs known.sig known.sigs known.sig refl refl (λ n h. name_kept sigs d n name true h) (back true) tells.all;
  public = same_tells known.public_sigs known.public_sig known.public_sigs known.public_sig refl refl (λ n h. name_kept sigs d n name false h) (back false) tells.public;
  given = tells.given;
}
  where
    back : (harmless : Bool) (n : ℕ) → HasName (sigs ++ d ∷ []) n name harmless → HasName sigs n name harmless
    back harmless n has = elim (name_cases sigs d n name harmless has) [
      | inl before ↦ before
      | inr last ↦ absurd (other last.1)
    ]

-- what is known of its own
own_name : (parameters : List (List ℕ)) (sigs : List DeclaredSig) (d : DeclaredSig) (old new : Known) → AddsSig (length sigs) d.is_private old new → TellsName parameters sigs d.name old → TellsName parameters (sigs ++ d ∷ []) d.name new
own_name parameters sigs d old new adds tells = record {
  all = more_tells old.sigs old.sig new.sigs new.sig (length sigs) adds.more adds.last (name_last sigs d d.name true refl (λ h. refl)) (cases true) tells.all;
  public = by_private d.is_private refl;
  given = same_tells old.parameters old.parameter new.parameters new.parameter adds.parameters.0 adds.parameters.1 (λ n h. h) (λ n h. h) tells.given;
}
  where
    cases : (harmless : Bool) (n : ℕ) → HasName (sigs ++ d ∷ []) n d.name harmless → HasName sigs n d.name harmless ⊎ (n ≡ length sigs)
    cases harmless n has = elim (name_cases sigs d n d.name harmless has) [
      | inl before ↦ inl before
      | inr last ↦ inr last.0
    ]

    back : d.is_private ≡ true → (n : ℕ) → HasName (sigs ++ d ∷ []) n d.name false → HasName sigs n d.name false
    back hidden n has = elim (name_cases sigs d n d.name false has) [
      | inl before ↦ before
      | inr last ↦ absurd (let never : false ≡ true = last.2 hidden in cc)
    ]

    by_private : (b : Bool) → d.is_private ≡ b → Tells (λ n. HasName (sigs ++ d ∷ []) n d.name false) new.public_sigs new.public_sig
    by_private true is =
        same_tells old.public_sigs old.public_sig new.public_sigs new.public_sig (adds.hidden is).0 (adds.hidden is).1 (λ n h. name_kept sigs d n d.name false h) (back is) tells.public
    by_private false is =
        more_tells old.public_sigs old.public_sig new.public_sigs new.public_sig (length sigs) (adds.seen is).0 (adds.seen is).1
        (name_last sigs d d.name false refl (λ h. absurd (let never : false ≡ true = sym is ∙ h in cc))) (cases false) tells.public

pub sig_told : (parameters : List (List ℕ)) (sigs : List DeclaredSig) (d : DeclaredSig) (find next : List ℕ → Option Known) (found : Known) → ((other : List ℕ) → next other ≡ update bytes_eq find d.name (Some found) other) →
    AddsSig (length sigs) d.is_private (known_or (find d.name)) found → TellsAll parameters sigs find → TellsAll parameters (sigs ++ d ∷ []) next
unfolding TellsAll
sig_told parameters sigs d find next found put adds tells = λ name. by_name name (bytes_eq d.name name) refl
  where
    by_name : (name : List ℕ) (b : Bool) → bytes_eq d.name name ≡ b → TellsName parameters (sigs ++ d ∷ []) name (known_or (next name))
    by_name name true is =
        let same = (bytes_eq-Decides d.name name).0 is in
        let at : next name ≡ Some found = put name ∙ ap (λ b. cond b (Some found) (find name)) is in
        subst (λ o. TellsName parameters (sigs ++ d ∷ []) name (known_or o)) (sym at)
        (subst (λ x. TellsName parameters (sigs ++ d ∷ []) x found) same (own_name parameters sigs d (known_or (find d.name)) found adds (tells d.name)))
    by_name name false is =
        let at : next name ≡ find name = put name ∙ ap (λ b. cond b (Some found) (find name)) is in
        subst (λ o. TellsName parameters (sigs ++ d ∷ []) name (known_or o)) (sym at)
        (other_name parameters sigs d name (known_or (find name)) (λ same. let yes = (bytes_eq-Decides d.name name).1 same in cc) (tells name))

-- a parameter more
pub parameter_told : (parameters : List (List ℕ)) (part : List ℕ) (find next : List ℕ → Option Known) (found : Known) → ((other : List ℕ) → next other ≡ update bytes_eq find part (Some found) other) →
    AddsParameter (length parameters) (known_or (find part)) found → TellsAll parameters [] find → TellsAll (parameters ++ part ∷ []) [] next
unfolding TellsAll
parameter_told parameters part find next found put adds tells = λ name. by_name name (bytes_eq part name) refl
  where
    cases : (name : List ℕ) (n : ℕ) → slice_get (parameters ++ part ∷ []) n ≡ Some name → (slice_get parameters n ≡ Some name) ⊎ (n ≡ length parameters)
    cases name n has = elim (push_cases parameters part name n has) [
      | inl before ↦ inl before
      | inr last ↦ inr last.0
    ]

    back : (name : List ℕ) → (part ≡ name → ⊥) → (n : ℕ) → slice_get (parameters ++ part ∷ []) n ≡ Some name → slice_get parameters n ≡ Some name
    back name other n has = elim (push_cases parameters part name n has) [
      | inl before ↦ before
      | inr last ↦ absurd (other last.1)
    ]

    own : TellsName (parameters ++ part ∷ []) [] part found
    own =
        let old = known_or (find part) in
        let was = tells part in record {
          all = same_tells old.sigs old.sig found.sigs found.sig adds.all.0 adds.all.1 (λ n h. h) (λ n h. h) was.all;
          public = same_tells old.public_sigs old.public_sig found.public_sigs found.public_sig adds.public.0 adds.public.1 (λ n h. h) (λ n h. h) was.public;
          given = more_tells old.parameters old.parameter found.parameters found.parameter (length parameters) adds.more adds.last (push_last parameters part) (cases part) was.given;
        }

    others : (name : List ℕ) → (part ≡ name → ⊥) → TellsName (parameters ++ part ∷ []) [] name (known_or (find name))
    others name other =
        let known = known_or (find name) in
        let was = tells name in record {
          all = was.all;
          public = was.public;
          given = same_tells known.parameters known.parameter known.parameters known.parameter refl refl (λ n h. push_kept parameters part name n h) (back name other) was.given;
        }

    by_name : (name : List ℕ) (b : Bool) → bytes_eq part name ≡ b → TellsName (parameters ++ part ∷ []) [] name (known_or (next name))
    by_name name true is =
        let same = (bytes_eq-Decides part name).0 is in
        let at : next name ≡ Some found = put name ∙ ap (λ b. cond b (Some found) (find name)) is in
        subst (λ o. TellsName (parameters ++ part ∷ []) [] name (known_or o)) (sym at) (subst (λ x. TellsName (parameters ++ part ∷ []) [] x found) same own)
    by_name name false is =
        let at : next name ≡ find name = put name ∙ ap (λ b. cond b (Some found) (find name)) is in
        subst (λ o. TellsName (parameters ++ part ∷ []) [] name (known_or o)) (sym at) (others name (λ same. let yes = (bytes_eq-Decides part name).1 same in cc))

-- nothing is known at first
pub none_told : (find : List ℕ → Option Known) → ((name : List ℕ) → find name ≡ None) → TellsAll [] [] find
unfolding TellsAll
none_told find none = λ name. subst (λ o. TellsName [] [] name (known_or o)) (sym (none name)) (record { all = nobody true name; public = nobody false name; given = no_parameter name })
  where
    nobody : (harmless : Bool) (name : List ℕ) → Tells (λ n. HasName [] n name harmless) 0 0
    nobody harmless name = record { none = λ e n h. none-some h.sig h.numbered; here = λ some. absurd (some refl); one = λ e n h. absurd (none-some h.sig h.numbered) }

    no_parameter : (name : List ℕ) → Tells (λ n. slice_get [] n ≡ Some name) 0 0
    no_parameter name = record { none = λ e n h. none-some name h; here = λ some. absurd (some refl); one = λ e n h. absurd (none-some name h) }

pub stays_itself : (find : List ℕ → Option Known) (sigs : List DeclaredSig) (count : ℕ) → Stays find sigs count find sigs count
unfolding Stays
stays_itself find sigs count = λ parameters tells same. (tells, same)

pub stays_on : (a b c : List ℕ → Option Known) (xs ys zs : List DeclaredSig) (k m n : ℕ) → Stays a xs k b ys m → Stays b ys m c zs n → Stays a xs k c zs n
unfolding Stays
stays_on a b c xs ys zs k m n first second = λ parameters tells same. let mid = first parameters tells same in second parameters mid.0 mid.1

length_push : {A : Type 0} (xs : List A) (x : A) → length (xs ++ x ∷ []) ≡ length xs + 1
length_push [] x = refl
length_push (y ∷ xs) x = omega (arith, length_push xs x)

pub stays_next : (find next : List ℕ → Option Known) (sigs more : List DeclaredSig) (name shown : List ℕ) (p : Bool) (count counted : ℕ) →
    ((parameters : List (List ℕ)) (xs : List DeclaredSig) → TellsAll parameters xs find → count ≡ length xs → TellsAll parameters (xs ++ record { name = name; is_private = p } ∷ []) next) → name ≡ shown →
    more ≡ sigs ++ record { name = shown; is_private = p } ∷ [] → counted ≡ count + 1 → Stays find sigs count next more counted
unfolding Stays
stays_next find next sigs more name shown p count counted noted named pushed is = λ parameters tells same.
    let d : List ℕ → DeclaredSig = λ n. record { name = n; is_private = p } in
    let grown : length more ≡ length sigs + 1 = ap length pushed ∙ length_push sigs (d shown) in
    (subst (λ xs. TellsAll parameters xs next) (sym pushed) (subst (λ n. TellsAll parameters (sigs ++ d n ∷ []) next) named (noted parameters sigs tells same)), omega (arith, grown, is, same))

pub stays_told : (find next : List ℕ → Option Known) (sigs more : List DeclaredSig) (count counted : ℕ) (parameters : List (List ℕ)) → Stays find sigs count next more counted → TellsAll parameters sigs find × (count ≡ length sigs) →
    TellsAll parameters more next × (counted ≡ length more)
unfolding Stays
stays_told find next sigs more count counted parameters stays told = stays parameters told.0 told.1

-- the same, of what the code has
pub parameter_noted : (find next : List ℕ → Option Known) (part : List ℕ) (number : ℕ) (old found : Known) → old ≡ known_or (find part) → AddsParameter number old found →
    ((other : List ℕ) → next other ≡ update bytes_eq find part (Some found) other) → (parameters : List (List ℕ)) → TellsAll parameters [] find → number ≡ length parameters → TellsAll (parameters ++ part ∷ []) [] next
parameter_noted find next part number old found was adds put parameters tells same =
    parameter_told parameters part find next found put (subst (λ n. AddsParameter n (known_or (find part)) found) same (subst (λ k. AddsParameter number k found) was adds)) tells

pub sig_noted : (find next : List ℕ → Option Known) (name : List ℕ) (p : Bool) (number : ℕ) (old found : Known) → old ≡ known_or (find name) → AddsSig number p old found →
    ((other : List ℕ) → next other ≡ update bytes_eq find name (Some found) other) → (parameters : List (List ℕ)) (sigs : List DeclaredSig) → TellsAll parameters sigs find → number ≡ length sigs →
    TellsAll parameters (sigs ++ record { name = name; is_private = p } ∷ []) next
sig_noted find next name p number old found was adds put parameters sigs tells same =
    sig_told parameters sigs (record { name = name; is_private = p }) find next found put (subst (λ n. AddsSig n p (known_or (find name)) found) same (subst (λ k. AddsSig number p k found) was adds)) tells

-- the parameters of a header, one after another
pub parameters_next : (ps : List Parameter) (n next : ℕ) (p : Parameter) (name : List ℕ) (find : List ℕ → Option Known) → n < length ps → p ≡ get_or ps n p → next ≡ n + 1 → name ≡ p.name.name →
    TellsAll (map (λ x. x.name.name) (take n ps) ++ name ∷ []) [] find → TellsAll (map (λ x. x.name.name) (take next ps)) [] find
parameters_next ps n next p name find inside at is named tells =
    let names : List Parameter → List (List ℕ) = λ xs. map (λ x. x.name.name) xs in
    let more : take (n + 1) ps ≡ take n ps ++ p ∷ [] = take_more ps n p inside ∙ ap (λ x. take n ps ++ x ∷ []) (sym at) in
    let split : names (take next ps) ≡ names (take n ps) ++ p.name.name ∷ [] =
    ap (λ i. names (take i ps)) is ∙ (ap names more ∙ map-append (λ (x : Parameter). x.name.name) (take n ps) (p ∷ [])) in
    subst (λ xs. TellsAll xs [] find) (sym split) (subst (λ x. TellsAll (names (take n ps) ++ x ∷ []) [] find) named tells)

pub parameters_before : (ps : List Parameter) (n : ℕ) → n < length ps → n ≡ length (map (λ x. x.name.name) (take n ps))
parameters_before ps n inside = sym (length-map (take n ps) (λ (x : Parameter). x.name.name) ∙ (length-take n ps ∙ omega (arith, inside)))

pub parameters_all : (ps : List Parameter) (n : ℕ) (find : List ℕ → Option Known) → (n < length ps → ⊥) → TellsAll (map (λ x. x.name.name) (take n ps)) [] find → TellsAll (map (λ x. x.name.name) ps) [] find
parameters_all ps n find end tells = subst (λ (xs : List Parameter). TellsAll (map (λ x. x.name.name) xs) [] find) (take_all n ps (omega (arith, end))) tells

-- a sig of a list more, and a paragraph more
pub declared_next : (p : Bool) (names : List NamedSyntax) (n : ℕ) (x : NamedSyntax) (old all new : List DeclaredSig) → n < length names → x ≡ get_or names n x → all ≡ old ++ map (declared_as p) (take n names) →
    new ≡ all ++ declared_as p x ∷ [] → new ≡ old ++ map (declared_as p) (take (n + 1) names)
declared_next p names n x old all new inside at was grown =
    let more : take (n + 1) names ≡ take n names ++ x ∷ [] = take_more names n x inside ∙ ap (λ y. take n names ++ y ∷ []) (sym at) in
    grown ∙ (ap (λ z. z ++ declared_as p x ∷ []) was ∙ (append_assoc old (map (declared_as p) (take n names)) (declared_as p x ∷ [])
    ∙ ap (λ z. old ++ z) (sym (ap (map (declared_as p)) more ∙ map-append (declared_as p) (take n names) (x ∷ [])))))

pub declared_on : (p : Paragraph) (ps : List Paragraph) (all old new : List DeclaredSig) → all ≡ old ++ flat_map declared_in (p ∷ ps) → new ≡ old ++ declared_in p → all ≡ new ++ flat_map declared_in ps
declared_on p ps all old new is grown = is ∙ (sym (append_assoc old (declared_in p) (flat_map declared_in ps)) ∙ ap (λ (z : List DeclaredSig). z ++ flat_map declared_in ps) (sym grown))

-- what is told, as tests, and back
sig_tested : (name : List ℕ) (harmless : Bool) (sigs : List DeclaredSig) (n : ℕ) → HasName sigs n name harmless → is_named_sig name harmless (slice_get sigs n) ≡ true
sig_tested name harmless sigs n has = ap (is_named_sig name harmless) has.numbered ∙ by_private has.sig.is_private refl
  where
    is_name_same : bytes_eq has.sig.name name ≡ true
    is_name_same = (bytes_eq-Decides has.sig.name name).1 has.named

    or_true : (b : Bool) → (b || true) ≡ true
    or_true true = refl
    or_true false = refl

    by_private : (b : Bool) → has.sig.is_private ≡ b → (bytes_eq has.sig.name name && (harmless || not has.sig.is_private)) ≡ true
    by_private true is = rw is_name_same (rw (has.seen is) refl)
    by_private false is = rw is_name_same (rw is (or_true harmless))

sig_named : (name : List ℕ) (harmless : Bool) (sigs : List DeclaredSig) (n : ℕ) → is_named_sig name harmless (slice_get sigs n) ≡ true → HasName sigs n name harmless
sig_named name harmless sigs n holds = by_found (slice_get sigs n) refl holds
  where
    parts : (a b p : Bool) → (a && (b || not p)) ≡ true → (a ≡ true) × (p ≡ true → b ≡ true)
    parts true true p e = (refl, λ h. refl)
    parts true false true e = absurd cc
    parts true false false e = (refl, λ h. absurd cc)
    parts false b p e = absurd cc

    by_found : (found : Option DeclaredSig) → slice_get sigs n ≡ found → is_named_sig name harmless found ≡ true → HasName sigs n name harmless
    by_found None at e = absurd cc
    by_found (Some sig) at e =
        let (same, seen) = parts (bytes_eq sig.name name) harmless sig.is_private e in
        record { sig = sig; numbered = at; named = (bytes_eq-Decides sig.name name).0 same; seen = seen }

part_tested : (name : List ℕ) (parameters : List (List ℕ)) (n : ℕ) → slice_get parameters n ≡ Some name → is_name name (slice_get parameters n) ≡ true
part_tested name parameters n at = ap (is_name name) at ∙ (bytes_eq-Decides name name).1 refl

part_named : (name : List ℕ) (parameters : List (List ℕ)) (n : ℕ) → is_name name (slice_get parameters n) ≡ true → slice_get parameters n ≡ Some name
part_named name parameters n holds = by_found (slice_get parameters n) refl holds
  where
    by_found : (found : Option (List ℕ)) → slice_get parameters n ≡ found → is_name name found ≡ true → slice_get parameters n ≡ Some name
    by_found None at e = absurd cc
    by_found (Some other) at e = at ∙ ap (λ (x : List ℕ). Some x) ((bytes_eq-Decides other name).0 e)

tests_of : (P : ℕ → Type 0) (test : ℕ → Bool) (count last : ℕ) → ((n : ℕ) → P n → test n ≡ true) → ((n : ℕ) → test n ≡ true → P n) → Tells P count last → Tests test count last
tests_of P test count last to from tells = (λ e n yes. tells.none e n (from n yes), λ some. to last (tells.here some), λ e n yes. tells.one e n (from n yes))

tells_of : (P : ℕ → Type 0) (test : ℕ → Bool) (count last : ℕ) → ((n : ℕ) → P n → test n ≡ true) → ((n : ℕ) → test n ≡ true → P n) → Tests test count last → Tells P count last
tells_of P test count last to from tests = record { none = λ e n p. tests.0 e n (to n p); here = λ some. from last (tests.1 some); one = λ e n p. tests.2 e n (to n p) }

pub tested : (parameters : List (List ℕ)) (sigs : List DeclaredSig) (find : List ℕ → Option Known) → TellsAll parameters sigs find → TestsAll parameters sigs find
unfolding TellsAll
tested parameters sigs find tells = λ name.
    let told = tells name in
    let known = known_or (find name) in (
      tests_of (λ n. HasName sigs n name true) (λ n. is_named_sig name true (slice_get sigs n)) known.sigs known.sig (sig_tested name true sigs) (sig_named name true sigs) told.all,
      tests_of (λ n. HasName sigs n name false) (λ n. is_named_sig name false (slice_get sigs n)) known.public_sigs known.public_sig (sig_tested name false sigs) (sig_named name false sigs) told.public,
      tests_of (λ n. slice_get parameters n ≡ Some name) (λ n. is_name name (slice_get parameters n)) known.parameters known.parameter (part_tested name parameters) (part_named name parameters) told.given,
    )

pub told_of : (parameters : List (List ℕ)) (sigs : List DeclaredSig) (name : List ℕ) (known : Known) → TestsName parameters sigs name known → TellsName parameters sigs name known
told_of parameters sigs name known tests = record {
  all = tells_of (λ n. HasName sigs n name true) (λ n. is_named_sig name true (slice_get sigs n)) known.sigs known.sig (sig_tested name true sigs) (sig_named name true sigs) tests.0;
  public = tells_of (λ n. HasName sigs n name false) (λ n. is_named_sig name false (slice_get sigs n)) known.public_sigs known.public_sig (sig_tested name false sigs) (sig_named name false sigs) tests.1;
  given = tells_of (λ n. slice_get parameters n ≡ Some name) (λ n. is_name name (slice_get parameters n)) known.parameters known.parameter (part_tested name parameters) (part_named name parameters) tests.2;
}

pub declared_end : (ps : List Paragraph) (n : ℕ) (all old : List DeclaredSig) → (n < length ps → ⊥) → all ≡ old ++ flat_map declared_in (drop n ps) → old ≡ all
declared_end ps n all old end is =
    let none : drop n ps ≡ [] = drop_all n ps (omega (arith, end)) in
    sym (is ∙ (ap (λ (xs : List Paragraph). old ++ flat_map declared_in xs) none ∙ append-nil old))
