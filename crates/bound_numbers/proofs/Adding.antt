-- The families of sigs, from the last sig back.
use Rattle.std.proofs.Common.{◌≡◌, ◌⊎◌, inl, inr, ◌==◌, ℕ, suc, ◌+◌, ◌-◌, ◌<◌, ◌≤◌, Bool, true, false, if◌then◌else◌, List, ◌∷◌, length, get_or, drop, Some, slice_get, refl, sym, ap, ◌∙◌, arith}
use Rattle.std.proofs.lemmas.Bool.{cases_eq, ne_eqb}
use Rattle.std.proofs.lemmas.List.{drop_all}
use Rattle.core_tree.specs.declared.model.Sig.{Sig}
use Rattle.core_tree.specs.declared.model.SigKind.{SigKind}
use Rattle.core_tree.specs.declared.model.SigKind.TheVariants.{Top, Extends, Subset}
use Rattle.bound_definitions.specs.declared.known.Known.{Known}
use Rattle.bound_definitions.specs.Numbers.{Table, extends, children_from, sum_of, exact_sum}
use Rattle.bound_numbers.specs.declared.families.Family.{Family}
use Rattle.bound_numbers.specs.Tables.{no_family, family_at, family_of, with_child, added_by, AreFamilies}
use Rattle.bound_numbers.proofs.Places.{dropped, set_at, set_length}

-- the families by the last sigs, so many
pub record AreFamiliesLast (sigs : List Sig) (table : Table) (turn : ℕ) (families : List Family) : Type 0 where
  pub each : (s : ℕ) → s < length families → family_at families s ≡ family_of table (children_from s (length sigs - turn) (drop (length sigs - turn) sigs))

pub families_none : (sigs : List Sig) (table : Table) (families : List Family) → ((s : ℕ) → get_or families s no_family ≡ no_family) → AreFamiliesLast sigs table 0 families
families_none sigs table families none = record { each = λ s lt. none s ∙ sym (ap (λ (ds : List Sig). family_of table (children_from s (length sigs - 0) ds)) (drop_all (length sigs - 0) sigs (omega arith))) }

-- the family of a sig is that of the one of its number
same_family : (list : List Family) (p s : ℕ) (k : Known) → (p ≡ s) ⊎ (p ≡ s → ⊥) → (if p == s then with_child k (get_or list p no_family) else get_or list s no_family) ≡ (if p == s then with_child k (get_or list s no_family) else get_or list s no_family)
same_family list p s k (inl same) = ap (λ (n : ℕ). if p == s then with_child k (get_or list n no_family) else get_or list s no_family) same
same_family list p s k (inr other) =
    let e = ne_eqb p s other in
    ap (λ (b : Bool). if b then with_child k (get_or list p no_family) else get_or list s no_family) e ∙ sym (ap (λ (b : Bool). if b then with_child k (get_or list s no_family) else get_or list s no_family) e)

added : (list : List Family) (kind : SigKind) (k : Known) (s : ℕ) → s < length list → family_at (added_by list kind k) s ≡ (if extends kind s then with_child k (family_at list s) else family_at list s)
added list Top k s lt = refl
added list (Extends p) k s lt = set_at list p s (with_child k (get_or list p no_family)) no_family lt ∙ same_family list p s k (cases_eq p s)
added list (Subset ps) k s lt = refl

pub added_length : (list : List Family) (kind : SigKind) (k : Known) → length (added_by list kind k) ≡ length list
added_length list Top k = refl
added_length list (Extends p) k = set_length list p (with_child k (get_or list p no_family))
added_length list (Subset ps) k = refl

one_more : (table : Table) (i : ℕ) (l : List ℕ) (b : Bool) → (if b then with_child (table i) (family_of table l) else family_of table l) ≡ family_of table (if b then i ∷ l else l)
one_more table i l true =
    let e : length l + 1 ≡ suc (length l) = omega arith in
    ap (λ (n : ℕ). let f : Family = record { count = n; sum = sum_of table (i ∷ l); sure = exact_sum table (i ∷ l) } in f) e
one_more table i l false = refl

pub families_more : (sigs : List Sig) (table : Table) (turn i : ℕ) (d : Sig) (child : Known) (old new : List Family) → i + 1 + turn ≡ length sigs → slice_get sigs i ≡ Some d → child ≡ table i → AreFamiliesLast sigs table turn old → new ≡ added_by old d.kind child → AreFamiliesLast sigs table (turn + 1) new
families_more sigs table turn i d child old new place item value was is = record {
  each = λ s lt.
      let long : length new ≡ length old = ap length is ∙ added_length old d.kind child in
      let within : s < length old = omega (arith, lt, long) in
      let after : length sigs - turn ≡ i + 1 = omega (arith, place) in
      let at : length sigs - (turn + 1) ≡ i = omega (arith, place) in
      let tail : List Sig = drop (length sigs - turn) sigs in
      let rest : List ℕ = children_from s (length sigs - turn) tail in
      let head : children_from s i (d ∷ tail) ≡ (if extends d.kind s then i ∷ rest else rest) = ap (λ (n : ℕ). if extends d.kind s then i ∷ children_from s n tail else children_from s n tail) (sym after) in
      let all : children_from s (length sigs - (turn + 1)) (drop (length sigs - (turn + 1)) sigs) ≡ (if extends d.kind s then i ∷ rest else rest) =
      ap (λ (n : ℕ). children_from s n (drop (length sigs - (turn + 1)) sigs)) at ∙ ap (children_from s i) (dropped sigs d i (length sigs - turn) (length sigs - (turn + 1)) item after at) ∙ head in
      ap (λ (l : List Family). family_at l s) is ∙ added old d.kind child s within ∙ ap (λ (k : Known). if extends d.kind s then with_child k (family_at old s) else family_at old s) value
      ∙ ap (λ (f : Family). if extends d.kind s then with_child (table i) f else f) (was.each s within) ∙ one_more table i rest (extends d.kind s) ∙ sym (ap (family_of table) all);
}

pub families_all : (sigs : List Sig) (table : Table) (turn : ℕ) (families : List Family) → length sigs ≤ turn → AreFamiliesLast sigs table turn families → AreFamilies sigs table families
families_all sigs table turn families far are s lt =
    let e : length sigs - turn ≡ 0 = omega (arith, far) in
    are.each s lt ∙ ap (λ (n : ℕ). family_of table (children_from s n (drop n sigs))) e
