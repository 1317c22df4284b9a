-- What the formula of a command places, step by step.
use Rattle.std.proofs.Common.{◌≡◌, inl, inr, ℕ, ◌+◌, ◌≤◌, false, List, [], ◌∷◌, ◌++◌, map, take, length, Option, Some, None, Result, IfOk, IfSome, slice_get, refl, sym, ap, ◌∙◌, subst, arith, Vec, Box, Global}
use Rattle.std.proofs.lemmas.List.{take_more, take_all, map-append}
use Rattle.std.proofs.lemmas.Option.{slice_get_within, get_or_from_slice_get}
use Rattle.core_tree.specs.declared.model.Model.{Model}
use Rattle.core_tree.specs.declared.model.Field.{Field}
use Rattle.core_tree.specs.declared.operators.Quantity.{Quantity}
use Rattle.core_tree.specs.declared.operators.Quantity.TheVariants.{Some as SomeOf}
use Rattle.core_tree.specs.declared.tree.Variable.{Variable}
use Rattle.core_tree.specs.declared.tree.Formula.{Formula, Within as WithinFormula, Every, Counted, Let as LetFormula}
use Rattle.core_tree.specs.declared.tree.Expr.{Expr}
use Rattle.core_tree.specs.declared.operators.Multiplicity.{Multiplicity}
use Rattle.core_tree.specs.Trees.{Term, Claim, Variables, Binder, field, term_of, claim_of, variable_of, variable_list, claim_list}
use Rattle.core_tree.specs.Types.{TypeRows, NameRows, with_rows}
use Rattle.core_tree.proofs.RowLemmas.{every_is, counted_is}
use Rattle.resolve_type_check.specs.Same.{Within}
use Rattle.resolve_type_check.specs.declared.names.NamedRows.{NamedRows}
use Rattle.resolve_type_check.specs.Names.{names_of, IsTypeOf}
use Rattle.resolve_type_check.proofs.Results.{if_ok, if_some}
use Rattle.resolve_type_check.proofs.Typing.{names_themselves}
use Rattle.answer_checks.specs.Fields.{AreUnder, AreWith, PlacesIn}
use Rattle.bound_laws.specs.Placed.{IsTermBelow, IsKnownType, HasRowsOf, PlacesBound, NamesAfter, PlacesUnder, PlacesWith, Places, PlaceAll}

one_more : {X : Type 0} (xs : List X) (i : ℕ) (x : X) → slice_get xs i ≡ Some x → take (i + 1) xs ≡ take i xs ++ x ∷ []
one_more xs i x at = take_more xs i x (slice_get_within xs i x at) ∙ ap (λ y. take i xs ++ y ∷ []) (get_or_from_slice_get xs i x x at)

module _ (model : Model) where
  -- the type of an expression of known fields
  pub typed_end : {E : Type 0} (known : ℕ) (names : NameRows) (e : Term) (r : Result (Option TypeRows) E) → IsTermBelow (length model.sigs) known e → IfOk r (λ o. IfSome o (IsTypeOf model e names)) → IfOk r (λ o. IfSome o (IsKnownType model known names e))
  typed_end known names e r below typed =
      if_ok r (λ o. IfSome o (IsTypeOf model e names)) (λ o. IfSome o (IsKnownType model known names e))
      (λ o h. if_some o (IsTypeOf model e names) (IsKnownType model known names e) (λ rows t. record { below = below; typed = λ q inside. (t names (names_themselves names)).back q inside }) h) typed

  -- more rows do too
  pub typed_within : (known : ℕ) (names : NameRows) (e : Term) (rows more : TypeRows) → IsKnownType model known names e rows → Within rows more → IsKnownType model known names e more
  typed_within known names e rows more is inside = record { below = is.below; typed = λ q h. inside q (is.typed q h) }

  pub next_end : (known : ℕ) (names : NameRows) (place e : Term) (f : Field) → place ≡ field known → slice_get model.fields known ≡ Some f → HasRowsOf model known names f e → PlacesBound model place e names known (known + 1)
  next_end known names place e f is there rows = inr (record { is = is; next = f; there = there; rows = rows }, omega arith)

  -- variables, one after the other
  after_last : (known : ℕ) (vs : List Binder) (v : Binder) (names inner : NameRows) (rows : TypeRows) → NamesAfter model known (variable_list vs) names inner → IsKnownType model known inner v.bound rows → NamesAfter model known (variable_list (vs ++ v ∷ [])) names (with_rows inner v.name rows)
  after_last known [] v names inner rows after is = (rows, subst (λ (m : NameRows). IsKnownType model known m v.bound rows) (sym after) is, ap (λ (m : NameRows). with_rows m v.name rows) after)
  after_last known (w ∷ vs) v names inner rows (others, here, after) is = (others, here, after_last known vs v (with_rows names w.name others) inner rows after is)

  pub after_more : (known : ℕ) (xs : List Variable) (i : ℕ) (x : Variable) (names inner more : NameRows) (rows : TypeRows) → slice_get xs i ≡ Some x → NamesAfter model known (variable_list (map variable_of (take i xs))) names inner → IsKnownType model known inner (term_of x.bound) rows →
      more ≡ with_rows inner x.name rows → NamesAfter model known (variable_list (map variable_of (take (i + 1) xs))) names more
  after_more known xs i x names inner more rows at after is made =
      let longer : take (i + 1) xs ≡ take i xs ++ x ∷ [] = one_more xs i x at in
      subst (λ (bs : List Binder). NamesAfter model known (variable_list bs) names more) (sym (ap (λ (ys : List Variable). map variable_of ys) longer ∙ map-append variable_of (take i xs) (x ∷ [])))
      (subst (λ (m : NameRows). NamesAfter model known (variable_list (map variable_of (take i xs) ++ variable_of x ∷ [])) names m) (sym made) (after_last known (map variable_of (take i xs)) (variable_of x) names inner rows after is))

  pub after_all : (known : ℕ) (xs : List Variable) (i : ℕ) (names inner : NameRows) → length xs ≤ i → NamesAfter model known (variable_list (map variable_of (take i xs))) names inner → NamesAfter model known (variable_list (map variable_of xs)) names inner
  after_all known xs i names inner high after = subst (λ (ys : List Variable). NamesAfter model known (variable_list (map variable_of ys)) names inner) (take_all i xs high) after

  -- formulas, one after the other
  places_last : (fs : List Claim) (f : Claim) (names : NameRows) (from between to : ℕ) → PlaceAll model (claim_list fs) names from between → Places model f names between to → PlaceAll model (claim_list (fs ++ f ∷ [])) names from to
  places_last [] f names from between to all one = (to, subst (λ n. Places model f names n to) all one, refl)
  places_last (g ∷ fs) f names from between to (first, here, all) one = (first, here, places_last fs f names first between to all one)

  pub places_more : (xs : List Formula) (i : ℕ) (x : Formula) (names : NameRows) (from between to : ℕ) → slice_get xs i ≡ Some x → PlaceAll model (claim_list (map claim_of (take i xs))) names from between → Places model (claim_of x) names between to →
      PlaceAll model (claim_list (map claim_of (take (i + 1) xs))) names from to
  places_more xs i x names from between to at all one =
      let longer : take (i + 1) xs ≡ take i xs ++ x ∷ [] = one_more xs i x at in
      subst (λ (fs : List Claim). PlaceAll model (claim_list fs) names from to) (sym (ap (λ (ys : List Formula). map claim_of ys) longer ∙ map-append claim_of (take i xs) (x ∷ [])))
      (places_last (map claim_of (take i xs)) (claim_of x) names from between to all one)

  pub places_all : (xs : List Formula) (i : ℕ) (names : NameRows) (from to : ℕ) → length xs ≤ i → PlaceAll model (claim_list (map claim_of (take i xs))) names from to → PlaceAll model (claim_list (map claim_of xs)) names from to
  places_all xs i names from to high all = subst (λ (ys : List Formula). PlaceAll model (claim_list (map claim_of ys)) names from to) (take_all i xs high) all

  -- forms that have lists as parts
  pub every_places : {E : Type 0} (v : Vec Formula Global) (fs : List Formula) (names : NameRows) (from : ℕ) (r : Result ℕ E) → fs ≡ v.items → IfOk r (PlaceAll model (claim_list (map claim_of fs)) names from) → IfOk r (Places model (claim_of (Every v)) names from)
  every_places v fs names from r is all =
      subst (λ (f : Claim). IfOk r (Places model f names from)) (sym (every_is v)) (subst (λ (gs : List Formula). IfOk r (PlaceAll model (claim_list (map claim_of gs)) names from)) is all)

  counted_places : {E : Type 0} (q : Quantity) (v : Vec Variable Global) (vs : List Variable) (b : Box Formula Global) (f : Formula) (names : NameRows) (from : ℕ) (r : Result ℕ E) → vs ≡ v.items → f ≡ b.value →
      IfOk r (PlacesUnder model q (variable_list (map variable_of vs)) (Places model (claim_of f)) names from) → IfOk r (Places model (claim_of (Counted q v b)) names from)
  counted_places q v vs b f names from r is same under =
      subst (λ (c : Claim). IfOk r (Places model c names from)) (sym (counted_is q v b))
      (subst (λ (g : Formula). IfOk r (PlacesUnder model q (variable_list (map variable_of v.items)) (Places model (claim_of g)) names from)) same
      (subst (λ (ws : List Variable). IfOk r (PlacesUnder model q (variable_list (map variable_of ws)) (Places model (claim_of f)) names from)) is under))

  -- a formula under variables, and under a name
  under_end : {E : Type 0} (q : Quantity) (vs : Variables) (f : Claim) (names : NameRows) (known : ℕ) (r : Result ℕ E) (o : Option (List NamedRows)) → IfSome o (AreUnder model known q vs names) → IfOk r (PlacesIn o (Places model f) known) → IfOk r (PlacesUnder model q vs (Places model f) names known)
  under_end q vs f names known r None are placed = if_ok r (λ to. to ≡ known) (PlacesUnder model q vs (Places model f) names known) (λ to is. inl is) placed
  under_end q vs f names known r (Some inner) are placed = if_ok r (Places model f (names_of inner) known) (PlacesUnder model q vs (Places model f) names known) (λ to is. inr (are.0, names_of inner, are.1, is)) placed

  with_end : {E : Type 0} (x : ℕ) (e : Term) (f : Claim) (names : NameRows) (known : ℕ) (r : Result ℕ E) (o : Option (List NamedRows)) → IfSome o (AreWith model known x e names) → IfOk r (PlacesIn o (Places model f) known) → IfOk r (PlacesWith model x e (Places model f) names known)
  with_end x e f names known r None are placed = if_ok r (λ to. to ≡ known) (PlacesWith model x e (Places model f) names known) (λ to is. inl is) placed
  with_end x e f names known r (Some inner) are placed = if_ok r (Places model f (names_of inner) known) (PlacesWith model x e (Places model f) names known) (λ to is. inr (are.0, are.1, subst (λ (m : NameRows). Places model f m known to) are.2 is)) placed

  pub counted_end : {E : Type 0} (q : Quantity) (v : Vec Variable Global) (vs : List Variable) (b : Box Formula Global) (f : Formula) (names : NameRows) (known : ℕ) (r : Result ℕ E) (o : Option (List NamedRows)) → vs ≡ v.items → f ≡ b.value →
      IfSome o (AreUnder model known q (variable_list (map variable_of vs)) names) → IfOk r (PlacesIn o (Places model (claim_of f)) known) → IfOk r (Places model (claim_of (Counted q v b)) names known)
  counted_end q v vs b f names known r o is same are placed = counted_places q v vs b f names known r is same (under_end q (variable_list (map variable_of vs)) (claim_of f) names known r o are placed)

  -- a field has the rows of a bound
  pub rows_end : (known : ℕ) (names : NameRows) (e : Term) (f : Field) (o : Option TypeRows) (rows there own : TypeRows) → f.is_var ≡ false → o ≡ Some rows → IfSome o (IsKnownType model known names e) → there ≡ rows → own ≡ f.rows → Within there own → HasRowsOf model known names f e
  rows_end known names e f o rows there own static is typed one two inside =
      let has : IsKnownType model known names e rows = subst (λ (p : Option TypeRows). IfSome p (IsKnownType model known names e)) is typed in
      let lies : Within rows f.rows = subst (λ (a : TypeRows). Within a f.rows) one (subst (Within there) two inside) in
      record { static = static; typed = typed_within known names e rows f.rows has lies }

  pub within_places : {E : Type 0} (a : Box Expr Global) (m : Multiplicity) (b : Box Expr Global) (x y : Expr) (names : NameRows) (from : ℕ) (r : Result ℕ E) → x ≡ a.value → y ≡ b.value → IfOk r (PlacesBound model (term_of x) (term_of y) names from) → IfOk r (Places model (claim_of (WithinFormula a m b)) names from)
  within_places a m b x y names from r one two bound =
      subst (λ (e : Expr). IfOk r (PlacesBound model (term_of a.value) (term_of e) names from)) two (subst (λ (e : Expr). IfOk r (PlacesBound model (term_of e) (term_of y) names from)) one bound)

  pub let_end : {E : Type 0} (n : ℕ) (a : Box Expr Global) (b : Box Formula Global) (x : Expr) (f : Formula) (names : NameRows) (known : ℕ) (r : Result ℕ E) (o : Option (List NamedRows)) → x ≡ a.value → f ≡ b.value →
      IfSome o (AreWith model known n (term_of x) names) → IfOk r (PlacesIn o (Places model (claim_of f)) known) → IfOk r (Places model (claim_of (LetFormula n a b)) names known)
  let_end n a b x f names known r o one two are placed =
      subst (λ (g : Formula). IfOk r (PlacesWith model n (term_of a.value) (Places model (claim_of g)) names known)) two (subst (λ (e : Expr). IfOk r (PlacesWith model n (term_of e) (Places model (claim_of f)) names known)) one (with_end n (term_of x) (claim_of f) names known r o are placed))

  -- names for what follows
  pub with_name_end : (known x : ℕ) (e : Term) (names : NameRows) (inner : List NamedRows) (o : Option TypeRows) (rows : TypeRows) → o ≡ Some rows → IfSome o (IsKnownType model known names e) → names_of inner ≡ with_rows names x rows → AreWith model known x e names inner
  with_name_end known x e names inner o rows is typed made = (rows, subst (λ (p : Option TypeRows). IfSome p (IsKnownType model known names e)) is typed, made)

  pub under_some : {E : Type 0} (known : ℕ) (q : Quantity) (vs : Variables) (names : NameRows) (r : Result (Option (List NamedRows)) E) → q ≡ SomeOf → IfOk r (λ o. IfSome o (λ inner. NamesAfter model known vs names (names_of inner))) → IfOk r (λ o. IfSome o (AreUnder model known q vs names))
  under_some known q vs names r some after =
      if_ok r (λ o. IfSome o (λ inner. NamesAfter model known vs names (names_of inner))) (λ o. IfSome o (AreUnder model known q vs names))
      (λ o h. if_some o (λ inner. NamesAfter model known vs names (names_of inner)) (AreUnder model known q vs names) (λ inner here. (some, here)) h) after
