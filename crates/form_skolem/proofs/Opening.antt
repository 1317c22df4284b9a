-- Which parameters have fields, and which model has them.
use Rattle.std.proofs.Common.{◌≡◌, ℕ, suc, ◌+◌, ◌<◌, Bool, true, false, List, [], ◌∷◌, ◌++◌, drop, length, get_or, Option, Some, None, refl, ap, sym, ◌∙◌, subst, append_assoc, add-one}
use Rattle.std.specs.Prelude.{if◌then◌else◌, slice_get, set, IfSome}
use Rattle.std.proofs.lemmas.List.{length_push, drop_more}
use Rattle.std.proofs.lemmas.Option.{get_or_from_slice_get, slice_get_read}
use Rattle.core_tree.specs.declared.model.Model.{Model}
use Rattle.core_tree.specs.declared.model.Sig.{Sig}
use Rattle.core_tree.specs.declared.model.Field.{Field}
use Rattle.core_tree.specs.declared.model.Body.{Body}
use Rattle.core_tree.specs.declared.model.Command.{Command}
use Rattle.core_tree.specs.declared.model.Parameter.{Parameter}
use Rattle.form_skolem.specs.declared.bounds.BoundType.{BoundType}
use Rattle.form_skolem.specs.Opened.{TypedParameter, is_relation, has_relation, relations, fields_from, labels, AddsFields, HasRelations}
use Rattle.form_skolem.specs.Steps.{with_type, with_types, IsAdded, IsTurn, atom, relation, IsTypedTurn, AskAnother}
use Rattle.form_skolem.proofs.Typing.{drop_at}
use Rattle.core_tree.specs.declared.tree.Formula.{Formula}
use Rattle.core_tree.specs.Trees.{claim_of}

pub fields_count : (n : ℕ) (ps : List Parameter) → length (fields_from n ps) ≡ length ps
fields_count n [] = refl
fields_count n (p ∷ ps) = by_word (is_relation p) (fields_count (suc n) ps) (fields_count n ps)
  where
    by_word : (b : Bool) → length (fields_from (suc n) ps) ≡ length ps → length (fields_from n ps) ≡ length ps → length (if b then Some n ∷ fields_from (suc n) ps else None ∷ fields_from n ps) ≡ suc (length ps)
    by_word true e f = ap suc e
    by_word false e f = ap suc f

-- what a turn adds, and the others behind it
pub turn_fields : (sigs : List Sig) (old new final : List Field) (t : TypedParameter) (ts : List TypedParameter) (number : Option ℕ) → IsTurn (labels sigs old) t old new number → AddsFields sigs new (relations ts) final → AddsFields sigs old (relations (t ∷ ts)) final
turn_fields sigs old new final t ts None (atom is same) rest = rw is (subst (λ (fs : List Field). AddsFields sigs fs (relations ts) final) same rest)
turn_fields sigs old new final t ts (Some n) (relation is added) rest = rw is (added.field, added.stands, subst (λ (fs : List Field). AddsFields sigs fs (relations ts) final) added.behind rest)

pub turn_numbers : (taken : List (List ℕ)) (old new : List Field) (t : TypedParameter) (ps : List Parameter) (number : Option ℕ) → IsTurn taken t old new number → fields_from (length old) (t.parameter ∷ ps) ≡ number ∷ fields_from (length new) ps
turn_numbers taken old new t ps None (atom is same) = rw is (ap (λ (fs : List Field). None ∷ fields_from (length fs) ps) (sym same))
turn_numbers taken old new t ps (Some n) (relation is added) = rw is (ap (λ k. Some (length old) ∷ fields_from k ps) (sym (ap length added.behind ∙ length_push old added.field ∙ add-one (length old))))

pub turn_more : (sigs : List Sig) (first old new : List Field) (all : List Parameter) (types : List BoundType) (place : ℕ) (p : Parameter) (number : Option ℕ) (done more : List (Option ℕ)) → place < length all → p ≡ get_or all place p → IsTypedTurn sigs p types place old new number → more ≡ done ++ number ∷ [] →
    done ++ fields_from (length old) (drop place all) ≡ fields_from (length first) all → more ++ fields_from (length new) (drop (place + 1) all) ≡ fields_from (length first) all
turn_more sigs first old new all types place p number done more low read turn pushed before =
    ap (λ ns. ns ++ fields_from (length new) (drop (place + 1) all)) pushed ∙ append_assoc done (number ∷ []) (fields_from (length new) (drop (place + 1) all))
    ∙ ap (λ ns. done ++ ns) (sym (turn_numbers (labels sigs old) old new (with_type p turn.bound) (drop (place + 1) all) number turn.turn))
    ∙ ap (λ qs. done ++ fields_from (length old) qs) (sym (drop_more all place p low ∙ ap (λ q. q ∷ drop (place + 1) all) (sym read)))
    ∙ before

pub turn_before : (sigs : List Sig) (old new final : List Field) (all : List Parameter) (types : List BoundType) (place : ℕ) (p : Parameter) (number : Option ℕ) → place < length all → p ≡ get_or all place p → IsTypedTurn sigs p types place old new number →
    AddsFields sigs new (relations (with_types (drop (place + 1) all) (drop (place + 1) types))) final → AddsFields sigs old (relations (with_types (drop place all) (drop place types))) final
turn_before sigs old new final all types place p number low read turn rest =
    subst (λ (qs : List Parameter). AddsFields sigs old (relations (with_types qs (drop place types))) final) (sym (drop_more all place p low ∙ ap (λ q. q ∷ drop (place + 1) all) (sym read)))
    (subst (λ (bs : List BoundType). AddsFields sigs old (relations (with_types (p ∷ drop (place + 1) all) bs)) final) (sym (drop_at types place turn.bound turn.found))
    (turn_fields sigs old new final (with_type p turn.bound) (with_types (drop (place + 1) all) (drop (place + 1) types)) number turn.turn rest))

-- the body that a command runs
pub body_none : (bodies : List Body) (body : Option ℕ) (n b : ℕ) (got x : Body) (text : List Parameter) → body ≡ Some n → slice_get bodies n ≡ Some got → text ≡ got.parameters → false ≡ has_relation text →
    body ≡ Some b → slice_get bodies b ≡ Some x → has_relation x.parameters ≡ false
body_none bodies body n b got x text is here same none again at =
    let one : n ≡ b = cc in
    let found : slice_get bodies n ≡ Some x = ap (slice_get bodies) one ∙ at in
    let two : got ≡ x = cc in
    subst (λ (y : Body). has_relation y.parameters ≡ false) two (subst (λ (ps : List Parameter). has_relation ps ≡ false) same (sym none))

pub body_some : (ps text : List Parameter) → text ≡ ps → true ≡ has_relation text → has_relation ps ≡ true
body_some ps text same some = subst (λ (qs : List Parameter). has_relation qs ≡ true) same (sym some)

pub body_found : (model : Model) (number : ℕ) (command : Command) → slice_get model.commands number ≡ Some command → (b : ℕ) → (x : Body) × (command.body ≡ Some b) × (slice_get model.bodies b ≡ Some x) × (has_relation x.parameters ≡ true) → HasRelations model number b
body_found model number command chosen b (x, runs, is, some) = record { command = command; body = x; runs = record { chosen = chosen; runs = runs; body_is = is }; some = some }

pub turn_made : (taken : List (List ℕ)) (t : TypedParameter) (old new : List Field) (count : ℕ) → count ≡ length old → true ≡ is_relation t.parameter → IsAdded taken t old new → IsTurn taken t old new (Some count)
turn_made taken t old new count e is added = subst (λ n. IsTurn taken t old new (Some n)) (sym e) (relation (sym is) added)

pub turn_typed : (sigs : List Sig) (p : Parameter) (types text : List BoundType) (place : ℕ) (bound : BoundType) (old new : List Field) (number : Option ℕ) → text ≡ types → place < length text → bound ≡ get_or text place bound → IsTurn (labels sigs old) (with_type p bound) old new number → IsTypedTurn sigs p types place old new number
turn_typed sigs p types text place bound old new number same low read turn = record { bound = bound; found = subst (λ (bs : List BoundType). slice_get bs place ≡ Some bound) same (slice_get_read text (length text) place bound refl low read); turn = turn }

pub asked_over : (old items new : List Command) (number : ℕ) (now command : Command) (f : Formula) → items ≡ old → now ≡ get_or items number now →
    new ≡ set items number (record { kind = now.kind; keyword = now.keyword; first = now.first; name_place = now.name_place; label = now.label; body = now.body; formula = f; scope = now.scope }) →
    slice_get old number ≡ Some command → AskAnother old number command (claim_of f) new
asked_over old items new number now command f same read is chosen =
    let one : now ≡ command = read ∙ ap (λ (cs : List Command). get_or cs number now) same ∙ get_or_from_slice_get old number command now chosen in
    record {
      asked = record { kind = now.kind; keyword = now.keyword; first = now.first; name_place = now.name_place; label = now.label; body = now.body; formula = f; scope = now.scope };
      commands = is ∙ ap (λ (cs : List Command). set cs number (record { kind = now.kind; keyword = now.keyword; first = now.first; name_place = now.name_place; label = now.label; body = now.body; formula = f; scope = now.scope })) same;
      same = record { kind = ap (λ (c : Command). c.kind) one; keyword = ap (λ (c : Command). c.keyword) one; first = ap (λ (c : Command). c.first) one; name_place = ap (λ (c : Command). c.name_place) one; label = ap (λ (c : Command). c.label) one; body = ap (λ (c : Command). c.body) one; scope = ap (λ (c : Command). c.scope) one };
      formula = refl;
    }

pub found_at : (commands text : List Command) (number : ℕ) (chosen : Command) → text ≡ commands → number < length text → chosen ≡ get_or text number chosen → slice_get commands number ≡ Some chosen
found_at commands text number chosen same low read = subst (λ (cs : List Command). slice_get cs number ≡ Some chosen) same (slice_get_read text (length text) number chosen refl low read)

pub some_found : (model : Model) (number : ℕ) (command : Command) → slice_get model.commands number ≡ Some command → (found : Option ℕ) → IfSome found (λ b. (x : Body) × (command.body ≡ Some b) × (slice_get model.bodies b ≡ Some x) × (has_relation x.parameters ≡ true)) → IfSome found (HasRelations model number)
some_found model number command chosen None h = h
some_found model number command chosen (Some b) h = body_found model number command chosen b h
