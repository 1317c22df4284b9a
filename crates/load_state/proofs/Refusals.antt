-- Where the refusals of opens stand.
use Rattle.std.proofs.Common.{◌≡◌, ℕ, List, Option, Some, sym, ap, subst, ◌∙◌, slice_get}
use Rattle.base_types.specs.declared.place.Position.{Position}
use Rattle.base_types.specs.declared.place.Refusal.{Refusal}
use Rattle.base_types.specs.declared.place.Rule.{Rule}
use Rattle.syntax_tree.specs.declared.expr.Named.{Named}
use Rattle.syntax_tree.specs.declared.expr.QualName.{QualName}
use Rattle.syntax_tree.specs.declared.instance.Text.{Text}
use Rattle.syntax_tree.specs.declared.module.Open.{Open}
use Rattle.syntax_tree.specs.declared.module.SigName.{SigName}
use Rattle.syntax_tree.specs.declared.module.SigName.TheVariants as sig_name
use Rattle.load_state.specs.Causes.{IsRefusal}
use Rattle.load_state.specs.Opens.{of_alias, of_argument, within, IsPlaceOf}
use Rattle.load_state.specs.Places.{IsAtArgument, IsAtOpen, IsAtSome, IsPlacedIn, IsInText}
use Rattle.load_state.specs.declared.fault.LoadFault.{LoadFault}
use Rattle.load_state.specs.declared.fault.LoadFault.TheVariants.{Refused, Read, Memory}

pub memory_at_some : (text : List ℕ) (names : List SigName) (fault : LoadFault) → fault ≡ Memory → IsAtSome text names fault
unfolding IsAtSome
memory_at_some text names fault same = let P : LoadFault → Type 0 = λ f. IsAtSome text names f in subst P (sym same) tt

pub memory_at_open : (text : List ℕ) (o : Open) (fault : LoadFault) → fault ≡ Memory → IsAtOpen text o fault
unfolding IsAtOpen
memory_at_open text o fault same = let P : LoadFault → Type 0 = λ f. IsAtOpen text o f in subst P (sym same) tt

pub memory_in_text : (t : Option Text) (fault : LoadFault) → fault ≡ Memory → IsInText t fault
unfolding IsInText
memory_in_text t fault same = let P : LoadFault → Type 0 = λ f. IsInText t f in subst P (sym same) tt

-- an argument that is refused
pub refused_argument : (text other : List ℕ) (n : QualName) (written : SigName) (rule : Rule) (place : Position) (fault : LoadFault) → IsRefusal rule place other fault → place ≡ n.place → other ≡ text →
    written ≡ sig_name.Name n → IsAtArgument text written fault
unfolding IsAtArgument IsRefusal
refused_argument text other n written rule place (Refused refusal name) is at same named =
    subst (λ (w : SigName). IsAtArgument text w (Refused refusal name)) (sym named) (is.1 ∙ same, ap (λ (r : Refusal). r.place) is.0 ∙ at)
refused_argument text other n written rule place (Read name) is at same named = absurd is
refused_argument text other n written rule place Memory is at same named = subst (λ (w : SigName). IsAtArgument text w Memory) (sym named) tt

-- one of the arguments is refused
pub refused_some : (text : List ℕ) (names : List SigName) (k : ℕ) (written : SigName) (fault : LoadFault) → IsAtArgument text written fault → slice_get names k ≡ Some written → IsAtSome text names fault
unfolding IsAtArgument IsAtSome
refused_some text names k (sig_name.Name n) (Refused refusal name) at here = (at.0, k, n, here, at.1)
refused_some text names k (sig_name.Int place) (Refused refusal name) at here = absurd at
refused_some text names k (sig_name.Name n) (Read name) at here = absurd at
refused_some text names k (sig_name.Int place) (Read name) at here = absurd at
refused_some text names k written Memory at here = tt

pub refused_given : (text : List ℕ) (o : Open) (fault : LoadFault) → IsAtSome text o.arguments fault → IsAtOpen text o fault
unfolding IsAtSome IsAtOpen
refused_given text o (Refused refusal name) at = (at.0, of_argument at.1 at.2 at.3 at.4)
refused_given text o (Read name) at = absurd at
refused_given text o Memory at = tt

-- the alias of an open is refused
pub refused_alias : (text other : List ℕ) (o : Open) (alias : Named) (rule : Rule) (place : Position) (fault : LoadFault) → IsRefusal rule place other fault → o.alias ≡ Some alias → place ≡ alias.place → other ≡ text →
    IsAtOpen text o fault
unfolding IsAtOpen IsRefusal
refused_alias text other o alias rule place (Refused refusal name) is named at same = (is.1 ∙ same, of_alias alias named (ap (λ (r : Refusal). r.place) is.0 ∙ at))
refused_alias text other o alias rule place (Read name) is named at same = absurd is
refused_alias text other o alias rule place Memory is named at same = tt

-- a written open of a text is refused
pub refused_written : (text : List ℕ) (t : Text) (found : Option Text) (n : ℕ) (o : Open) (fault : LoadFault) → IsAtOpen text o fault → slice_get t.tree.opens n ≡ Some o → found ≡ Some t → text ≡ t.name → IsInText found fault
unfolding IsAtOpen IsInText
refused_written text t found n o (Refused refusal name) at here is same = subst (λ (x : Option Text). IsPlacedIn x name refusal.place) (sym is) (at.0 ∙ same, within n o here at.1)
refused_written text t found n o (Read name) at here is same = absurd at
refused_written text t found n o Memory at here is same = tt

-- a text is refused at a place of its opens
pub refused_at : (t : Text) (found : Option Text) (rule : Rule) (place : Position) (text : List ℕ) (fault : LoadFault) → IsRefusal rule place text fault → found ≡ Some t → text ≡ t.name → IsPlaceOf found place → IsInText found fault
unfolding IsRefusal IsInText
refused_at t found rule place text (Refused refusal name) is here same at =
    let open_place : IsPlaceOf (Some t) refusal.place =
    subst (IsPlaceOf (Some t)) (sym (ap (λ (r : Refusal). r.place) is.0)) (subst (λ (x : Option Text). IsPlaceOf x place) here at) in
    subst (λ (x : Option Text). IsPlacedIn x name refusal.place) (sym here) (is.1 ∙ same, open_place)
refused_at t found rule place text (Read name) is here same at = absurd is
refused_at t found rule place text Memory is here same at = tt
