-- Where a refusal of an open stands, or else memory was wanting.
use Rattle.std.specs.Prelude.{◌≡◌, ℕ, List, slice_get, Option, Some, None}
use Rattle.base_types.specs.declared.place.Position.{Position}
use Rattle.syntax_tree.specs.declared.expr.QualName.{QualName}
use Rattle.syntax_tree.specs.declared.instance.Text.{Text}
use Rattle.syntax_tree.specs.declared.module.Open.{Open}
use Rattle.syntax_tree.specs.declared.module.SigName.{SigName}
use Rattle.syntax_tree.specs.declared.module.SigName.TheVariants as sig_name
use Rattle.load_state.specs.Opens.{IsInOpen, IsOpenPlace}
use Rattle.load_state.specs.declared.fault.LoadFault.{LoadFault}
use Rattle.load_state.specs.declared.fault.LoadFault.TheVariants.{Refused, Read, Memory}

-- at an argument in the text of this name
unfoldable pub IsAtArgument : List ℕ → SigName → LoadFault → Type 0
IsAtArgument text (sig_name.Name written) (Refused refusal name) = (name ≡ text) × (refusal.place ≡ written.place)
IsAtArgument text (sig_name.Int place) (Refused refusal name) = ⊥
IsAtArgument text written (Read name) = ⊥
IsAtArgument text written Memory = Unit {0}

-- at the alias or an argument of an open in the text of this name
unfoldable pub IsAtOpen : List ℕ → Open → LoadFault → Type 0
IsAtOpen text open_here (Refused refusal name) = (name ≡ text) × IsInOpen open_here refusal.place
IsAtOpen text open_here (Read name) = ⊥
IsAtOpen text open_here Memory = Unit {0}

-- at one of these arguments
unfoldable pub IsAtSome : List ℕ → List SigName → LoadFault → Type 0
IsAtSome text names (Refused refusal name) = (name ≡ text) × (k : ℕ) × (written : QualName) × (slice_get names k ≡ Some (sig_name.Name written)) × (refusal.place ≡ written.place)
IsAtSome text names (Read name) = ⊥
IsAtSome text names Memory = Unit {0}

abbrev pub IsPlacedIn : Option Text → List ℕ → Position → Type 0
IsPlacedIn None name place = ⊥
IsPlacedIn (Some t) name place = (name ≡ t.name) × IsOpenPlace t.tree place

-- at a place of an open or an enum of this text
unfoldable pub IsInText : Option Text → LoadFault → Type 0
IsInText t (Refused refusal name) = IsPlacedIn t name refusal.place
IsInText t (Read name) = ⊥
IsInText t Memory = Unit {0}
