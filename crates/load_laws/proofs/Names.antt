-- What a name names in one model it names in another whose instances are the same so far.
use Rattle.std.proofs.Common.{◌≡◌, ℕ, zero, suc, ◌<◌, Bool, false, List, [], ◌∷◌, map, length, slice_get, ◌++◌, Option, Some, sym, ap, subst, ◌∙◌, inl, inr, arith}
use Rattle.std.proofs.lemmas.Option.{none-some, same_Some, slice_get_within}
use Rattle.syntax_tree.specs.declared.expr.QualName.{QualName}
use Rattle.syntax_tree.specs.declared.instance.Instance.{Instance}
use Rattle.syntax_tree.specs.declared.instance.Opened.{Opened}
use Rattle.syntax_tree.specs.declared.instance.SigRef.{SigRef}
use Rattle.syntax_tree.specs.declared.instance.Text.{Text}
use Rattle.syntax_tree.specs.declared.module.Module.{Module}
use Rattle.syntax_tree.specs.declared.module.Open.{Open}
use Rattle.syntax_tree.specs.declared.module.SigName.{SigName}
use Rattle.syntax_tree.specs.declared.module.SigName.TheVariants as sig_name
use Rattle.load_state.specs.declared.table.Enumerated.{Enumerated}
use Rattle.load_state.specs.Leads.{IsInstanceOf, AreOf}
use Rattle.load_state.specs.Named.{Named, a_sig, a_parameter, Stands, IsOpen, Reaches, itself, further, Follows, IsBrought, IsBehind, IsSeen, IsOwn, NamesBy, Names, IsGiven, AreGiven, AllNamed, front_of}
use Rattle.load_state.specs.Names.{last_part}
use Rattle.load_state.specs.Opens.{Opening, written, implied, openings_of, enums_of}
use Rattle.load_modules.specs.Numbered.{IsAmong}
use Rattle.load_laws.proofs.Alike.{AreSame, moved, same_sized, element}

-- the opens of an instance are those of the same number, and lead to instances among these
abbrev pub Carries : List Text → List Text → List Instance → List Instance → List ℕ → ℕ → Type 0
Carries texts others instances rest passed m = (e : ℕ) (o : Opened) (hidden : Bool) → IsOpen instances texts m e o hidden → IsOpen rest others m e o hidden × IsAmong passed o.instance

-- those before the one of this number
abbrev pub CarriesBelow : List Text → List Text → List Instance → List Instance → List ℕ → ℕ → ℕ → Type 0
CarriesBelow texts others instances rest passed m k = (e : ℕ) (o : Opened) (hidden : Bool) → e < k → IsOpen instances texts m e o hidden → IsOpen rest others m e o hidden × IsAmong passed o.instance

abbrev pub SameBelow : List Text → List Text → List Instance → List Instance → ℕ → Type 0
SameBelow texts others instances rest met = (m : ℕ) → m < met → AreSame texts others instances rest m

-- So many instances are the same, and the opens of those whose opens were followed.
pub record IsState (texts others : List Text) (instances rest : List Instance) (met : ℕ) (passed : List ℕ) : Type 0 where
  pub same : SameBelow texts others instances rest met
  pub within : (m : ℕ) → IsAmong passed m → m < met
  pub carries : (m : ℕ) → IsAmong passed m → Carries texts others instances rest passed m

-- an argument is what the same name stands for
one_stands : (arguments : List (Option SigRef)) (c : Named) (x y : Option SigRef) → Stands arguments c x → Stands arguments c y → x ≡ y
one_stands arguments (a_sig s) x y is was = is ∙ sym was
one_stands arguments (a_parameter n) x y is was = same_Some x y (sym is ∙ was)

same_stands : (arguments given : List (Option SigRef)) (c d : Named) (x y : Option SigRef) → arguments ≡ given → c ≡ d → Stands arguments c x → Stands given d y → x ≡ y
same_stands arguments given c d x y same one is was =
    one_stands given d x y (subst (λ (e : Named). Stands given e x) one (subst (λ (a : List (Option SigRef)). Stands a c x) same is)) was

module _ (texts others : List Text) (instances rest : List Instance) (met : ℕ) (passed : List ℕ) (state : IsState texts others instances rest met passed) where
  reaches_on : (j l : ℕ) → Reaches instances texts j l → IsAmong passed j → Reaches rest others j l × IsAmong passed l
  reaches_on j l (itself i) among = (itself i, among)
  reaches_on j l (further i k m o is_open next) among =
      let got = state.carries i among k o false is_open in
      let then = reaches_on o.instance m next got.1 in
      (further i k m o got.0 then.0, then.1)

  follows_on : (aliases : List (List ℕ)) (j l : ℕ) → Follows instances texts aliases j l → IsAmong passed j → Follows rest others aliases j l × IsAmong passed l
  follows_on [] j l is among = (is, subst (IsAmong passed) is among)
  follows_on (alias ∷ aliases) j l is among =
      let o = is.1 in
      let got = state.carries j among is.0 o false is.2 in
      let then = follows_on aliases o.instance l is.4 got.1 in
      ((is.0, o, got.0, is.3, then.0), then.1)

  module _ (number k : ℕ) (own : CarriesBelow texts others instances rest passed number k) (inside : number < met) where
    brought_on : (l : ℕ) → IsBrought instances texts number k l → IsBrought rest others number k l × IsAmong passed l
    brought_on l is =
        let got = own is.earlier is.opened is.hidden is.before is.is_open in
        let o = is.opened in
        let then = reaches_on o.instance l is.leading got.1 in
        (record { earlier = is.earlier; before = is.before; opened = o; hidden = is.hidden; is_open = got.0; seen = is.seen; leading = then.0 }, then.1)

    behind_on : (alias : List ℕ) (aliases : List (List ℕ)) (l : ℕ) → IsBehind instances texts number k alias aliases l → IsBehind rest others number k alias aliases l × IsAmong passed l
    behind_on alias aliases l is =
        let got = own is.earlier is.opened is.hidden is.before is.is_open in
        let o = is.opened in
        let then = follows_on aliases o.instance l (is.leading).1 got.1 in
        (record { earlier = is.earlier; before = is.before; opened = o; hidden = is.hidden; is_open = got.0; seen = is.seen; leading = ((is.leading).0, then.0) }, then.1)

    seen_on : (P Q : ℕ → Type 0) (part : List ℕ) (c : Named) → ((l : ℕ) → P l → Q l × IsAmong passed l) → IsSeen instances texts P part c → IsSeen rest others Q part c
    seen_on P Q part (a_sig s) over is =
        let then = over s.instance is.0 in
        let got = moved texts others instances rest s.instance is.1 is.2 (state.same s.instance (state.within s.instance then.1)) is.3 in
        (then.0, got.0, is.2, got.1, is.4)
    seen_on P Q part (a_parameter n) over is = absurd is

    own_on : (part : List ℕ) (c : Named) → IsOwn instances texts number part c → IsOwn rest others number part c
    own_on part (a_sig s) is = let got = moved texts others instances rest number is.1 is.2 (state.same number inside) is.3 in (is.0, got.0, is.2, got.1, is.4)
    own_on part (a_parameter n) is = let got = moved texts others instances rest number is.0 is.1 (state.same number inside) is.2 in (got.0, is.1, got.1, is.3)

    names_by : (is_own : Bool) (front : List (List ℕ)) (part : List ℕ) (c : Named) → NamesBy instances texts number k is_own front part c → NamesBy rest others number k is_own front part c
    names_by is_own [] part c (inl is) = inl (own_on part c is)
    names_by is_own [] part c (inr is) = inr (is.0, seen_on (IsBrought instances texts number k) (IsBrought rest others number k) part c brought_on is.1)
    names_by is_own (alias ∷ aliases) part c is =
        seen_on (IsBehind instances texts number k alias aliases) (IsBehind rest others number k alias aliases) part c (behind_on alias aliases) is

    names_on : (name : QualName) (c : Named) → Names instances texts number k name c → Names rest others number k name c
    names_on name c is = names_by name.is_own (front_of name.parts) (last_part name.parts) c is

    one_given : (arguments given : List (Option SigRef)) (name : SigName) (x y : Option SigRef) → arguments ≡ given → IsGiven instances texts number k arguments name x → IsGiven rest others number k given name y → x ≡ y
    one_given arguments given (sig_name.Int place) x y same is was = is ∙ sym was
    one_given arguments given (sig_name.Name name) x y same is was =
        same_stands arguments given is.one was.one x y same (was.only is.one (names_on name is.one is.names)) is.stands was.stands

    pub same_given : (arguments given : List (Option SigRef)) (names : List SigName) (xs ys : List (Option SigRef)) → arguments ≡ given → AreGiven instances texts number k arguments names xs →
        AreGiven rest others number k given names ys → xs ≡ ys
    same_given arguments given names xs ys same are were = same_sized xs ys (sym are.every ∙ were.every) each
      where
        each : (n : ℕ) (x : Option SigRef) → slice_get xs n ≡ Some x → slice_get ys n ≡ Some x
        each n x is =
            let in_names : n < length names = omega (arith, are.every, slice_get_within xs n x is) in
            let in_ys : n < length ys = omega (arith, in_names, were.every) in
            let name = element names n in_names in
            let y = element ys n in_ys in
            y.1 ∙ ap (λ (z : Option SigRef). Some z) (sym (one_given arguments given name.0 x y.0 same (are.each n name.0 x name.1 is) (were.each n name.0 y.0 name.1 y.1)))

-- a written open is one of those that are written
no_written : (enums : List Enumerated) (k : ℕ) (o : Open) → slice_get (map implied enums) k ≡ Some (written o) → ⊥
no_written [] k o is = none-some (written o) is
no_written (e ∷ enums) zero o is = cc
no_written (e ∷ enums) (suc k) o is = no_written enums k o is

written_in : (opens : List Open) (enums : List Enumerated) (k : ℕ) (o : Open) → slice_get (map written opens ++ map implied enums) k ≡ Some (written o) → slice_get opens k ≡ Some o
written_in [] enums k o is = absurd (no_written enums k o is)
written_in (p ∷ opens) enums zero o is = let same : written p ≡ written o = same_Some (written p) (written o) is in cc
written_in (p ∷ opens) enums (suc k) o is = written_in opens enums k o is

written_of : (tree : Module) (k : ℕ) (o : Open) → slice_get (openings_of tree) k ≡ Some (written o) → slice_get tree.opens k ≡ Some o
written_of tree k o is = written_in tree.opens (enums_of tree) k o is

module _ (texts others : List Text) (instances rest : List Instance) (met : ℕ) (passed : List ℕ) (state : IsState texts others instances rest met passed) (number k : ℕ)
    (own : CarriesBelow texts others instances rest passed number k) (inside : number < met) (named : AllNamed instances texts) (called : AllNamed rest others) where
  -- the arguments of two instances to which the same open leads
  pub same_arguments : (opening : Opening) (i j : Instance) (t : Text) (o p : Opened) (x y : Instance) → IsInstanceOf instances texts number i t → IsInstanceOf rest others number j t → i.arguments ≡ j.arguments →
      slice_get (openings_of t.tree) k ≡ Some opening → slice_get i.opens k ≡ Some o → slice_get j.opens k ≡ Some p → slice_get instances o.instance ≡ Some x → slice_get rest p.instance ≡ Some y →
      AreOf instances texts number opening x.arguments → AreOf rest others number opening y.arguments → x.arguments ≡ y.arguments
  same_arguments (written w) i j t o p x y is was arguments asks leads led there then are were =
      let at = written_of t.tree k w asks in
      same_given texts others instances rest met passed state number k own inside i.arguments j.arguments w.arguments x.arguments y.arguments arguments
      ((named number (slice_get_within instances number i is.is_instance)).each k i x t w o is at leads there)
      ((called number (slice_get_within rest number j was.is_instance)).each k j y t w p was at led then)
  same_arguments (implied e) i j t o p x y is was arguments asks leads led there then are were = are ∙ sym were
