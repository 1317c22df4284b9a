-- Along the walk each number means an instance of the root, and opens lead as between instances.
use Rattle.std.proofs.Common.{◌≡◌, ℕ, zero, suc, ◌<◌, Bool, true, false, List, [], ◌∷◌, ◌++◌, map, length, slice_get, Option, Some, None, refl, sym, ap, subst, ◌∙◌, inl, inr, arith}
use Rattle.std.proofs.lemmas.Option.{none-some, same_Some, slice_get_within}
use Rattle.base_types.specs.Texts.{Texts}
use Rattle.syntax_tree.specs.declared.expr.QualName.{QualName}
use Rattle.syntax_tree.specs.declared.instance.Instance.{Instance}
use Rattle.syntax_tree.specs.declared.instance.Opened.{Opened}
use Rattle.syntax_tree.specs.declared.instance.SigRef.{SigRef}
use Rattle.syntax_tree.specs.declared.instance.Text.{Text}
use Rattle.syntax_tree.specs.declared.module.Module.{Module}
use Rattle.syntax_tree.specs.declared.module.Open.{Open}
use Rattle.syntax_tree.specs.declared.module.SigName.{SigName}
use Rattle.syntax_tree.specs.declared.module.SigName.TheVariants as sig_name
use Rattle.load_state.specs.declared.table.Enumerated.{Enumerated}
use Rattle.load_state.specs.Leads.{IsInstanceOf, IsLed}
use Rattle.load_state.specs.Named.{Named, a_sig, a_parameter, Stands, IsOpen, Reaches, itself, further, Follows, IsBrought, IsBehind, IsSeen, IsOwn, NamesBy, Names, IsGiven, front_of}
use Rattle.load_state.specs.Names.{last_part}
use Rattle.load_state.specs.Opens.{Opening, written, implied, openings_of, enums_of, alias_of}
use Rattle.load_modules.specs.Instances as least
use Rattle.load_modules.specs.Instances.{Given, given, Arguments, nothing, int_and, sig_and, Argument, with_argument, Candidate}
use Rattle.load_modules.specs.Led.{IsTextOf}
use Rattle.load_modules.specs.Numbered.{IsAmong}
use Rattle.load_laws.specs.Unique.{IsLoad}
use Rattle.load_laws.proofs.LeastMeant.{Means, means, AreMeant, none_meant, int_meant, sig_meant, one_meant, IsMeant, with_meant, meant_at, IsCandidate}
use Rattle.load_laws.proofs.LeastTree.{tree_of, asked, sig_over, seen_over}

-- a written open is one of those that are written
no_written : (enums : List Enumerated) (k : ℕ) (o : Open) → slice_get (map implied enums) k ≡ Some (written o) → ⊥
no_written [] k o is = none-some (written o) is
no_written (e ∷ enums) zero o is = cc
no_written (e ∷ enums) (suc k) o is = no_written enums k o is

written_in : (opens : List Open) (enums : List Enumerated) (k : ℕ) (o : Open) → slice_get (map written opens ++ map implied enums) k ≡ Some (written o) → slice_get opens k ≡ Some o
written_in [] enums k o is = absurd (no_written enums k o is)
written_in (p ∷ opens) enums zero o is = let same : written p ≡ written o = same_Some (written p) (written o) is in cc
written_in (p ∷ opens) enums (suc k) o is = written_in opens enums k o is

pub written_of : (tree : Module) (k : ℕ) (o : Open) → slice_get (openings_of tree) k ≡ Some (written o) → slice_get tree.opens k ≡ Some o
written_of tree k o is = written_in tree.opens (enums_of tree) k o is

module _ (told : List Texts) (root : List ℕ) (tree : Module) (texts : List Text) (instances : List Instance) (load : IsLoad told root tree texts instances) where
  -- the words for the instances of the root
  abbrev SetLeads : Given → ℕ → Given → Type 0
  SetLeads g k h = least.Leads told root tree g k h

  abbrev SetNames : Given → ℕ → QualName → Candidate → Type 0
  SetNames g k name c = least.Names told root tree g k name c

  abbrev SetGiven : Given → ℕ → List SigName → Arguments → Type 0
  SetGiven g k names arguments = least.AreGiven told root tree g k names arguments

  abbrev SetReaches : Given → Given → Type 0
  SetReaches g h = least.Reaches told root tree g h

  abbrev SetFollows : Given → List (List ℕ) → Given → Type 0
  SetFollows g aliases h = least.Follows told root tree g aliases h

  abbrev SetStands : Given → Candidate → Argument → Type 0
  SetStands g c a = least.StandsFor told root tree g c a

  abbrev SetAsks : Given → ℕ → Opening → Type 0
  SetAsks g k o = least.Asks told root tree g k o

  abbrev Is : ℕ → Given → Type 0
  Is n g = Means texts instances n g

  -- the open of this number leads from one to the other
  abbrev pub LeadsSo : ℕ → ℕ → ℕ → Type 0
  LeadsSo m e l = (g h : Given) → Is m g → Is l h → SetLeads g e h

  abbrev pub Carries : List ℕ → ℕ → Type 0
  Carries passed m = (e : ℕ) (o : Opened) (hidden : Bool) → IsOpen instances texts m e o hidden → IsAmong passed o.instance × LeadsSo m e o.instance

  abbrev pub CarriesBelow : List ℕ → ℕ → ℕ → Type 0
  CarriesBelow passed m k = (e : ℕ) (o : Opened) (hidden : Bool) → e < k → IsOpen instances texts m e o hidden → IsAmong passed o.instance × LeadsSo m e o.instance

  -- a number means an instance of the root
  pub record IsMeantAt (m : ℕ) : Type 0 where
    pub who : Given
    pub meant : Is m who
    pub instance : least.IsInstance told root tree who

  -- So many numbers do, and the opens of those whose opens were followed lead as between instances.
  pub record IsState (met : ℕ) (passed : List ℕ) : Type 0 where
    pub each : (m : ℕ) → m < met → IsMeantAt m
    pub within : (m : ℕ) → IsAmong passed m → m < met
    pub carries : (m : ℕ) → IsAmong passed m → Carries passed m

  -- what a name names
  record IsNamed (g : Given) (k : ℕ) (name : QualName) (c : Named) : Type 0 where
    candidate : Candidate
    same : IsCandidate texts instances c candidate
    names : SetNames g k name candidate

  record IsArgument (g : Given) (c : Candidate) (x : Option SigRef) : Type 0 where
    argument : Argument
    pub meant : IsMeant texts instances x argument
    stands : SetStands g c argument

  record AreArguments (g : Given) (k : ℕ) (names : List SigName) (xs : List (Option SigRef)) : Type 0 where
    arguments : Arguments
    pub meant : AreMeant texts instances xs arguments
    gives : SetGiven g k names arguments

  -- where an open leads
  pub record IsStep (g : Given) (k : ℕ) (o : Opened) : Type 0 where
    pub target : Given
    pub meant : Is o.instance target
    pub leads : SetLeads g k target

  parameter_on : (n : ℕ) (g : Given) (i : Instance) (p : ℕ) (x : Option SigRef) → Is n g → slice_get instances n ≡ Some i → slice_get i.arguments p ≡ Some x → IsArgument g (least.a_parameter p) x
  parameter_on n g i p x (means m j name arguments there named are) is at =
      let same : i ≡ j = same_Some i j (sym is ∙ there) in
      let got = meant_at texts instances j.arguments arguments p x are (ap (λ (y : Instance). slice_get y.arguments p) (sym same) ∙ at) in
      record { argument = got.0; meant = got.2; stands = least.for_parameter name arguments p got.0 got.1 }

  stands_on : (n : ℕ) (g : Given) (i : Instance) (c : Named) (d : Candidate) (x : Option SigRef) → Is n g → slice_get instances n ≡ Some i → IsCandidate texts instances c d → Stands i.arguments c x → IsArgument g d x
  stands_on n g i (a_sig s) (least.a_sig h sig) x is there same stands = record {
    argument = Some (h, sig);
    meant = subst (λ (y : Option SigRef). IsMeant texts instances y (Some (h, sig))) (sym stands) same;
    stands = least.for_sig g h sig;
  }
  stands_on n g i (a_sig s) (least.a_parameter m) x is there same stands = absurd same
  stands_on n g i (a_parameter p) (least.a_sig h sig) x is there same stands = absurd same
  stands_on n g i (a_parameter p) (least.a_parameter m) x is there same stands = subst (λ (y : ℕ). IsArgument g (least.a_parameter y) x) same (parameter_on n g i p x is there stands)

  module _ (met : ℕ) (passed : List ℕ) (state : IsState met passed) where
    reaches_on : (j l : ℕ) → Reaches instances texts j l → IsAmong passed j → IsAmong passed l × ((g h : Given) → Is j g → Is l h → SetReaches g h)
    reaches_on j l (itself i) among = (among, λ g h is was. subst (λ (x : Given). SetReaches g x) (one_meant texts instances i g h is was) (least.itself g))
    reaches_on j l (further i k m o is_open next) among =
        let got = state.carries i among k o false is_open in
        let then = reaches_on o.instance m next got.0 in
        let between = state.each o.instance (state.within o.instance got.0) in (
          then.0,
          λ g h is was.
              let at = asked told root tree texts instances load i k o false g is_open is in
              least.further g between.who h k at.opening at.asks at.private (got.1 g between.who is between.meant) (then.1 between.who h between.meant was),
        )

    follows_on : (aliases : List (List ℕ)) (j l : ℕ) → Follows instances texts aliases j l → IsAmong passed j → IsAmong passed l × ((g h : Given) → Is j g → Is l h → SetFollows g aliases h)
    follows_on [] j l same among = (
      subst (IsAmong passed) same among,
      λ g h is was. subst (λ (x : Given). SetFollows g [] x) (one_meant texts instances l g h (subst (λ (n : ℕ). Is n g) same is) was) (least.no_alias g),
    )
    follows_on (alias ∷ aliases) j l way among =
        let o = way.1 in
        let got = state.carries j among way.0 o false way.2 in
        let then = follows_on aliases o.instance l way.4 got.0 in
        let between = state.each o.instance (state.within o.instance got.0) in (
          then.0,
          λ g h is was.
              let at = asked told root tree texts instances load j way.0 o false g way.2 is in
              let same : alias_of at.opening ≡ alias = sym at.led.leads.named ∙ way.3 in
              subst (λ (x : List ℕ). SetFollows g (x ∷ aliases) h) same
              (least.an_alias g between.who h way.0 at.opening aliases at.asks at.private (got.1 g between.who is between.meant) (then.1 between.who h between.meant was)),
        )

    module _ (number k : ℕ) (own : CarriesBelow passed number k) (g : Given) (is : Is number g) where
      own_on : (name : QualName) (c : Named) → front_of name.parts ≡ [] → IsOwn instances texts number (last_part name.parts) c → IsNamed g k name c
      own_on name (a_sig s) front it =
          let got = sig_over told root tree texts instances load number it.1 it.2 g s.sig (last_part name.parts) true it.3 is it.4 in
          record {
            candidate = least.a_sig g s.sig;
            same = (refl, subst (λ (n : ℕ). Is n g) (sym it.0) is);
            names = least.own_sig g k name s.sig got.hidden front got.has;
          }
      own_on name (a_parameter n) front it =
          let t = it.1 in
          record {
            candidate = least.a_parameter n;
            same = refl;
            names = least.own_parameter g k name t.tree n front (tree_of told root tree texts instances load number it.0 t g it.2 is) it.3;
          }

      brought_on : (name : QualName) (c : Named) → name.is_own ≡ false → front_of name.parts ≡ [] → IsSeen instances texts (IsBrought instances texts number k) (last_part name.parts) c → IsNamed g k name c
      brought_on name (a_sig s) plain front seen =
          let by = seen.0 in
          let o = by.opened in
          let got = own by.earlier o by.hidden by.before by.is_open in
          let then = reaches_on o.instance s.instance by.leading got.0 in
          let first = state.each o.instance (state.within o.instance got.0) in
          let last = state.each s.instance (state.within s.instance then.0) in
          let has = seen_over told root tree texts instances load s.instance seen.1 seen.2 last.who s.sig (last_part name.parts) seen.3 last.meant seen.4 in
          record {
            candidate = least.a_sig last.who s.sig;
            same = (refl, last.meant);
            names = least.reached g k by.earlier first.who last.who name s.sig plain front by.before (got.1 g first.who is first.meant) (then.1 first.who last.who first.meant last.meant) has;
          }
      brought_on name (a_parameter n) plain front seen = absurd seen

      behind_on : (name : QualName) (c : Named) (alias : List ℕ) (aliases : List (List ℕ)) → front_of name.parts ≡ alias ∷ aliases →
          IsSeen instances texts (IsBehind instances texts number k alias aliases) (last_part name.parts) c → IsNamed g k name c
      behind_on name (a_sig s) alias aliases front seen =
          let by = seen.0 in
          let o = by.opened in
          let got = own by.earlier o by.hidden by.before by.is_open in
          let way = by.leading in
          let then = follows_on aliases o.instance s.instance way.1 got.0 in
          let first = state.each o.instance (state.within o.instance got.0) in
          let last = state.each s.instance (state.within s.instance then.0) in
          let has = seen_over told root tree texts instances load s.instance seen.1 seen.2 last.who s.sig (last_part name.parts) seen.3 last.meant seen.4 in
          let at = asked told root tree texts instances load number by.earlier o by.hidden g by.is_open is in
          let same : alias ≡ alias_of at.opening = sym way.0 ∙ at.led.leads.named in
          record {
            candidate = least.a_sig last.who s.sig;
            same = (refl, last.meant);
            names = least.through g k by.earlier first.who last.who name at.opening aliases s.sig (front ∙ ap (λ (x : List ℕ). x ∷ aliases) same) by.before at.asks (got.1 g first.who is first.meant)
                (then.1 first.who last.who first.meant last.meant) has;
          }
      behind_on name (a_parameter n) alias aliases front seen = absurd seen

      names_by : (name : QualName) (c : Named) (front : List (List ℕ)) → front_of name.parts ≡ front → NamesBy instances texts number k name.is_own front (last_part name.parts) c → IsNamed g k name c
      names_by name c [] e (inl it) = own_on name c e it
      names_by name c [] e (inr it) = brought_on name c it.0 e it.1
      names_by name c (alias ∷ aliases) e it = behind_on name c alias aliases e it

      names_on : (name : QualName) (c : Named) → Names instances texts number k name c → IsNamed g k name c
      names_on name c it = names_by name c (front_of name.parts) refl it

      given_on : (i : Instance) → slice_get instances number ≡ Some i → (names : List SigName) (xs : List (Option SigRef)) → length names ≡ length xs →
          ((n : ℕ) (name : SigName) (x : Option SigRef) → slice_get names n ≡ Some name → slice_get xs n ≡ Some x → IsGiven instances texts number k i.arguments name x) → AreArguments g k names xs
      given_on i there [] [] size each = record { arguments = nothing; meant = none_meant; gives = least.none_given g k }
      given_on i there [] (x ∷ xs) size each = absurd (omega (arith, size))
      given_on i there (name ∷ names) [] size each = absurd (omega (arith, size))
      given_on i there (sig_name.Int place ∷ names) (x ∷ xs) size each =
          let less : length names ≡ length xs = omega (arith, size) in
          let rest = given_on i there names xs less (λ n name y is_name is_y. each (suc n) name y is_name is_y) in
          let int : x ≡ None = each 0 (sig_name.Int place) x refl refl in
          record {
            arguments = int_and rest.arguments;
            meant = subst (λ (y : Option SigRef). AreMeant texts instances (y ∷ xs) (int_and rest.arguments)) (sym int) (int_meant xs rest.arguments rest.meant);
            gives = least.int_given g k place names rest.arguments rest.gives;
          }
      given_on i there (sig_name.Name name ∷ names) (x ∷ xs) size each =
          let less : length names ≡ length xs = omega (arith, size) in
          let rest = given_on i there names xs less (λ n other y is_name is_y. each (suc n) other y is_name is_y) in
          let one = each 0 (sig_name.Name name) x refl refl in
          let named = names_on name one.one one.names in
          let stands = stands_on number g i one.one named.candidate x is there named.same one.stands in
          record {
            arguments = with_argument stands.argument rest.arguments;
            meant = with_meant texts instances x stands.argument xs rest.arguments stands.meant rest.meant;
            gives = least.name_given g k name named.candidate stands.argument names rest.arguments named.names stands.stands rest.gives;
          }

      step_as : (opening : Opening) (i : Instance) (t : Text) (o : Opened) → IsInstanceOf instances texts number i t → slice_get (openings_of t.tree) k ≡ Some opening → slice_get i.opens k ≡ Some o →
          IsLed (IsTextOf told root texts) instances texts number opening o → SetAsks g k opening → IsStep g k o
      step_as (written w) i t o it at leads led asking =
          let target = led.target in
          let found = led.leads.found in
          let are = (load.named number (slice_get_within instances number i it.is_instance)).each k i target t w o it (written_of t.tree k w at) leads led.leads.reached in
          let got = given_on i it.is_instance w.arguments target.arguments are.every are.each in
          record {
            target = given found.0 got.arguments;
            meant = means o.instance target found.0 got.arguments led.leads.reached found.1 got.meant;
            leads = least.written_open g k w found.0 got.arguments asking found.2 got.gives;
          }
      step_as (implied e) i t o it at leads led asking =
          let target = led.target in
          let found = led.leads.found in
          let self : SigRef = record { instance = number; sig = e.sig } in
          let arguments : AreMeant texts instances target.arguments (sig_and g e.sig nothing) =
          subst (λ (xs : List (Option SigRef)). AreMeant texts instances xs (sig_and g e.sig nothing)) (sym led.given) (sig_meant self g e.sig [] nothing refl is none_meant) in
          record {
            target = given found.0 (sig_and g e.sig nothing);
            meant = means o.instance target found.0 (sig_and g e.sig nothing) led.leads.reached found.1 arguments;
            leads = least.implied_open g k e found.0 asking found.2;
          }

      pub step : (o : Opened) (hidden : Bool) → IsOpen instances texts number k o hidden → IsStep g k o
      step o hidden is_open =
          let at = asked told root tree texts instances load number k o hidden g is_open is in
          step_as at.opening at.instance at.text o at.is at.at at.leads at.led at.asks

    pub leads_so : (number k : ℕ) → CarriesBelow passed number k → (o : Opened) (hidden : Bool) → IsOpen instances texts number k o hidden → LeadsSo number k o.instance
    leads_so number k own o hidden is_open g h is was =
        let s = step number k own g is o hidden is_open in
        subst (λ (x : Given). SetLeads g k x) (one_meant texts instances o.instance s.target h s.meant was) s.leads
