-- At the end of the walk all numbers mean instances of the root.
use Rattle.std.proofs.Common.{◌≡◌, ◌⊎◌, ℕ, suc, ◌<◌, ◌≤◌, Bool, List, [], ◌∷◌, ◌++◌, length, slice_get, Option, Some, codes, sym, ap, subst, ◌∙◌, inl, inr, arith}
use Rattle.std.proofs.lemmas.Bool.{cases_lt}
use Rattle.std.proofs.lemmas.Option.{same_Some, slice_get_within}
use Rattle.base_types.specs.Texts.{Texts}
use Rattle.syntax_tree.specs.declared.instance.Instance.{Instance}
use Rattle.syntax_tree.specs.declared.instance.Opened.{Opened}
use Rattle.syntax_tree.specs.declared.instance.SigRef.{SigRef}
use Rattle.syntax_tree.specs.declared.instance.Text.{Text}
use Rattle.syntax_tree.specs.declared.module.Module.{Module}
use Rattle.load_state.specs.Named.{IsOpen}
use Rattle.load_state.specs.Opens.{openings_of}
use Rattle.load_modules.specs.Instances as least
use Rattle.load_modules.specs.Instances.{given, nothing}
use Rattle.load_modules.specs.Numbered.{IsAmong, HasOpens, Walks, done, known, new, AreWalked, by_root, and_integers}
use Rattle.load_modules.specs.Order.{slashed_to}
use Rattle.load_modules.specs.Reached.{IsPlain}
use Rattle.load_modules.specs.Told.{name_at, IsPathAnswer}
use Rattle.load_laws.specs.Unique.{IsLoad}
use Rattle.load_laws.proofs.Alike.{one_instance, among_more, among_last, among_cases, among_none}
use Rattle.load_laws.proofs.Found.{root_name}
use Rattle.load_laws.proofs.LeastMeant.{Means, means, AreMeant, none_meant}
use Rattle.load_laws.proofs.LeastWalk.{IsMeantAt, IsState, Carries, CarriesBelow, LeadsSo, leads_so, step}

-- an instance without arguments is meant by its number
pub plain_means : (texts : List Text) (instances : List Instance) (n text : ℕ) (i : Instance) (name : List ℕ) → slice_get instances n ≡ Some i → IsPlain text i → name_at texts text ≡ Some name →
    Means texts instances n (given name nothing)
plain_means texts instances n text i name is plain named =
    means n i name nothing is (ap (λ (m : ℕ). name_at texts m) plain.text ∙ named) (subst (λ (xs : List (Option SigRef)). AreMeant texts instances xs nothing) (sym plain.none) none_meant)

module _ (told : List Texts) (root : List ℕ) (tree : Module) (texts : List Text) (instances : List Instance) (load : IsLoad told root tree texts instances) where
  abbrev At : ℕ → Type 0
  At m = IsMeantAt told root tree texts instances load m

  abbrev State : ℕ → List ℕ → Type 0
  State met passed = IsState told root tree texts instances load met passed

  abbrev All : List ℕ → ℕ → Type 0
  All passed m = Carries told root tree texts instances load passed m

  abbrev Below : List ℕ → ℕ → ℕ → Type 0
  Below passed m k = CarriesBelow told root tree texts instances load passed m k

  abbrev So : ℕ → ℕ → ℕ → Type 0
  So m e l = LeadsSo told root tree texts instances load m e l

  record IsStart (number k met : ℕ) (passed : List ℕ) : Type 0 where
    state : State met passed
    own : Below passed number k
    inside : number < met

  record HasRun (number met : ℕ) (passed : List ℕ) (after : ℕ) (behind : List ℕ) : Type 0 where
    state : State after behind
    own : All behind number
    grown : (m : ℕ) → IsAmong passed m → IsAmong behind m
    more : met ≤ after

  open_below : (number k e : ℕ) (o : Opened) (hidden : Bool) → HasOpens instances texts number k → IsOpen instances texts number e o hidden → e < k
  open_below number k e o hidden has is =
      let one = one_instance instances texts number is.instance has.instance is.text has.text is.is has.is in
      let lt : e < length (openings_of is.text.tree) = slice_get_within (openings_of is.text.tree) e is.opening is.asks in
      let size : length (openings_of is.text.tree) ≡ k = ap (λ (t : Text). length (openings_of t.tree)) one.1 ∙ has.counted in
      omega (arith, lt, size)

  -- an open of a number is one
  one_opened : (number k : ℕ) (o p : Opened) (hidden private : Bool) → IsOpen instances texts number k o hidden → IsOpen instances texts number k p private → o ≡ p
  one_opened number k o p hidden private is was =
      let one = one_instance instances texts number is.instance was.instance is.text was.text is.is was.is in
      let there : slice_get was.instance.opens k ≡ Some o = ap (λ (i : Instance). slice_get i.opens k) (sym one.0) ∙ is.leads in
      same_Some o p (sym there ∙ was.leads)

  weaker : (passed behind : List ℕ) (number : ℕ) → ((m : ℕ) → IsAmong passed m → IsAmong behind m) → All passed number → All behind number
  weaker passed behind number grown carries e o hidden is = let got = carries e o hidden is in (grown o.instance got.0, got.1)

  weaker_below : (passed behind : List ℕ) (number k : ℕ) → ((m : ℕ) → IsAmong passed m → IsAmong behind m) → Below passed number k → Below behind number k
  weaker_below passed behind number k grown carries e o hidden lt is = let got = carries e o hidden lt is in (grown o.instance got.0, got.1)

  -- the open of this number is carried too
  one_more : (passed : List ℕ) (number k : ℕ) (o : Opened) (hidden : Bool) → Below passed number k → IsOpen instances texts number k o hidden → IsAmong passed o.instance → So number k o.instance → Below passed number (suc k)
  one_more passed number k o hidden own is among so e p private lt there = elim (cases_lt e k) [
    | inl less ↦ own e p private less there
    | inr most ↦
        let at : e ≡ k = omega (arith, lt, most) in
        let here : IsOpen instances texts number k p private = subst (λ (x : ℕ). IsOpen instances texts number x p private) at there in
        let one : o ≡ p = one_opened number k o p hidden private is here in
        (subst (λ (x : Opened). IsAmong passed x.instance) one among, subst (λ (x : ℕ). So number x p.instance) (sym at) (subst (λ (x : Opened). So number k x.instance) one so))
  ]

  each_more : (met : ℕ) → ((m : ℕ) → m < met → At m) → At met → (m : ℕ) → m < suc met → At m
  each_more met below at m lt = elim (cases_lt m met) [
    | inl less ↦ below m less
    | inr most ↦ let same : met ≡ m = omega (arith, lt, most) in subst (λ (x : ℕ). At x) same at
  ]

  start_inner : (met : ℕ) (passed : List ℕ) → State met passed → At met → IsStart met 0 (suc met) passed
  start_inner met passed state at = record {
    state = record { each = each_more met state.each at; within = λ m among. let lt = state.within m among in omega (arith, lt); carries = state.carries };
    own = λ e o hidden lt is. absurd (omega (arith, lt));
    inside = omega arith;
  }

  state_passed : (met from after : ℕ) (passed behind : List ℕ) → met < after → HasRun met from passed after behind → State after (behind ++ met ∷ [])
  state_passed met from after passed behind inside run = record {
    each = run.state.each;
    within = λ m among. within m (among_cases behind met m among);
    carries = λ m among. carries m (among_cases behind met m among);
  }
    where
      grown : (m : ℕ) → IsAmong behind m → IsAmong (behind ++ met ∷ []) m
      grown m among = among_more behind (met ∷ []) m among

      within : (m : ℕ) → IsAmong behind m ⊎ (m ≡ met) → m < after
      within m (inl among) = run.state.within m among
      within m (inr same) = omega (arith, same, inside)

      carries : (m : ℕ) → IsAmong behind m ⊎ (m ≡ met) → All (behind ++ met ∷ []) m
      carries m (inl among) = weaker behind (behind ++ met ∷ []) m grown (run.state.carries m among)
      carries m (inr same) = subst (λ (x : ℕ). All (behind ++ met ∷ []) x) (sym same) (weaker behind (behind ++ met ∷ []) met grown run.own)

  -- where the next open of a walk leads
  start_so : (number k met : ℕ) (passed : List ℕ) (o : Opened) (hidden : Bool) → IsStart number k met passed → IsOpen instances texts number k o hidden → So number k o.instance
  start_so number k met passed o hidden start is = leads_so told root tree texts instances load met passed start.state number k start.own o hidden is

  start_known : (number k met : ℕ) (passed : List ℕ) (o : Opened) (hidden : Bool) → IsStart number k met passed → IsOpen instances texts number k o hidden → IsAmong passed o.instance → IsStart number (suc k) met passed
  start_known number k met passed o hidden start is among = record {
    state = start.state;
    own = one_more passed number k o hidden start.own is among (start_so number k met passed o hidden start is);
    inside = start.inside;
  }

  new_at : (number k met : ℕ) (passed : List ℕ) (o : Opened) (hidden : Bool) → IsStart number k met passed → IsOpen instances texts number k o hidden → o.instance ≡ met → At met
  new_at number k met passed o hidden start is at =
      let from = start.state.each number start.inside in
      let s = step told root tree texts instances load met passed start.state number k start.own from.who from.meant o hidden is in
      record {
        who = s.target;
        meant = subst (λ (x : ℕ). Means texts instances x s.target) at s.meant;
        instance = least.opened from.who s.target k from.instance s.leads;
      }

  start_outer : (number k met between : ℕ) (passed inner : List ℕ) (o : Opened) (hidden : Bool) → IsStart number k met passed → HasRun met (suc met) passed between inner → IsOpen instances texts number k o hidden → o.instance ≡ met →
      IsStart number (suc k) between (inner ++ met ∷ [])
  start_outer number k met between passed inner o hidden start run is at =
      let more : suc met ≤ between = run.more in
      let before_in : number < met = start.inside in
      let met_in : met < between = omega (arith, more) in
      record {
        state = state_passed met (suc met) between passed inner met_in run;
        own = one_more (inner ++ met ∷ []) number k o hidden (weaker_below passed (inner ++ met ∷ []) number k (λ m among. among_more inner (met ∷ []) m (run.grown m among)) start.own) is
            (subst (IsAmong (inner ++ met ∷ [])) (sym at) (among_last inner met)) (start_so number k met passed o hidden start is);
        inside = omega (arith, before_in, met_in);
      }

  run_done : (number k met : ℕ) (passed : List ℕ) → IsStart number k met passed → HasOpens instances texts number k → HasRun number met passed met passed
  run_done number k met passed start has = record {
    state = start.state;
    own = λ e o hidden is. start.own e o hidden (open_below number k e o hidden has is) is;
    grown = λ m among. among;
    more = omega arith;
  }

  run_new : (number met between after : ℕ) (passed inner behind : List ℕ) → HasRun met (suc met) passed between inner → HasRun number between (inner ++ met ∷ []) after behind → HasRun number met passed after behind
  run_new number met between after passed inner behind run then =
      let more : suc met ≤ between = run.more in
      let beyond : between ≤ after = then.more in
      record {
        state = then.state;
        own = then.own;
        grown = λ m among. then.grown m (among_more inner (met ∷ []) m (run.grown m among));
        more = omega (arith, more, beyond);
      }

  walked : (number : ℕ) (way : List ℕ) (k met : ℕ) (passed : List ℕ) (after : ℕ) (behind : List ℕ) → Walks instances texts number way k met passed after behind → IsStart number k met passed → HasRun number met passed after behind
  walked number way k met passed after behind (done n w j m p has) start = run_done number k met passed start has
  walked number way k met passed after behind (known n w j m p a b o hidden is among rest) start =
      walked number way (suc k) met passed after behind rest (start_known number k met passed o hidden start is among)
  walked number way k met passed after behind (new n w j m p between inside a b o hidden is at labelled inner outer) start =
      let run = walked met (slashed_to way o.alias) 0 (suc met) passed between inside inner (start_inner met passed start.state (new_at number k met passed o hidden start is at)) in
      let then = walked number way (suc k) between (inside ++ met ∷ []) after behind outer (start_outer number k met between passed inside o hidden start run is at) in
      run_new number met between after passed inside behind run then

  first_at : At 0
  first_at = record {
    who = given root nothing;
    meant = plain_means texts instances 0 0 load.reached.root root load.reached.begins load.reached.plain (root_name told root tree texts load.texts);
    instance = least.first;
  }

  first_state : State 0 []
  first_state = record { each = λ m lt. absurd (omega (arith, lt)); within = λ m among. absurd (among_none m among); carries = λ m among. absurd (among_none m among) }

  first_start : IsStart 0 0 (suc 0) []
  first_start = start_inner 0 [] first_state first_at

  integers_at : (text met : ℕ) (instance : Instance) (answer : IsPathAnswer told root texts (codes "util/integer") (Some text)) → slice_get instances met ≡ Some instance → IsPlain text instance → At met
  integers_at text met instance answer is plain = record {
    who = given answer.0 nothing;
    meant = plain_means texts instances met text instance answer.0 is plain answer.1;
    instance = least.integers answer.0 answer.2;
  }

  all_walked : (integers : Option ℕ) → AreWalked instances texts integers → IsPathAnswer told root texts (codes "util/integer") integers → (m : ℕ) → m < length instances → At m
  all_walked integers (by_root answer behind begins plain) found = (walked 0 [] 0 (suc 0) [] (length instances) behind begins.walks first_start).state.each
  all_walked integers (and_integers text met passed behind instance begins is plain second) found =
      let run = walked 0 [] 0 (suc 0) [] met passed begins.walks first_start in
      let more : suc 0 ≤ met = run.more in
      let positive : 0 < met = omega (arith, more) in
      let between = state_passed 0 (suc 0) met [] passed positive run in
      (walked met (codes "integer") 0 (suc met) (passed ++ 0 ∷ []) (length instances) behind second.walks (start_inner met (passed ++ 0 ∷ []) between (integers_at text met instance found is plain))).state.each

  -- each number means an instance of the root
  pub all_meant_at : (m : ℕ) → m < length instances → At m
  all_meant_at = all_walked load.numbered.integers load.numbered.numbered.walked load.numbered.found
