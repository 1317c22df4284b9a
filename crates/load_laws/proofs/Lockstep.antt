-- Two walks in step: they lead from instances that are the same over instances that are the same.
use Rattle.std.proofs.Common.{◌≡◌, ◌⊎◌, ℕ, suc, ◌<◌, ◌≤◌, Bool, List, [], ◌∷◌, ◌++◌, length, slice_get, Some, refl, sym, ap, subst, ◌∙◌, inl, inr, arith}
use Rattle.std.proofs.lemmas.Bool.{cases_lt}
use Rattle.std.proofs.lemmas.Option.{slice_get_within}
use Rattle.base_types.specs.Texts.{Texts}
use Rattle.syntax_tree.specs.declared.instance.Instance.{Instance}
use Rattle.syntax_tree.specs.declared.instance.Opened.{Opened}
use Rattle.syntax_tree.specs.declared.instance.Text.{Text}
use Rattle.syntax_tree.specs.declared.module.Module.{Module}
use Rattle.load_state.specs.Named.{IsOpen}
use Rattle.load_state.specs.Opens.{openings_of}
use Rattle.load_modules.specs.Numbered.{IsAmong, IsLabelled, HasOpens, Walks, done, known, new}
use Rattle.load_modules.specs.Order.{slashed_to}
use Rattle.load_laws.specs.One.{TextsHaveOneModule}
use Rattle.load_laws.specs.Unique.{IsLoad}
use Rattle.load_laws.proofs.Alike.{AreSame, turned, moved, one_instance, among_more, among_last, among_cases}
use Rattle.load_laws.proofs.Names.{Carries, CarriesBelow, SameBelow, IsState}
use Rattle.load_laws.proofs.Targets.{AreTargets, turned_targets, one_open, known_target, same_opened, same_next, same_targets}

module _ (texts others : List Text) (instances rest : List Instance) where
  -- what is known where a walk of an instance stands at an open
  pub record IsStart (number k met : ℕ) (passed : List ℕ) : Type 0 where
    pub state : IsState texts others instances rest met passed
    pub own : CarriesBelow texts others instances rest passed number k
    pub inside : number < met

  -- what is known behind a walk
  pub record HasRun (number met : ℕ) (passed : List ℕ) (after : ℕ) (behind : List ℕ) : Type 0 where
    pub state : IsState texts others instances rest after behind
    pub own : Carries texts others instances rest behind number
    pub grown : (m : ℕ) → IsAmong passed m → IsAmong behind m
    pub more : met ≤ after
    pub all : (m : ℕ) → met ≤ m → m < after → IsAmong behind m

  -- no open has a number that isn't below their count
  open_below : (number k e : ℕ) (o : Opened) (hidden : Bool) → HasOpens instances texts number k → IsOpen instances texts number e o hidden → e < k
  open_below number k e o hidden has is =
      let one = one_instance instances texts number is.instance has.instance is.text has.text is.is has.is in
      let lt : e < length (openings_of is.text.tree) = slice_get_within (openings_of is.text.tree) e is.opening is.asks in
      let size : length (openings_of is.text.tree) ≡ k = ap (λ (t : Text). length (openings_of t.tree)) one.1 ∙ has.counted in
      omega (arith, lt, size)

  -- the other walk has an open at this number too
  opens_moved : (number k : ℕ) → AreSame texts others instances rest number → HasOpens instances texts number k → HasOpens rest others number k
  opens_moved number k same has =
      let there = moved texts others instances rest number has.instance has.text same has.is in
      record { instance = there.0; text = has.text; is = there.1; counted = has.counted }

  weaker : (passed behind : List ℕ) (number : ℕ) → ((m : ℕ) → IsAmong passed m → IsAmong behind m) → Carries texts others instances rest passed number → Carries texts others instances rest behind number
  weaker passed behind number grown carries e o hidden is = let got = carries e o hidden is in (got.0, grown o.instance got.1)

  weaker_below : (passed behind : List ℕ) (number k : ℕ) → ((m : ℕ) → IsAmong passed m → IsAmong behind m) → CarriesBelow texts others instances rest passed number k → CarriesBelow texts others instances rest behind number k
  weaker_below passed behind number k grown carries e o hidden lt is = let got = carries e o hidden lt is in (got.0, grown o.instance got.1)

  -- the open of this number is carried too
  one_more : (passed : List ℕ) (number k : ℕ) (o : Opened) (hidden : Bool) → CarriesBelow texts others instances rest passed number k → IsOpen instances texts number k o hidden → IsOpen rest others number k o hidden →
      IsAmong passed o.instance → CarriesBelow texts others instances rest passed number (suc k)
  one_more passed number k o hidden own is was among e p private lt there = elim (cases_lt e k) [
    | inl less ↦ own e p private less there
    | inr least ↦
        let at : e ≡ k = omega (arith, lt, least) in
        let here : IsOpen instances texts number k p private = subst (λ (x : ℕ). IsOpen instances texts number x p private) at there in
        let one = one_open instances texts number k o p hidden private is here in
        let moved_open : IsOpen rest others number k p private = subst (λ (x : Bool). IsOpen rest others number k p x) one.1 (subst (λ (x : Opened). IsOpen rest others number k x hidden) one.0 was) in
        (subst (λ (x : ℕ). IsOpen rest others number x p private) (sym at) moved_open, subst (λ (x : Opened). IsAmong passed x.instance) one.0 among)
  ]

  same_more : (met : ℕ) → SameBelow texts others instances rest met → AreSame texts others instances rest met → SameBelow texts others instances rest (suc met)
  same_more met below same m lt = elim (cases_lt m met) [
    | inl less ↦ below m less
    | inr least ↦ let at : met ≡ m = omega (arith, lt, least) in subst (λ (x : ℕ). AreSame texts others instances rest x) at same
  ]

  -- a walk that begins at the next instance
  pub start_inner : (met : ℕ) (passed : List ℕ) → IsState texts others instances rest met passed → AreSame texts others instances rest met → IsStart met 0 (suc met) passed
  start_inner met passed state same = record {
    state = record { same = same_more met state.same same; within = λ m among. let lt = state.within m among in omega (arith, lt); carries = state.carries };
    own = λ e o hidden lt is. absurd (omega (arith, lt));
    inside = omega arith;
  }

  -- behind the walk of an instance that instance is passed too
  pub state_passed : (met from after : ℕ) (passed behind : List ℕ) → met < after → HasRun met from passed after behind → IsState texts others instances rest after (behind ++ met ∷ [])
  state_passed met from after passed behind inside run = record {
    same = run.state.same;
    within = λ m among. within m (among_cases behind met m among);
    carries = λ m among. carries m (among_cases behind met m among);
  }
    where
      grown : (m : ℕ) → IsAmong behind m → IsAmong (behind ++ met ∷ []) m
      grown m among = among_more behind (met ∷ []) m among

      within : (m : ℕ) → IsAmong behind m ⊎ (m ≡ met) → m < after
      within m (inl among) = run.state.within m among
      within m (inr same) = omega (arith, same, inside)

      carries : (m : ℕ) → IsAmong behind m ⊎ (m ≡ met) → Carries texts others instances rest (behind ++ met ∷ []) m
      carries m (inl among) = weaker behind (behind ++ met ∷ []) m grown (run.state.carries m among)
      carries m (inr same) = subst (λ (x : ℕ). Carries texts others instances rest (behind ++ met ∷ []) x) (sym same) (weaker behind (behind ++ met ∷ []) met grown run.own)

  start_known : (number k met : ℕ) (passed : List ℕ) (o : Opened) (hidden : Bool) → IsStart number k met passed → IsOpen instances texts number k o hidden → IsOpen rest others number k o hidden →
      IsAmong passed o.instance → IsStart number (suc k) met passed
  start_known number k met passed o hidden start is was among = record { state = start.state; own = one_more passed number k o hidden start.own is was among; inside = start.inside }

  start_outer : (number k met between : ℕ) (passed inner : List ℕ) (o : Opened) (hidden : Bool) → IsStart number k met passed → HasRun met (suc met) passed between inner → IsOpen instances texts number k o hidden →
      IsOpen rest others number k o hidden → o.instance ≡ met → IsStart number (suc k) between (inner ++ met ∷ [])
  start_outer number k met between passed inner o hidden start run is was at =
      let more : suc met ≤ between = run.more in
      let number_in : number < met = start.inside in
      let met_in : met < between = omega (arith, more) in
      record {
        state = state_passed met (suc met) between passed inner met_in run;
        own = one_more (inner ++ met ∷ []) number k o hidden (weaker_below passed (inner ++ met ∷ []) number k (λ m among. among_more inner (met ∷ []) m (run.grown m among)) start.own) is was
            (subst (IsAmong (inner ++ met ∷ [])) (sym at) (among_last inner met));
        inside = omega (arith, number_in, met_in);
      }

  -- the end of a walk
  run_done : (number k met : ℕ) (passed : List ℕ) → IsStart number k met passed → HasOpens instances texts number k → HasRun number met passed met passed
  run_done number k met passed start has = record {
    state = start.state;
    own = λ e o hidden is. start.own e o hidden (open_below number k e o hidden has is) is;
    grown = λ m among. among;
    more = omega arith;
    all = λ m least most. absurd (omega (arith, least, most));
  }

  run_new : (number met between after : ℕ) (passed inner behind : List ℕ) → HasRun met (suc met) passed between inner → HasRun number between (inner ++ met ∷ []) after behind → HasRun number met passed after behind
  run_new number met between after passed inner behind run then =
      let more : suc met ≤ between = run.more in
      let further : between ≤ after = then.more in
      record {
        state = then.state;
        own = then.own;
        grown = λ m among. then.grown m (among_more inner (met ∷ []) m (run.grown m among));
        more = omega (arith, more, further);
        all = all;
      }
    where
      inner_all : (m : ℕ) → met ≤ m → m < between → IsAmong (inner ++ met ∷ []) m
      inner_all m least most = elim (cases_lt met m) [
        | inl lt ↦ among_more inner (met ∷ []) m (run.all m lt most)
        | inr le ↦ let at : met ≡ m = omega (arith, least, le) in subst (λ (x : ℕ). IsAmong (inner ++ met ∷ []) x) at (among_last inner met)
      ]

      all : (m : ℕ) → met ≤ m → m < after → IsAmong behind m
      all m least most = elim (cases_lt m between) [
        | inl lt ↦ then.grown m (inner_all m least lt)
        | inr le ↦ then.all m le most
      ]

  -- both walks end alike
  pub record Locked (number met : ℕ) (passed : List ℕ) (after other : ℕ) (behind beyond : List ℕ) : Type 0 where
    pub count : after ≡ other
    pub numbers : behind ≡ beyond
    pub run : HasRun number met passed after behind

module _ (law : TextsHaveOneModule) (told : List Texts) (root : List ℕ) (tree : Module) (texts others : List Text) (instances rest : List Instance) (a : IsLoad told root tree texts instances)
    (b : IsLoad told root tree others rest) where
  -- what is known of the next open in both
  record IsStep (o p : Opened) (hidden private : Bool) : Type 0 where
    targets : AreTargets texts others instances rest o p
    seen : hidden ≡ private

  step : (number k met : ℕ) (passed : List ℕ) (o p : Opened) (hidden private : Bool) → IsStart texts others instances rest number k met passed → IsOpen instances texts number k o hidden → IsOpen rest others number k p private →
      IsStep o p hidden private
  step number k met passed o p hidden private start is was =
      let got = same_targets law told root tree texts others instances rest a b met passed number k o p hidden private start.state start.own start.inside is was in
      record { targets = got.0; seen = got.1 }

  first_known : (number k met : ℕ) (passed : List ℕ) (o p : Opened) (hidden private : Bool) → IsStart texts others instances rest number k met passed → IsStep o p hidden private → IsAmong passed o.instance →
      o.instance ≡ p.instance
  first_known number k met passed o p hidden private start s among =
      known_target texts others instances rest met o p b.numbered.numbered.apart b.distinct start.state.same s.targets (start.state.within o.instance among)

  second_known : (number k met : ℕ) (passed : List ℕ) (o p : Opened) (hidden private : Bool) → IsStart texts others instances rest number k met passed → IsStep o p hidden private → IsAmong passed p.instance →
      p.instance ≡ o.instance
  second_known number k met passed o p hidden private start s among =
      known_target others texts rest instances met p o a.numbered.numbered.apart a.distinct (λ m lt. turned texts others instances rest m (start.state.same m lt))
      (turned_targets texts others instances rest o p s.targets) (start.state.within p.instance among)

  -- the open of the one is the other's
  same_open : (number k : ℕ) (o p : Opened) (hidden private : Bool) → IsStep o p hidden private → o.instance ≡ p.instance → IsOpen rest others number k p private → IsOpen rest others number k o hidden
  same_open number k o p hidden private s at was =
      subst (λ (x : Bool). IsOpen rest others number k o x) (sym s.seen) (subst (λ (x : Opened). IsOpen rest others number k x private) (sym (same_opened o p s.targets.alias at)) was)

  -- a new instance is the same in both
  new_same : (number k met : ℕ) (passed way : List ℕ) (o p : Opened) (hidden private : Bool) → IsStart texts others instances rest number k met passed → IsStep o p hidden private → o.instance ≡ met → p.instance ≡ met →
      IsLabelled instances met (slashed_to way o.alias) → IsLabelled rest met (slashed_to way p.alias) → AreSame texts others instances rest met
  new_same number k met passed way o p hidden private start s at there labelled label =
      let t = s.targets in
      let is : slice_get instances met ≡ Some t.first = subst (λ (x : ℕ). slice_get instances x ≡ Some t.first) at t.is_first in
      let was : slice_get rest met ≡ Some t.second = subst (λ (x : ℕ). slice_get rest x ≡ Some t.second) there t.is_second in
      let also : IsLabelled rest met (slashed_to way o.alias) = subst (λ (x : List ℕ). IsLabelled rest met (slashed_to way x)) (sym t.alias) label in
      same_next law told root tree texts others instances rest a b met (slashed_to way o.alias) t.first t.second t.name start.state.same is was t.arguments t.named_first t.named_second labelled also

  no_end : (number k met : ℕ) (passed : List ℕ) (p : Opened) (private : Bool) → IsStart texts others instances rest number k met passed → HasOpens instances texts number k → IsOpen rest others number k p private → ⊥
  no_end number k met passed p private start has is =
      let lt : k < k = open_below others texts rest instances number k k p private (opens_moved texts others instances rest number k (start.state.same number start.inside) has) is in
      absurd (omega (arith, lt))

  no_start : (number k met : ℕ) (passed : List ℕ) (o : Opened) (hidden : Bool) → IsStart texts others instances rest number k met passed → IsOpen instances texts number k o hidden → HasOpens rest others number k → ⊥
  no_start number k met passed o hidden start is has =
      let back = opens_moved others texts rest instances number k (turned texts others instances rest number (start.state.same number start.inside)) has in
      let lt : k < k = open_below texts others instances rest number k k o hidden back is in
      absurd (omega (arith, lt))

  pub lock : (number : ℕ) (way : List ℕ) (k met : ℕ) (passed : List ℕ) (after other : ℕ) (behind beyond : List ℕ) → Walks instances texts number way k met passed after behind → Walks rest others number way k met passed other beyond →
      IsStart texts others instances rest number k met passed → Locked texts others instances rest number met passed after other behind beyond
  lock number way k met passed after other behind beyond (done n w e m ps has) (done n' w' e' m' ps' had) start =
      record { count = refl; numbers = refl; run = run_done texts others instances rest number k met passed start has }
  lock number way k met passed after other behind beyond (done n w e m ps has) (known n' w' e' m' ps' f' b' p private was among' walk') start = absurd (no_end number k met passed p private start has was)
  lock number way k met passed after other behind beyond (done n w e m ps has) (new n' w' e' m' ps' c' i' f' b' p private was at' label' inner' outer') start = absurd (no_end number k met passed p private start has was)
  lock number way k met passed after other behind beyond (known n w e m ps f b o hidden is among walk) (done n' w' e' m' ps' had) start = absurd (no_start number k met passed o hidden start is had)
  lock number way k met passed after other behind beyond (known n w e m ps f b o hidden is among walk) (known n' w' e' m' ps' f' b' p private was among' walk') start =
      let s = step number k met passed o p hidden private start is was in
      let at = first_known number k met passed o p hidden private start s among in
      lock number way (suc k) met passed after other behind beyond walk walk' (start_known texts others instances rest number k met passed o hidden start is (same_open number k o p hidden private s at was) among)
  lock number way k met passed after other behind beyond (known n w e m ps f b o hidden is among walk) (new n' w' e' m' ps' c' i' f' b' p private was at' label' inner' outer') start =
      let s = step number k met passed o p hidden private start is was in
      let at = first_known number k met passed o p hidden private start s among in
      let lt = start.state.within o.instance among in
      absurd (omega (arith, at, at', lt))
  lock number way k met passed after other behind beyond (new n w e m ps c i f b o hidden is at label inner outer) (done n' w' e' m' ps' had) start = absurd (no_start number k met passed o hidden start is had)
  lock number way k met passed after other behind beyond (new n w e m ps c i f b o hidden is at label inner outer) (known n' w' e' m' ps' f' b' p private was among' walk') start =
      let s = step number k met passed o p hidden private start is was in
      let there = second_known number k met passed o p hidden private start s among' in
      let lt = start.state.within p.instance among' in
      absurd (omega (arith, at, there, lt))
  lock number way k met passed after other behind beyond (new n w e m ps c i f b o hidden is at label inner outer) (new n' w' e' m' ps' c' i' f' b' p private was at' label' inner' outer') start =
      let s = step number k met passed o p hidden private start is was in
      let same = new_same number k met passed way o p hidden private start s at at' label label' in
      let alias = s.targets.alias in
      let turned_inner : Walks rest others met (slashed_to way o.alias) 0 (suc met) passed c' i' = subst (λ (x : List ℕ). Walks rest others met (slashed_to way x) 0 (suc met) passed c' i') (sym alias) inner' in
      let got = lock met (slashed_to way o.alias) 0 (suc met) passed c c' i i' inner turned_inner (start_inner texts others instances rest met passed start.state same) in
      let turned_outer : Walks rest others number way (suc k) c (i ++ met ∷ []) other beyond =
      subst (λ (x : ℕ). Walks rest others number way (suc k) x (i ++ met ∷ []) other beyond) (sym got.count)
      (subst (λ (x : List ℕ). Walks rest others number way (suc k) c' (x ++ met ∷ []) other beyond) (sym got.numbers) outer') in
      let then = lock number way (suc k) c (i ++ met ∷ []) after other behind beyond outer turned_outer
      (start_outer texts others instances rest number k met c passed i o hidden start got.run is (same_open number k o p hidden private s (at ∙ sym at') was) at) in
      record { count = then.count; numbers = then.numbers; run = run_new texts others instances rest number met c after passed i behind got.run then.run }
