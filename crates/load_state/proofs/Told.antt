-- What names name is told by counts.
use Rattle.std.proofs.Common.{◌≡◌, ◌⊎◌, inl, inr, ◌↔◌, ℕ, zero, suc, ◌+◌, ◌-◌, ◌<◌, Bool, true, false, List, [], ◌∷◌, take, drop, get_or, length, slice_get, option_map, Option, Some, None, refl, sym, ap, subst, ◌∙◌, arith}
use Rattle.std.specs.HashMap.{get_by_text}
use Rattle.std.proofs.lemmas.Bool.{cases_eq}
use Rattle.std.proofs.lemmas.List.{length-map, take_all}
use Rattle.std.proofs.lemmas.Option.{none-some, same_Some, slice_get-map, slice_get_within}
use Rattle.syntax_tree.specs.declared.instance.Instance.{Instance}
use Rattle.syntax_tree.specs.declared.instance.SigRef.{SigRef}
use Rattle.syntax_tree.specs.declared.instance.Text.{Text}
use Rattle.load_state.specs.Counts.{Tells, HasName, TellsName, known_or}
use Rattle.load_state.specs.Doors.{TellsOf, Joins, StandsAt}
use Rattle.load_state.specs.Keys.{texts_of}
use Rattle.load_state.specs.Leads.{IsInstanceOf}
use Rattle.load_state.specs.Named.{Named, a_sig, a_parameter, Stands, IsBrought, IsBehind, IsSeen, IsOwn, NamesBy}
use Rattle.load_state.specs.Sets.{IsIn, IsInAt}
use Rattle.load_state.specs.Sigs.{sigs_of, parameters_of}
use Rattle.load_state.specs.declared.argument.Opener.{Opener}
use Rattle.load_state.specs.declared.reach.InstanceSet.{InstanceSet}
use Rattle.load_state.specs.declared.source.Source.{Source}
use Rattle.load_state.specs.declared.table.Known.{Known}
use Rattle.load_state.proofs.Counts.{told_of}

abbrev Argument : Type 0
Argument = Option SigRef

pub tells_as : {P Q : Named → Type 0} (arguments : List Argument) (count : ℕ) (last : Argument) → ((c : Named) → P c → Q c) → ((c : Named) → Q c → P c) → TellsOf P arguments count last → TellsOf Q arguments count last
tells_as {P} {Q} arguments count last to from tells = record {
  none = λ e c q. tells.none e c (from c q);
  one = λ e. let (c, p, stands, only) = tells.one e in (c, to c p, stands, λ d q. only d (from d q));
}

pub tells_nothing : {P : Named → Type 0} (arguments : List Argument) (last : Argument) → ((c : Named) → P c → ⊥) → TellsOf P arguments 0 last
tells_nothing arguments last never = record { none = λ e c p. never c p; one = λ e. absurd cc }

pub tells_joins : {P Q : Named → Type 0} (arguments : List Argument) (m n b : ℕ) (x y z : Argument) → Joins m n b x y z → TellsOf P arguments m x → TellsOf Q arguments n y → TellsOf (λ c. P c ⊎ Q c) arguments b z
tells_joins {P} {Q} arguments m n b x y z joins first second = record { none = none (cases_eq n 0); one = one (cases_eq n 0) }
  where
    none : (n ≡ 0) ⊎ (n ≡ 0 → ⊥) → b ≡ 0 → (c : Named) → P c ⊎ Q c → ⊥
    none (inl zero_n) e c (inl p) = first.none (sym (joins.none zero_n).0 ∙ e) c p
    none (inl zero_n) e c (inr q) = second.none zero_n c q
    none (inr some) e c h = absurd ((joins.some some).0 e)

    only_first : n ≡ 0 → (c : Named) → ((d : Named) → P d → d ≡ c) → (d : Named) → P d ⊎ Q d → d ≡ c
    only_first zero_n c only d (inl p) = only d p
    only_first zero_n c only d (inr q) = absurd (second.none zero_n d q)

    only_second : m ≡ 0 → (c : Named) → ((d : Named) → Q d → d ≡ c) → (d : Named) → P d ⊎ Q d → d ≡ c
    only_second zero_m c only d (inl p) = absurd (first.none zero_m d p)
    only_second zero_m c only d (inr q) = only d q

    one : (n ≡ 0) ⊎ (n ≡ 0 → ⊥) → b ≡ 1 → (c : Named) × (P c ⊎ Q c) × Stands arguments c z × ((d : Named) → P d ⊎ Q d → d ≡ c)
    one (inl zero_n) e =
        let (c, p, stands, only) = first.one (sym (joins.none zero_n).0 ∙ e) in
        (c, inl p, subst (Stands arguments c) (sym (joins.none zero_n).1) stands, only_first zero_n c only)
    one (inr some) e =
        let joined = joins.some some in
        let counts = joined.1 e in
        let (c, q, stands, only) = second.one counts.1 in
        (c, inr q, subst (Stands arguments c) (sym joined.2) stands, only_second counts.0 c only)

-- the sigs and the parameters of which H holds
abbrev IsSigOf : ℕ → (ℕ → Type 0) → Named → Type 0
IsSigOf i H c = (n : ℕ) × (c ≡ a_sig (record { instance = i; sig = n })) × H n

abbrev IsParameterOf : (ℕ → Type 0) → Named → Type 0
IsParameterOf H c = (n : ℕ) × (c ≡ a_parameter n) × H n

tells_sigs : (arguments : List Argument) (i : ℕ) (H : ℕ → Type 0) (count last : ℕ) → Tells H count last → TellsOf (IsSigOf i H) arguments count (Some (record { instance = i; sig = last }))
tells_sigs arguments i H count last tells = record {
  none = λ e c is. tells.none e is.0 is.2;
  one = λ e.
      let some : count ≡ 0 → ⊥ = λ z. absurd (omega (arith, e, z)) in
      (a_sig (record { instance = i; sig = last }), (last, refl, tells.here some), refl, λ d is. is.1 ∙ ap (λ n. a_sig (record { instance = i; sig = n })) (tells.one e is.0 is.2));
}

tells_parameters : (arguments : List Argument) (H : ℕ → Type 0) (count last : ℕ) (given : Argument) → slice_get arguments last ≡ Some given → Tells H count last → TellsOf (IsParameterOf H) arguments count given
tells_parameters arguments H count last given at tells = record {
  none = λ e c is. tells.none e is.0 is.2;
  one = λ e.
      let some : count ≡ 0 → ⊥ = λ z. absurd (omega (arith, e, z)) in
      (a_parameter last, (last, refl, tells.here some), at, λ d is. is.1 ∙ ap a_parameter (tells.one e is.0 is.2));
}

module _ (instances : List Instance) (texts : List Text) (k : ℕ) (o : Opener) (stands : StandsAt instances texts k o) where
  own_text : (i : Instance) (t : Text) → IsInstanceOf instances texts o.number i t → t ≡ o.source.now.text
  own_text i t is =
      let same : i ≡ stands.instance = same_Some i stands.instance (sym is.is_instance ∙ stands.is.is_instance) in
      same_Some t o.source.now.text (sym is.is_text ∙ (ap (λ (x : Instance). slice_get texts x.text) same ∙ stands.is.is_text))

  own_to : (name : List ℕ) (c : Named) → IsSigOf o.number (λ n. HasName (sigs_of o.source.now.text.tree) n name true) c ⊎ IsParameterOf (λ n. slice_get (parameters_of o.source.now.text.tree) n ≡ Some name) c →
      IsOwn instances texts o.number name c
  own_to name c (inl (n, is, has)) = subst (IsOwn instances texts o.number name) (sym is) (refl, stands.instance, o.source.now.text, stands.is, has)
  own_to name c (inr (n, is, has)) = subst (IsOwn instances texts o.number name) (sym is) (stands.instance, o.source.now.text, stands.is, has)

  own_from : (name : List ℕ) (c : Named) → IsOwn instances texts o.number name c →
      IsSigOf o.number (λ n. HasName (sigs_of o.source.now.text.tree) n name true) c ⊎ IsParameterOf (λ n. slice_get (parameters_of o.source.now.text.tree) n ≡ Some name) c
  own_from name (a_sig s) (same, i, t, is, has) =
      inl (s.sig, ap (λ n. a_sig (record { instance = n; sig = s.sig })) same, subst (λ (x : Text). HasName (sigs_of x.tree) s.sig name true) (own_text i t is) has)
  own_from name (a_parameter n) (i, t, is, has) = inr (n, refl, subst (λ (x : Text). slice_get (parameters_of x.tree) n ≡ Some name) (own_text i t is) has)

  -- the instance's own sigs and parameters
  pub here_given : (name : List ℕ) (known : Known) (given : Argument) (count : ℕ) (last : Argument) → known ≡ known_or (get_by_text o.source.now.table.known name) → slice_get o.arguments.now known.parameter ≡ Some given →
      Joins known.sigs known.parameters count (Some (record { instance = o.number; sig = known.sig })) given last → TellsOf (IsOwn instances texts o.number name) o.arguments.now count last
  here_given name known given count last is at joins =
      let told : TellsName (parameters_of o.source.now.text.tree) (sigs_of o.source.now.text.tree) name known = subst (TellsName (parameters_of o.source.now.text.tree) (sigs_of o.source.now.text.tree) name) (sym is) (told_of (parameters_of o.source.now.text.tree) (sigs_of o.source.now.text.tree) name _ (o.source.now.tells name)) in
      tells_as o.arguments.now count last (own_to name) (own_from name)
      (tells_joins o.arguments.now known.sigs known.parameters count (Some (record { instance = o.number; sig = known.sig })) given last joins
      (tells_sigs o.arguments.now o.number (λ n. HasName (sigs_of o.source.now.text.tree) n name true) known.sigs known.sig told.all)
      (tells_parameters o.arguments.now (λ n. slice_get (parameters_of o.source.now.text.tree) n ≡ Some name) known.parameters known.parameter given at told.given))

  pub here_alone : (name : List ℕ) (known : Known) → known ≡ known_or (get_by_text o.source.now.table.known name) → slice_get o.arguments.now known.parameter ≡ None →
      TellsOf (IsOwn instances texts o.number name) o.arguments.now known.sigs (Some (record { instance = o.number; sig = known.sig }))
  here_alone name known is at =
      let told : TellsName (parameters_of o.source.now.text.tree) (sigs_of o.source.now.text.tree) name known = subst (TellsName (parameters_of o.source.now.text.tree) (sigs_of o.source.now.text.tree) name) (sym is) (told_of (parameters_of o.source.now.text.tree) (sigs_of o.source.now.text.tree) name _ (o.source.now.tells name)) in
      tells_as o.arguments.now known.sigs (Some (record { instance = o.number; sig = known.sig })) (λ c is_own. own_to name c (inl is_own)) (λ c own. alone told.given (cases_eq known.parameters 0) c (own_from name c own))
      (tells_sigs o.arguments.now o.number (λ n. HasName (sigs_of o.source.now.text.tree) n name true) known.sigs known.sig told.all)
    where
      no_argument : (arguments : List Argument) (n : ℕ) → n < length arguments → slice_get arguments n ≡ None → ⊥
      no_argument [] n inside none = absurd (omega (arith, inside))
      no_argument (a ∷ arguments) zero inside none = none-some a (sym none)
      no_argument (a ∷ arguments) (suc n) inside none = no_argument arguments n (omega (arith, inside)) none

      alone : Tells (λ n. slice_get (parameters_of o.source.now.text.tree) n ≡ Some name) known.parameters known.parameter → (known.parameters ≡ 0) ⊎ (known.parameters ≡ 0 → ⊥) → (c : Named) →
          IsSigOf o.number (λ n. HasName (sigs_of o.source.now.text.tree) n name true) c ⊎ IsParameterOf (λ n. slice_get (parameters_of o.source.now.text.tree) n ≡ Some name) c →
          IsSigOf o.number (λ n. HasName (sigs_of o.source.now.text.tree) n name true) c
      alone given zero_or c (inl is_sig) = is_sig
      alone given (inl zero_parameters) c (inr parameter) = absurd (given.none zero_parameters parameter.0 parameter.2)
      alone given (inr some) c (inr parameter) =
          let inside = slice_get_within (parameters_of o.source.now.text.tree) known.parameter name (given.here some) in
          absurd (no_argument o.arguments.now known.parameter (omega (arith, inside, stands.paired, ap length stands.own)) at)

  -- the instance of a place among the numbers of texts
  listed_at : (place number : ℕ) → slice_get o.texts.now place ≡ Some number → (i : Instance) × (slice_get instances place ≡ Some i) × (i.text ≡ number)
  listed_at place number at = mapped (slice_get instances place) refl (sym (slice_get-map (λ (i : Instance). i.text) instances place) ∙ (ap (λ (ns : List ℕ). slice_get ns place) (sym stands.listed) ∙ at))
    where
      mapped : (found : Option Instance) → slice_get instances place ≡ found → option_map (λ (i : Instance). i.text) found ≡ Some number → (i : Instance) × (slice_get instances place ≡ Some i) × (i.text ≡ number)
      mapped None is none = absurd (none-some number none)
      mapped (Some i) is some = (i, is, same_Some i.text number some)

  seen_as : {P Q : ℕ → Type 0} (name : List ℕ) → ((l : ℕ) (i : Instance) → slice_get instances l ≡ Some i → P l → Q l) → (c : Named) → IsSeen instances texts P name c → IsSeen instances texts Q name c
  seen_as name to (a_sig s) (p, i, t, is, has) = (to s.instance i is.is_instance p, i, t, is, has)
  seen_as name to (a_parameter n) h = h

  -- the sigs of one instance that aren't private
  pub seen_nothing : (among : InstanceSet) (place : ℕ) (name : List ℕ) (last : Argument) → (IsIn among place → ⊥) → TellsOf (IsSeen instances texts (IsInAt among place) name) o.arguments.now 0 last
  seen_nothing among place name last out = tells_nothing o.arguments.now last never
    where
      never : (c : Named) → IsSeen instances texts (IsInAt among place) name c → ⊥
      never (a_sig s) h = out (subst (IsIn among) h.0.1 h.0.0)
      never (a_parameter n) h = h

  pub seen_absent : (among : InstanceSet) (place number : ℕ) (name : List ℕ) (last : Argument) → slice_get o.texts.now place ≡ Some number → slice_get o.sources.now number ≡ None →
      TellsOf (IsSeen instances texts (IsInAt among place) name) o.arguments.now 0 last
  seen_absent among place number name last at none = tells_nothing o.arguments.now last never
    where
      never : (c : Named) → IsSeen instances texts (IsInAt among place) name c → ⊥
      never (a_sig s) (inside, i, t, is, has) =
          let (j, here, same) = listed_at place number at in
          let i_is : i ≡ j = same_Some i j (sym is.is_instance ∙ (ap (λ (n : ℕ). slice_get instances n) inside.1 ∙ here)) in
          let there : slice_get (texts_of o.sources.now) number ≡ Some t =
          ap (λ (n : ℕ). slice_get (texts_of o.sources.now) n) (sym same ∙ ap (λ (x : Instance). x.text) (sym i_is)) ∙ (ap (λ (ts : List Text). slice_get ts i.text) (sym stands.shelf) ∙ is.is_text) in
          none-some t (sym (slice_get-map (λ (x : Source). x.text) o.sources.now number ∙ ap (λ (x : Option Source). option_map (λ (y : Source). y.text) x) none) ∙ there)
      never (a_parameter n) h = h

  pub seen_at : (among : InstanceSet) (place number : ℕ) (name : List ℕ) (source : Source) (known : Known) → IsIn among place → slice_get o.texts.now place ≡ Some number → slice_get o.sources.now number ≡ Some source →
      known ≡ known_or (get_by_text source.table.known name) →
      TellsOf (IsSeen instances texts (IsInAt among place) name) o.arguments.now known.public_sigs (Some (record { instance = place; sig = known.public_sig }))
  seen_at among place number name source known inside at here is =
      let told : TellsName (parameters_of source.text.tree) (sigs_of source.text.tree) name known = subst (TellsName (parameters_of source.text.tree) (sigs_of source.text.tree) name) (sym is) (told_of (parameters_of source.text.tree) (sigs_of source.text.tree) name _ (source.tells name)) in
      tells_as o.arguments.now known.public_sigs (Some (record { instance = place; sig = known.public_sig })) to from
      (tells_sigs o.arguments.now place (λ n. HasName (sigs_of source.text.tree) n name false) known.public_sigs known.public_sig told.public)
    where
      text_here : slice_get texts number ≡ Some source.text
      text_here =
          ap (λ (ts : List Text). slice_get ts number) stands.shelf ∙
          (slice_get-map (λ (x : Source). x.text) o.sources.now number ∙ ap (λ (x : Option Source). option_map (λ (y : Source). y.text) x) here)

      instance_here : (i : Instance) × IsInstanceOf instances texts place i source.text
      instance_here =
          let (i, there, same) = listed_at place number at in
          (i, record { is_instance = there; is_text = ap (λ (n : ℕ). slice_get texts n) same ∙ text_here })

      to : (c : Named) → IsSigOf place (λ n. HasName (sigs_of source.text.tree) n name false) c → IsSeen instances texts (IsInAt among place) name c
      to c (n, same, has) = subst (IsSeen instances texts (IsInAt among place) name) (sym same) ((inside, refl), instance_here.0, source.text, instance_here.1, has)

      from : (c : Named) → IsSeen instances texts (IsInAt among place) name c → IsSigOf place (λ n. HasName (sigs_of source.text.tree) n name false) c
      from (a_sig s) (held, i, t, is, has) =
          let i_is : i ≡ instance_here.0 = same_Some i instance_here.0 (sym is.is_instance ∙ (ap (λ (n : ℕ). slice_get instances n) held.1 ∙ instance_here.1.is_instance)) in
          let t_is : t ≡ source.text = same_Some t source.text (sym is.is_text ∙ (ap (λ (x : Instance). slice_get texts x.text) i_is ∙ instance_here.1.is_text)) in
          (s.sig, ap (λ n. a_sig (record { instance = n; sig = s.sig })) held.1, subst (λ (x : Text). HasName (sigs_of x.tree) s.sig name false) t_is has)
      from (a_parameter n) h = absurd h

  -- those of the first instances
  pub seen_none : (among : InstanceSet) (name : List ℕ) → TellsOf (IsSeen instances texts (λ l. IsIn among l × (l < 0)) name) o.arguments.now 0 None
  seen_none among name = tells_nothing o.arguments.now None never
    where
      never : (c : Named) → IsSeen instances texts (λ l. IsIn among l × (l < 0)) name c → ⊥
      never (a_sig s) h = absurd (omega (arith, h.0.1))
      never (a_parameter n) h = h

  pub seen_more : (among : InstanceSet) (name : List ℕ) (place next m n b : ℕ) (x y z : Argument) → next ≡ place + 1 → Joins m n b x y z →
      TellsOf (IsSeen instances texts (λ l. IsIn among l × (l < place)) name) o.arguments.now m x → TellsOf (IsSeen instances texts (IsInAt among place) name) o.arguments.now n y →
      TellsOf (IsSeen instances texts (λ l. IsIn among l × (l < next)) name) o.arguments.now b z
  seen_more among name place next m n b x y z is joins before here = tells_as o.arguments.now b z to from (tells_joins o.arguments.now m n b x y z joins before here)
    where
      to : (c : Named) → IsSeen instances texts (λ l. IsIn among l × (l < place)) name c ⊎ IsSeen instances texts (IsInAt among place) name c → IsSeen instances texts (λ l. IsIn among l × (l < next)) name c
      to c (inl h) = seen_as name (λ l i at held. (held.0, omega (arith, held.1, is))) c h
      to c (inr h) = seen_as name (λ l i at held. (held.0, omega (arith, held.1, is))) c h

      by_place : (s : SigRef) → (s.instance ≡ place) ⊎ (s.instance ≡ place → ⊥) → IsSeen instances texts (λ l. IsIn among l × (l < next)) name (a_sig s) →
          IsSeen instances texts (λ l. IsIn among l × (l < place)) name (a_sig s) ⊎ IsSeen instances texts (IsInAt among place) name (a_sig s)
      by_place s (inl same) h = inr ((h.0.0, same), h.1, h.2, h.3, h.4)
      by_place s (inr other) h = inl ((h.0.0, omega (arith, h.0.1, is, other)), h.1, h.2, h.3, h.4)

      from : (c : Named) → IsSeen instances texts (λ l. IsIn among l × (l < next)) name c → IsSeen instances texts (λ l. IsIn among l × (l < place)) name c ⊎ IsSeen instances texts (IsInAt among place) name c
      from (a_sig s) h = by_place s (cases_eq s.instance place) h
      from (a_parameter n) h = absurd h

  pub seen_all : (among : InstanceSet) (name : List ℕ) (place count : ℕ) (last : Argument) → (place < length o.texts.now → ⊥) → TellsOf (IsSeen instances texts (λ l. IsIn among l × (l < place)) name) o.arguments.now count last →
      TellsOf (IsSeen instances texts (IsIn among) name) o.arguments.now count last
  seen_all among name place count last end tells =
      let many : length o.texts.now ≡ length instances = ap length stands.listed ∙ length-map instances (λ (i : Instance). i.text) in
      tells_as o.arguments.now count last (seen_as name (λ l i at held. held.0)) (seen_as name (λ l i at inside. (inside, omega (arith, slice_get_within instances l i at, many, end)))) tells

  -- a name without a path
  pub alone_own : (name : List ℕ) (count : ℕ) (last : Argument) → TellsOf (IsOwn instances texts o.number name) o.arguments.now count last → TellsOf (NamesBy instances texts o.number k true [] name) o.arguments.now count last
  alone_own name count last tells = tells_as o.arguments.now count last (λ c h. inl h) from tells
    where
      from : (c : Named) → IsOwn instances texts o.number name c ⊎ ((true ≡ false) × IsSeen instances texts (IsBrought instances texts o.number k) name c) → IsOwn instances texts o.number name c
      from c (inl h) = h
      from c (inr h) = absurd (let never : true ≡ false = h.0 in cc)

  pub alone_brought : (name : List ℕ) (m n b : ℕ) (x y z : Argument) → Joins m n b x y z → TellsOf (IsOwn instances texts o.number name) o.arguments.now m x →
      TellsOf (IsSeen instances texts (IsIn o.doors.now.reach.all) name) o.arguments.now n y → TellsOf (NamesBy instances texts o.number k false [] name) o.arguments.now b z
  alone_brought name m n b x y z joins own seen = tells_as o.arguments.now b z to from (tells_joins o.arguments.now m n b x y z joins own seen)
    where
      to : (c : Named) → IsOwn instances texts o.number name c ⊎ IsSeen instances texts (IsIn o.doors.now.reach.all) name c → NamesBy instances texts o.number k false [] name c
      to c (inl h) = inl h
      to c (inr h) = inr (refl, seen_as name (λ l i at inside. (stands.noted.all l).0 inside) c h)

      from : (c : Named) → NamesBy instances texts o.number k false [] name c → IsOwn instances texts o.number name c ⊎ IsSeen instances texts (IsIn o.doors.now.reach.all) name c
      from c (inl h) = inl h
      from c (inr h) = inr (seen_as name (λ l i at brought. (stands.noted.all l).1 brought) c h.1)

  -- a name with a path
  pub behind_seen : (among : InstanceSet) (alias : List ℕ) (aliases : List (List ℕ)) (is_own : Bool) (name : List ℕ) (count : ℕ) (last : Argument) → ((l : ℕ) → IsIn among l ↔ IsBehind instances texts o.number k alias aliases l) →
      TellsOf (IsSeen instances texts (IsIn among) name) o.arguments.now count last → TellsOf (NamesBy instances texts o.number k is_own (alias ∷ aliases) name) o.arguments.now count last
  behind_seen among alias aliases is_own name count last same tells =
      tells_as o.arguments.now count last (seen_as name (λ l i at inside. (same l).0 inside)) (seen_as name (λ l i at behind. (same l).1 behind)) tells

-- a list by its front
pub nil_of : {A : Type 0} (xs : List A) → length xs ≡ 0 → xs ≡ []
nil_of [] none = refl
nil_of (x ∷ xs) none = absurd (omega (arith, none))

pub cons_of : {A : Type 0} (xs : List A) (x : A) → 0 < length xs → x ≡ get_or xs 0 x → xs ≡ x ∷ drop 1 xs
cons_of [] x some at = absurd (omega (arith, some))
cons_of (y ∷ xs) x some at = ap (λ z. z ∷ xs) (sym at)

pub rest_of : {A : Type 0} (xs : List A) → take (length xs - 1) (drop 1 xs) ≡ drop 1 xs
rest_of [] = refl
rest_of (x ∷ xs) = take_all (length (x ∷ xs) - 1) xs (omega arith)
