-- A renaming that brings some atoms to their places, one after the other.
use Rattle.std.proofs.Common.{◌≡◌, ◌≢◌, ◌↔◌, inl, inr, ℕ, List, [], ◌∷◌, Contains, refl, sym, ap, ◌∙◌, subst}
use Rattle.std.proofs.lemmas.Bool.{cases_eq}
use Rattle.core_tuples.proofs.OrderLemmas.{cons_cases, cons_here, cons_later, no_members}
use Rattle.core_renaming.specs.Renamings.{Renaming}
use Rattle.core_renaming.specs.Composed.{composed, exchanged, exchanged_first, exchanged_second, exchanged_other, exchange}

-- an atom, and the place to which it is to be brought
pub record Move : Type 0 where
  pub atom : ℕ
  pub place : ℕ

abbrev pub itself : Renaming
itself = record { to = λ a. a; from = λ a. a; from_to = λ a. refl; to_from = λ a. refl }

-- the first is brought to its place by what follows the renaming of the others
abbrev pub moving : List Move → Renaming
moving [] = itself
moving (m ∷ ms) = composed (moving ms) (exchange ((moving ms).to m.atom) m.place)

-- the atoms differ from each other, and so do the places
abbrev pub AreApart : List Move → Type 0
AreApart [] = Unit {0}
AreApart (m ∷ ms) = ((n : Move) → Contains ms n → (n.atom ≢ m.atom) × (n.place ≢ m.place)) × AreApart ms

same_from : (r : Renaming) (a b : ℕ) → r.to a ≡ r.to b → a ≡ b
same_from r a b e = sym (r.from_to a) ∙ (ap r.from e ∙ r.from_to b)

-- each atom is brought to its place
pub each_moves : (ms : List Move) → AreApart ms → (m : Move) → Contains ms m → (moving ms).to m.atom ≡ m.place
each_moves [] apart m among = absurd (no_members m among)
each_moves (n ∷ ms) apart m among = elim (cons_cases n ms m among) [
  | inl is ↦ subst (λ (o : Move). (moving (n ∷ ms)).to o.atom ≡ o.place) (sym is) (exchanged_first ((moving ms).to n.atom) n.place)
  | inr later ↦
      let before : (moving ms).to m.atom ≡ m.place = each_moves ms apart.1 m later in
      exchanged_other ((moving ms).to n.atom) n.place ((moving ms).to m.atom)
      (λ e. (apart.0 m later).0 (same_from (moving ms) m.atom n.atom e))
      (λ e. (apart.0 m later).1 (sym before ∙ e))
      ∙ before
]

either_way : {A B C : Type 0} → A ↔ B → B ↔ C → A ↔ C
either_way f g = ((λ a. g.0 (f.0 a)), (λ c. f.1 (g.1 c)))

turned : {A B : Type 0} → A ↔ B → B ↔ A
turned f = (f.1, f.0)

-- an exchange keeps what both its numbers have, or neither
exchange_keeps : (P : ℕ → Type 0) (x y : ℕ) → P x ↔ P y → (a : ℕ) → P a ↔ P (exchanged x y a)
exchange_keeps P x y both a = elim (cases_eq a x) [
  | inl is ↦ subst (λ (c : ℕ). P c ↔ P (exchanged x y c)) (sym is) (subst (λ (c : ℕ). P x ↔ P c) (sym (exchanged_first x y)) both)
  | inr one ↦ elim (cases_eq a y) [
    | inl is ↦ subst (λ (c : ℕ). P c ↔ P (exchanged x y c)) (sym is) (subst (λ (c : ℕ). P y ↔ P c) (sym (exchanged_second x y)) (turned both))
    | inr two ↦ subst (λ (c : ℕ). P a ↔ P c) (sym (exchanged_other x y a one two)) ((λ h. h), (λ h. h))
  ]
]

-- what each atom has just where its place has it is kept by all
pub kept : (P : ℕ → Type 0) (ms : List Move) → ((m : Move) → Contains ms m → P m.atom ↔ P m.place) → (a : ℕ) → P a ↔ P ((moving ms).to a)
kept P [] both a = ((λ h. h), (λ h. h))
kept P (m ∷ ms) both a =
    let rest = kept P ms (λ n among. both n (cons_later m ms n among)) in
    let here : P ((moving ms).to m.atom) ↔ P m.place = either_way (turned (rest m.atom)) (both m (cons_here m ms m refl)) in
    either_way (rest a) (exchange_keeps P ((moving ms).to m.atom) m.place here ((moving ms).to a))

-- what is no atom and no place of a move stays
pub stays : (ms : List Move) (a : ℕ) → ((m : Move) → Contains ms m → (m.atom ≢ a) × (m.place ≢ a)) → (moving ms).to a ≡ a
stays [] a other = refl
stays (m ∷ ms) a other =
    let rest : (moving ms).to a ≡ a = stays ms a (λ n among. other n (cons_later m ms n among)) in
    let here = other m (cons_here m ms m refl) in
    exchanged_other ((moving ms).to m.atom) m.place ((moving ms).to a)
    (λ e. here.0 (sym (same_from (moving ms) a m.atom e)))
    (λ e. here.1 (sym e ∙ rest))
    ∙ rest
