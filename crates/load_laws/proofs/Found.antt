-- A path has one name, and a text of a name one tree.
use Rattle.std.proofs.Common.{◌≡◌, ℕ, zero, suc, List, [], ◌∷◌, slice_get, Option, Some, None, option_map, refl, sym, ap, ap₂, subst, ◌∙◌}
use Rattle.std.proofs.lemmas.Option.{none-some, same_Some}
use Rattle.base_types.specs.Texts.{Texts}
use Rattle.syntax_tree.specs.declared.instance.Text.{Text}
use Rattle.syntax_tree.specs.declared.module.Module.{Module}
use Rattle.load_modules.specs.Reading.{IsModuleOf}
use Rattle.load_modules.specs.Told.{IsModuleUnder, near_name, far_name, name_at, IsAbsent, HasText, the_root, a_text, IsFound, near, far, AreTold, AreTexts, IsPathAnswer}
use Rattle.load_laws.specs.One.{TextsHaveOneModule}

-- the text of a number that has a name, and the name of a text
pub named_text : (texts : List Text) (n : ℕ) (name : List ℕ) → name_at texts n ≡ Some name → (t : Text) × (slice_get texts n ≡ Some t) × (t.name ≡ name)
named_text [] n name is = absurd (none-some name is)
named_text (t ∷ texts) zero name is = (t, refl, same_Some t.name name is)
named_text (t ∷ texts) (suc n) name is = named_text texts n name is

pub name_of : (texts : List Text) (n : ℕ) (t : Text) → slice_get texts n ≡ Some t → name_at texts n ≡ Some t.name
name_of texts n t is = ap (option_map (λ (x : Text). x.name)) is

module _ (told : List Texts) (root : List ℕ) where
  -- nothing that is absent has a text
  absent_has : (name : List ℕ) → IsAbsent told root name → HasText told root name → ⊥
  absent_has name absent (the_root same) = absent.0 same
  absent_has name absent (a_text bytes held) = none-some bytes (sym absent.1 ∙ held)

  absent_near : (path name : List ℕ) → IsAbsent told root (near_name root path) → HasText told root name → name ≡ near_name root path → ⊥
  absent_near path name absent has is = absent_has (near_name root path) absent (subst (HasText told root) is has)

  pub one_name : (path a b : List ℕ) → IsFound told root path a → IsFound told root path b → a ≡ b
  one_name path a b (near has is) (near had same) = is ∙ sym same
  one_name path a b (near has is) (far absent had same) = absurd (absent_near path a absent has is)
  one_name path a b (far absent has is) (near had same) = absurd (absent_near path b absent had same)
  one_name path a b (far absent has is) (far other had same) = is ∙ sym same

  pub none_found : (path name : List ℕ) → IsAbsent told root (near_name root path) → IsAbsent told root (far_name path) → IsFound told root path name → ⊥
  none_found path name first second (near has is) = absent_near path name first has is
  none_found path name first second (far absent has is) = absent_has (far_name path) second (subst (HasText told root) is has)

  one_tree : TextsHaveOneModule → (name : List ℕ) (number : ℕ) (m n : Module) → IsModuleUnder told name number m → IsModuleUnder told name number n → m ≡ n
  one_tree law name number m n a b = law a.bytes number m n a.read (subst (λ (bytes : List ℕ). IsModuleOf bytes number n) (same_Some b.bytes a.bytes (sym b.held ∙ a.held)) b.read)

  told_tree : TextsHaveOneModule → (number n : ℕ) (xs ys : List Text) (t u : Text) → AreTold told root number xs → AreTold told root number ys → slice_get xs n ≡ Some t → slice_get ys n ≡ Some u →
      t.name ≡ u.name → t.tree ≡ u.tree
  told_tree law number n [] ys t u are were is same name = absurd (none-some t is)
  told_tree law number n (x ∷ xs) [] t u are were is same name = absurd (none-some u same)
  told_tree law number zero (x ∷ xs) (y ∷ ys) t u are were is same name =
      let a : IsModuleUnder told t.name number t.tree = subst (λ (z : Text). IsModuleUnder told z.name number z.tree) (same_Some x t is) are.0 in
      let b : IsModuleUnder told u.name number u.tree = subst (λ (z : Text). IsModuleUnder told z.name number z.tree) (same_Some y u same) were.0 in
      one_tree law t.name number t.tree u.tree a (subst (λ (m : List ℕ). IsModuleUnder told m number u.tree) (sym name) b)
  told_tree law number (suc n) (x ∷ xs) (y ∷ ys) t u are were is same name = told_tree law (suc number) n xs ys t u are.2 were.2 is same name

  same_tree : TextsHaveOneModule → (tree : Module) (n : ℕ) (xs ys : List Text) (t u : Text) → AreTexts told root (λ m. m ≡ tree) xs → AreTexts told root (λ m. m ≡ tree) ys →
      slice_get xs n ≡ Some t → slice_get ys n ≡ Some u → t.name ≡ u.name → t.tree ≡ u.tree
  same_tree law tree n [] ys t u are were is same name = absurd (none-some t is)
  same_tree law tree n (x ∷ xs) [] t u are were is same name = absurd (none-some u same)
  same_tree law tree zero (x ∷ xs) (y ∷ ys) t u are were is same name =
      let a : t.tree ≡ tree = sym (ap (λ (z : Text). z.tree) (same_Some x t is)) ∙ are.1 in
      let b : u.tree ≡ tree = sym (ap (λ (z : Text). z.tree) (same_Some y u same)) ∙ were.1 in
      a ∙ sym b
  same_tree law tree (suc n) (x ∷ xs) (y ∷ ys) t u are were is same name = told_tree law 1 n xs ys t u are.2 were.2 is same name

  -- two texts with one number and one name
  pub same_text : TextsHaveOneModule → (tree : Module) (n : ℕ) (xs ys : List Text) (t u : Text) → AreTexts told root (λ m. m ≡ tree) xs → AreTexts told root (λ m. m ≡ tree) ys →
      slice_get xs n ≡ Some t → slice_get ys n ≡ Some u → t.name ≡ u.name → t ≡ u
  same_text law tree n xs ys t u are were is same name =
      let make : List ℕ → Module → Text = λ x y. record { name = x; tree = y } in
      ap₂ make name (same_tree law tree n xs ys t u are were is same name)

  pub root_name : (tree : Module) (xs : List Text) → AreTexts told root (λ m. m ≡ tree) xs → name_at xs 0 ≡ Some root
  root_name tree [] are = absurd are
  root_name tree (x ∷ xs) are = ap (λ (name : List ℕ). Some name) are.0

  -- a text that is found for the path of an answer
  pub answered : (xs : List Text) (path name : List ℕ) (answer : Option ℕ) → IsPathAnswer told root xs path answer → IsFound told root path name → (n : ℕ) × (answer ≡ Some n) × (name_at xs n ≡ Some name)
  answered xs path name None is found = absurd (none_found path name is.0 is.1 found)
  answered xs path name (Some n) is found = (n, refl, is.1 ∙ ap (λ (x : List ℕ). Some x) (one_name path is.0 name is.2 found))
