-- Where the refusals of loading stand: in which text, and at which of its places.
use Rattle.std.specs.Prelude.{◌≡◌, ◌⊎◌, ℕ, ◌<◌, ◌≤◌, List, map, length, Option, Some, None, Ok, Err}
use Rattle.base_types.specs.Texts.{Texts, text_of}
use Rattle.base_types.specs.declared.limits.TheConstants.{MODULE_BYTES}
use Rattle.base_types.specs.declared.place.Refusal.{Refusal}
use Rattle.base_types.specs.declared.place.Rule.TheVariants as rule
use Rattle.syntax_lexer.specs.Tokens.{tokens_of}
use Rattle.syntax_tree.specs.declared.module.Module.{Module}
use Rattle.syntax_tree.specs.declared.instance.Text.{Text}
use Rattle.syntax_tree.specs.declared.token.Token.{Token}
use Rattle.syntax_parser.specs.Refuses.{BreaksTokens}
use Rattle.load_state.specs.Opens.{IsOpenPlace}
use Rattle.load_state.specs.Refusals.{start_of, refusal_at}
use Rattle.load_state.specs.declared.fault.LoadFault.{LoadFault}
use Rattle.load_state.specs.declared.fault.LoadFault.TheVariants.{Refused, Read, Memory}
use Rattle.load_state.specs.declared.loading.Loading.{Loading}
use Rattle.load_modules.specs.Reading.{IsModuleOf}
use Rattle.load_modules.specs.Told.{IsModuleUnder, Knows}

-- what the bytes of a text break by themselves: they are too many, or have no tokens, or their tokens break it
pub data IsOfBytes (bytes : List ℕ) (number : ℕ) (r : Refusal) : Type 0 where
  large : MODULE_BYTES < length bytes → r ≡ refusal_at rule.LargeFile (start_of number) → IsOfBytes bytes number r
  uncut : length bytes ≤ MODULE_BYTES → tokens_of number bytes ≡ Err r → IsOfBytes bytes number r
  at_token : (tokens : List Token) → length bytes ≤ MODULE_BYTES → tokens_of number bytes ≡ Ok tokens → BreaksTokens tokens r → IsOfBytes bytes number r

-- in the root, for whose tree this holds: at one of its opens, or at its start
pub data IsInRoot (is_root : Module → Type 0) (r : Refusal) : Type 0 where
  at_open : (m : Module) → is_root m → IsOpenPlace m r.place → IsInRoot is_root r
  at_start : r.place ≡ start_of 0 → IsInRoot is_root r

-- in the text of this name: the root, or one that the libraries have; there of its bytes, or at one of its opens
pub data IsPlaced (told : List Texts) (root : List ℕ) (is_root : Module → Type 0) (r : Refusal) (name : List ℕ) : Type 0 where
  in_root : name ≡ root → IsInRoot is_root r → IsPlaced told root is_root r name
  of_bytes : (bytes : List ℕ) (number : ℕ) → text_of told name ≡ Some bytes → IsOfBytes bytes number r → IsPlaced told root is_root r name
  of_opens : (m : Module) (number : ℕ) → IsModuleUnder told name number m → IsOpenPlace m r.place → IsPlaced told root is_root r name

-- what the text of this name breaks by itself, or want of memory
unfoldable pub IsOfText : List ℕ → ℕ → List ℕ → LoadFault → Type 0
IsOfText bytes number text (Refused refusal name) = (name ≡ text) × IsOfBytes bytes number refusal
IsOfText bytes number text (Read name) = ⊥
IsOfText bytes number text Memory = Unit {0}

-- the first half of that, and the last one, of the tokens that the bytes have
unfoldable pub IsUncut : List ℕ → ℕ → List ℕ → LoadFault → Type 0
IsUncut bytes number text (Refused refusal name) = (name ≡ text) × (tokens_of number bytes ≡ Err refusal)
IsUncut bytes number text (Read name) = ⊥
IsUncut bytes number text Memory = Unit {0}

unfoldable pub IsAtToken : List Token → List ℕ → LoadFault → Type 0
IsAtToken tokens text (Refused refusal name) = (name ≡ text) × BreaksTokens tokens refusal
IsAtToken tokens text (Read name) = ⊥
IsAtToken tokens text Memory = Unit {0}

-- where the libraries tell all, and what is known begins with a root: a refusal is in the text that it names
unfoldable pub Refuses : List (Option Texts) → List ℕ → Loading → LoadFault → Type 0
Refuses held root loading (Refused refusal name) = (told : List Texts) (first : Text) → held ≡ map Some told → Knows told root first loading →
    IsPlaced told root (λ m. m ≡ first.tree) refusal name
Refuses held root loading (Read name) = Unit {0}
Refuses held root loading Memory = Unit {0}

-- the same of a model whose libraries tell all: the root's module was given, or its bytes were, or it is told too
unfoldable pub RefusesTree : List (Option Texts) → List ℕ → Module → LoadFault → Type 0
RefusesTree held root tree (Refused refusal name) = (told : List Texts) → held ≡ map Some told → IsPlaced told root (λ m. m ≡ tree) refusal name
RefusesTree held root tree (Read name) = Unit {0}
RefusesTree held root tree Memory = Unit {0}

unfoldable pub RefusesGiven : List (Option Texts) → List ℕ → List ℕ → LoadFault → Type 0
RefusesGiven held root bytes (Refused refusal name) = (told : List Texts) → held ≡ map Some told →
    ((name ≡ root) × IsOfBytes bytes 0 refusal) ⊎ IsPlaced told root (IsModuleOf bytes 0) refusal name
RefusesGiven held root bytes (Read name) = Unit {0}
RefusesGiven held root bytes Memory = Unit {0}

unfoldable pub RefusesTold : List (Option Texts) → List ℕ → LoadFault → Type 0
RefusesTold held root (Refused refusal name) = (told : List Texts) → held ≡ map Some told →
    ((name ≡ root) × (text_of told root ≡ None) × (refusal ≡ refusal_at rule.NoModule (start_of 0))) ⊎ IsPlaced told root (IsModuleUnder told root 0) refusal name
RefusesTold held root (Read name) = Unit {0}
RefusesTold held root Memory = Unit {0}
