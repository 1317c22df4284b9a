-- The command line is one of which clap's contracts give the matches and the faults.
use Rattle.std.proofs.Common.{◌≡◌, List, ℕ, Result, true, refl, subst}
use Rattle.clap.proofs.OnLiterals.{clap_on_literals}
use Rattle.clap.specs.Faults.{fault_of, is_simple_and_free}
use Rattle.clap.specs.Kinds.{FailsBy}
use Rattle.clap.specs.Simple.{HasMatchesOf, is_simple, matches_of}
use Rattle.clap.specs.Walk.{rows_of}
use Rattle.clap.specs.Words.{App, found_of}
use Rattle.clap.specs.declared.error.Error.{Error}
use Rattle.clap.specs.declared.parser.matches.ArgMatches.{ArgMatches}
use Rattle.cli_words.specs.Line.{alloyc_app}

pub simple : is_simple alloyc_app ≡ true
unfolding alloyc_app clap_on_literals
simple = refl

pub simple_and_free : is_simple_and_free alloyc_app ≡ true
unfolding alloyc_app clap_on_literals
simple_and_free = refl

-- what is said of one command is said of an equal one
pub rows_at : (a b : App) (words : List (List ℕ)) (m : ArgMatches) → a ≡ b → is_simple b ≡ true → HasMatchesOf a words m → rows_of (found_of m) ≡ matches_of b words
rows_at a b words m is easy h = (subst (λ (x : App). HasMatchesOf x words m) is h easy).0

pub fails_at : {T : Type 0} (a b : App) (words : List (List ℕ)) (r : Result T Error) → a ≡ b → is_simple_and_free b ≡ true →
    (is_simple_and_free a ≡ true → FailsBy (fault_of a words) r) → FailsBy (fault_of b words) r
fails_at a b words r is easy h = subst (λ (x : App). is_simple_and_free x ≡ true → FailsBy (fault_of x words) r) is h easy
