-- From what a parse gives to what the words ask for.
use Rattle.std.proofs.Common.{◌≡◌, inl, inr, sym, subst, List, [], ◌∷◌}
use Rattle.std.specs.Prelude.{Result, Ok, Err, IsErrAnd}
use Rattle.leo_command.specs.declared.parsing.Parse.{Parse}
use Rattle.clap.specs.Words.{App, Text, Row, Kinds, IsAmong, fault_of, matches_of}
use Rattle.clap.specs.declared.error.kind.ErrorKind.{ErrorKind}
use Rattle.leo_command.specs.Commands.{IsAsked, IsAskedOf, IsParse, IsTaken}
use Rattle.leo_command.specs.declared.asked.CommandRefusal.{CommandRefusal}
use Rattle.leo_command.specs.declared.asked.CommandRefusal.TheVariants.{Usage, Memory}

none_among : (kind : ErrorKind) (kinds : Kinds) → IsAmong kind kinds → kinds ≡ [] → ⊥
none_among kind [] among e = among
none_among kind (k ∷ ks) among e = cc

-- where the command does not take the words, they ask for nothing
pub asked_nothing : {T : Type 0} (app : App) (IsIn : List Row → T → Type 0) (words : List Text) (e : CommandRefusal) → IsParse app words (Err e) → IsAskedOf app IsIn words (Err e)
asked_nothing app IsIn words Usage mistake = (λ work is. none_among mistake.kind (fault_of app words) mistake.among is.taken, inl mistake)
asked_nothing app IsIn words Memory h = tt

-- what is found in the matches is what the words ask for
pub asked_work : {T : Type 0} (app : App) (IsIn : List Row → T → Type 0) (words : List Text) (rows : List Row) (work : T) → fault_of app words ≡ [] → rows ≡ matches_of app words
    → IsIn rows work → IsAsked app IsIn words work
asked_work app IsIn words rows work taken same is = record { taken = taken; found = subst (λ rs. IsIn rs work) same is }

-- where nothing of the kind is found in the matches, the words ask for nothing
pub asked_none : {T : Type 0} (app : App) (IsIn : List Row → T → Type 0) (words : List Text) (rows : List Row) (e : CommandRefusal) → fault_of app words ≡ [] → rows ≡ matches_of app words
    → IsTaken {T = T} (IsIn rows) (Err e) → IsAskedOf app IsIn words (Err e)
asked_none app IsIn words rows Usage taken same none = (λ work is. none work (subst (λ rs. IsIn rs work) (sym same) is.found), inr taken)
asked_none app IsIn words rows Memory taken same none = tt

-- an answer that is this error
pub on_err : {X F : Type 0} (P : Result X F → Type 0) (r : Result X F) (e : F) → IsErrAnd r (λ f. f ≡ e) → P (Err e) → P r
on_err P (Ok x) e h p = absurd h
on_err P (Err f) e h p = subst (λ g. P (Err g)) (sym h) p

-- a parse by this command of these words
pub parse_of : (made app : App) (given words : List Text) (r : Result Parse CommandRefusal) → made ≡ app → given ≡ words → IsParse made given r → IsParse app words r
parse_of made app given words r same_app same_words h = subst (λ a. IsParse a words r) same_app (subst (λ ws. IsParse made ws r) same_words h)
