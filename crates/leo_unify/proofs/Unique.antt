-- A state has one list of first solutions.
use Rattle.std.proofs.Common.{ℕ, zero, suc, ◌≡◌, ◌∙◌, ◌-◌, ◌≤◌, List, [], ◌∷◌, ◌++◌, length, refl, sym, arith}
use Rattle.leo_unify.specs.Search.{State, Solution, Step, rests, fails, becomes, branches, step_of, solution_of, Finds, FindsAmong, enough, found, none, later, branched, at_end, in_turn}
use Rattle.leo_unify.proofs.SearchLemmas.{finds-few, finds-few_among}

nothing : (xs : List Solution) → length xs ≤ 0 → xs ≡ []
nothing [] l = refl
nothing (x ∷ xs) l = absurd (omega arith)

becomes-same : (s t : State) → becomes s ≡ becomes t → s ≡ t
becomes-same s t e = cc

branches-same : (ss ts : List State) → branches ss ≡ branches ts → ss ≡ ts
branches-same ss ts e = cc

-- a derivation by what the state comes to
data By (n : ℕ) (s : State) (xs : List Solution) : Step → Type 0 where
  nothing_wanted : (t : Step) → n ≡ 0 → xs ≡ [] → By n s xs t
  at_rest : xs ≡ solution_of s ∷ [] → By n s xs rests
  without : xs ≡ [] → By n s xs fails
  through : (t : State) → Finds n t xs → By n s xs (becomes t)
  among : (ss : List State) → FindsAmong n ss xs → By n s xs (branches ss)

by-step : (n : ℕ) (s : State) (xs : List Solution) → Finds n s xs → By n s xs (step_of s)
by-step _ _ _ (enough s) = nothing_wanted (step_of s) refl refl
by-step _ _ _ (found n s e) = rw e (at_rest refl)
by-step _ _ _ (none n s e) = rw e (without refl)
by-step _ _ _ (later n s t xs e f) = rw e (through t f)
by-step _ _ _ (branched n s ss xs e f) = rw e (among ss f)

rest-unique : (n : ℕ) (s : State) (ys : List Solution) → By (suc n) s ys rests → solution_of s ∷ [] ≡ ys
rest-unique n s ys (nothing_wanted _ z q) = absurd (omega arith)
rest-unique n s ys (at_rest q) = sym q

none-unique : (n : ℕ) (s : State) (ys : List Solution) → By n s ys fails → [] ≡ ys
none-unique n s ys (nothing_wanted _ z q) = sym q
none-unique n s ys (without q) = sym q

later-unique : (n : ℕ) (s t : State) (xs ys : List Solution) → ((zs : List Solution) → Finds n t zs → xs ≡ zs) → Finds n t xs → By n s ys (becomes t) → xs ≡ ys
later-unique n s t xs ys same f (nothing_wanted _ z q) = nothing xs (let l = finds-few n t xs f in omega arith) ∙ sym q
later-unique n s t xs ys same f (through _ g) = same ys g

branched-unique : (n : ℕ) (s : State) (ss : List State) (xs ys : List Solution) → ((zs : List Solution) → FindsAmong n ss zs → xs ≡ zs) → FindsAmong n ss xs → By n s ys (branches ss) → xs ≡ ys
branched-unique n s ss xs ys same f (nothing_wanted _ z q) = nothing xs (let l = finds-few_among n ss xs f in omega arith) ∙ sym q
branched-unique n s ss xs ys same f (among _ g) = same ys g

turn-unique : (n : ℕ) (s : State) (ss : List State) (xs ys : List Solution) → ((zs : List Solution) → Finds n s zs → xs ≡ zs) → ((zs : List Solution) → FindsAmong (n - length xs) ss zs → ys ≡ zs) → (zs : List Solution) → FindsAmong n (s ∷ ss) zs → xs ++ ys ≡ zs
turn-unique n s ss xs ys same rest _ (in_turn _ _ _ vs ws p q) =
    let e : xs ≡ vs = same vs p in
    let h : FindsAmong (n - length xs) ss ws = rw (← e) at q in
    rw (← e, rest ws h) refl

end-unique : (n : ℕ) (zs : List Solution) → FindsAmong n [] zs → [] ≡ zs
end-unique n _ (at_end _) = refl

mutual
  pub finds-unique : (n : ℕ) (s : State) (xs ys : List Solution) → Finds n s xs → Finds n s ys → xs ≡ ys
  finds-unique _ _ _ ys (enough s) g = sym (nothing ys (finds-few zero s ys g))
  finds-unique _ _ _ ys (found n s e) g = rest-unique n s ys (rw e at (by-step (suc n) s ys g))
  finds-unique _ _ _ ys (none n s e) g = none-unique n s ys (rw e at (by-step n s ys g))
  finds-unique _ _ _ ys (later n s t xs e f) g = later-unique n s t xs ys (λ zs h. finds-unique n t xs zs f h) f (rw e at (by-step n s ys g))
  finds-unique _ _ _ ys (branched n s ss xs e f) g = branched-unique n s ss xs ys (λ zs h. among-unique n ss xs zs f h) f (rw e at (by-step n s ys g))

  among-unique : (n : ℕ) (ss : List State) (xs ys : List Solution) → FindsAmong n ss xs → FindsAmong n ss ys → xs ≡ ys
  among-unique _ _ _ ys (at_end n) g = end-unique n ys g
  among-unique _ _ _ zs (in_turn n s ss xs ys f g) h = turn-unique n s ss xs ys (λ vs p. finds-unique n s xs vs f p) (λ vs p. among-unique (n - length xs) ss ys vs g p) zs h
