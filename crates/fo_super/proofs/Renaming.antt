-- Variables that are put in for variables, and numbered lists of them.
use Rattle.std.proofs.Common.{ℕ, suc, ◌≡◌, ◌∙◌, ◌<◌, List, [], ◌∷◌, ◌++◌, refl, sym, ap, subst, arith, inl, inr}
use Rattle.std.specs.List.{AllByRecursion}
use Rattle.std.proofs.lemmas.Bool.{cases_eq}
use Rattle.fo_terms.specs.Terms.{Term, Terms, variable, symbol, none, more}
use Rattle.fo_terms.specs.Substitutions.{Substitution, apply, apply_to_all}
use Rattle.fo_super.specs.Numbering.{variables, variables_of_all, IsNumbered}

-- a term that becomes a variable is one
variable-of : (w : ℕ) (q : Substitution) (t : Term) → apply q t ≡ variable w → (n : ℕ) × (t ≡ variable n) × (q n ≡ variable w)
variable-of w q (variable n) e = (n, refl, e)
variable-of w q (symbol f ts) e = absurd (let g : ⊥ = cc in g)

args-same : (f g : ℕ) (ts us : Terms) → symbol f ts ≡ symbol g us → ts ≡ us
args-same f g ts us e = cc

first-same : (t u : Term) (ts us : Terms) → more t ts ≡ more u us → (t ≡ u) × (ts ≡ us)
first-same t u ts us e = (cc, cc)

-- the variables of one list are those of the other, sent there
pub data AreSent (r q : Substitution) : List ℕ → List ℕ → Type 0 where
  none-sent : AreSent r q [] []
  one-sent : {w n : ℕ} {ws ns : List ℕ} → r w ≡ variable n → q n ≡ variable w → AreSent r q ws ns → AreSent r q (w ∷ ws) (n ∷ ns)

pub sent-append : (r q : Substitution) (ws ns xs ms : List ℕ) → AreSent r q ws ns → AreSent r q xs ms → AreSent r q (ws ++ xs) (ns ++ ms)
sent-append r q _ _ xs ms none-sent k = k
sent-append r q _ _ xs ms (one-sent e f h) k = one-sent e f (sent-append r q _ _ xs ms h k)

module _ (r q : Substitution) where
  mutual
    pub term-sent : (t : Term) → apply q (apply r t) ≡ t → AreSent r q (variables t) (variables (apply r t))
    term-sent (variable w) e =
        let h = variable-of w q (r w) e in
        subst (λ x. AreSent r q (w ∷ []) (variables x)) (sym h.1) (one-sent h.1 h.2 none-sent)
    term-sent (symbol f ts) e = terms-sent ts (args-same f f _ ts e)

    pub terms-sent : (ts : Terms) → apply_to_all q (apply_to_all r ts) ≡ ts → AreSent r q (variables_of_all ts) (variables_of_all (apply_to_all r ts))
    terms-sent none e = none-sent
    terms-sent (more t ts) e =
        let h = first-same (apply q (apply r t)) t (apply_to_all q (apply_to_all r ts)) ts e in
        sent-append r q (variables t) (variables (apply r t)) (variables_of_all ts) (variables_of_all (apply_to_all r ts)) (term-sent t h.0) (terms-sent ts h.1)

  -- what was met so far stays where it is
  abbrev StaysBelow : ℕ → Type 0
  StaysBelow n = (w : ℕ) → w < n → (r w ≡ variable w) × (q w ≡ variable w)

  variable-same : (m n : ℕ) → variable m ≡ variable n → m ≡ n
  variable-same m n e = cc

  -- two lists that are numbered, of which one is sent to the other, are the same
  numbered-stay : (next m n : ℕ) (ws ns : List ℕ) → StaysBelow next → AreSent r q ws ns → IsNumbered next ws m → IsNumbered next ns n → AllByRecursion (λ w. r w ≡ variable w) ws
  numbered-stay next m n _ _ s none-sent a b = tt
  numbered-stay next m n _ _ s (one-sent {w = w} {n = k} {ws = ws} {ns = ns} e f h) (inl a) (inl b) = ((s w a.0).0, numbered-stay next m n ws ns s h a.1 b.1)
  numbered-stay next m n _ _ s (one-sent {w = w} {n = k} {ws = ws} {ns = ns} e f h) (inl a) (inr b) =
      (let i : k ≡ w = variable-same k w (sym e ∙ (s w a.0).0) in let g : ⊥ = (let j = a.0 in let l = b.0 in omega arith) in absurd g)
  numbered-stay next m n _ _ s (one-sent {w = w} {n = k} {ws = ws} {ns = ns} e f h) (inr a) (inl b) =
      (let i : w ≡ k = variable-same w k (sym f ∙ (s k b.0).1) in let g : ⊥ = (let j = a.0 in let l = b.0 in omega arith) in absurd g)
  numbered-stay next m n _ _ s (one-sent {w = w} {n = k} {ws = ws} {ns = ns} e f h) (inr a) (inr b) =
      let i : k ≡ w = b.0 ∙ sym a.0 in
      let stay : StaysBelow (suc next) = λ v l. elim (cases_eq v next) [
        | inl z ↦ (let y : v ≡ w = z ∙ sym a.0 in
            (ap r y ∙ e ∙ ap variable (i ∙ sym y), ap q (y ∙ sym i) ∙ f ∙ ap variable (sym y)))
        | inr z ↦ s v (omega arith)
      ] in
      (e ∙ ap variable i, numbered-stay (suc next) m n ws ns stay h a.1 b.1)

  pub numbered-same : (m n : ℕ) (ws ns : List ℕ) → AreSent r q ws ns → IsNumbered 0 ws m → IsNumbered 0 ns n → AllByRecursion (λ w. r w ≡ variable w) ws
  numbered-same m n ws ns h a b = numbered-stay 0 m n ws ns (λ w l. absurd (let g : ⊥ = omega arith in g)) h a b

  -- a term whose variables stay is the same
  all-first : (xs ys : List ℕ) → AllByRecursion (λ w. r w ≡ variable w) (xs ++ ys) → AllByRecursion (λ w. r w ≡ variable w) xs
  all-first [] ys h = tt
  all-first (x ∷ xs) ys h = (h.0, all-first xs ys h.1)

  pub all-second : (xs ys : List ℕ) → AllByRecursion (λ w. r w ≡ variable w) (xs ++ ys) → AllByRecursion (λ w. r w ≡ variable w) ys
  all-second [] ys h = h
  all-second (x ∷ xs) ys h = all-second xs ys h.1

  mutual
    pub term-stays : (t : Term) → AllByRecursion (λ w. r w ≡ variable w) (variables t) → apply r t ≡ t
    term-stays (variable w) h = h.0
    term-stays (symbol f ts) h = ap (symbol f) (terms-stay ts h)

    pub terms-stay : (ts : Terms) → AllByRecursion (λ w. r w ≡ variable w) (variables_of_all ts) → apply_to_all r ts ≡ ts
    terms-stay none h = refl
    terms-stay (more t ts) h =
        ap (λ x. more x (apply_to_all r ts)) (term-stays t (all-first (variables t) (variables_of_all ts) h))
        ∙ ap (more t) (terms-stay ts (all-second (variables t) (variables_of_all ts) h))

-- the numbered lists have as many variables
pub numbered-count : (next m n : ℕ) (ws : List ℕ) → IsNumbered next ws m → IsNumbered next ws n → m ≡ n
numbered-count next m n [] a b = sym a ∙ b
numbered-count next m n (w ∷ ws) (inl a) (inl b) = numbered-count next m n ws a.1 b.1
numbered-count next m n (w ∷ ws) (inl a) (inr b) = absurd (let g : ⊥ = (let j = a.0 in let l = b.0 in omega arith) in g)
numbered-count next m n (w ∷ ws) (inr a) (inl b) = absurd (let g : ⊥ = (let j = a.0 in let l = b.0 in omega arith) in g)
numbered-count next m n (w ∷ ws) (inr a) (inr b) = numbered-count (suc next) m n ws a.1 b.1
