-- A walk over pending terms, node by node.
use Rattle.std.proofs.Common.{ℕ, zero, suc, ◌+◌, ◌≡◌, ◌<◌, ◌≤◌, Bool, true, false, ◌||◌, List, [], ◌∷◌, ◌++◌, length, Some, refl, sym, ◌∙◌, ap, arith, rules}
use Rattle.std.specs.Prelude.{slice_get, nat_eq}
use Rattle.fo_terms.specs.declared.term.FoNode.{FoNode}
use Rattle.fo_terms.specs.declared.term.FoNode.TheVariants.{Var, Sym}
use Rattle.fo_terms.specs.declared.walk.Span.{Span}
use Rattle.fo_terms.specs.Terms.{Terms, variable, symbol, none, more, count, size_of_all, occurs, occurs_in_any, first_terms, terms_after, first_term}
use Rattle.fo_terms.specs.Substitutions.{Substitution, apply, apply_to_all}
use Rattle.fo_terms.specs.Prefix.{prefix_of_all, with_node}
use Rattle.fo_terms.specs.Reading.{joined, first_terms-joined, terms_after-joined}
use Rattle.fo_terms.specs.Places.{terms_at, term_at, arguments_of}
use Rattle.fo_terms.specs.Bindings.{pending}
use Rattle.fo_terms.proofs.Substituting.{count-apply_to_all, nat_eq-refl}
use Rattle.fo_terms.proofs.AtPlaces.{terms_at-node, count-first_terms, count-joined, prefix_of_all-parts, some_at}

joined-none : (ts : Terms) → joined ts none ≡ ts
joined-none none = refl
joined-none (more t ts) = ap (more t) (joined-none ts)

joined-joined : (ts us vs : Terms) → joined (joined ts us) vs ≡ joined ts (joined us vs)
joined-joined none us vs = refl
joined-joined (more t ts) us vs = ap (more t) (joined-joined ts us vs)

pub pending-push : (ns : List FoNode) (s : Substitution) (xs : List Span) (x : Span) → pending ns s (xs ++ x ∷ []) ≡ joined (apply_to_all s (first_terms x.count (terms_at ns x.at))) (pending ns s xs)
pending-push ns s [] x = sym (joined-none (apply_to_all s (first_terms x.count (terms_at ns x.at))))
pending-push ns s (y ∷ xs) x = rw (pending-push ns s xs x) (joined-joined (apply_to_all s (first_terms x.count (terms_at ns x.at))) (pending ns s xs) (apply_to_all s (first_terms y.count (terms_at ns y.at))))

-- what a node stands before
pub with_node-symbol : (f k : ℕ) (args rest : Terms) → count args ≡ k → with_node (Sym f k) (joined args rest) ≡ more (symbol f args) rest
with_node-symbol f k args rest e = rw (← e, first_terms-joined args rest, terms_after-joined args rest) refl

pub prefix_of_all-with_node : (n : FoNode) (ts : Terms) → arguments_of n ≤ count ts → prefix_of_all (with_node n ts) ≡ n ∷ prefix_of_all ts
prefix_of_all-with_node (Var v) ts h = refl
prefix_of_all-with_node (Sym f k) ts h = rw (count-first_terms k ts h) (ap (λ (ms : List FoNode). Sym f k ∷ ms) (prefix_of_all-parts k ts))

size_of_all-parts : (k : ℕ) (ts : Terms) → size_of_all (first_terms k ts) + size_of_all (terms_after k ts) ≡ size_of_all ts
size_of_all-parts zero ts = omega arith
size_of_all-parts (suc k) none = omega arith
size_of_all-parts (suc k) (more t ts) = let h = size_of_all-parts k ts in omega arith

pub size_of_all-with_node : (n : FoNode) (ts : Terms) → size_of_all (with_node n ts) ≡ suc (size_of_all ts)
size_of_all-with_node (Var v) ts = omega arith
size_of_all-with_node (Sym f k) ts = let h = size_of_all-parts k ts in omega arith

or_assoc : (a b c : Bool) → ((a || b) || c) ≡ (a || (b || c))
or_assoc true b c = refl
or_assoc false b c = refl

occurs_in_any-parts : (v k : ℕ) (ts : Terms) → (occurs_in_any v (first_terms k ts) || occurs_in_any v (terms_after k ts)) ≡ occurs_in_any v ts
occurs_in_any-parts v zero ts = refl
occurs_in_any-parts v (suc k) none = refl
occurs_in_any-parts v (suc k) (more t ts) = or_assoc (occurs v t) (occurs_in_any v (first_terms k ts)) (occurs_in_any v (terms_after k ts)) ∙ ap (λ (b : Bool). occurs v t || b) (occurs_in_any-parts v k ts)

pub occurs_in_any-symbol : (v f k : ℕ) (ts : Terms) → occurs_in_any v (with_node (Sym f k) ts) ≡ occurs_in_any v ts
occurs_in_any-symbol v f k ts = occurs_in_any-parts v k ts

-- the terms of a span: the first, and those behind it
pub first_terms-span : (ns : List FoNode) (at behind n : ℕ) → suc n ≤ count (terms_at ns at) → terms_at ns behind ≡ terms_after 1 (terms_at ns at) → first_terms (suc n) (terms_at ns at) ≡ more (term_at ns at) (first_terms n (terms_at ns behind))
first_terms-span ns at behind n h e = go (terms_at ns at) h e
  where
    go : (ts : Terms) → suc n ≤ count ts → terms_at ns behind ≡ terms_after 1 ts → first_terms (suc n) ts ≡ more (first_term ts) (first_terms n (terms_at ns behind))
    go none l q = absurd (omega arith)
    go (more t ts) l q = rw q refl

pub count-behind : (ns : List FoNode) (at behind n : ℕ) → suc n ≤ count (terms_at ns at) → terms_at ns behind ≡ terms_after 1 (terms_at ns at) → n ≤ count (terms_at ns behind)
count-behind ns at behind n h e = go (terms_at ns at) h e
  where
    go : (ts : Terms) → suc n ≤ count ts → terms_at ns behind ≡ terms_after 1 ts → n ≤ count (terms_at ns behind)
    go none l q = absurd (omega arith)
    go (more t ts) l q = rw q (omega arith)

-- what a substitution makes of a symbol with its arguments
pub term_at-symbol : (ns : List FoNode) (at f k : ℕ) → slice_get ns at ≡ Some (Sym f k) → term_at ns at ≡ symbol f (first_terms k (terms_at ns (suc at)))
term_at-symbol ns at f k h = ap first_term (terms_at-node ns at (Sym f k) h)

pub term_at-variable : (ns : List FoNode) (at v : ℕ) → slice_get ns at ≡ Some (Var v) → term_at ns at ≡ variable v
term_at-variable ns at v h = ap first_term (terms_at-node ns at (Var v) h)

module _ (ns : List FoNode) (s : Substitution) (at here behind n : ℕ) (p q : Terms)
    (enough : suc n ≤ count (terms_at ns at))
    (next : terms_at ns behind ≡ terms_after 1 (terms_at ns at))
    (same : apply s (term_at ns here) ≡ apply s (term_at ns at))
    (rest : q ≡ joined (apply_to_all s (first_terms n (terms_at ns behind))) p) where
  whole : joined (apply_to_all s (first_terms (suc n) (terms_at ns at))) p ≡ more (apply s (term_at ns here)) q
  whole = rw (first_terms-span ns at behind n enough next, same, rest) refl

  pub open-variable : (v : ℕ) → slice_get ns here ≡ Some (Var v) → s v ≡ variable v → joined (apply_to_all s (first_terms (suc n) (terms_at ns at))) p ≡ with_node (Var v) q
  open-variable v h f = whole ∙ rw (term_at-variable ns here v h, f) refl

  pub open-symbol : (f k : ℕ) (r : Terms) → slice_get ns here ≡ Some (Sym f k) → k ≤ count (terms_at ns (suc here)) → r ≡ joined (apply_to_all s (first_terms k (terms_at ns (suc here)))) q
      → (joined (apply_to_all s (first_terms (suc n) (terms_at ns at))) p ≡ with_node (Sym f k) r) × (k ≤ count r)
  open-symbol f k r h full e =
      let args : Terms = apply_to_all s (first_terms k (terms_at ns (suc here))) in
      let counted : count args ≡ k = count-apply_to_all s (first_terms k (terms_at ns (suc here))) ∙ count-first_terms k (terms_at ns (suc here)) full in
      let sums : count (joined args q) ≡ count args + count q = count-joined args q in (
        whole ∙ rw (e, with_node-symbol f k args q counted, term_at-symbol ns here f k h) refl,
        rw e (omega arith),
      )

-- one term is pending at the start
pub pending-start : (ns : List FoNode) (s : Substitution) (at : ℕ) → at < length ns → joined (apply_to_all s (first_terms 1 (terms_at ns at))) none ≡ more (apply s (term_at ns at)) none
pending-start ns s at h = go (terms_at ns at) (some_at ns at h)
  where
    go : (ts : Terms) → 1 ≤ count ts → joined (apply_to_all s (first_terms 1 ts)) none ≡ more (apply s (first_term ts)) none
    go none l = absurd (omega arith)
    go (more t ts) l = refl

pub or_false_right : (a : Bool) → (a || false) ≡ a
or_false_right true = refl
or_false_right false = refl

pub occurs_in_any-node : (v : ℕ) (n : FoNode) (ts : Terms) → (n ≡ Var v → ⊥) → occurs_in_any v (with_node n ts) ≡ occurs_in_any v ts
occurs_in_any-node v (Var w) ts h = go (nat_eq v w) refl
  where
    go : (b : Bool) → nat_eq v w ≡ b → (nat_eq v w || occurs_in_any v ts) ≡ occurs_in_any v ts
    go true e = let same : v ≡ w = search rules in absurd (h (rw same refl))
    go false e = rw e refl
occurs_in_any-node v (Sym f k) ts h = occurs_in_any-parts v k ts

pub occurs_in_any-found : (v : ℕ) (n : FoNode) (ts : Terms) → n ≡ Var v → occurs_in_any v (with_node n ts) ≡ true
occurs_in_any-found v n ts h = rw (h, nat_eq-refl v) refl
