-- First-order terms (Baader and Nipkow, 'Term Rewriting and All That', section 3.1).
use Rattle.std.specs.Prelude.{ℕ, zero, suc, ◌+◌, Bool, false, ◌||◌, nat_eq}

-- a term: a variable by its number, or a symbol by its number with its arguments
mutual
  pub data Term : Type 0 where
    variable : (number : ℕ) → Term
    symbol : (number : ℕ) → (arguments : Terms) → Term

  pub data Terms : Type 0 where
    none : Terms
    more : (first : Term) → (others : Terms) → Terms

-- how many terms there are
abbrev pub count : Terms → ℕ
count none = 0
count (more t ts) = suc (count ts)

-- how many variables and symbols stand in it
abbrev mutual
  pub size : Term → ℕ
  size (variable v) = 1
  size (symbol f ts) = suc (size_of_all ts)

  pub size_of_all : Terms → ℕ
  size_of_all none = 0
  size_of_all (more t ts) = size t + size_of_all ts

-- whether the variable stands in it
abbrev mutual
  pub occurs : ℕ → Term → Bool
  occurs v (variable w) = nat_eq v w
  occurs v (symbol f ts) = occurs_in_any v ts

  pub occurs_in_any : ℕ → Terms → Bool
  occurs_in_any v none = false
  occurs_in_any v (more t ts) = occurs v t || occurs_in_any v ts

-- the first n terms, and those after them
abbrev pub first_terms : ℕ → Terms → Terms
first_terms zero ts = none
first_terms (suc n) none = none
first_terms (suc n) (more t ts) = more t (first_terms n ts)

abbrev pub terms_after : ℕ → Terms → Terms
terms_after zero ts = ts
terms_after (suc n) none = none
terms_after (suc n) (more t ts) = terms_after n ts

-- the first term, and a variable where there is none
abbrev pub first_term : Terms → Term
first_term none = variable 0
first_term (more t ts) = t
