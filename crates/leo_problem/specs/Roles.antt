-- The roles of statements.
use Rattle.std.specs.Prelude.{ℕ, List, codes, Option, Some, None, if◌then◌else◌}
use Rattle.std.specs.Str.{bytes_eq}
use Rattle.leo_q0.specs.Terms.{Term, apply}
use Rattle.leo_q0.specs.Connectives.{not_term}
use Rattle.leo_problem.specs.declared.roles.Role.{Role}
use Rattle.leo_problem.specs.declared.roles.Role.TheVariants as role

abbrev pub role_word : Role → List ℕ
role_word role.Axiom = codes "axiom"
role_word role.Hypothesis = codes "hypothesis"
role_word role.Definition = codes "definition"
role_word role.Assumption = codes "assumption"
role_word role.Lemma = codes "lemma"
role_word role.Theorem = codes "theorem"
role_word role.Corollary = codes "corollary"
role_word role.NegatedConjecture = codes "negated_conjecture"
role_word role.Conjecture = codes "conjecture"

-- the role of a word, where it is listed
abbrev pub role_of : List ℕ → Option Role
role_of word =
    if bytes_eq word (codes "axiom") then Some role.Axiom
    else (if bytes_eq word (codes "hypothesis") then Some role.Hypothesis
    else (if bytes_eq word (codes "definition") then Some role.Definition
    else (if bytes_eq word (codes "assumption") then Some role.Assumption
    else (if bytes_eq word (codes "lemma") then Some role.Lemma
    else (if bytes_eq word (codes "theorem") then Some role.Theorem
    else (if bytes_eq word (codes "corollary") then Some role.Corollary
    else (if bytes_eq word (codes "negated_conjecture") then Some role.NegatedConjecture
    else (if bytes_eq word (codes "conjecture") then Some role.Conjecture else None))))))))

-- what a statement of that role assumes: its formula, or the negation of what is to be proved
abbrev pub assumed : Role → Term → Term
assumed role.Conjecture t = apply not_term t
assumed _ t = t
