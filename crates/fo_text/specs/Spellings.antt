-- The text of a problem. Each word of a line but the first stands behind a space, and each line ends
-- with a line feed.
use Rattle.std.specs.Prelude.{ℕ, Bool, true, false, List, [], ◌∷◌, ◌++◌, length, codes, decimal}
use Rattle.std.specs.List.{flat_map}
use Rattle.fo_terms.specs.declared.term.FoNode.{FoNode}
use Rattle.fo_terms.specs.declared.term.FoNode.TheVariants.{Var, Sym}
use Rattle.fo_terms.specs.Terms.{Term}
use Rattle.fo_terms.specs.Prefix.{prefix}
use Rattle.fo_text.specs.declared.problem.FoSym.{FoSym}
use Rattle.fo_text.specs.declared.problem.FoLit.{FoLit}
use Rattle.fo_text.specs.declared.problem.FoClause.{FoClause}
use Rattle.fo_text.specs.declared.problem.FoProblem.{FoProblem}
use Rattle.fo_text.specs.Words.{space, newline, numbers_text}

-- `vN` or `fN`
abbrev pub node_word : FoNode → List ℕ
node_word (Var v) = 118 ∷ decimal v
node_word (Sym f k) = 102 ∷ decimal f

abbrev pub nodes_text : List FoNode → List ℕ
nodes_text ns = flat_map (λ n. space ∷ node_word n) ns

abbrev pub term_text : Term → List ℕ
term_text t = nodes_text (prefix t)

-- `+` or `-`
abbrev pub sign_word : Bool → List ℕ
sign_word true = 43 ∷ []
sign_word false = 45 ∷ []

abbrev pub literal_text : FoLit → List ℕ
literal_text l = space ∷ (sign_word l.pos ++ (term_text l.left ++ term_text l.right))

abbrev pub clause_text : FoClause → List ℕ
clause_text c = decimal (length c.vars) ++ (numbers_text c.vars ++ (space ∷ (decimal (length c.lits) ++ (flat_map literal_text c.lits ++ newline ∷ []))))

abbrev pub symbol_text : FoSym → List ℕ
symbol_text y = decimal y.result ++ (numbers_text y.args ++ newline ∷ [])

-- a line of a word and a number
abbrev pub field_text : List ℕ → ℕ → List ℕ
field_text word n = word ++ (decimal n ++ newline ∷ [])

abbrev pub turns_word : List ℕ
turns_word = codes "leo3fo 1\nturns "

abbrev pub weight_word : List ℕ
weight_word = codes "weight "

abbrev pub sorts_word : List ℕ
sorts_word = codes "sorts "

abbrev pub syms_word : List ℕ
syms_word = codes "syms "

abbrev pub clauses_word : List ℕ
clauses_word = codes "clauses "

abbrev pub end_word : List ℕ
end_word = codes "end\n"

abbrev pub syms_text : List FoSym → List ℕ
syms_text ys = field_text syms_word (length ys) ++ flat_map symbol_text ys

abbrev pub clauses_text : List FoClause → List ℕ
clauses_text cs = field_text clauses_word (length cs) ++ flat_map clause_text cs

abbrev pub problem_text : FoProblem → List ℕ
problem_text p =
    field_text turns_word p.turns ++ (field_text weight_word p.weight ++ (field_text sorts_word p.sorts ++ (syms_text p.syms ++ (clauses_text p.clauses ++ end_word))))
