-- Types and terms are cut into their words.
use Rattle.std.proofs.Common.{ℕ, ◌≡◌, ◌∙◌, ◌+◌, ◌-◌, Bool, true, false, List, [], ◌∷◌, ◌++◌, refl, sym, ap, subst, append_assoc}
use Rattle.std.specs.Prelude.{codes, decimal}
use Rattle.leo_lex.specs.declared.mark.Mark.{Mark}
use Rattle.leo_lex.specs.declared.mark.Mark.TheVariants as mark
use Rattle.leo_lex.specs.Bytes.{is_lower, is_upper, is_word}
use Rattle.leo_lex.specs.Marks.{spelling}
use Rattle.leo_lex.specs.Spells.{Spells}
use Rattle.leo_q0.specs.Terms.{SimpleType, base, arrow}
use Rattle.leo_terms.specs.Tree.{Tree, variable, bound, symbol, app, lam, logic, absent, Connective, truth, falsity, negation, disjunction, conjunction, implication, equality, universal, existential, choice}
use Rattle.leo_tstp.specs.Vocabulary.{Vocabulary}
use Rattle.leo_tstp.specs.Words.{in_brackets, behind_sign}
use Rattle.leo_tstp.specs.TermTexts.{type_text, variable_name, bound_name, binder_head, binder_text, is_lambda, quantified, logic_text, signed_text, term_text}
use Rattle.leo_tstp.specs.Spelled.{type_then}
use Rattle.leo_tstp.specs.TermWords.{Then, between_then, behind_then, applied_then, quantified_then, logic_then, signed_then, term_then}
use Rattle.leo_tstp.specs.Nameable.{Named, IsNamedType, IsNamedTerm}
use Rattle.leo_tstp.proofs.Cutting.{Tail, space, spaced, opens, closes, opens-list, closes-list, colon, IsWordText, put, dollar-word, numbered-upper}

-- the text is cut into the words that stand before others, where words end behind it
pub record IsCut (text : List ℕ) (words : Then) : Type 0 where
  pub cut : (rest : List ℕ) (behind : List (List ℕ)) → Tail rest behind → Spells (text ++ rest) (words behind)

-- what has a name has a word
pub record HasWords (n : Named) (v : Vocabulary) : Type 0 where
  pub base_word : (b : ℕ) → n.has_base b ≡ true → IsWordText (v.base_word b)
  pub symbol_word : (s : ℕ) → n.has_symbol s ≡ true → IsWordText (v.symbol_word s)

-- ---- the shapes of texts

brackets-text : (first sign second rest : List ℕ) → in_brackets first sign second ++ rest ≡ 40 ∷ 32 ∷ (first ++ (sign ++ (second ++ 32 ∷ 41 ∷ rest)))
unfolding in_brackets
brackets-text first sign second rest = simp append_assoc

sign-text : (sign text rest : List ℕ) → behind_sign sign text ++ rest ≡ 40 ∷ 32 ∷ (sign ++ (text ++ 32 ∷ 41 ∷ rest))
unfolding behind_sign
sign-text sign text rest = simp append_assoc

-- a text in brackets, up to the bracket that closes
last : {text rest : List ℕ} {f : Then} {behind : List (List ℕ)} → IsCut text f → Tail rest behind → Spells (text ++ 32 ∷ 41 ∷ rest) (f (codes ")" ∷ behind))
last k t = k.cut _ _ (space (closes t.spells).spells)

open-space : {rest : List ℕ} {behind : List (List ℕ)} → Spells rest behind → Spells (40 ∷ 32 ∷ rest) (codes "(" ∷ behind)
open-space s = (opens (space s).spells).spells

-- two texts in brackets with a mark between
pub between-cut : {first second : List ℕ} {f g : Then} (m : Mark) → IsCut first f → IsCut second g → IsCut (in_brackets first (32 ∷ (spelling m ++ 32 ∷ [])) second) (between_then f (spelling m) g)
between-cut {first} {second} {f} {g} m h k = record {
  cut = λ rest behind t.
      let e : in_brackets first (32 ∷ (spelling m ++ 32 ∷ [])) second ++ rest ≡ 40 ∷ 32 ∷ (first ++ (32 ∷ (spelling m ++ 32 ∷ (second ++ 32 ∷ 41 ∷ rest)))) =
      brackets-text first (32 ∷ (spelling m ++ 32 ∷ [])) second rest ∙ ap (λ x. 40 ∷ 32 ∷ (first ++ (32 ∷ x))) (append_assoc (spelling m) (32 ∷ []) (second ++ 32 ∷ 41 ∷ rest)) in
      let whole = h.cut _ (spelling m ∷ g (codes ")" ∷ behind)) (space (spaced m (last k t))) in
      subst (λ b. Spells b (between_then f (spelling m) g behind)) (sym e) (open-space whole);
}

-- a text in brackets behind a mark
pub behind-cut : {text : List ℕ} {f : Then} (m : Mark) → IsCut text f → IsCut (behind_sign (spelling m ++ 32 ∷ []) text) (behind_then (spelling m) f)
behind-cut {text} {f} m h = record {
  cut = λ rest behind t.
      let e : behind_sign (spelling m ++ 32 ∷ []) text ++ rest ≡ 40 ∷ 32 ∷ (spelling m ++ 32 ∷ (text ++ 32 ∷ 41 ∷ rest)) =
      sign-text (spelling m ++ 32 ∷ []) text rest ∙ ap (λ x. 40 ∷ 32 ∷ x) (append_assoc (spelling m) (32 ∷ []) (text ++ 32 ∷ 41 ∷ rest)) in
      subst (λ b. Spells b (behind_then (spelling m) f behind)) (sym e) (open-space (spaced m (last h t)));
}

-- a mark that is applied to a text
pub applied-cut : {text : List ℕ} {f : Then} (m : Mark) → IsCut text f → IsCut (behind_sign (spelling m ++ codes " @ ") text) (applied_then (spelling m) f)
applied-cut {text} {f} m h = record {
  cut = λ rest behind t.
      let e : behind_sign (spelling m ++ codes " @ ") text ++ rest ≡ 40 ∷ 32 ∷ (spelling m ++ 32 ∷ 64 ∷ 32 ∷ (text ++ 32 ∷ 41 ∷ rest)) =
      sign-text (spelling m ++ codes " @ ") text rest ∙ ap (λ x. 40 ∷ 32 ∷ x) (append_assoc (spelling m) (codes " @ ") (text ++ 32 ∷ 41 ∷ rest)) in
      subst (λ b. Spells b (applied_then (spelling m) f behind)) (sym e) (open-space (spaced m (spaced mark.At (last h t))));
}

-- a word
word-cut : {text : List ℕ} → IsWordText text → IsCut text (λ behind. text ∷ behind)
word-cut h = record { cut = λ rest behind t. put h t }

-- ---- types

pub type-cut : (n : Named) (v : Vocabulary) → HasWords n v → (a : SimpleType) → IsNamedType n a → IsCut (type_text v a) (type_then v a)
type-cut n v h (base b) k = word-cut (h.base_word b k)
type-cut n v h (arrow a b) k = between-cut mark.Greater (type-cut n v h a k.0) (type-cut n v h b k.1)

-- ---- binders

binder-text : (sign : List ℕ) (n : ℕ) (ty body rest : List ℕ) → binder_text sign n ty body ++ rest ≡ 40 ∷ 32 ∷ (sign ++ 32 ∷ 91 ∷ (bound_name n ++ 58 ∷ 32 ∷ (ty ++ 93 ∷ 32 ∷ 58 ∷ 32 ∷ (body ++ 32 ∷ 41 ∷ rest))))
unfolding binder_text binder_head
binder-text sign n ty body rest = simp append_assoc

upper-x : is_upper 88 ≡ true
unfolding is_upper
upper-x = refl

upper-y : is_upper 89 ≡ true
unfolding is_upper
upper-y = refl

bound-word : (n : ℕ) → IsWordText (bound_name n)
unfolding bound_name
bound-word n = numbered-upper 89 n upper-y

bound-is : (n : ℕ) → bound_name n ≡ codes "Y" ++ decimal n
unfolding bound_name
bound-is n = refl

pub variable-word : (n : ℕ) → IsWordText (variable_name n)
unfolding variable_name
variable-word n = numbered-upper 88 n upper-x

pub variable-is : (n : ℕ) → variable_name n ≡ codes "X" ++ decimal n
unfolding variable_name
variable-is n = refl

-- a word that is written by its name
named-cut : {text : List ℕ} (w : List ℕ) → text ≡ w → IsWordText text → IsCut text (λ behind. w ∷ behind)
named-cut {text} w e h = subst (λ x. IsCut text (λ behind. x ∷ behind)) e (word-cut h)

abbrev binder_words : List ℕ → ℕ → Then → Then → Then
binder_words sign n ty body behind =
    codes "(" ∷ sign ∷ codes "[" ∷ (codes "Y" ++ decimal n) ∷ codes ":" ∷ ty (codes "]" ∷ codes ":" ∷ body (codes ")" ∷ behind))

binder-cut : {ty body : List ℕ} {f g : Then} (m : Mark) (n : ℕ) → IsCut ty f → IsCut body g → IsCut (binder_text (spelling m) n ty body) (binder_words (spelling m) n f g)
binder-cut {ty} {body} {f} {g} m n h k = record {
  cut = λ rest behind t.
      let inner = h.cut _ _ (closes-list (space (colon (last k t)).spells).spells) in
      let name = (named-cut (codes "Y" ++ decimal n) (bound-is n) (bound-word n)).cut _ _ (colon inner) in
      let whole = open-space (spaced m (opens-list name).spells) in
      subst (λ b. Spells b (binder_words (spelling m) n f g behind)) (sym (binder-text (spelling m) n ty body rest)) whole;
}

-- ---- terms

-- the argument of a constant, by the sign that it has if it is a lambda
abbrev IsCutByMark : (List ℕ → List ℕ) → (List ℕ → Then) → Type 0
IsCutByMark text words = (m : Mark) → IsCut (text (spelling m)) (words (spelling m))

quantified-cut : (sign constant : Mark) (binds : Bool) (first : List ℕ → List ℕ) (f : List ℕ → Then) → IsCutByMark first f
    → IsCut (quantified (spelling sign) (spelling constant ++ codes " @ ") binds first) (quantified_then (spelling sign) (spelling constant) binds f)
quantified-cut sign constant true first f h = h sign
quantified-cut sign constant false first f h = applied-cut constant (h mark.Lambda)

truth-cut : IsCut (codes "$true") (λ behind. codes "$true" ∷ behind)
unfolding is_lower is_word
truth-cut = word-cut (dollar-word (codes "true") (refl, (refl, (refl, (refl, tt)))))

pub falsity-cut : IsCut (codes "$false") (λ behind. codes "$false" ∷ behind)
unfolding is_lower is_word
falsity-cut = word-cut (dollar-word (codes "false") (refl, (refl, (refl, (refl, (refl, tt))))))

logic-cut : {second : List ℕ} {g : Then} (c : Connective) (binds : Bool) (first : List ℕ → List ℕ) (f : List ℕ → Then) → IsCutByMark first f → IsCut second g
    → IsCut (logic_text c binds first second) (logic_then c binds f g)
logic-cut truth binds first f h k = truth-cut
logic-cut falsity binds first f h k = falsity-cut
logic-cut negation binds first f h k = behind-cut mark.Not (h mark.Lambda)
logic-cut disjunction binds first f h k = between-cut mark.Or (h mark.Lambda) k
logic-cut conjunction binds first f h k = between-cut mark.And (h mark.Lambda) k
logic-cut implication binds first f h k = between-cut mark.Implies (h mark.Lambda) k
logic-cut (equality a) binds first f h k = between-cut mark.Equal (h mark.Lambda) k
logic-cut (universal a) binds first f h k = quantified-cut mark.ForAll mark.Pi binds first f h
logic-cut (existential a) binds first f h k = quantified-cut mark.Exists mark.Sigma binds first f h
logic-cut (choice a) binds first f h k = quantified-cut mark.Choice mark.ChoiceOf binds first f h

pub signed-cut : (n : Named) (v : Vocabulary) → HasWords n v → (depth : ℕ) (m : Mark) (t : Tree) → IsNamedTerm n t
    → IsCut (signed_text v depth (spelling m) t) (λ behind. signed_then v depth (spelling m) t behind)
signed-cut n v h depth m (variable i a) k = named-cut _ (variable-is i) (variable-word i)
signed-cut n v h depth m (bound i a) k = named-cut _ (bound-is ((depth - i) - 1)) (bound-word ((depth - i) - 1))
signed-cut n v h depth m (symbol s a) k = word-cut (h.symbol_word s k.0)
signed-cut n v h depth m (app f x) k = between-cut mark.At (signed-cut n v h depth mark.Lambda f k.0) (signed-cut n v h depth mark.Lambda x k.1)
signed-cut n v h depth m (lam a t) k = binder-cut m depth (type-cut n v h a k.0) (signed-cut n v h (depth + 1) mark.Lambda t k.1)
signed-cut n v h depth m (logic c x y) k =
    logic-cut c (is_lambda x) (λ s. signed_text v depth s x) (λ s behind. signed_then v depth s x behind) (λ sign. signed-cut n v h depth sign x k.1) (signed-cut n v h depth mark.Lambda y k.2)
signed-cut n v h depth m absent k = record { cut = λ rest behind t. t.spells }

pub term-cut : (n : Named) (v : Vocabulary) → HasWords n v → (t : Tree) → IsNamedTerm n t → IsCut (term_text v t) (λ behind. term_then v t behind)
term-cut n v h t k = signed-cut n v h 0 mark.Lambda t k
