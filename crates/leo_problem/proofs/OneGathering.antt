-- Told files, and generated texts, give one list of statements, or one refusal, at most.
use Rattle.std.proofs.Common.{ℕ, suc, ◌≡◌, ◌<◌, ◌≤◌, ◌⊎◌, inl, inr, List, [], ◌∷◌, ◌++◌, map, length, slice_get, Option, Some, IfSome, codes, decimal, refl, ap, sym, ◌∙◌, subst, arith}
use Rattle.std.proofs.lemmas.Bool.{false≢true}
use Rattle.std.proofs.lemmas.Fmt.{decimal_injective}
use Rattle.leo_lex.specs.Cut.{AreTokens, StopsAt}
use Rattle.leo_lex.specs.declared.token.Token.{Token}
use Rattle.leo_syntax.specs.declared.tree.Statement.{Statement}
use Rattle.leo_syntax.specs.declared.tree.Statement.TheVariants as statement
use Rattle.leo_syntax.specs.Grammar.{IsFile}
use Rattle.leo_syntax.specs.Lexemes.{lexemes}
use Rattle.leo_syntax.specs.Rules.{file_outcome}
use Rattle.leo_problem.specs.declared.gathered.Counts.{Counts}
use Rattle.leo_problem.specs.declared.gathered.Kept.{Kept}
use Rattle.leo_problem.specs.declared.refusal.LoadRefusal.{LoadRefusal}
use Rattle.leo_problem.specs.declared.refusal.LoadRefusal.TheVariants.{Refused}
use Rattle.leo_problem.specs.declared.refusal.What.TheVariants as what
use Rattle.leo_problem.specs.Limits.{room_for}
use Rattle.leo_problem.specs.Texts.{AreStatements, RefusesText, no_token, no_file, text_refusal}
use Rattle.leo_problem.specs.Generating.{IsGenerator, generated_text}
use Rattle.leo_problem.specs.Gathering.{Gathers, unread, too_large, no_statements, statements, GathersStatements, no_more, kept, too_many, refused_include, included, Outcome, gathered, refused, preceded, selected, joined, nothing_read, with_file, IsContent, kept_in, GathersProblem, of_file, refused_text, of_text}
use Rattle.leo_problem.specs.Theories.{Answer, Says}
use Rattle.leo_problem.specs.Theories as theories
use Rattle.leo_problem.specs.Loading.{ProblemOf, not_gathered}
use Rattle.leo_problem.specs.Loading as loading
use Rattle.leo_problem.specs.Laws.{IsAsked, problem_file, include_in, AreTold, IsReadFault, unreadable, OneProblem}
use Rattle.leo_problem.proofs.OneTheory.{one-saying}

-- the outcome is that a file could not be read
abbrev IsFaulty : Outcome → Type 0
IsFaulty (gathered ks c) = ⊥
IsFaulty (refused r) = IsReadFault r

-- the first is the second, or a file could not be read
abbrev IsSame : Outcome → Outcome → Type 0
IsSame o u = IsFaulty o ⊎ (o ≡ u)

full-room : {level files : ℕ} → (8 ≤ level) ⊎ (64 ≤ files) → (level < 8) × (files < 64) → ⊥
full-room (inl f) r = let w = r.0 in omega arith
full-room (inr f) r = let w = r.1 in omega arith

faulty-preceded : (ks : List Kept) (o : Outcome) → IsFaulty o → IsFaulty (preceded ks o)
faulty-preceded ks (gathered more c) h = h
faulty-preceded ks (refused r) h = h

faultless-behind : (ks : List Kept) (o : Outcome) → ¬ IsFaulty (preceded ks o) → ¬ IsFaulty o
faultless-behind ks o n h = n (faulty-preceded ks o h)

same-preceded : {ks ls : List Kept} {o u : Outcome} → ks ≡ ls → IsSame o u → IsSame (preceded ks o) (preceded ls u)
same-preceded {ks} {ls} {o} {u} e (inl h) = inl (faulty-preceded ks o h)
same-preceded {ks} {ls} {o} {u} e (inr h) = inr (rw (e, h) refl)

same-kept : {ks ls : List Kept} {b c : Counts} → gathered ks b ≡ gathered ls c → (ks ≡ ls) × (b ≡ c)
same-kept e = (cc, cc)

refusal-first : {r : LoadRefusal} {ks : List Kept} {c : Counts} {u : Outcome} → IsSame (refused r) (gathered ks c) → IsSame (refused r) u
refusal-first (inl h) = inl h
refusal-first (inr h) = absurd cc

refusal-last : {r : LoadRefusal} {ks : List Kept} {c : Counts} {o : Outcome} → IsSame (gathered ks c) (refused r) → IsSame o (refused r)
refusal-last (inl h) = absurd h
refusal-last (inr h) = absurd cc

no-refusal : {r : LoadRefusal} {ks : List Kept} {c : Counts} → IsSame (gathered ks c) (refused r) → ⊥
no-refusal (inl h) = h
no-refusal (inr h) = cc

-- a name stands for one generated text at most
one-number : {name : List ℕ} {n m : ℕ} → IsGenerator name n → IsGenerator name m → n ≡ m
one-number {name} {n} {m} a b =
    let high = a.most in
    let top = b.most in
    let same : codes "gen:" ++ decimal n ≡ codes "gen:" ++ decimal m = sym a.spelled ∙ b.spelled in
    decimal_injective n m (omega arith) (omega arith) cc

same-gathered : (name : List ℕ) {n m : ℕ} {list others : List Statement} → n ≡ m → list ≡ others
    → gathered (map (kept_in name) list) (with_file nothing_read (generated_text n)) ≡ gathered (map (kept_in name) others) (with_file nothing_read (generated_text m))
same-gathered name {n} {m} {list} {others} p q = rw (p, q) refl

module _ (one_list : (bytes : List ℕ) (some others : List Token) → AreTokens bytes some → AreTokens bytes others → some ≡ others)
    (one_place : (bytes : List ℕ) (m n : ℕ) → StopsAt bytes m → StopsAt bytes n → m ≡ n)
    (not_both : (bytes : List ℕ) (some : List Token) (byte : ℕ) → AreTokens bytes some → StopsAt bytes byte → ⊥) where
  one-refusal : {file text : List ℕ} {r u : LoadRefusal} → RefusesText file text r → RefusesText file text u → r ≡ u
  one-refusal {file} {text} (no_token s) (no_token t) = ap (λ b. Refused file b what.Lexical) (one_place text _ _ s t)
  one-refusal {file} {text} (no_token s) (no_file h e) = absurd (not_both text _ _ h s)
  one-refusal {file} {text} (no_file h e) (no_token s) = absurd (not_both text _ _ h s)
  one-refusal {file} {text} (no_file {tokens = ts} {e = c} h e) (no_file {tokens = us} {e = d} k f) =
      let same = ap (λ ts. file_outcome (length text) (lexemes text ts)) (one_list text ts us h k) in
      let cause : c ≡ d = cc in
      ap (text_refusal file) cause

  not-refused : {file text : List ℕ} {list : List Statement} {r : LoadRefusal} → AreStatements text list → RefusesText file text r → ⊥
  not-refused {file} {text} a (no_token s) = not_both text a.tokens _ a.are_tokens s
  not-refused {file} {text} a (no_file {tokens = ts} h e) =
      let same = ap (λ ts. file_outcome (length text) (lexemes text ts)) (one_list text a.tokens ts a.are_tokens h) in
      let taken = a.taken in
      cc

  one-reading : {text : List ℕ} {list others : List Statement} → AreStatements text list → AreStatements text others → list ≡ others
  one-reading {text} {list} {others} a b =
      let P : List Token → Type 0 = λ ts. IsFile (lexemes text ts) others in
      a.only others (subst P (one_list text b.tokens a.tokens b.are_tokens a.are_tokens) b.grammar)

  module _ {told : List ℕ → Option (List ℕ)} {folder name : List ℕ} (known : (file : List ℕ) → IsAsked told folder name file → (text : List ℕ) × (told file ≡ Some text)) where
    -- the includes of a list name files that may be asked for
    abbrev AreAsked : List Statement → Type 0
    AreAsked list = (place byte include_byte : ℕ) (include : List ℕ) (names : Option (List (List ℕ))) → slice_get list place ≡ Some (statement.Include byte include include_byte names)
        → IsAsked told folder name (joined folder include)

    behind : (s : Statement) (list : List Statement) → AreAsked (s ∷ list) → AreAsked list
    behind s list a place byte include_byte include names e = a (suc place) byte include_byte include names e

    content-is : {o : Option (List ℕ)} {text whole : List ℕ} {before : Counts} → o ≡ Some whole → IsContent o before text → text ≡ whole
    content-is {o} {text} {whole} {before} e c = let P : Option (List ℕ) → Type 0 = λ x. IfSome x (λ w. text ≡ w) in subst P e c.is_told

    no-room : {o : Option (List ℕ)} {text whole : List ℕ} {before : Counts} → o ≡ Some whole → IfSome o (λ w. room_for before.bytes < length w) → IsContent o before text → ⊥
    no-room {o} {text} {whole} {before} e large c =
        let P : Option (List ℕ) → Type 0 = λ x. IfSome x (λ w. room_for before.bytes < length w) in
        let past : room_for before.bytes < length whole = subst P e large in
        let same : length text ≡ length whole = ap length (content-is e c) in
        let fits = c.fits in
        omega arith

    asked-in : {file text whole : List ℕ} {list : List Statement} → IsAsked told folder name file → told file ≡ Some whole → text ≡ whole → AreStatements text list → AreAsked list
    asked-in a e q s place byte include_byte include names at = include_in place a (e ∙ ap Some (sym q)) s at

    refused-along : {file text other : List ℕ} {r u : LoadRefusal} → other ≡ text → RefusesText file text r → RefusesText file other u → r ≡ u
    refused-along {file} {text} {other} {r} {u} q a b = let P : List ℕ → Type 0 = λ t. RefusesText file t u in one-refusal a (subst P q b)

    not-refused-along : {file text other : List ℕ} {list : List Statement} {r : LoadRefusal} → other ≡ text → AreStatements text list → RefusesText file other r → ⊥
    not-refused-along {file} {text} {other} {list} {r} q a b = let P : List ℕ → Type 0 = λ t. RefusesText file t r in not-refused a (subst P q b)

    reading-along : {text other : List ℕ} {list others : List Statement} → other ≡ text → AreStatements text list → AreStatements other others → others ≡ list
    reading-along {text} {other} {list} {others} q a b = let P : List ℕ → Type 0 = λ t. AreStatements t others in sym (one-reading a (subst P q b))

    list-along : {level : ℕ} {file : List ℕ} {list others : List Statement} {b c : Counts} {o : Outcome} → others ≡ list → c ≡ b
        → GathersStatements told folder level file others c o → GathersStatements told folder level file list b o
    list-along {level} {file} {list} {others} {b} {c} {o} p q g = rw (← p, ← q) g

    -- what is behind an include
    past-include : (names : Option (List (List ℕ))) {level : ℕ} {file : List ℕ} {list : List Statement} {ks ls : List Kept} {b c : Counts} {o u : Outcome} → IsSame (gathered ks b) (gathered ls c)
        → ((w : GathersStatements told folder level file list b u) → IsSame o u) → GathersStatements told folder level file list c u
        → IsSame (preceded (selected names ks) o) (preceded (selected names ls) u)
    past-include names (inl h) f g = absurd h
    past-include names (inr h) f g = let s = same-kept h in same-preceded (ap (selected names) s.0) (f (list-along refl (sym s.1) g))

    mutual
      one-file : {level : ℕ} {file : List ℕ} {before : Counts} {o u : Outcome} → IsAsked told folder name file → Gathers told folder level file before o → Gathers told folder level file before u → ¬ IsFaulty u → IsSame o u
      one-file a unread g n = inl unreadable
      one-file a (too_large l) unread n = absurd (n unreadable)
      one-file a (too_large l) (too_large m) n = inr refl
      one-file {file = file} a (too_large l) (no_statements c r) n = absurd (no-room (known file a).1 l c)
      one-file {file = file} a (too_large l) (statements c s g) n = absurd (no-room (known file a).1 l c)
      one-file a (no_statements c r) unread n = absurd (n unreadable)
      one-file {file = file} a (no_statements c r) (too_large l) n = absurd (no-room (known file a).1 l c)
      one-file {file = file} a (no_statements c r) (no_statements d s) n =
          let t = (known file a).1 in
          inr (ap refused (refused-along (content-is t d ∙ sym (content-is t c)) r s))
      one-file {file = file} a (no_statements c r) (statements d s g) n =
          let t = (known file a).1 in
          absurd (not-refused-along (content-is t c ∙ sym (content-is t d)) s r)
      one-file a (statements c s g) unread n = absurd (n unreadable)
      one-file {file = file} a (statements c s g) (too_large l) n = absurd (no-room (known file a).1 l c)
      one-file {file = file} a (statements c s g) (no_statements d r) n =
          let t = (known file a).1 in
          absurd (not-refused-along (content-is t d ∙ sym (content-is t c)) s r)
      one-file {file = file} {before = before} a (statements c s g) (statements d z h) n =
          let t = (known file a).1 in
          let e = content-is t d ∙ sym (content-is t c) in
          one-rest (asked-in a t (content-is t c) s) g (list-along (reading-along e s z) (ap (with_file before) e) h) n

      one-rest : {level : ℕ} {file : List ℕ} {list : List Statement} {before : Counts} {o u : Outcome} → AreAsked list → GathersStatements told folder level file list before o
          → GathersStatements told folder level file list before u → ¬ IsFaulty u → IsSame o u
      one-rest a no_more no_more n = inr refl
      one-rest {file = file} a (kept {s = s} {list = list} i g) (kept {outcome = u} j h) n =
          let k : List Kept = record { file = file; statement = s } ∷ [] in
          same-preceded {ks = k} {ls = k} refl (one-rest (behind s list a) g h (faultless-behind k u n))
      one-rest a (kept i g) (too_many f) n = absurd (false≢true (sym i))
      one-rest a (kept i g) (refused_include r h) n = absurd (false≢true (sym i))
      one-rest a (kept i g) (included r h k) n = absurd (false≢true (sym i))
      one-rest a (too_many f) (kept i g) n = absurd (false≢true (sym i))
      one-rest a (too_many f) (too_many g) n = inr refl
      one-rest a (too_many f) (refused_include r h) n = absurd (full-room f r)
      one-rest a (too_many f) (included r h k) n = absurd (full-room f r)
      one-rest a (refused_include r h) (kept i g) n = absurd (false≢true (sym i))
      one-rest a (refused_include r h) (too_many f) n = absurd (full-room f r)
      one-rest a (refused_include r h) (refused_include q k) n = one-file (a 0 _ _ _ _ refl) h k n
      one-rest a (refused_include r h) (included q k l) n = refusal-first (one-file (a 0 _ _ _ _ refl) h k (λ x. x))
      one-rest a (included r h k) (kept i g) n = absurd (false≢true (sym i))
      one-rest a (included r h k) (too_many f) n = absurd (full-room f r)
      one-rest a (included r h k) (refused_include q l) n = refusal-last (one-file (a 0 _ _ _ _ refl) h l n)
      one-rest a (included {byte = byte} {name_byte = name_byte} {name = name} {names = names} {list = list} r h k) (included {ks = ks} {outcome = u} q l m) n =
          past-include names (one-file (a 0 _ _ _ _ refl) h l (λ x. x))
          (λ w. one-rest (behind (statement.Include byte name name_byte names) list a) k w (faultless-behind (selected names ks) u n)) m

  refused-text : (name : List ℕ) {n m : ℕ} {r u : LoadRefusal} → m ≡ n → RefusesText name (generated_text n) r → RefusesText name (generated_text m) u → r ≡ u
  refused-text name {n} {m} {r} {u} e a b = let P : ℕ → Type 0 = λ k. RefusesText name (generated_text k) u in one-refusal a (subst P e b)

  not-refused-text : (name : List ℕ) {n m : ℕ} {list : List Statement} {r : LoadRefusal} → m ≡ n → AreStatements (generated_text n) list → RefusesText name (generated_text m) r → ⊥
  not-refused-text name {n} {m} {list} {r} e a b = let P : ℕ → Type 0 = λ k. RefusesText name (generated_text k) r in not-refused a (subst P e b)

  one-text : {n m : ℕ} {list others : List Statement} → m ≡ n → AreStatements (generated_text n) list → AreStatements (generated_text m) others → list ≡ others
  one-text {n} {m} {list} {others} e a b = let P : ℕ → Type 0 = λ k. AreStatements (generated_text k) others in one-reading a (subst P e b)

  one-whole : {told : List ℕ → Option (List ℕ)} {name : List ℕ} {root : Option (List ℕ)} {o u : Outcome} → AreTold told name root → GathersProblem told name root o → GathersProblem told name root u → ¬ IsFaulty u → IsSame o u
  one-whole known (of_file i g) (of_file j h) n = one-file known (problem_file i) g h n
  one-whole known (of_file i g) (refused_text {n = k} a r) n = absurd (i k a)
  one-whole known (of_file i g) (of_text {n = k} a s) n = absurd (i k a)
  one-whole known (refused_text {n = k} a r) (of_file i g) n = absurd (i k a)
  one-whole {name = name} known (refused_text a r) (refused_text b s) n = inr (ap refused (refused-text name (one-number b a) r s))
  one-whole {name = name} known (refused_text a r) (of_text b s) n = absurd (not-refused-text name (one-number a b) s r)
  one-whole known (of_text {n = k} a s) (of_file i g) n = absurd (i k a)
  one-whole {name = name} known (of_text a s) (refused_text b r) n = absurd (not-refused-text name (one-number b a) s r)
  one-whole {name = name} known (of_text a s) (of_text b t) n = inr (same-gathered name (one-number a b) (one-text (one-number b a) s t))

  refused-same : {r u : LoadRefusal} → IsSame (refused r) (refused u) → IsReadFault r ⊎ (theories.refused r ≡ theories.refused u)
  refused-same (inl h) = inl h
  refused-same (inr h) = inr cc

  refused-other : {r : LoadRefusal} {ks : List Kept} {c : Counts} {a : Answer} → IsSame (refused r) (gathered ks c) → IsReadFault r ⊎ (theories.refused r ≡ a)
  refused-other (inl h) = inl h
  refused-other (inr h) = absurd cc

  says-same : {ks ls : List Kept} {b c : Counts} {one other : Answer} → IsSame (gathered ks b) (gathered ls c) → Says ks one → Says ls other → one ≡ other
  says-same (inl h) s t = absurd h
  says-same {ks} {ls} {one = one} (inr h) s t = let P : List Kept → Type 0 = λ x. Says x one in one-saying (subst P (same-kept h).0 s) t

  pub one-problem : OneProblem
  one-problem told name root one other known (not_gathered g) (not_gathered h) n = refused-same (one-whole known g h n)
  one-problem told name root one other known (not_gathered g) (loading.kept h s) n = refused-other (one-whole known g h (λ x. x))
  one-problem told name root one other known (loading.kept h s) (not_gathered g) n = absurd (no-refusal (one-whole known h g n))
  one-problem told name root one other known (loading.kept h s) (loading.kept k t) n = inr (says-same (one-whole known h k (λ x. x)) s t)
