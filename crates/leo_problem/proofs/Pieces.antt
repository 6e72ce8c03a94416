-- Steps of gathering, over plain variables.
use Rattle.std.proofs.Common.{Bool, true, false, ◌||◌, eqb, ℕ, zero, suc, ◌+◌, ◌-◌, ◌≡◌, ◌≢◌, ◌<◌, ◌≤◌, List, [], ◌∷◌, ◌++◌, length, slice_get, take, drop, Option, Some, None, refl, ap, sym, ◌∙◌, subst, get_or, append_assoc, arith}
use Rattle.std.proofs.lemmas.Bool.Decides.{nat_tests}
use Rattle.std.proofs.lemmas.List.{take_more}
use Rattle.leo_elab.specs.Problem.{Declared}
use Rattle.leo_elab.specs.declared.refusal.ElabRefusal.{ElabRefusal}
use Rattle.leo_elab.specs.declared.refusal.ElabRefusal.TheVariants as elab
use Rattle.leo_problem.specs.Theories.{Answer, Says, byte_of, meaning_refusal, unlisted, refused_role_or, unlisted_role, OffendsInFormulas}
use Rattle.leo_problem.specs.Theories as theories
use Rattle.std.specs.List.{list_any}
use Rattle.leo_lex.specs.Cut.{AreTokens, IsRefusal}
use Rattle.leo_lex.specs.declared.token.Token.{Token}
use Rattle.leo_lex.specs.declared.token.LexRefusal.{LexRefusal}
use Rattle.leo_lex.specs.declared.token.LexRefusal.TheVariants as lexical
use Rattle.leo_syntax.specs.declared.refusal.ReadRefusal.{ReadRefusal}
use Rattle.leo_syntax.specs.declared.refusal.ReadRefusal.TheVariants as cause
use Rattle.leo_syntax.specs.declared.tree.Statement.{Statement}
use Rattle.leo_syntax.specs.declared.tree.Statement.TheVariants as statement
use Rattle.leo_syntax.specs.Lexemes.{lexemes}
use Rattle.leo_syntax.specs.Rules.{file_outcome}
use Rattle.leo_syntax.specs.Rules as rules_of
use Rattle.leo_elab.proofs.Declarations.{drop-here, append-nothing}
use Rattle.leo_edge.specs.Outside.{HasRisen}
use Rattle.leo_problem.specs.declared.gathered.Counts.{Counts}
use Rattle.leo_problem.specs.declared.gathered.Kept.{Kept}
use Rattle.leo_problem.specs.declared.refusal.LoadRefusal.{LoadRefusal}
use Rattle.leo_problem.specs.declared.refusal.LoadRefusal.TheVariants.{Refused, Memory}
use Rattle.leo_problem.specs.declared.refusal.What.{What}
use Rattle.leo_problem.specs.declared.refusal.What.TheVariants as what
use Rattle.leo_problem.specs.Texts.{AreStatements, RefusesText, no_token, no_file, text_refusal, lex_refusal}
use Rattle.leo_problem.specs.Gathering.{folder_of, is_include, selected, joined, with_file, IsContent, Outcome, gathered, refused, preceded, Gathers, GathersStatements, HasRoom, IsFull}
use Rattle.leo_problem.specs.Gathering as gathering
use Rattle.leo_problem.specs.Loading.{IsFault, IsFaultIn}
use Rattle.leo_problem.specs.Places.{Place}
use Rattle.leo_problem.specs.Pieces.{KeepsMore, IsRefusedStatement, AreKeptUpTo, Includes, IsRefusedInclude, full, in_file}

-- ---- folders

any-slash : (xs : List ℕ) → list_any (λ x. eqb x 47) (xs ++ 47 ∷ []) ≡ true
any-slash [] = refl
any-slash (x ∷ xs) = by (eqb x 47) (any-slash xs)
  where
    by : (b : Bool) → list_any (λ x. eqb x 47) (xs ++ 47 ∷ []) ≡ true → (b || list_any (λ x. eqb x 47) (xs ++ 47 ∷ [])) ≡ true
    by true k = refl
    by false k = k

any-other : (xs : List ℕ) (y : ℕ) → eqb y 47 ≡ false → list_any (λ x. eqb x 47) (xs ++ y ∷ []) ≡ list_any (λ x. eqb x 47) xs
any-other [] y e = rw e refl
any-other (x ∷ xs) y e = ap (λ w. eqb x 47 || w) (any-other xs y e)

pub folder-slash : (xs : List ℕ) → folder_of (xs ++ 47 ∷ []) ≡ xs ++ 47 ∷ []
folder-slash [] = refl
folder-slash (x ∷ xs) = rw (any-slash (x ∷ xs)) (ap (λ w. x ∷ w) (folder-slash xs))

pub folder-other : (xs : List ℕ) (y : ℕ) → eqb y 47 ≡ false → folder_of (xs ++ y ∷ []) ≡ folder_of xs
folder-other [] y e = rw e refl
folder-other (x ∷ xs) y e = rw (any-other (x ∷ xs) y e, folder-other xs y e) refl

-- ---- texts

pub refused-file : {file text : List ℕ} {tokens : List Token} (e : ReadRefusal) {r : LoadRefusal} → AreTokens text tokens
    → (e ≢ cause.Memory → file_outcome (length text) (lexemes text tokens) ≡ rules_of.refused e) → (r ≢ Memory → r ≡ text_refusal file e) → r ≢ Memory → RefusesText file text r
refused-file (cause.Syntax byte) t o q n = rw (q n) (no_file t (o (λ x. cc)))
refused-file (cause.Unsupported byte form) t o q n = rw (q n) (no_file t (o (λ x. cc)))
refused-file (cause.Deep byte) t o q n = rw (q n) (no_file t (o (λ x. cc)))
refused-file cause.Memory t o q n = absurd (n (q n))

pub refused-tokens : {file text : List ℕ} (e : LexRefusal) {r : LoadRefusal} → IsRefusal text e → (r ≢ Memory → r ≡ lex_refusal file e) → r ≢ Memory → RefusesText file text r
refused-tokens (lexical.Lexical byte) i q n = rw (q n) (no_token i)
refused-tokens lexical.Memory i q n = absurd (n (q n))

-- ---- faults

risen-earlier : (old mid now : ℕ) → old ≤ mid → HasRisen mid now → HasRisen old now
risen-earlier old mid now l h = omega arith

in-earlier : (old mid now : ℕ) (failed : Option (List ℕ)) (file : List ℕ) (w : What) → old ≤ mid → IsFaultIn mid now failed file w → IsFaultIn old now failed file w
in-earlier old mid now failed file what.Includes l h = tt
in-earlier old mid now failed file what.ReadFault l h = (risen-earlier old mid now l h.0, h.1)
in-earlier old mid now failed file what.Large l h = tt
in-earlier old mid now failed file what.Lexical l h = tt
in-earlier old mid now failed file what.Deep l h = tt
in-earlier old mid now failed file (what.Unsupported form) l h = tt
in-earlier old mid now failed file what.Syntax l h = tt
in-earlier old mid now failed file what.Role l h = tt
in-earlier old mid now failed file what.Conjectures l h = tt
in-earlier old mid now failed file what.Twice l h = tt
in-earlier old mid now failed file what.Unknown l h = tt
in-earlier old mid now failed file what.WrongType l h = tt
in-earlier old mid now failed file what.Free l h = tt

pub fault-earlier : (old mid now : ℕ) (failed : Option (List ℕ)) (r : LoadRefusal) → old ≤ mid → IsFault mid now failed r → IsFault old now failed r
fault-earlier old mid now failed (Refused file byte w) l h = in-earlier old mid now failed file w l h
fault-earlier old mid now failed Memory l h = tt

-- ---- contents that stay

pub same-told : (told later : List ℕ → Option (List ℕ)) → ((n : List ℕ) → later n ≡ told n) → later ≡ told
same-told told later h = λ j n. h n j

-- ---- statements

preceded-twice : (ks more : List Kept) (o : Outcome) → preceded ks (preceded more o) ≡ preceded (ks ++ more) o
preceded-twice ks more (gathered list c) = ap (λ w. gathered w c) (sym (append_assoc ks more list))
preceded-twice ks more (refused r) = refl

module _ {told : List ℕ → Option (List ℕ)} {folder : List ℕ} {level : ℕ} {file : List ℕ} {list : List Statement} {before : Counts} where
  pub kept-start : (kept : List Kept) → kept ≡ [] → AreKeptUpTo told folder level file list before before kept 0
  kept-start kept e = record { passes = λ o g. rw e (nothing-before o g) }
    where
      nothing-before : (o : Outcome) → GathersStatements told folder level file list before o → GathersStatements told folder level file list before (preceded [] o)
      nothing-before (gathered ks c) g = g
      nothing-before (refused r) g = g

  module _ {now : Counts} {kept : List Kept} {place : ℕ} (h : AreKeptUpTo told folder level file list before now kept place) (s : Statement) (at : slice_get list place ≡ Some s) where
    pub kept-more : {later : List ℕ → Option (List ℕ)} {next : Counts} {more : List Kept} → later ≡ told → KeepsMore later folder level file s now next kept more → AreKeptUpTo told folder level file list before next more (place + 1)
    kept-more {later} {next} {more} e m =
        let n : KeepsMore told folder level file s now next kept more = rw e at m in
        record { passes = λ o g. rw (n.appended) (rw (preceded-twice kept n.more o) at (h.passes (preceded n.more o) (rw (drop-here list place s at) (n.passes (drop (place + 1) list) o g)))) }

    pub refused-there : {later : List ℕ → Option (List ℕ)} {r : LoadRefusal} → later ≡ told → IsRefusedStatement later folder level file s now r → GathersStatements told folder level file list before (refused r)
    refused-there {later} {r} e m =
        let n : IsRefusedStatement told folder level file s now r = rw e at m in
        h.passes (refused r) (rw (drop-here list place s at) (n.gathers (drop (place + 1) list)))

  pub kept-all : {now : Counts} {kept : List Kept} {place : ℕ} → AreKeptUpTo told folder level file list before now kept place → length list ≤ place → GathersStatements told folder level file list before (gathered kept now)
  kept-all {now} {kept} {place} h l =
      let e : drop place list ≡ [] = drop-beyond list place l in
      let g : GathersStatements told folder level file list before (gathered (kept ++ []) now) = h.passes (gathered [] now) (rw e gathering.no_more) in
      rw (append-nothing kept) at g
    where
      drop-beyond : {A : Type 0} (xs : List A) (n : ℕ) → length xs ≤ n → drop n xs ≡ []
      drop-beyond [] zero l = refl
      drop-beyond [] (suc n) l = refl
      drop-beyond (x ∷ xs) zero l = absurd (omega arith)
      drop-beyond (x ∷ xs) (suc n) l = drop-beyond xs n (omega arith)

-- ---- one statement

pub no-include : (s : Statement) → ((byte : ℕ) (name : List ℕ) (name_byte : ℕ) (names : Option (List (List ℕ))) → s ≡ statement.Include byte name name_byte names → ⊥) → is_include s ≡ false
no-include (statement.Formula byte name role role_byte tree) n = refl
no-include (statement.Typing byte name atom atom_byte ty) n = refl
no-include (statement.Include byte name name_byte names) n = absurd (n byte name name_byte names refl)

module _ {told : List ℕ → Option (List ℕ)} (p : Place) (s : Statement) {before : Counts} where
  pub keeps-itself : {kept now : List Kept} → is_include s ≡ false → now ≡ kept ++ record { file = p.file; statement = s } ∷ [] → KeepsMore told p.folder p.level p.file s before before kept now
  keeps-itself e q = record { more = record { file = p.file; statement = s } ∷ []; appended = q; passes = λ list o g. gathering.kept e g }

  module _ {byte name_byte : ℕ} {name : List ℕ} {names : Option (List (List ℕ))} (e : s ≡ statement.Include byte name name_byte names) where
    pub keeps-included : {between : Counts} {ks kept now : List Kept} → Includes told p name before (gathered ks between) → now ≡ kept ++ selected names ks → KeepsMore told p.folder p.level p.file s before between kept now
    keeps-included {between} {ks} i q = record { more = selected names ks; appended = q; passes = λ list o g. rw e (gathering.included i.room i.gathers g) }

    pub refused-include : (r : LoadRefusal) → IsRefusedInclude told p name name_byte before r → IsRefusedStatement told p.folder p.level p.file s before r
    refused-include r (full f) = record { gathers = λ list. rw e (gathering.too_many f) }
    refused-include r (in_file i) = record { gathers = λ list. rw e (gathering.refused_include i.room i.gathers) }

-- ---- one file

module _ (told : List ℕ → Option (List ℕ)) (p : Place) {before : Counts} (file text : List ℕ) (q : file ≡ p.file) (content : IsContent (told file) before text) (same : List ℕ) (e : same ≡ text) where
  here-content : IsContent (told p.file) before text
  here-content = let P : List ℕ → Type 0 = λ w. IsContent (told w) before text in subst P q content

  pub gather-refused : {r : LoadRefusal} → RefusesText file same r → Gathers told p.folder p.level p.file before (refused r)
  gather-refused {r} h =
      let P : List ℕ → Type 0 = λ w. RefusesText w text r in
      gathering.no_statements here-content (subst P q (rw e at h))

  pub gather-statements : {later : List ℕ → Option (List ℕ)} {next : Counts} {list : List Statement} {outcome : Outcome} → later ≡ told → next ≡ with_file before text → AreStatements same list
      → GathersStatements later p.folder p.level p.file list next outcome → Gathers told p.folder p.level p.file before outcome
  gather-statements f n h g = gathering.statements here-content (rw e at h) (rw (f, n) at g)

-- ---- the last byte of a front

front-last : (xs : List ℕ) (n : ℕ) → 0 < n → n ≤ length xs → take n xs ≡ take (n - 1) xs ++ get_or xs (n - 1) 0 ∷ []
front-last xs n l m =
    let e : n ≡ (n - 1) + 1 = omega arith in
    ap (λ w. take w xs) e ∙ take_more xs (n - 1) 0 (omega arith)

pub folder-there : (xs : List ℕ) (n : ℕ) → 0 < n → n ≤ length xs → get_or xs (n - 1) 0 ≡ 47 → folder_of (take n xs) ≡ take n xs
folder-there xs n l m e =
    let f : take n xs ≡ take (n - 1) xs ++ 47 ∷ [] = front-last xs n l m ∙ ap (λ w. take (n - 1) xs ++ w ∷ []) e in
    ap folder_of f ∙ (folder-slash (take (n - 1) xs) ∙ sym f)

pub folder-before : (xs : List ℕ) (n : ℕ) → 0 < n → n ≤ length xs → (get_or xs (n - 1) 0 ≡ 47 → ⊥) → folder_of (take n xs) ≡ folder_of (take (n - 1) xs)
folder-before xs n l m e = ap folder_of (front-last xs n l m) ∙ folder-other (take (n - 1) xs) (get_or xs (n - 1) 0) (differs (get_or xs (n - 1) 0) e)
  where
    differs : (y : ℕ) → (y ≡ 47 → ⊥) → eqb y 47 ≡ false
    differs y n = grind (arith, nat_tests)

-- ---- an include

module _ {told : List ℕ → Option (List ℕ)} (p : Place) (folder file : List ℕ) (level : ℕ) (q : folder ≡ p.folder) (e : level ≡ p.level) (f : file ≡ p.file) {name : List ℕ} {byte : ℕ} {before : Counts} where
  pub refused-full : {r : LoadRefusal} → IsFull level before → r ≡ Refused file byte what.Includes → IsRefusedInclude told p name byte before r
  refused-full h k = rw (k, f) (full (rw e at h))

  pub refused-inner : {r : LoadRefusal} (inner : List ℕ) → HasRoom level before → inner ≡ joined folder name → Gathers told folder (level + 1) inner before (refused r) → IsRefusedInclude told p name byte before r
  refused-inner inner h k g = in_file (record { room = rw e at h; gathers = rw (k, q, e) at g })

-- ---- what is no read fault

abbrev IsQuiet : LoadRefusal → Type 0
IsQuiet r = (before now : ℕ) (failed : Option (List ℕ)) → IsFault before now failed r

quiet-role : (ks : List Kept) (r : LoadRefusal) → unlisted_role ks ≡ Some r → IsQuiet r
quiet-role [] r e = absurd cc
quiet-role (k ∷ ks) r e = by (unlisted k.statement) e (λ f. quiet-role ks r f)
  where
    by : (o : Option ℕ) → refused_role_or k.file o (unlisted_role ks) ≡ Some r → (unlisted_role ks ≡ Some r → IsQuiet r) → IsQuiet r
    by None f g = g f
    by (Some byte) f g = let q : Refused k.file byte what.Role ≡ r = cc in λ before now failed. rw (← q) tt

quiet-meaning : (file : List ℕ) (e : ElabRefusal) → IsQuiet (meaning_refusal file e)
quiet-meaning file (elab.Twice byte) = λ before now failed. tt
quiet-meaning file (elab.Unknown byte) = λ before now failed. tt
quiet-meaning file (elab.WrongType byte) = λ before now failed. tt
quiet-meaning file (elab.Free byte) = λ before now failed. tt
quiet-meaning file (elab.Unsupported byte form) = λ before now failed. tt
quiet-meaning file elab.Memory = λ before now failed. tt

quiet-formulas : {d : Declared} {ks : List Kept} {r : LoadRefusal} → OffendsInFormulas d ks r → IsQuiet r
quiet-formulas (theories.here {k = k} {e = e} s o) = quiet-meaning k.file e
quiet-formulas (theories.behind_no_formula f o) = quiet-formulas o
quiet-formulas (theories.behind_formula s m o) = quiet-formulas o

quiet-answer : {ks : List Kept} {a : Answer} (r : LoadRefusal) → Says ks a → a ≡ theories.refused r → IsQuiet r
quiet-answer {ks} r (theories.bad_role {r = s} e) q = let z : s ≡ r = cc in rw (← z) (quiet-role ks s e)
quiet-answer r (theories.second_conjecture {k = k} e f) q = let z : Refused k.file (byte_of k.statement) what.Conjectures ≡ r = cc in λ before now failed. rw (← z) tt
quiet-answer r (theories.bad_typing {file = file} {e = e} h o s) q = let z : meaning_refusal file e ≡ r = cc in rw (← z) (quiet-meaning file e)
quiet-answer r (theories.bad_formula {r = s} h d o) q = let z : s ≡ r = cc in rw (← z) (quiet-formulas o)
quiet-answer r (theories.theory h d o) q = absurd cc

pub answer-no-fault : (ks : List Kept) (r : LoadRefusal) → (r ≢ Memory → Says ks (theories.refused r)) → IsQuiet r
answer-no-fault ks (Refused file byte w) h = quiet-answer (Refused file byte w) (h (λ x. cc)) refl
answer-no-fault ks Memory h = λ before now failed. tt
