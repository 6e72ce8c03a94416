-- Statements, one after the other.
use Rattle.std.proofs.Common.{◌≡◌, ℕ, zero, suc, ◌<◌, ◌≤◌, List, [], ◌∷◌, ◌++◌, length, drop, get_or, refl, ap, sym, ◌∙◌, subst, append_assoc, append-nil, arith}
use Rattle.std.specs.Prelude.{Ok, Err}
use Rattle.std.proofs.Math.Seq.{drop-cons}
use Rattle.std.proofs.lemmas.List.{length-drop}
use Rattle.leo_lex.specs.declared.token.Token.{Token}
use Rattle.leo_lex.specs.declared.token.Kind.TheVariants.{Lower}
use Rattle.leo_lex.specs.Cut.{Cut, done, pass, keep, AreTokens}
use Rattle.leo_syntax.specs.declared.refusal.ReadRefusal.{ReadRefusal}
use Rattle.leo_syntax.specs.declared.refusal.ReadRefusal.TheVariants.{Deep}
use Rattle.leo_syntax.specs.declared.source.Source.{Source}
use Rattle.leo_syntax.specs.declared.tree.Statement.{Statement}
use Rattle.leo_syntax.specs.Fits.{TokensFit}
use Rattle.leo_syntax.specs.Lexemes.{Lexeme, Ahead, lexeme, lexemes}
use Rattle.leo_syntax.specs.Rules.{Part, statement, outcome, file_outcome, accepted, refused}
use Rattle.leo_syntax.specs.Prefix.{IsTaken}
use Rattle.leo_syntax.specs.Reading as read
use Rattle.leo_syntax.specs.Reading.{Read}
use Rattle.leo_syntax.specs.Source.{ahead, end_of}
use Rattle.leo_syntax.specs.Grammar.{IsStatement, IsFile, finished, another, IsHead, formula_statement, typing_statement, include_statement}
use Rattle.leo_syntax.proofs.Table.{ends}
use Rattle.leo_syntax.proofs.StatementTable.{statement_table}
use Rattle.leo_syntax.proofs.Sound.{IfRead, statement_sound}
use Rattle.leo_syntax.proofs.Sources.{ahead_none}
use Rattle.leo_syntax.proofs.Unique.{Reads, statement_reads, same_statement}

-- what was read up to a place
pub record Going (s : Source) (at : ℕ) (found : List Statement) : Type 0 where
  pub same : file_outcome (end_of s) (lexemes s.bytes.now s.tokens.now) ≡ outcome (end_of s) (ahead s at) (statement ∷ [])
  pub front : (ss : List Statement) → IsFile (ahead s at) ss → IsFile (lexemes s.bytes.now s.tokens.now) (found ++ ss)
  pub only : (ss : List Statement) → IsFile (lexemes s.bytes.now s.tokens.now) ss → (others : List Statement) × IsFile (ahead s at) others × (ss ≡ found ++ others)

pub going_start : (s : Source) → Going s 0 []
unfolding ahead
going_start s = record { same = refl; front = λ ss h. h; only = λ ss h. (ss, h, refl) }

ahead_some : (s : Source) (at : ℕ) → at < length s.tokens.now → (l : Lexeme) × (ls : Ahead) × (ahead s at ≡ l ∷ ls)
unfolding ahead
ahead_some s at h =
    let d : Token = record { kind = Lower; start = 0; end = 0 } in
    (lexeme s.bytes.now (get_or s.tokens.now at d), lexemes s.bytes.now (drop (suc at) s.tokens.now), ap (lexemes s.bytes.now) (drop-cons s.tokens.now at d h))

statement_outcome : (s : Source) (at : ℕ) → at < length s.tokens.now → outcome (end_of s) (ahead s at) (statement ∷ []) ≡ ends (end_of s) (read.statement (end_of s) (ahead s at)) (statement ∷ [])
statement_outcome s at h = let a = ahead_some s at h in rw a.2 (statement_table (end_of s) a.0 a.1)

-- where the first statement is known, a file goes on with it
file_first : (end : ℕ) (ls : Ahead) (ss : List Statement) → IsFile ls ss → (l : Lexeme) (more : Ahead) → ls ≡ l ∷ more → (st : Statement) (after : Ahead) → read.statement end ls ≡ Ok (st, after) → (others : List Statement) × IsFile after others × (ss ≡ st ∷ others)
file_first end [] [] finished l more e st after r = absurd cc
file_first end (_ ∷ _) [] x l more e st after r = elim x [ ]
file_first end ls (s ∷ ss) (another {after = next} is f) l more e st after r =
    let same = same_statement r (statement_reads end ls next s is) in
    (ss, rw same.1 f, ap (λ x. x ∷ ss) (sym same.0))

only_step : (s : Source) (at next : ℕ) (found ss : List Statement) (st : Statement) → at < length s.tokens.now → read.statement (end_of s) (ahead s at) ≡ Ok (st, ahead s next) → Going s at found → IsFile (lexemes s.bytes.now s.tokens.now) ss → (others : List Statement) × IsFile (ahead s next) others × (ss ≡ (found ++ st ∷ []) ++ others)
only_step s at next found ss st h e known f =
    let before = known.only ss f in
    let a = ahead_some s at h in
    let first = file_first (end_of s) (ahead s at) before.0 before.1 a.0 a.1 a.2 st (ahead s next) e in
    (first.0, first.1, before.2 ∙ ap (λ x. found ++ x) first.2 ∙ sym (append_assoc found (st ∷ []) first.0))

pub going_step : (s : Source) (at next : ℕ) (found : List Statement) (st : Statement) → at < length s.tokens.now → read.statement (end_of s) (ahead s at) ≡ Ok (st, ahead s next) → Going s at found → Going s next (found ++ st ∷ [])
going_step s at next found st h e known =
    let is : IsStatement (ahead s at) st (ahead s next) = subst (λ r. IfRead r (IsStatement (ahead s at))) e (statement_sound (end_of s) (ahead s at)) in
    record {
      same = known.same ∙ statement_outcome s at h ∙ ap (λ r. ends (end_of s) r (statement ∷ [])) e;
      front = λ ss f. rw (append_assoc found (st ∷ []) ss) (known.front (st ∷ ss) (another is f));
      only = λ ss f. only_step s at next found ss st h e known f;
    }

pub going_refused : (s : Source) (at : ℕ) (found : List Statement) (e : ReadRefusal) → at < length s.tokens.now → read.statement (end_of s) (ahead s at) ≡ Err e → Going s at found → file_outcome (end_of s) (lexemes s.bytes.now s.tokens.now) ≡ refused e
going_refused s at found e h r known = known.same ∙ statement_outcome s at h ∙ ap (λ x. ends (end_of s) x (statement ∷ [])) r

pub nothing_ahead : (end : ℕ) → outcome end [] (statement ∷ []) ≡ accepted
unfolding outcome
nothing_ahead end = refl

pub going_taken : (s : Source) (at : ℕ) (found : List Statement) → length s.tokens.now ≤ at → Going s at found → file_outcome (end_of s) (lexemes s.bytes.now s.tokens.now) ≡ accepted
going_taken s at found h known = known.same ∙ ap (λ ls. outcome (end_of s) ls (statement ∷ [])) (ahead_none s at h) ∙ nothing_ahead (end_of s)

pub going_file : (s : Source) (at : ℕ) (found : List Statement) → length s.tokens.now ≤ at → Going s at found → IsFile (lexemes s.bytes.now s.tokens.now) found
going_file s at found h known = rw append-nil at (known.front [] (rw (ahead_none s at h) finished))

no_head : (ls : Ahead) (byte role_byte : ℕ) (label word : List ℕ) (next : Ahead) → ls ≡ [] → IsHead ls byte label word role_byte next → ⊥
no_head ls byte role_byte label word next e h = let t = h.takes_thf in absurd cc

no_statement : (ls : Ahead) (s : Statement) (next : Ahead) → ls ≡ [] → IsStatement ls s next → ⊥
no_statement ls s next e (formula_statement {l1 = l1} {byte = byte} {role_byte = role_byte} {name = label} {role = word} h r f k) = no_head ls byte role_byte label word l1 e h
no_statement ls s next e (typing_statement {l1 = l1} {byte = byte} {role_byte = role_byte} {name = label} {role = word} h r f k) = no_head ls byte role_byte label word l1 e h
no_statement ls s next e (include_statement b p h i q r) = let t = b.ahead_is in absurd cc

empty_file : (ls : Ahead) (ss : List Statement) → ls ≡ [] → IsFile ls ss → ss ≡ []
empty_file [] [] e finished = refl
empty_file (_ ∷ _) [] e x = elim x [ ]
empty_file ls (s ∷ ss) e (another {after = next} is f) = absurd (no_statement ls s next e is)

pub going_only : (s : Source) (at : ℕ) (found ss : List Statement) → length s.tokens.now ≤ at → Going s at found → IsFile (lexemes s.bytes.now s.tokens.now) ss → found ≡ ss
going_only s at found ss h known f =
    let o = known.only ss f in
    sym (o.2 ∙ ap (λ x. found ++ x) (empty_file (ahead s at) o.0 (ahead_none s at h) o.1) ∙ append-nil found)

-- the tokens of a text lie in it
cut_fits : {bytes : List ℕ} {at stop : ℕ} {ts : List Token} → Cut bytes at ts stop → at ≤ length bytes → TokensFit bytes ts
cut_fits done h k d less = absurd (omega (arith, less))
cut_fits {bytes} {at} (pass b more) h k d less = cut_fits more (omega (arith, b.within, length-drop at bytes)) k d less
cut_fits {bytes} {at} (keep b more) h zero d less = (omega arith, omega (arith, b.within, length-drop at bytes))
cut_fits {bytes} {at} (keep b more) h (suc k) d less = cut_fits more (omega (arith, b.within, length-drop at bytes)) k d (omega (arith, less))

pub tokens_fit : (bytes : List ℕ) (ts : List Token) → AreTokens bytes ts → TokensFit bytes ts
tokens_fit bytes ts h = cut_fits h (omega arith)

-- ---- a text of the grammar is refused for its levels only

ends_taken : (end : ℕ) (r : Read Statement) (s : Statement) (after : Ahead) (parts : List Part) → Reads r s after → IsTaken (outcome end after parts) → IsTaken (ends end r parts)
ends_taken end (Ok p) s after parts h t = rw h.1 t
ends_taken end (Err (Deep byte)) s after parts h t = tt
ends_taken end (Err _) s after parts h t = absurd h

statement_some : {ls after : Ahead} {s : Statement} → IsStatement ls s after → (l : Lexeme) × (more : Ahead) × (ls ≡ l ∷ more)
statement_some (formula_statement {l1 = l1} h r f k) = (h.thf, h.l1, h.takes_thf)
statement_some (typing_statement {l1 = l1} h r f k) = (h.thf, h.l1, h.takes_thf)
statement_some (include_statement {l1 = l1} b p h i q r) = (b.token, l1, b.ahead_is)

pub first_outcome : (end : ℕ) {ls after : Ahead} {s : Statement} → IsStatement ls s after → outcome end ls (statement ∷ []) ≡ ends end (read.statement end ls) (statement ∷ [])
first_outcome end {ls} h = let a = statement_some h in rw a.2 (statement_table end a.0 a.1)

pub file_taken : (end : ℕ) (ls : Ahead) (list : List Statement) → IsFile ls list → IsTaken (file_outcome end ls)
file_taken end [] [] finished = subst IsTaken (sym (nothing_ahead end)) tt
file_taken end (_ ∷ _) [] x = elim x [ ]
file_taken end ls (s ∷ ss) (another {after = after} is f) = rw (first_outcome end is) (ends_taken end (read.statement end ls) s after (statement ∷ []) (statement_reads end ls after s is) (file_taken end after ss f))
