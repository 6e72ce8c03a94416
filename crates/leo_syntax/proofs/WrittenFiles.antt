-- Statements that were read from a text are read back from the text that is written of them.
use Rattle.std.proofs.Common.{◌≡◌, ℕ, zero, suc, ◌+◌, ◌-◌, List, [], ◌∷◌, ◌++◌, length, take, drop, map, refl, ap, sym, subst, ◌∙◌, arith}
use Rattle.std.specs.Prelude.{Ok, Err}
use Rattle.leo_lex.specs.declared.token.Token.{Token}
use Rattle.leo_lex.specs.Cut.{Cut, done, pass, keep, AreTokens}
use Rattle.leo_lex.specs.Spaced.{Word, AreWords, spaced, spaced_tokens}
use Rattle.leo_syntax.specs.declared.tree.Statement.{Statement}
use Rattle.leo_syntax.specs.Lexemes.{Ahead, lexeme, lexemes}
use Rattle.leo_syntax.specs.Rules.{statement, outcome, file_outcome, accepted}
use Rattle.leo_syntax.specs.Grammar.{IsStatement, IsFile, finished, another}
use Rattle.leo_syntax.specs.Reading as read
use Rattle.leo_syntax.specs.Reading.{Read}
use Rattle.leo_syntax.specs.Texts.{list_written}
use Rattle.leo_syntax.specs.Bare.{bare_statement}
use Rattle.leo_syntax.specs.RoundTrip.{IsReadBack}
use Rattle.leo_syntax.proofs.Table.{ends}
use Rattle.leo_syntax.proofs.Sound.{IfRead, statement_sound}
use Rattle.leo_syntax.proofs.Unique.{Reads, statement_reads}
use Rattle.leo_syntax.proofs.Files.{first_outcome, nothing_ahead}
use Rattle.leo_syntax.proofs.WrittenWords.{IsText, Spells, text_none, text_as, text_join, Joined}
use Rattle.leo_syntax.proofs.WrittenTypes.{AreGood, of_read}
use Rattle.leo_syntax.proofs.WrittenStatements.{IsStatementWritten, ReadsStatement, StatementOk, statement_ok}

-- ---- the lexemes of a text are tokens of their kinds

cut_good : {bytes : List ℕ} {at stop : ℕ} {ts : List Token} → Cut bytes at ts stop → AreGood (lexemes bytes ts)
cut_good done = tt
cut_good (pass b more) = cut_good more
cut_good {bytes} {at} (keep {len = len} {kind = k} b more) = (let e : (at + len) - at ≡ len = omega arith in rw e b.is_piece, cut_good more)

-- ---- the lexemes of a text of words are these words

take_front : (text more : List ℕ) → take (length text) (text ++ more) ≡ text
take_front [] more = refl
take_front (b ∷ bs) more = rw (take_front bs more) refl

drop_front : (text more : List ℕ) → drop (length text) (text ++ more) ≡ more
drop_front [] more = refl
drop_front (b ∷ bs) more = drop_front bs more

abbrev nothing : List ℕ
nothing = []

drop_nil : (n : ℕ) → drop n nothing ≡ nothing
drop_nil zero = refl
drop_nil (suc n) = refl

drop_twice : (m n : ℕ) (xs : List ℕ) → drop (m + n) xs ≡ drop n (drop m xs)
drop_twice zero n xs = let e : 0 + n ≡ n = omega arith in rw e refl
drop_twice (suc m) n [] = let e : suc m + n ≡ suc (m + n) = omega arith in rw e (sym (drop_nil n))
drop_twice (suc m) n (x ∷ xs) = let e : suc m + n ≡ suc (m + n) = omega arith in rw e (drop_twice m n xs)

spelled : (bytes : List ℕ) (words : List Word) (at : ℕ) → drop at bytes ≡ spaced words → Spells words (lexemes bytes (spaced_tokens at words)) []
spelled bytes [] at e = refl
spelled bytes (w ∷ ws) at e =
    let n : (at + length w.text) - at ≡ length w.text = omega arith in
    let front : take ((at + length w.text) - at) (drop at bytes) ≡ w.text = rw (n, e) (take_front w.text (32 ∷ spaced ws)) in
    let back : drop (at + length w.text + 1) bytes ≡ spaced ws = drop_twice (at + length w.text) 1 bytes ∙ ap (drop 1) (drop_twice at (length w.text) bytes ∙ ap (drop (length w.text)) e ∙ drop_front w.text (32 ∷ spaced ws)) in (
      lexemes bytes (spaced_tokens (at + length w.text + 1) ws),
      record { token = lexeme bytes (record { kind = w.kind; start = at; end = at + length w.text }); ahead_is = refl; kind_is = refl; text_is = front },
      spelled bytes ws (at + length w.text + 1) back,
    )

-- ---- statements one after the other

abbrev AreWritten : List Statement → Type 0
AreWritten [] = Unit {0}
AreWritten (s ∷ ss) = IsStatementWritten s × AreWritten ss

record Again (ls : Ahead) (list : List Statement) (end : ℕ) : Type 0 where
  found : List Statement
  grammar : IsFile ls found
  taken : outcome end ls (statement ∷ []) ≡ accepted
  same : map bare_statement found ≡ map bare_statement list

abbrev ReadsList : List Statement → Ahead → Ahead → Type 0
ReadsList list ls after = after ≡ [] → (end : ℕ) → Again ls list end

no_statements : (ls after : Ahead) → ls ≡ after → ReadsList [] ls after
no_statements ls after e f end = rw (e ∙ f) (record { found = []; grammar = finished; taken = nothing_ahead end; same = refl })

more_statements : (s : Statement) (ss : List Statement) (ls after : Ahead) → Joined (ReadsStatement s) (ReadsList ss) ls after → ReadsList (s ∷ ss) ls after
more_statements s ss ls after j f end =
    let b = j.front end in
    let r = j.back f end in
    let is = of_read (λ x y. IsStatement ls x y) (statement_sound end ls) b.1 in
    record {
      found = b.0 ∷ r.found;
      grammar = another is r.grammar;
      taken = first_outcome end is ∙ ap (λ x. ends end x (statement ∷ [])) b.1 ∙ r.taken;
      same = rw (b.2, r.same) refl;
    }

list_back : (list : List Statement) → AreWritten list → IsText (list_written list) (ReadsList list)
list_back [] h = text_as text_none (λ ls after e. no_statements ls after e)
list_back (s ∷ ss) h = text_as (text_join h.0 (list_back ss h.1)) (λ ls after j. more_statements s ss ls after j)

-- ---- the statements of a text that is read

read_next : (end : ℕ) (r : Read Statement) (s : Statement) (after : Ahead) → Reads r s after → ends end r (statement ∷ []) ≡ accepted → IfRead r StatementOk → StatementOk s after × (outcome end after (statement ∷ []) ≡ accepted)
read_next end (Ok p) s after h e k = (subst (λ x. StatementOk x after) h.0 (subst (λ x. StatementOk p.0 x) h.1 k), subst (λ x. outcome end x (statement ∷ []) ≡ accepted) h.1 e)
read_next end (Err x) s after h e k = absurd cc

are_written : (end : ℕ) (ls : Ahead) (list : List Statement) → IsFile ls list → AreGood ls → outcome end ls (statement ∷ []) ≡ accepted → AreWritten list
are_written end ls [] h g e = tt
are_written end ls (s ∷ ss) (another {after = after} is f) g e =
    let n = read_next end (read.statement end ls) s after (statement_reads end ls after s is) (sym (first_outcome end is) ∙ e) (statement_ok end ls g) in
    (n.0.is_written, are_written end after ss f n.0.good n.1)

abbrev WordsAreTokens : Type 0
WordsAreTokens = (words : List Word) → AreWords words → AreTokens (spaced words) (spaced_tokens 0 words)

pub list_read_back : WordsAreTokens → (bytes : List ℕ) (tokens : List Token) (list : List Statement) → AreTokens bytes tokens → IsFile (lexemes bytes tokens) list → file_outcome (length bytes) (lexemes bytes tokens) ≡ accepted → IsReadBack list
list_read_back words bytes tokens list t f e =
    let w = list_back list (are_written (length bytes) (lexemes bytes tokens) list f (cut_good t) e) in
    let spells = subst (λ x. Spells w.words (lexemes x (spaced_tokens 0 w.words)) []) (sym w.text_is) (spelled (spaced w.words) w.words 0 refl) in
    let again = w.reads (lexemes (list_written list) (spaced_tokens 0 w.words)) [] spells refl (length (list_written list)) in
    record {
      tokens = spaced_tokens 0 w.words;
      are_tokens = subst (λ x. AreTokens x (spaced_tokens 0 w.words)) (sym w.text_is) (words w.words w.good);
      statements = again.found;
      grammar = again.grammar;
      taken = again.taken;
      same = again.same;
    }
