-- Statements that are written are read back.
use Rattle.std.proofs.Common.{◌≡◌, ◌⊎◌, ℕ, zero, suc, ◌≤◌, Bool, true, false, cond, List, [], ◌∷◌, ◌++◌, refl, subst, ◌∙◌, inl, inr, arith}
use Rattle.std.specs.Prelude.{Ok, codes, Option, Some, None}
use Rattle.std.specs.Str.{bytes_eq}
use Rattle.std.specs.List.{list_all}
use Rattle.leo_lex.specs.declared.mark.Mark.TheVariants as mark
use Rattle.leo_lex.specs.declared.token.Kind.{Kind}
use Rattle.leo_lex.specs.declared.token.Kind.TheVariants as kind
use Rattle.leo_lex.specs.Forms.{Each, IsToken, IsDigits}
use Rattle.leo_lex.specs.Bytes.{is_lower, is_word, is_digit}
use Rattle.leo_syntax.specs.declared.classes.Class.{Class}
use Rattle.leo_syntax.specs.declared.classes.Class.TheVariants as class
use Rattle.leo_syntax.specs.declared.classes.Bracket.{Bracket}
use Rattle.leo_syntax.specs.declared.classes.Shape.{Shape}
use Rattle.leo_syntax.specs.declared.classes.Guard.TheVariants as guard
use Rattle.leo_syntax.specs.declared.classes.Keyword.{Keyword}
use Rattle.leo_syntax.specs.declared.classes.Keyword.TheVariants as keyword
use Rattle.leo_syntax.specs.declared.classes.Says.TheVariants as says
use Rattle.leo_syntax.specs.declared.tree.TypeTree.{TypeTree}
use Rattle.leo_syntax.specs.declared.tree.Tree.{Tree}
use Rattle.leo_syntax.specs.declared.tree.Statement.{Statement}
use Rattle.leo_syntax.specs.declared.tree.Statement.TheVariants.{Formula, Typing, Include}
use Rattle.leo_syntax.specs.declared.typed.Typed.{Typed}
use Rattle.leo_syntax.specs.declared.writing.Place.TheVariants as place
use Rattle.leo_syntax.specs.Classes.{keyword_by, word_keyword}
use Rattle.leo_syntax.specs.Lexemes.{Ahead, said_by, content, are_digits, is_mark_kind, same_mark, name_of, atom_of, lower_of, quoted_of}
use Rattle.leo_syntax.specs.Grammar.{Begins, Says, Passes, sees, class_at, byte_of, AreNames, last_name, next_name, IsSelection, whole, no_names, some_names, is_type_role, Turns, Annotates, matched, plain_token, opens, closes, IsEnding, bare, with_annotations}
use Rattle.leo_syntax.specs.Reading as read
use Rattle.leo_syntax.specs.Reading.{Read, and_then, read_mark, read_said, read_guard, read_level, rest}
use Rattle.leo_syntax.specs.Texts.{word, type_written, written, further_names, names_written, selection_written, head_written, end_written, statement_written}
use Rattle.leo_syntax.specs.Bare.{bare_statement}
use Rattle.leo_syntax.proofs.Names.{names_next}
use Rattle.leo_syntax.proofs.Sound.{or_false, IfRead, then_read, then_skip, says_sound, mark_sound, opened_sound, selection_sound, ended_sound, ending_sound}
use Rattle.leo_syntax.proofs.Unique.{passed, says_atom, says_quoted, says_name, no_comma, closes_part, round_closes, name_kind}
use Rattle.leo_syntax.proofs.WrittenWords.{IsText, text_none, text_as, text_join, text_word, Joined, open_text, close_text, square_text, close_square_text, comma_text, dot_text, colon_text, IsAtom, IsName, IsQuotable, quotable, atom_text_is, name_text_is, lower_text_is, quoted_text_is}
use Rattle.leo_syntax.proofs.WrittenTypes.{AreGood, good_rest, good_says, good_passes, atom_good, gives_then, gives_mark, gives_said, gives_guard, bracket_guard, ReadsWhole, TypeOk, types_written_back}
use Rattle.leo_syntax.proofs.WrittenPlaces.{ReadsAt}
use Rattle.leo_syntax.proofs.WrittenFormulas.{FormulaOk, formula_ok_at}

-- ---- words

keyword_text : (k : Keyword) (text : List ℕ) → IsToken kind.Lower text → keyword_by kind.Lower text ≡ k → IsText (word text) (λ ls after. Begins k ls after)
keyword_text k text h e = text_as (text_word kind.Lower text h) (λ ls after n. record { token = n.token; ahead_is = n.ahead_is; word_is = rw (n.kind_is, n.text_is) e })

thf_text : IsText (word (codes "thf")) (λ ls after. Begins keyword.Thf ls after)
unfolding keyword_by word_keyword is_lower is_word
thf_text = keyword_text keyword.Thf (codes "thf") (refl, (refl, (refl, tt))) refl

include_text : IsText (word (codes "include")) (λ ls after. Begins keyword.Include ls after)
unfolding keyword_by word_keyword is_lower is_word
include_text = keyword_text keyword.Include (codes "include") (refl, (refl, (refl, (refl, (refl, (refl, (refl, tt))))))) refl

lower_good : (k : Kind) (text name : List ℕ) → said_by says.Lower k text ≡ Some name → IsToken k text → IsToken kind.Lower name
unfolding said_by
lower_good kind.Lower text name e h = (let same : text ≡ name = cc in subst (IsToken kind.Lower) same h)
lower_good _ text name e h = absurd cc

quoted_good : (k : Kind) (text name : List ℕ) → said_by says.Quoted k text ≡ Some name → IsToken k text → IsQuotable name
unfolding said_by
quoted_good kind.Quoted text name e h = (let same : content text ≡ name = cc in subst IsQuotable same (quotable text h))
quoted_good _ text name e h = absurd cc

or_bool : (b : Bool) → (b ≡ true) ⊎ (b ≡ false)
or_bool true = inl refl
or_bool false = inr refl

all_digits : (bs : List ℕ) → list_all is_digit bs ≡ true → Each is_digit bs
all_digits [] e = tt
all_digits (b ∷ bs) e = elim (or_bool (is_digit b)) [ inl t ↦ (t, all_digits bs (rw t at e)) | inr f ↦ absurd (let g : false ≡ true = rw f at e in cc) ]

no_digits : (digits tail : List ℕ) → IsDigits digits → [] ≡ digits ++ tail → ⊥
no_digits [] tail h e = h
no_digits (d ∷ ds) tail h e = cc

number_good : (text : List ℕ) → are_digits text ≡ true → IsToken kind.Number text → IsDigits text
unfolding are_digits
number_good [] e h = absurd (no_digits h.digits (h.part ++ h.exponent) h.are_digits h.text_is)
number_good (b ∷ bs) e h = elim (or_bool (is_digit b)) [ inl t ↦ (t, all_digits bs (rw t at e)) | inr f ↦ absurd (let g : false ≡ true = rw f at e in cc) ]

number_said : (text name : List ℕ) (b : Bool) → are_digits text ≡ b → cond b (Some text) None ≡ Some name → IsToken kind.Number text → IsDigits name
number_said text name true e k h = (let same : text ≡ name = cc in subst IsDigits same (number_good text e h))
number_said text name false e k h = absurd cc

name_good : (k : Kind) (text name : List ℕ) → said_by says.Name k text ≡ Some name → IsToken k text → IsName name
unfolding said_by
name_good kind.Lower text name e h = inr (inl (let same : text ≡ name = cc in subst (IsToken kind.Lower) same h))
name_good kind.Quoted text name e h = inr (inr (let same : content text ≡ name = cc in subst IsQuotable same (quotable text h)))
name_good kind.Number text name e h = inl (number_said text name (are_digits text) refl e h)
name_good _ text name e h = absurd cc

-- ---- names

abbrev AreAllNames : List (List ℕ) → Type 0
AreAllNames [] = Unit {0}
AreAllNames (n ∷ ns) = IsName n × AreAllNames ns

names_good : {ls after : Ahead} {names : List (List ℕ)} → AreNames ls names after → AreGood ls → AreAllNames names × AreGood after × ((n : List ℕ) × (ns : List (List ℕ)) × (names ≡ n ∷ ns))
names_good (last_name {name = n} h e) g = let s = good_says h g in ((name_good h.token.kind h.token.text n h.said s.0, tt), s.1, (n, [], refl))
names_good (next_name {name = n} {names = ns} h p k) g = let s = good_says h g in let r = names_good k (good_passes p s.1) in ((name_good h.token.kind h.token.text n h.said s.0, r.0), r.1, (n, ns, refl))

abbrev ReadsFurther : List (List ℕ) → Ahead → Ahead → Type 0
ReadsFurther names ls after = sees mark.Comma after ≡ false → (end : ℕ) (n : List ℕ) → cond (sees mark.Comma ls) (and_then (read.names end (rest ls)) (λ others after. Ok (n ∷ others, after))) (Ok (n ∷ [], ls)) ≡ Ok (n ∷ names, after)

record ReadsNames (names : List (List ℕ)) (ls after : Ahead) : Type 0 where
  front : sees mark.CloseSquare ls ≡ false
  reads : sees mark.Comma after ≡ false → (end : ℕ) → read.names end ls ≡ Ok (names, after)

name_front : {ls after : Ahead} {n : List ℕ} → Says name_of ls n after → sees mark.CloseSquare ls ≡ false
unfolding sees
name_front {n = n} h = rw h.ahead_is (name_kind h.token.kind h.token.text n h.said)

names_read : (n : List ℕ) (ns : List (List ℕ)) (ls after : Ahead) → Joined (λ ls after. Says name_of ls n after) (ReadsFurther ns) ls after → ReadsNames (n ∷ ns) ls after
names_read n ns ls after j = record {
  front = name_front j.front;
  reads = λ c end. rw (names_next end ls) (gives_then (read_said name_of end ls) _ (gives_said name_of end j.front) (j.back c end n));
}

further_read : (n : List ℕ) (ns : List (List ℕ)) (ls after : Ahead) → Joined (λ ls after. Passes mark.Comma ls after) (Joined (λ ls after. Says name_of ls n after) (ReadsFurther ns)) ls after → ReadsFurther (n ∷ ns) ls after
further_read n ns ls after j c end m = let p = passed j.front in rw (p.0, p.1) (gives_then (read.names end j.mid) _ ((names_read n ns j.mid after j.back).reads c end) refl)

no_further : (ls after : Ahead) → ls ≡ after → ReadsFurther [] ls after
no_further ls after e c end m = rw (e, c) refl

further_back : (names : List (List ℕ)) → AreAllNames names → IsText (further_names names) (ReadsFurther names)
further_back [] h = text_as text_none (λ ls after e. no_further ls after e)
further_back (n ∷ ns) h = text_as (text_join comma_text (text_join (name_text_is n h.0) (further_back ns h.1))) (λ ls after j. further_read n ns ls after j)

names_back : (n : List ℕ) (ns : List (List ℕ)) → AreAllNames (n ∷ ns) → IsText (names_written (n ∷ ns)) (ReadsNames (n ∷ ns))
names_back n ns h = text_as (text_join (name_text_is n h.0) (further_back ns h.1)) (λ ls after j. names_read n ns ls after j)

-- ---- selections

abbrev SelectionOk : Option (List (List ℕ)) → Type 0
SelectionOk None = Unit {0}
SelectionOk (Some names) = AreAllNames names

selection_good : {ls after : Ahead} {names : Option (List (List ℕ))} → IsSelection ls names after → AreGood ls → SelectionOk names × AreGood after
selection_good (whole e) g = (tt, g)
selection_good (no_names c p q) g = (tt, good_passes q (good_passes p (good_passes c g)))
selection_good (some_names c p h q) g = let r = names_good h (good_passes p (good_passes c g)) in (r.0, good_passes q r.1)

abbrev ReadsSelection : Option (List (List ℕ)) → Ahead → Ahead → Type 0
ReadsSelection names ls after = sees mark.Comma after ≡ false → (end : ℕ) → read.selection end ls ≡ Ok (names, after)

square_comma : {ls after : Ahead} → Passes mark.CloseSquare ls after → sees mark.Comma ls ≡ false
unfolding sees is_mark_kind same_mark
square_comma h = rw h.ahead_is (by h.token.kind h.is_that)
  where
    by : (k : Kind) → is_mark_kind mark.CloseSquare k ≡ true → is_mark_kind mark.Comma k ≡ false
    by (kind.Mark mark.CloseSquare) e = refl
    by (kind.Mark _) e = absurd cc
    by _ e = absurd cc

no_selection : (ls after : Ahead) → ls ≡ after → ReadsSelection None ls after
unfolding read.selection
no_selection ls after e c end = rw (e, c) refl

empty_selection : (ls after : Ahead) → Joined (λ ls after. Passes mark.Comma ls after) (Joined (λ ls after. Passes mark.OpenSquare ls after) (λ ls after. Passes mark.CloseSquare ls after)) ls after → ReadsSelection (Some []) ls after
unfolding read.selection read.selected
empty_selection ls after j c end = let p = passed j.front in let q = passed j.back.back in
    rw (p.0, p.1) (gives_then (read_mark mark.OpenSquare end j.mid) _ (gives_mark end j.back.front) (rw (q.0, q.1) refl))

some_selection : (names : List (List ℕ)) (ls after : Ahead) → Joined (λ ls after. Passes mark.Comma ls after) (Joined (λ ls after. Passes mark.OpenSquare ls after) (Joined (ReadsNames names) (λ ls after. Passes mark.CloseSquare ls after))) ls after → ReadsSelection (Some names) ls after
unfolding read.selection read.selected
some_selection names ls after j c end =
    let p = passed j.front in
    let l2 = j.back.mid in
    let l3 = j.back.back.mid in
    let r = j.back.back.front in
    rw (p.0, p.1) (gives_then (read_mark mark.OpenSquare end j.mid) _ (gives_mark end j.back.front) (rw r.front
    (gives_then (and_then (read.names end l2) (λ found l1. and_then (read_mark mark.CloseSquare end l1) (λ _ after. Ok (found, after)))) _
    (gives_then (read.names end l2) _ (r.reads (square_comma j.back.back.back) end) (gives_then (read_mark mark.CloseSquare end l3) _ (gives_mark end j.back.back.back) refl)) refl)))

selection_back : (names : Option (List (List ℕ))) → SelectionOk names → IsText (selection_written names) (ReadsSelection names)
selection_back None h = text_as text_none (λ ls after e. no_selection ls after e)
selection_back (Some []) h = text_as (text_join comma_text (text_join square_text close_square_text)) (λ ls after j. empty_selection ls after j)
selection_back (Some (n ∷ ns)) h = text_as (text_join comma_text (text_join square_text (text_join (names_back n ns h) close_square_text))) (λ ls after j. some_selection (n ∷ ns) ls after j)

-- ---- the end of a statement

record Ends (ls after : Ahead) : Type 0 where
  mid : Ahead
  front : Passes mark.CloseRound ls mid
  back : Passes mark.Dot mid after

end_back : IsText end_written Ends
end_back = text_as (text_join close_text dot_text) (λ ls after j. record { mid = j.mid; front = j.front; back = j.back })

ended_gives : (end : ℕ) {ls after : Ahead} → Ends ls after → read.ended end ls ≡ Ok (tt, after)
unfolding read.ended
ended_gives end {ls} j = gives_then (read_mark mark.CloseRound end ls) _ (gives_mark end j.front) (gives_mark end j.back)

ending_gives : (end : ℕ) {ls after : Ahead} → Ends ls after → read.ending end ls ≡ Ok (tt, after)
unfolding read.ending read.annotations
ending_gives end {ls} j = rw (no_comma j.front) (ended_gives end j)

ends_close : {ls after : Ahead} → Ends ls after → closes_part (class_at ls) ≡ true
ends_close j = round_closes j.front

ends_comma : {ls after : Ahead} → Ends ls after → sees mark.Comma ls ≡ false
ends_comma j = no_comma j.front

-- ---- statements

abbrev pub BackStatement : Read Statement → Statement → Ahead → Type 0
BackStatement r s after = (found : Statement) × (r ≡ Ok (found, after)) × (bare_statement found ≡ bare_statement s)

abbrev pub ReadsStatement : Statement → Ahead → Ahead → Type 0
ReadsStatement s ls after = (end : ℕ) → BackStatement (read.statement end ls) s after

abbrev pub IsStatementWritten : Statement → Type 0
IsStatementWritten s = IsText (statement_written s) (ReadsStatement s)

begins_thf : (end : ℕ) {ls after : Ahead} → Begins keyword.Thf ls after → read.statement end ls ≡ read.headed end (byte_of ls) after
unfolding read.statement read.keyword_at rest
begins_thf end h = rw (h.ahead_is, h.word_is) refl

begins_include : (end : ℕ) {ls after : Ahead} → Begins keyword.Include ls after → read.statement end ls ≡ read.included end (byte_of ls) after
unfolding read.statement read.keyword_at rest
begins_include end h = rw (h.ahead_is, h.word_is) refl

-- includes

include_reads : (byte file_byte : ℕ) (file : List ℕ) (names : Option (List (List ℕ))) (ls after : Ahead)
    → Joined (λ ls after. Begins keyword.Include ls after) (Joined (λ ls after. Passes mark.OpenRound ls after) (Joined (λ ls after. Says quoted_of ls file after) (Joined (ReadsSelection names) Ends))) ls after → ReadsStatement (Include byte file file_byte names) ls after
unfolding read.included
include_reads byte file_byte file names ls after j end =
    let l2 = j.back.mid in
    let l3 = j.back.back.mid in
    let l4 = j.back.back.back.mid in (
      Include (byte_of ls) file (byte_of l2) names,
      rw (begins_include end j.front)
          (gives_then (read_mark mark.OpenRound end j.mid) _ (gives_mark end j.back.front)
          (gives_then (read_guard guard.BehindBracket end l2) _ (gives_guard guard.BehindBracket end l2 (bracket_guard (class_at l2) (rw (says_quoted j.back.back.front) refl)))
          (gives_then (read_said quoted_of end l2) _ (gives_said quoted_of end j.back.back.front)
          (gives_then (read.selection end l3) _ (j.back.back.back.front (ends_comma j.back.back.back.back) end)
          (gives_then (read.ended end l4) _ (ended_gives end j.back.back.back.back) refl))))),
      refl,
    )

include_back : (byte file_byte : ℕ) (file : List ℕ) (names : Option (List (List ℕ))) → IsQuotable file → SelectionOk names → IsStatementWritten (Include byte file file_byte names)
include_back byte file_byte file names h k = text_as (text_join include_text (text_join open_text (text_join (quoted_text_is file h) (text_join (selection_back names k) end_back)))) (λ ls after j. include_reads byte file_byte file names ls after j)

-- heads

abbrev Head : List ℕ → List ℕ → Ahead → Ahead → Type 0
Head name role = Joined (λ ls after. Begins keyword.Thf ls after) (Joined (λ ls after. Passes mark.OpenRound ls after) (Joined (λ ls after. Says name_of ls name after) (Joined (λ ls after. Passes mark.Comma ls after) (Joined (λ ls after. Says lower_of ls role after) (λ ls after. Passes mark.Comma ls after)))))

head_back : (name role : List ℕ) → IsName name → IsToken kind.Lower role → IsText (head_written name role) (Head name role)
head_back name role h k = text_join thf_text (text_join open_text (text_join (name_text_is name h) (text_join comma_text (text_join (lower_text_is role k) comma_text))))

head_gives : (name role : List ℕ) (end : ℕ) (ls mid : Ahead) → Head name role ls mid → (byte role_byte : ℕ) × (read.statement end ls ≡ read.stated end byte name role role_byte mid)
unfolding read.headed
head_gives name role end ls mid j =
    let l2 = j.back.mid in
    let l3 = j.back.back.mid in
    let l4 = j.back.back.back.mid in
    let l5 = j.back.back.back.back.mid in (
      byte_of ls,
      byte_of l4,
      begins_thf end j.front ∙
          gives_then (read_mark mark.OpenRound end j.mid) _ (gives_mark end j.back.front)
          (gives_then (read_guard guard.BehindBracket end l2) _ (gives_guard guard.BehindBracket end l2 (bracket_guard (class_at l2) (says_name j.back.back.front)))
          (gives_then (read_said name_of end l2) _ (gives_said name_of end j.back.back.front)
          (gives_then (read_mark mark.Comma end l3) _ (gives_mark end j.back.back.back.front)
          (gives_then (read_said lower_of end l4) _ (gives_said lower_of end j.back.back.back.back.front)
          (gives_then (read_mark mark.Comma end l5) _ (gives_mark end j.back.back.back.back.back) refl))))),
    )

-- formulas

formula_reads : (byte role_byte : ℕ) (name role : List ℕ) (tree : Tree) (ls after : Ahead) → bytes_eq role (codes "type") ≡ false
    → Joined (Head name role) (Joined (ReadsAt place.Formula 501 tree) Ends) ls after → ReadsStatement (Formula byte name role role_byte tree) ls after
unfolding read.stated read.formula_statement
formula_reads byte role_byte name role tree ls after e j end =
    let h = head_gives name role end ls j.mid j.front in
    let b = j.back.front (ends_close j.back.back) end in (
      Formula h.0 name role h.1 b.0,
      h.2 ∙ rw e (gives_then (read.formula end 501 j.mid) _ b.1 (gives_then (read.ending end j.back.mid) _ (ending_gives end j.back.back) refl)),
      rw b.2 refl,
    )

formula_back : (byte role_byte : ℕ) (name role : List ℕ) (tree : Tree) → IsName name → IsToken kind.Lower role → bytes_eq role (codes "type") ≡ false → IsText (written place.Formula tree) (ReadsAt place.Formula 501 tree) → IsStatementWritten (Formula byte name role role_byte tree)
formula_back byte role_byte name role tree h k e w = text_as (text_join (head_back name role h k) (text_join w end_back)) (λ ls after j. formula_reads byte role_byte name role tree ls after e j)

-- typings

typing_reads : (byte atom_byte : ℕ) (name atom : List ℕ) (ty : TypeTree) (ls after : Ahead)
    → Joined (Head name (codes "type")) (Joined (λ ls after. Says atom_of ls atom after) (Joined (λ ls after. Passes mark.Colon ls after) (Joined (ReadsWhole 501 ty) Ends))) ls after → ReadsStatement (Typing byte name atom atom_byte ty) ls after
unfolding read.stated read.typing_statement read.typing read.typed
typing_reads byte atom_byte name atom ty ls after j end =
    let h = head_gives name (codes "type") end ls j.mid j.front in
    let l2 = j.back.mid in
    let l3 = j.back.back.mid in
    let l4 = j.back.back.back.mid in
    let b = j.back.back.back.front (ends_close j.back.back.back.back) end in (
      Typing h.0 name atom (byte_of j.mid) b.0,
      h.2 ∙ rw (says_atom j.back.front) (gives_then (read.typed end 501 j.mid) _
          (gives_then (read_said atom_of end j.mid) _ (gives_said atom_of end j.back.front) (gives_then (read_mark mark.Colon end l2) _ (gives_mark end j.back.back.front) (gives_then (read.ty end 501 l3) _ b.1 refl)))
          (gives_then (read.ending end l4) _ (ending_gives end j.back.back.back.back) refl)),
      rw b.2 refl,
    )

type_lower : IsToken kind.Lower (codes "type")
unfolding is_lower is_word
type_lower = (refl, (refl, (refl, (refl, tt))))

typing_back : (byte atom_byte : ℕ) (name atom : List ℕ) (ty : TypeTree) → IsName name → IsAtom atom → IsText (type_written true ty) (ReadsWhole 501 ty) → IsStatementWritten (Typing byte name atom atom_byte ty)
typing_back byte atom_byte name atom ty h k w = text_as (text_join (head_back name (codes "type") h type_lower) (text_join (atom_text_is atom k) (text_join colon_text (text_join w end_back)))) (λ ls after j. typing_reads byte atom_byte name atom ty ls after j)

-- ---- the statements that are read

record TypedOk (left : ℕ) (t : Typed) (after : Ahead) : Type 0 where
  atom_is : IsAtom t.atom
  ty_is : (m : ℕ) → left ≤ m → IsText (type_written true t.ty) (ReadsWhole m t.ty)
  good : AreGood after

typed_ok : (end left : ℕ) (ls : Ahead) → AreGood ls → IfRead (read.typed end left ls) (TypedOk left)
unfolding read.typed
typed_ok end left ls g =
    then_read (read_said atom_of end ls) _ (λ name after. Says atom_of ls name after) (TypedOk left) (says_sound atom_of end ls) (λ name l1 h.
    let s = good_says h g in
    then_read (read_mark mark.Colon end l1) _ (λ _ after. Passes mark.Colon l1 after) (TypedOk left) (mark_sound mark.Colon end l1) (λ _ l2 m.
    then_read (read.ty end left l2) _ (TypeOk left) (TypedOk left) (types_written_back end left l2 (good_passes m s.1)) (λ t after k.
    record { atom_is = atom_good h.token.kind h.token.text name h.said s.0; ty_is = k.0.as_whole; good = k.1 })))

typing_by : (end left : ℕ) → ((ls : Ahead) → AreGood ls → IfRead (read.typing end left ls) (TypedOk left)) → (ls : Ahead) → AreGood ls → (c : Class) → IfRead (read.typing_by c end left (read.typing end left) ls) (TypedOk (suc left))
typing_by end left known ls g class.Open = opened_sound end left (read.typing end left) (rest ls) (TypedOk left) (TypedOk (suc left)) (known (rest ls) (good_rest ls g)) (λ t l1 after h m. record { atom_is = h.atom_is; ty_is = λ n o. h.ty_is n (omega (arith, o)); good = good_passes m h.good })
typing_by end left known ls g _ = typed_ok end (suc left) ls g

typing_ok : (end left : ℕ) (ls : Ahead) → AreGood ls → IfRead (read.typing end left ls) (TypedOk left)
unfolding read.typing
typing_ok end zero ls g = tt
typing_ok end (suc left) ls g = typing_by end left (typing_ok end left) ls g (class_at ls)

pub record StatementOk (s : Statement) (after : Ahead) : Type 0 where
  pub is_written : IsStatementWritten s
  pub good : AreGood after

ending_good : {ls after : Ahead} → IsEnding ls after → AreGood ls → AreGood after
ending_good (bare p q) g = good_passes q (good_passes p g)
ending_good (with_annotations c e a p q) g = good_passes q (good_passes p (annotated_good a (good_passes c g)))
  where
    turned_good : {b : Bracket} {ls after : Ahead} → Turns b ls after → AreGood ls → AreGood after
    turned_good h g = (let k = rw h.ahead_is at g in k.1)

    annotated_good : {due : List Shape} {ls after : Ahead} → Annotates due ls after → AreGood ls → AreGood after
    annotated_good (matched e) g = g
    annotated_good (plain_token t h) g = annotated_good h (turned_good t g)
    annotated_good (opens t h) g = annotated_good h (turned_good t g)
    annotated_good (closes t h) g = annotated_good h (turned_good t g)

stated_ok : (end byte : ℕ) (name role : List ℕ) (role_byte : ℕ) (l1 : Ahead) → IsName name → IsToken kind.Lower role → AreGood l1 → IfRead (read.stated end byte name role role_byte l1) StatementOk
unfolding read.stated read.typing_statement read.formula_statement
stated_ok end byte name role role_byte l1 h k g = elim (or_false (is_type_role role)) [
  | inl t ↦ rw t (then_read (read.typing end 501 l1) _ (TypedOk 501) StatementOk (typing_ok end 501 l1 g) (λ found l2 w.
      then_read (read.ending end l2) _ (λ _ after. IsEnding l2 after) StatementOk (ending_sound end l2) (λ _ after m.
      record { is_written = typing_back byte found.atom_byte name found.atom found.ty h w.atom_is (w.ty_is 501 (omega arith)); good = ending_good m w.good })))
  | inr f ↦ rw f (then_read (read.formula end 501 l1) _ (FormulaOk 501) StatementOk (formula_ok_at end 501 l1 g) (λ tree l2 w.
      then_read (read.ending end l2) _ (λ _ after. IsEnding l2 after) StatementOk (ending_sound end l2) (λ _ after m.
      record { is_written = formula_back byte role_byte name role tree h k f (w.is_written.at place.Formula tt 501 (omega arith)); good = ending_good m w.good })))
]

headed_ok : (end byte : ℕ) (l1 : Ahead) → AreGood l1 → IfRead (read.headed end byte l1) StatementOk
unfolding read.headed
headed_ok end byte l1 g =
    then_read (read_mark mark.OpenRound end l1) _ (λ _ after. Passes mark.OpenRound l1 after) StatementOk (mark_sound mark.OpenRound end l1) (λ _ l2 m2.
    then_skip (read_guard guard.BehindBracket end l2) _ StatementOk (
    then_read (read_said name_of end l2) _ (λ name after. Says name_of l2 name after) StatementOk (says_sound name_of end l2) (λ name l3 h3.
    let s3 = good_says h3 (good_passes m2 g) in
    then_read (read_mark mark.Comma end l3) _ (λ _ after. Passes mark.Comma l3 after) StatementOk (mark_sound mark.Comma end l3) (λ _ l4 m4.
    then_read (read_said lower_of end l4) _ (λ role after. Says lower_of l4 role after) StatementOk (says_sound lower_of end l4) (λ role l5 h5.
    let s5 = good_says h5 (good_passes m4 s3.1) in
    then_read (read_mark mark.Comma end l5) _ (λ _ after. Passes mark.Comma l5 after) StatementOk (mark_sound mark.Comma end l5) (λ _ l6 m6.
    stated_ok end byte name role (byte_of l4) l6 (name_good h3.token.kind h3.token.text name h3.said s3.0) (lower_good h5.token.kind h5.token.text role h5.said s5.0) (good_passes m6 s5.1)))))))

included_ok : (end byte : ℕ) (l1 : Ahead) → AreGood l1 → IfRead (read.included end byte l1) StatementOk
unfolding read.included
included_ok end byte l1 g =
    then_read (read_mark mark.OpenRound end l1) _ (λ _ after. Passes mark.OpenRound l1 after) StatementOk (mark_sound mark.OpenRound end l1) (λ _ l2 m2.
    then_skip (read_guard guard.BehindBracket end l2) _ StatementOk (
    then_read (read_said quoted_of end l2) _ (λ file after. Says quoted_of l2 file after) StatementOk (says_sound quoted_of end l2) (λ file l3 h3.
    let s3 = good_says h3 (good_passes m2 g) in
    then_read (read.selection end l3) _ (IsSelection l3) StatementOk (selection_sound end l3) (λ names l4 h4.
    let s4 = selection_good h4 s3.1 in
    then_read (read.ended end l4) _ (λ _ after. (l5 : Ahead) × Passes mark.CloseRound l4 l5 × Passes mark.Dot l5 after) StatementOk (ended_sound end l4) (λ _ after k.
    record { is_written = include_back byte (byte_of l2) file names (quoted_good h3.token.kind h3.token.text file h3.said s3.0) s4.0; good = good_passes k.2 (good_passes k.1 s4.1) })))))

statement_by : (end : ℕ) (ls : Ahead) → AreGood ls → (k : Keyword) → IfRead (read.statement_by k end ls) StatementOk
statement_by end ls g keyword.Thf = headed_ok end (byte_of ls) (rest ls) (good_rest ls g)
statement_by end ls g keyword.Include = included_ok end (byte_of ls) (rest ls) (good_rest ls g)
statement_by end ls g keyword.Other = tt

-- a statement that is read is written so that it is read back
pub statement_ok : (end : ℕ) (ls : Ahead) → AreGood ls → IfRead (read.statement end ls) StatementOk
unfolding read.statement
statement_ok end ls g = statement_by end ls g (read.keyword_at ls)
