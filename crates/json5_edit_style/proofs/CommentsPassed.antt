-- Blanks and comments that were passed over.
use Rattle.std.proofs.lemmas.Bool.{eqb-true}
use Rattle.std.proofs.lemmas.Str.{chars-nil}
use Rattle.std.proofs.Common.{◌≡◌, ◌&&◌, ◌||◌, ℕ, suc, Bool, true, false, List, [], ◌∷◌, ◌++◌, length, refl, ap, sym, ◌∙◌, append_assoc, subst, Some, None, arith, append-nil, ◌+◌}
use denote.Ref.{Bor}
use Rattle.std.specs.Prelude.{◌==◌, ◌≢◌, Option, is_some, slice_get}
use Rattle.std.specs.Str.{chars}
use Rattle.json5_grammar.specs.Language.Characters.{is_blank, is_terminator, NotBegun, Each, no_char, char}
use Rattle.json5_tokens.specs.Cursor.{Cursor, Took}
use Rattle.json5_tokens.specs.Scan.{IsFront}
use Rattle.json5_lexemes.specs.Lexemes.{is_line_blank}
use Rattle.json5_lexemes.specs.Pieces.{IsPiece, TakesLineEnd}
use Rattle.json5_lexemes.specs.SameLexemes.{is_line_part}
use Rattle.json5_lexemes.specs.declared.pieces.Piece.{Piece}
use Rattle.json5_lexemes.specs.declared.pieces.Piece.TheVariants as piece
use Rattle.json5_lexemes.proofs.DocumentLexemes.{terminator_blank}
use Rattle.json5_edit_style.specs.Comments.{LineEnd, CommentLines, BeginsLine, EndsLine, CommentsAfter, is_closing}
use Rattle.json5_edit_style.specs.Passing.{BeginsOn}

-- ---- characters

pub each_one : {p : ℕ → Bool} (x : List ℕ) (c : ℕ) → Each p x → p c ≡ true → Each p (x ++ c ∷ [])
each_one [] c e h = char h no_char
each_one (d ∷ x) c (char g e) h = char g (each_one x c e h)

pub took_shorter : {a b : Cursor} {c : ℕ} → Took a (c ∷ []) b → length b.unread + 1 ≡ length a.unread
took_shorter p = let e = ap length p.split in omega (arith, e)

-- ---- where a line begins

both : (a b : Bool) → (a && b) ≡ true → (a ≡ true) × (b ≡ true)
both true b e = (refl, e)
both false b e = absurd (cc)

line_blank : (c : ℕ) → is_blank c ≡ true → is_terminator c ≡ false → is_line_blank c ≡ true
line_blank c b t = rw (b, t) refl

begins_by : (a : Bool) (text : List ℕ) (c : ℕ) (begins : Bool) → is_terminator c ≡ a → (a || (begins && is_blank c)) ≡ true → (begins ≡ true → BeginsLine text) → BeginsLine (text ++ c ∷ [])
begins_by true text c begins t h k = record { front = text; end = c; blanks = []; split = refl; is_end = t; is_blank = no_char }
begins_by false text c begins t h k =
    let (b, blank) = both begins (is_blank c) h in
    let l = k b in
    record { front = l.front; end = l.end; blanks = l.blanks ++ c ∷ []; split = ap (λ z. z ++ c ∷ []) l.split ∙ append_assoc l.front (l.end ∷ l.blanks) (c ∷ []); is_end = l.is_end; is_blank = each_one l.blanks c l.is_blank (line_blank c blank t) }

-- one character further
pub begins_on : (text : List ℕ) (c : ℕ) (begins now : Bool) → now ≡ (is_terminator c || (begins && is_blank c)) → (begins ≡ true → BeginsLine text) → now ≡ true → BeginsLine (text ++ c ∷ [])
begins_on text c begins now e k h = begins_by (is_terminator c) text c begins refl (sym e ∙ h) k

-- an empty text
pub none_there : (s : List ℕ) (none : Bool) → none ≡ (length s == 0) → none ≡ true → chars s ≡ []
none_there [] none is h = chars-nil
none_there (c ∷ s) none is h = let e : suc (length s) ≡ 0 = eqb-true (suc (length s)) 0 (sym is ∙ h) in absurd (omega (arith, e))

pub nothing_left : (x : List ℕ) → slice_get x 0 ≡ None → x ≡ []
nothing_left [] e = refl
nothing_left (c ∷ x) e = absurd (cc)

pub blanks_start : (begins : Bool) (x : List ℕ) → BeginsOn begins x x begins
blanks_start begins x = record { blanks = []; split = refl; is_blank = no_char; begun = λ h before k. subst BeginsLine (sym (append-nil before)) (k h) }

pub blanks_on : {begins : Bool} {x y z : List ℕ} (c : ℕ) (now later : Bool) → is_blank c ≡ true → later ≡ (is_terminator c || (now && is_blank c)) → BeginsOn begins x y now → y ≡ c ∷ z → BeginsOn begins x z later
blanks_on {z = z} c now later blank e p next = record {
  blanks = p.blanks ++ c ∷ [];
  split = p.split ∙ ap (λ y. p.blanks ++ y) next ∙ sym (append_assoc p.blanks (c ∷ []) z);
  is_blank = each_one p.blanks c p.is_blank blank;
  begun = λ h before k. subst BeginsLine (append_assoc before p.blanks (c ∷ [])) (begins_on (before ++ p.blanks) c now later e (λ n. p.begun n before k) h);
}

-- ---- lines of comments

-- the lines go on from here, and so from there
abbrev pub LinesOn : Bool → Bool → List ℕ → List ℕ → Type 0
LinesOn has one rest text = (b : Bool) → (b ≡ true → one ≡ true) → CommentLines b has rest → CommentLines b false text

pub blank_after : (has : Bool) (one : Bool) (x r : List ℕ) → IsPiece piece.Blank x r → CommentLines one has r → CommentLines one has x
blank_after has one x r (IsPiece.blank k) l = CommentLines.blank k l

line_ends : (one : Bool) {x r : List ℕ} → one ≡ false → TakesLineEnd x r → CommentLines one false r → CommentLines one true x
line_ends one e (TakesLineEnd.terminator t n) l = CommentLines.line_end e (LineEnd.terminator t) l
line_ends one e TakesLineEnd.cr_lf l = CommentLines.line_end e LineEnd.cr_lf l

pub end_after : (one : Bool) (x r : List ℕ) → one ≡ false → IsPiece piece.LineEnd x r → CommentLines one false r → CommentLines one true x
end_after one x r e (IsPiece.line_end k) l = line_ends one e k l

pub line_after : (has one : Bool) (x r : List ℕ) → IsPiece piece.Line x r → CommentLines one true r → CommentLines one has x
line_after has one x r (IsPiece.line e n) l = CommentLines.line e n l

pub block_after : (has one : Bool) (x r : List ℕ) → IsPiece piece.Block x r → CommentLines one true r → CommentLines one has x
block_after has one x r (IsPiece.block i) l = CommentLines.block i l

-- ---- after an entry

pub blanks_before : {a b : Cursor} (c : ℕ) → is_blank c ≡ true → Took a (c ∷ []) b → Each is_blank b.unread → Each is_blank a.unread
blanks_before c h p e = subst (Each is_blank) (sym p.split) (char h e)

pub after_piece : (p : Piece) (x r back : List ℕ) → (p ≢ piece.LineEnd) × (p ≡ piece.Line → NotBegun is_line_part r → NotBegun is_line_part (r ++ back)) → IsPiece p x r → CommentsAfter back r → CommentsAfter back x
after_piece piece.Blank x r back k (IsPiece.blank b) l = CommentsAfter.blank b l
after_piece piece.LineEnd x r back k (IsPiece.line_end e) l = absurd (k.0 refl)
after_piece piece.Line x r back k (IsPiece.line e n) l = CommentsAfter.line e (k.1 refl n) l
after_piece piece.Block x r back k (IsPiece.block i) l = CommentsAfter.block i l

last_line : {x r back : List ℕ} → TakesLineEnd x r → Each is_blank r → CommentsAfter back x
last_line (TakesLineEnd.terminator {c = c} t n) k = CommentsAfter.last (char (terminator_blank c t) k) (EndsLine.line_end t)
last_line TakesLineEnd.cr_lf k = CommentsAfter.last (char (terminator_blank 13 refl) (char (terminator_blank 10 refl) k)) (EndsLine.line_end refl)

-- what isn't begun by a text isn't by what begins with it
pub not_begun_on : (p : ℕ → Bool) (text back : List ℕ) (first : Option (ℕ × Bor (List ℕ))) → IsFront text first → is_some first ≡ true → NotBegun p (chars text) → NotBegun p (chars text ++ back)
not_begun_on p text back None starts some n = absurd (cc)
not_begun_on p text back (Some (c, rest)) starts some n =
    let h : NotBegun p (c ∷ chars rest.now) = subst (NotBegun p) starts.chars n in
    subst (λ x. NotBegun p (x ++ back)) (sym starts.chars) h

-- blanks alone come after the end of the entry's line
pub last_blanks : (x r back : List ℕ) → IsPiece piece.LineEnd x r → Each is_blank r → CommentsAfter back x
last_blanks x r back (IsPiece.line_end t) k = last_line t k

pub ends_before : {a b : Cursor} (c : ℕ) → is_blank c ≡ true → is_terminator c ≡ false → Took a (c ∷ []) b → EndsLine b.unread → EndsLine a.unread
ends_before c h t p e = subst EndsLine (sym p.split) (EndsLine.blank (line_blank c h t) e)

pub ends_at : (x : List ℕ) (c : ℕ) → slice_get x 0 ≡ Some c → is_terminator c ≡ true → EndsLine x
ends_at [] c e t = absurd (cc)
ends_at (d ∷ x) c e t = let same : d ≡ c = cc in EndsLine.line_end (rw same t)

pub closes_at : (x : List ℕ) (c : ℕ) → slice_get x 0 ≡ Some c → is_closing c ≡ true → EndsLine x
closes_at [] c e t = absurd (cc)
closes_at (d ∷ x) c e t = let same : d ≡ c = cc in EndsLine.bracket (rw same t)
