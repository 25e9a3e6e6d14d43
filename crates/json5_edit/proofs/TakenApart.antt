-- What goes with an entry, taken apart.
use Rattle.std.proofs.Common.{◌≡◌, ℕ, ◌-◌, List, [], ◌++◌, length, refl, ap, sym, ◌∙◌, subst, inl, take, drop, arith}
use Rattle.std.specs.Str.{chars, IsUtf8, all_scalars, encode_utf8_all}
use Rattle.std.proofs.lemmas.Str.{chars-encodes, scalars-chars}
use Rattle.std.proofs.Math.Seq.{drop-append_seam, take-append_seam}
use Rattle.json5_edit_style.specs.Comments.{IsLead, IsTrail, CommentLines}
use Rattle.json5_grammar.specs.Language.Blanks.{Gap, Solid}
use Rattle.json5_grammar.specs.Language.Characters.{no_char}
use Rattle.json5_tokens.specs.Outcome.{bytes_in}
use Rattle.json5_walk.proofs.Calls.{bytes_joined}
use Rattle.json5_walk.proofs.Rests.{append_nil}
use Rattle.json5_edit.specs.Pieces.{GoesWith, IsEntryText, IsWithComments, MayGo}
use Rattle.json5_edit.specs.declared.belongings.Lead.{Lead}
use Rattle.json5_edit.specs.declared.belongings.Lead.TheVariants as leads
use Rattle.json5_edit.specs.Spots.{BeginsWithEntry}
use Rattle.json5_edit.proofs.PiecesJoined.{no_characters}
use Rattle.json5_edit.proofs.Placed.{scalars_left, scalars_right, bytes_cut}
use Rattle.json5_edit.proofs.PlainlyEdited.{no_part}

-- ---- a text in two parts

front_there : (bytes x y part : List ℕ) (n : ℕ) → IsUtf8 bytes → chars bytes ≡ x ++ y → n ≡ bytes_in x → part ≡ take n bytes → part ≡ encode_utf8_all x
front_there bytes x y part n u e size is = is ∙ ap (λ z. take z bytes) size ∙ ap (take (bytes_in x)) (bytes_cut bytes x y u e) ∙ take-append_seam (encode_utf8_all x) (encode_utf8_all y)

front_spelled : (bytes x y part : List ℕ) (n : ℕ) → IsUtf8 bytes → chars bytes ≡ x ++ y → n ≡ bytes_in x → part ≡ take n bytes → chars part ≡ x
front_spelled bytes x y part n u e size is = ap chars (front_there bytes x y part n u e size is) ∙ chars-encodes x (scalars_left x y (ap all_scalars (sym e) ∙ scalars-chars bytes u))

back_spelled : (bytes x y part rest : List ℕ) (n : ℕ) → IsUtf8 bytes → chars bytes ≡ x ++ y → n ≡ bytes_in x → part ≡ take n bytes → bytes ≡ part ++ rest → chars rest ≡ y
back_spelled bytes x y part rest n u e size is cut =
    let there : rest ≡ encode_utf8_all y =
    sym (drop-append_seam part rest) ∙ ap (drop (length part)) (sym cut ∙ bytes_cut bytes x y u e) ∙ ap (λ z. drop (length z) (encode_utf8_all x ++ encode_utf8_all y)) (front_there bytes x y part n u e size is)
    ∙ drop-append_seam (encode_utf8_all x) (encode_utf8_all y) in
    ap chars there ∙ chars-encodes y (scalars_right x y (ap all_scalars (sym e) ∙ scalars-chars bytes u))

-- ---- an entry and what is around it

-- what follows blanks
pub solid_there : (bytes w y part rest : List ℕ) (n : ℕ) → IsUtf8 bytes → chars bytes ≡ w ++ y → n ≡ bytes_in (w ++ y) - bytes_in y → Solid y → bytes ≡ part ++ rest → part ≡ take n bytes → Solid (chars rest)
solid_there bytes w y part rest n u e size solid cut is =
    let j = bytes_joined w y in
    subst Solid (sym (back_spelled bytes w y part rest n u e (omega (arith, size, j)) is cut)) solid

pub gap_there : (bytes w y part rest : List ℕ) (n : ℕ) → IsUtf8 bytes → chars bytes ≡ w ++ y → n ≡ bytes_in (w ++ y) - bytes_in y → Gap w y → bytes ≡ part ++ rest → part ≡ take n bytes → Gap (chars part) (chars rest)
gap_there bytes w y part rest n u e size gap cut is =
    let j = bytes_joined w y in
    let at : n ≡ bytes_in w = omega (arith, size, j) in
    subst (λ z. Gap z (chars rest)) (sym (front_spelled bytes w y part n u e at is)) (subst (Gap w) (sym (back_spelled bytes w y part rest n u e at is cut)) gap)

pub entry_there : (bytes part : List ℕ) (n : ℕ) → IsUtf8 bytes → BeginsWithEntry (chars bytes) n → part ≡ take n bytes → IsEntryText (chars part)
entry_there bytes part n u (x, y, e, size, entry) is = subst IsEntryText (sym (front_spelled bytes x y part n u e size is)) entry

pub belongs : (l : Lead) (before gone after lead rest entry trail : List ℕ) → gone ≡ lead ++ rest → rest ≡ entry ++ trail → IsLead (chars before) (chars lead) → IsEntryText (chars entry) → IsTrail (chars after) (chars trail) → MayGo l lead → GoesWith l before gone after
belongs l before gone after lead rest entry trail e f is_lead is_entry is_trail may_go = (
  record {
    lead = lead;
    entry = entry;
    trail = trail;
    split = e ∙ ap (λ z. lead ++ z) f;
    is_lead = is_lead;
    is_entry = is_entry;
    is_trail = is_trail;
  },
  may_go,
)

-- an entry alone
pub alone : (before entry after : List ℕ) → IsEntryText (chars entry) → IsWithComments before entry after
alone before entry after is_entry = record {
  lead = [];
  entry = entry;
  trail = [];
  split = sym (append_nil entry);
  is_lead = subst (IsLead (chars before)) (sym no_characters) (record { blanks = []; comments = []; split = refl; is_blank = no_char; own = inl CommentLines.entry });
  is_entry = is_entry;
  is_trail = inl (rw no_characters no_char);
}

-- and so it may go where the comments before it stay
pub alone_goes : (before entry after : List ℕ) → IsEntryText (chars entry) → GoesWith leads.Stays before entry after
unfolding alone
alone_goes before entry after is_entry = (alone before entry after is_entry, no_part)
