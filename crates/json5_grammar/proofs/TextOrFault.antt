-- What begins as a string or a name does begins with a whole one, or has a fault of one.
use Rattle.std.proofs.Common.{◌≡◌, ℕ, Bool, true, ◌||◌, List, ◌∷◌, ◌++◌, ap, ◌∙◌, ◌⊎◌, inl, inr}
use Rattle.std.specs.Prelude.{◌==◌}
use Rattle.json5_grammar.specs.Language.Characters.{is_identifier_start}
use Rattle.json5_grammar.specs.Language.Strings.{is_quote}
use Rattle.json5_grammar.specs.Faults.Blames.{StringBlame, NameBlame, HasString, HasName, IsBlamed}
use Rattle.json5_grammar.specs.Model.Reading.{Read, got, bad}
use Rattle.json5_grammar.specs.Model.ReadTexts.{string, identifier}
use Rattle.json5_grammar.proofs.StringsSound.{StringSound, string_sound}
use Rattle.json5_grammar.proofs.NamesSound.{NameSound, name_sound}

abbrev StringJudged : List ℕ → Type 0
StringJudged x = HasString x ⊎ IsBlamed StringBlame x

by_string : (x : List ℕ) (res : Read (List ℕ × Bool)) → StringSound x res → StringJudged x
by_string x (got a r) (s, e, k) = inl (s, a.0, a.1, r, e, k)
by_string x (bad c p) b = inr (record { code = c; place = b.place; before = b.before; part = b.part; shown = b.shown }, b.fault)

pub string_judged : (q : ℕ) (y : List ℕ) → is_quote q ≡ true → StringJudged (q ∷ y)
string_judged q y k = by_string (q ∷ y) (string (q ∷ y)) (string_sound q y k)

abbrev NameJudged : List ℕ → Type 0
NameJudged x = HasName x ⊎ IsBlamed NameBlame x

by_name : (x : List ℕ) (res : Read (List ℕ × Bool)) → NameSound x res → NameJudged x
by_name x (got a r) (s, e, k, (d, z, f, g)) = inl (s, a.0, a.1, d, z, e ∙ ap (λ y. s ++ y) f, k, g)
by_name x (bad c p) b = inr (record { code = c; place = b.place; before = b.before; part = b.part; shown = b.shown }, b.fault)

pub name_judged : (c : ℕ) (y : List ℕ) → ((c == 92) || is_identifier_start c) ≡ true → NameJudged (c ∷ y)
name_judged c y k = by_name (c ∷ y) (identifier (c ∷ y)) (name_sound c y k)
