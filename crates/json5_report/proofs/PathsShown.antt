-- A path that is put together step by step.
use Rattle.std.proofs.Common.{◌≡◌, ℕ, Bool, true, false, List, [], ◌∷◌, ◌++◌, ◌&&◌, IsUtf8, refl, ap, sym, ◌∙◌}
use Rattle.std.specs.List.{list_all}
use Rattle.std.specs.Str.{chars}
use Rattle.std.specs.Char.{encode_utf8}
use Rattle.std.proofs.lemmas.Str.{chars_past_char}
use Rattle.json5_grammar.specs.Language.Characters.{is_identifier_start, is_identifier_part}
use Rattle.json5_grammar.specs.Written.Quoting.{is_name}
use Rattle.json5_report.specs.declared.course.Open.{Open}
use Rattle.json5_report.specs.Paths.{Crumb, crumb_text, path_text}
use Rattle.json5_report.specs.Courses.{crumb_of, crumbs_onto}

-- the path after these brackets, the outermost first
abbrev pub path_onto : List ℕ → List Open → List ℕ
path_onto path [] = path
path_onto path (c ∷ cs) = path_onto (path ++ crumb_text path (crumb_of c)) cs

pub path_shown : (o : List Crumb) (cs : List Open) → path_onto (path_text o) cs ≡ path_text (crumbs_onto o cs)
path_shown o [] = refl
path_shown o (c ∷ cs) = path_shown (crumb_of c ∷ o) cs

-- ---- names

pub parts_next : (text rest : List ℕ) (c : ℕ) (b : Bool) → IsUtf8 text → text ≡ encode_utf8 c ++ rest → b ≡ is_identifier_part c → b ≡ true → list_all is_identifier_part (chars text) ≡ list_all is_identifier_part (chars rest)
parts_next text rest c b u e is held =
    let part : is_identifier_part c ≡ true = sym is ∙ held in
    ap (list_all is_identifier_part) (chars_past_char text rest c u e) ∙ ap (λ z. z && list_all is_identifier_part (chars rest)) part

pub parts_end : (text rest : List ℕ) (c : ℕ) (b : Bool) → IsUtf8 text → text ≡ encode_utf8 c ++ rest → b ≡ is_identifier_part c → b ≡ false → list_all is_identifier_part (chars text) ≡ false
parts_end text rest c b u e is fails =
    let part : is_identifier_part c ≡ false = sym is ∙ fails in
    ap (list_all is_identifier_part) (chars_past_char text rest c u e) ∙ ap (λ z. z && list_all is_identifier_part (chars rest)) part

pub name_first : (text rest : List ℕ) (c : ℕ) → IsUtf8 text → text ≡ encode_utf8 c ++ rest → is_name (chars text) ≡ (is_identifier_start c && list_all is_identifier_part (chars rest))
name_first text rest c u e = ap is_name (chars_past_char text rest c u e)
