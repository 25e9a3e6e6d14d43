-- Schemas of maps say what their types convert.
use Rattle.std.proofs.Common.{◌≡◌, ◌∙◌, ℕ, Bool, true, ◌&&◌, List, length, refl, ap, sym, Option, Some, None}
use Rattle.std.specs.Prelude.{is_some}
use Rattle.std.specs.Char.{encode_utf8}
use Rattle.std.specs.Str.{chars}
use Rattle.json5_grammar.specs.Language.Trees.{Tree, Members, null, boolean, number, text, array, object, no_member, member}
use Rattle.json5_grammar.specs.Model.Collections.{both, joint, pair_contents}
use Rattle.json5_types.specs.ValueMeanings.{Datum, Fields}
use Rattle.json5_types.specs.ValueMeanings as datum
use Rattle.json5_read.specs.TreeMeanings.{datum_of, fields_of}
use Rattle.json5_de.specs.Convert.{every_text}
use Rattle.json5_de.specs.Maps.{map_of}
use Rattle.json5_schema.specs.Conformance.{Answers, conforming, unfolded, keywords_hold, is_within, is_additional, latest, each_additional}
use Rattle.json5_settings.specs.DescribedSchemas.{Says, Sound, Plain, SoundMembers, PlainMembers, map_schema}
use Rattle.json5_settings.proofs.ListsSaid.{Judges, after_more, all_hold, all_within, and_true, judged, made}
use Rattle.json5_settings.proofs.FieldsSaid.{all_latest}

-- no keyword but one speaks of members
each_is : (of : Fields) (u : List ℕ) → is_additional (map_schema of) u ≡ true
unfolding chars
each_is of u = refl

pair_some : {K D : Type 0} (k : K) (o : Option D) (rest : Option (List (K × D))) → is_some (both (joint (Some k) o) rest) ≡ (is_some o && is_some rest)
pair_some k None rest = refl
pair_some k (Some d) None = refl
pair_some k (Some d) (Some ds) = refl

abbrev values_in : Fields → Fields → List (Datum × Datum)
values_in of fs = each_additional (datum.object of) (map_schema of) fs

module _ {D : Type 0} (test : Datum → Datum → Bool) (of : Fields) (convert : Tree → Option D) (judges : Judges test of convert) where
  members : (ps : Members) → SoundMembers ps → PlainMembers ps → all_hold test (values_in of (fields_of ps)) ≡ is_some (pair_contents every_text convert ps)
  members no_member s p = refl
  members (member u escape_free t ps) s p = rw (each_is of u, judges t s.1 p.1, members ps s.2 p.2) (sym (pair_some _ (convert t) (pair_contents every_text convert ps)))

map_object : (w : Answers) (root : Datum) (of : Fields) (fs : Fields)
    → keywords_hold w root (map_schema of) (map_schema of) (datum.object fs) ≡ (is_within (w conforming) (length (values_in of (latest fs))) (length (values_in of (latest fs))) (values_in of (latest fs)) && true)
unfolding encode_utf8 chars
map_object w root of fs = refl

module _ {D A : Type 0} (of : Fields) (convert : Tree → Option D) (gathered : List (List ℕ × D) → A) where
  map_holds : (w : Answers) (root : Datum) → Judges (w conforming) of convert → (t : Tree) → Sound t → Plain t → keywords_hold w root (map_schema of) (map_schema of) (datum_of t) ≡ is_some (map_of every_text convert gathered t)
  unfolding encode_utf8 chars
  map_holds w root judges (object ps) s p =
      map_object w root of (fields_of ps)
      ∙ (and_true _
      ∙ (all_within (w conforming) (values_in of (latest (fields_of ps)))
      ∙ (ap (λ fs. all_hold (w conforming) (values_in of fs)) (all_latest ps p)
      ∙ (members (w conforming) of convert judges ps s p ∙ made gathered (pair_contents every_text convert ps)))))
  map_holds w root judges null s p = refl
  map_holds w root judges (boolean b) s p = refl
  map_holds w root judges (number n) s p = refl
  map_holds w root judges (text u e) s p = refl
  map_holds w root judges (array ts) s p = refl

  pub map_says : Says of convert → Says (map_schema of) (map_of every_text convert gathered)
  map_says says = after_more (map_schema of) (map_of every_text convert gathered) says.steps (λ n h root v t s p. map_holds (unfolded n v root) root (judged of convert says n h root v) t s p)
