-- What is written of a server's settings reads back.
use Rattle.std.proofs.Common.{◌≡◌, ◌<◌, ◌^◌, ℕ, Some, refl, rules, arith, codes}
use Rattle.std.specs.Prelude.{string_bytes}
use Rattle.std.specs.Str.{chars}
use Rattle.std.proofs.lemmas.Bool.Decides.{nat_tests}
use Rattle.json5.specs.Collections.{object_of}
use Rattle.json5.specs.Convert.{text_of}
use Rattle.json5.specs.EscapeFreeMarks.{marks}
use Rattle.json5.specs.Fields.{required, with_default, optional, and_field}
use Rattle.json5.specs.ReadsBack.{ReadsBack}
use Rattle.json5.specs.WrittenTrees.{text, natural}
use Rattle.json5.proofs.ReadsBack.{string_back, natural_back}
use Rattle.json5.proofs.StructsBack.{struct_back, and_back, required_back, default_back, given_back}
use Rattle.json5.proofs.WrittenThenRead.{read_again}
use Rattle.test_own_types.specs.Accepted.{above_zero, port_of, settings_content}
use Rattle.test_own_types.specs.Written.{settings_tree}
use Rattle.test_own_types.specs.declared.settings.Settings.{Settings}
use Rattle.test_own_types.proofs.settings.settings_again.Goals as goal

open_port : (n : ℕ) → 0 < n → above_zero n ≡ Some n
open_port n l = grind (arith, nat_tests)

port_back : (n : ℕ) → 0 < n → n < 2 ^ 16 → port_of (marks (natural n)) ≡ Some n
port_back n l h = rw (natural_back (2 ^ 16) n h, open_port n l) refl

settings_back : (s : Settings) → 0 < s.port.number → s.port.number < 2 ^ 16 → ReadsBack settings_tree (object_of (and_field (required (codes "host") text_of) (and_field (with_default 80 (codes "port") port_of) (optional (codes "label") text_of)))) settings_content s
settings_back s l h = struct_back refl
    (and_back (required_back (codes "host") text_of (text (chars (string_bytes s.host))) refl (string_back s.host))
    (and_back (default_back (codes "port") 80 port_of (natural s.port.number) refl (port_back s.port.number l h))
    (given_back (codes "label") text_of (λ l. text (chars (string_bytes l))) string_bytes s.label refl (λ l is. string_back l))))

pub returns : goal.returns
returns c = read_again settings_tree _ settings_content c.args.settings.now _ c.from_str.result (settings_back c.args.settings.now c.requires.open (search rules)) c.in_ok-text.ensures.reads_back (rw c.as_str.ensures.value at c.from_str.ensures.complete)
