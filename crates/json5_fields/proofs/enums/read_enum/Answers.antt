use Rattle.std.proofs.Common.{rules, refl}
use Rattle.json5_de.specs.Convert.{names_bytes}
use Rattle.json5_de.specs.Enums.{enum_of}
use Rattle.json5_de.specs.Lending.{named_state_of}
use Rattle.json5_de.proofs.OwnEnums.{enum_refused, enum_read, enum_completes}
use Rattle.json5_de.proofs.Refinement.{reads_content}
use Rattle.json5_fields.proofs.DescribedFaults.{refuses_exactly}
use Rattle.json5_fields.proofs.EnumsRead.{name_refused, content_refused}
use Rattle.json5_fields.proofs.enums.read_enum.Goals as goal

pub returns-in_err-name : goal.returns-in_err-name
returns-in_err-name g c = refuses_exactly _ _ c.from_residual.ensures.1
    (enum_refused (names_bytes c.args.names.now) g.V.EnumVariants.convert (named_state_of c.named.new.self) _ _ c.from_residual.ensures.1 c.in_err-name.ensures.names)
    (λ t r v live reads shallow converts free. absurd (cc))
    (name_refused (names_bytes c.args.names.now) g.V.EnumVariants.faults (named_state_of c.named.new.self) c.args.de.now _ _ c.from_residual.ensures.1 c.in_err-name.ensures.names)
    (search rules)
    (search rules)

pub returns : goal.returns
returns g c =
    let named = c.in_ok-name.ensures.names in
    let sound = enum_read (names_bytes c.args.names.now) g.V.EnumVariants.convert (named_state_of c.named.new.self) c.read_content.result named c.in_ok-name.name.variant refl c.read_content.ensures.finishes in
    let complete = enum_completes (names_bytes c.args.names.now) g.V.EnumVariants.convert (named_state_of c.named.new.self) c.read_content.result named c.in_ok-name.name.variant refl c.read_content.ensures.finishes in
    record {
      sound = sound;
      complete = reads_content g.V.EnumVariants.content (enum_of (names_bytes c.args.names.now) g.V.EnumVariants.convert) c.args.de.now _ c.read_content.result sound complete;
      no_memory = λ t r v live reads shallow converts free. absurd (cc);
      refused = content_refused (names_bytes c.args.names.now) g.V.EnumVariants.faults (named_state_of c.named.new.self) c.args.de.now c.read_content.result named c.read_content.ensures.refused;
      unprompted = search rules;
      same_text = search rules;
    }
