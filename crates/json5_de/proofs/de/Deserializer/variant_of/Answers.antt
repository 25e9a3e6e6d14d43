use Rattle.std.proofs.Common.{refl, ap, sym, ◌∙◌, inr}
use Rattle.std.specs.List.{position}
use Rattle.std.specs.Str.{bytes_eq}
use Rattle.json5_de.specs.Convert.{names_bytes}
use Rattle.json5_de.proofs.TokenKinds.{gives_up}
use Rattle.json5_de.proofs.NamesByBytes.{place_spelled}
use Rattle.json5_de.proofs.de.Deserializer.variant_of.Goals as goal

pub returns-in_default : goal.returns-in_default
returns-in_default g c =
    let names = names_bytes c.args.variants.now in
    rw c.refuse.ensures.result (record {
      converts = tt;
      kept = tt;
      other = inr (λ u escape_free is scalars. ap (λ b. position (λ n. bytes_eq n b) names) (sym (c.token_text-name.ensures u escape_free is)) ∙ sym (c.index_of.ensures ∙ place_spelled _ c.args.variants.now) ∙ c.in_default.is);
      refused = c.unknown_variant-error.ensures;
      failed = gives_up c.args.self.now c.refuse.new.self c.refuse.ensures.state;
    })

pub returns : goal.returns
returns g c =
    let names = names_bytes c.args.variants.now in
    record {
      converts = λ u escape_free is scalars. ap (λ b. position (λ n. bytes_eq n b) names) (sym (c.token_text-name.ensures u escape_free is)) ∙ sym (c.index_of.ensures ∙ place_spelled _ c.args.variants.now) ∙ c.in-Some.is;
      kept = refl;
      other = tt;
      refused = tt;
      failed = tt;
    }
